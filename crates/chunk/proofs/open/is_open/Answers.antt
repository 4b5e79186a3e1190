-- `is_open` meets its contract. Assumes nothing.
use Rattle.chunk.specs.Open.{is_open}
use Rattle.chunk.proofs.open.is_open.Goals as goal

pub returns-then-not-has : goal.returns-then-not-has
unfolding is_open
returns-then-not-has c =
    rw (← c.has.ensures, ← c.has-then-not-has.ensures, c.if-not-has.true)

pub returns-else-not-has : goal.returns-else-not-has
unfolding is_open
returns-else-not-has c =
    rw (← c.has.ensures, c.if-not-has.false)
