use Rattle.std.proofs.Common.{arith, ◌<◌, length}
use Rattle.split.specs.FirstLists.{starts_on}
use Rattle.split.specs.FirstListLaws.{listable-on, first-length, held_none, held_more}
use Rattle.split.proofs.Split.first_len.Goals as goal
use Rattle.split.proofs.Split.first_len.Goals.{In-loop-start}

-- there is one more start
some : (c : In-loop-start) → c.loop-start.start-index < length (starts_on c.args.self.now)
some c = rw c.starts-start-items.ensures at c.loop-start-test.true

pub overflow_add-n-in-loop-start : goal.overflow_add-n-in-loop-start
overflow_add-n-in-loop-start c =
    let k = some (goal.at.overflow_add-n-in-loop-start c).In-loop-start in
    let h = c.requires.1 in
    rw (c.from-n.ensures, c.from-x.ensures, c.starts-start-items.ensures)
    (omega (arith, c.loop-start.invariant c.requires.0 h, held_more (listable-on h).within c.loop-start.start-index k, first-length h, c.requires.2))

pub loop-start-preserved : goal.loop-start-preserved
loop-start-preserved c =
    let k = some (goal.at.loop-start-preserved c).In-loop-start in
    λ g h. rw (c.from-n.ensures, c.from-x.ensures, c.starts-start-items.ensures) (omega (arith, c.loop-start.invariant g h, held_more (listable-on h).within c.loop-start.start-index k))

pub returns : goal.returns
returns c =
    λ g h. omega (arith, c.loop-start.invariant g h, held_none (listable-on h).within c.loop-start.start-index (rw c.starts-start-items.ensures at c.loop-start-test.false), first-length h)
