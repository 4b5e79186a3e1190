-- `Group::number_of` meets its contract. Assumes nothing.
use Rattle.std.proofs.Common.{arith, get_or}
use Rattle.layout.specs.NumberLaws.{found, not_found}
use Rattle.layout.proofs.Group.number_of.Goals as goal
use Rattle.layout.proofs.Group.number_of.Goals.{else-at-self-via-then-at-self+else-self-at, else-at-self-via-else-at-self}

pub returns-then-self-at : goal.returns-then-self-at
returns-then-self-at g c =
    found c.requires.0 c.args.item.0 (record { 0 = get_or c.args.self.now.numbers c.from.result 0 })
    (rw c.from-at.ensures at c.if-at-self.true) (rw c.from-at.ensures at c.if-self-at.true)

pub returns : goal.returns
returns g c =
    not_found c.requires.0 c.args.item.0 (λ within same.
    elim c.else-at-self.branch [
      | else-at-self-via-then-at-self+else-self-at w ↦ w.if-self-at.false (rw (c.from-at.ensures, c.from.ensures) same)
      | else-at-self-via-else-at-self w ↦ omega (arith, w.if-at-self.false, c.from-at.ensures, rw (← c.from.ensures) at within)
    ])
