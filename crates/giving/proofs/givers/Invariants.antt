-- `giving::givers` meets its contract. The loop's invariant: the set and the rows that are left show what all rows do. Assumes nothing.
use Rattle.rules.specs.Project.{Item, item_row, pair_rows}
use Rattle.giving.specs.Giving.{is_giver}
use Rattle.giving.specs.SetLaws.{Gathering}
use Rattle.giving.proofs.givers.Given as goal

abbrev pub invariant-loop-row : goal.invariant-loop-row
invariant-loop-row l =
    (goal.iterator-loop-row).can_next l.row-iterator
    × (goal.iterator-loop-row).is_finite l.row-iterator
    × Gathering (λ (r : Item). r.in_module) is_giver (pair_rows item_row l.items) (pair_rows item_row l.row-iterator) l.set
