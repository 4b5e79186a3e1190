-- `giving::kept::write_kept` meets its contract. The loop's invariant: with the kept ones of the rows left stored the array is as it is to be. Assumes
-- nothing.
use Rattle.rules.specs.Project.{Project}
use Rattle.lists.specs.Chained.{places}
use Rattle.split.specs.Rows.{RowsOf}
use Rattle.giving.specs.KeptLaws.{Writing}
use Rattle.giving.proofs.kept.write_kept.Given as goal

abbrev pub invariant-loop-row : goal.invariant-loop-row
invariant-loop-row l =
    (goal.iterator-loop-row).can_next l.row-iterator
    × (goal.iterator-loop-row).is_finite l.row-iterator
    × ((p : Project) → RowsOf p l.fn.m.0 l.items
    → Writing p l.fn.m.0 l.start l.initial.out (places l.row-iterator.next.now l.row-iterator.entry) l.out l.n)
