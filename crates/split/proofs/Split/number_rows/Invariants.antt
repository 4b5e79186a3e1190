-- `Split::number_rows` meets its contract. The loop's invariant: with the kept ones of the rows left numbered the arrays are as they are to be. Assumes nothing.
use Rattle.rules.specs.Project.{Project}
use Rattle.lists.specs.Chained.{places}
use Rattle.split.specs.Rows.{RowsOf}
use Rattle.split.specs.Splits.{SameRanges}
use Rattle.split.specs.SplitLaws.{NumberingRows}
use Rattle.split.proofs.Split.number_rows.Given as goal

abbrev pub invariant-loop-row : goal.invariant-loop-row
invariant-loop-row l =
    (goal.iterator-loop-row).can_next l.row-iterator
    × (goal.iterator-loop-row).is_finite l.row-iterator
    × SameRanges l.initial.self l.self
    × ((p : Project) → RowsOf p l.fn.m.0 l.items
    → NumberingRows p l.fn.m.0 l.injected (places l.row-iterator.next.now l.row-iterator.entry) l.initial.self l.self.rows l.self.kinds l.n)
