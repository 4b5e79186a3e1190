-- `Split::number_injected` meets its contract. The loop's invariant: with the rows of the modules left numbered the arrays are as they are to be.
-- Assumes nothing.
use Rattle.std.proofs.Common.{◌≤◌, true, drop}
use Rattle.rules.specs.Project.{Project}
use Rattle.split.specs.Rows.{RowsAmong}
use Rattle.split.specs.Splits.{SameRanges}
use Rattle.split.specs.SplitLaws.{NumberingModules}
use Rattle.split.proofs.Split.number_injected.Given as goal

abbrev pub invariant-loop-m : goal.invariant-loop-m
invariant-loop-m l =
    (l.initial.self.count ≤ l.self.count)
    × SameRanges l.initial.self l.self
    × ((p : Project) → RowsAmong p l.modules l.items → NumberingModules p true l.modules (drop l.m-index l.modules) l.initial.self l.self)
