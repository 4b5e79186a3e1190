-- `Split::number_uninjected` meets its contract. The loop's invariant: with the rows of the modules left numbered and their ranges noted the arrays are as
-- they are to be. Assumes nothing.
use Rattle.std.proofs.Common.{false, drop}
use Rattle.rules.specs.Project.{Project}
use Rattle.split.specs.Rows.{RowsAmong}
use Rattle.split.specs.Splits.{Splittable}
use Rattle.split.specs.SplitLaws.{NumberingModules, NotingRanges}
use Rattle.split.proofs.Split.number_uninjected.Given as goal

abbrev pub invariant-loop-m : goal.invariant-loop-m
invariant-loop-m l =
    (p : Project) → RowsAmong p l.modules l.items → Splittable p l.modules
    → NumberingModules p false l.modules (drop l.m-index l.modules) l.initial.self l.self × NotingRanges p l.modules (drop l.m-index l.modules) l.initial.self l.self
