-- `giving::kept::write_given` meets its contract. The loop's invariant: with the rows of the modules left stored the array is as it is to be. Assumes
-- nothing.
use Rattle.std.proofs.Common.{drop}
use Rattle.rules.specs.Project.{Project}
use Rattle.rules.specs.Items.{given_rows}
use Rattle.split.specs.Rows.{RowsAmong}
use Rattle.split.specs.StoreLaws.{Storing}
use Rattle.giving.proofs.kept.write_given.Given as goal

abbrev pub invariant-loop-m : goal.invariant-loop-m
invariant-loop-m l =
    (p : Project) → RowsAmong p l.modules l.items → Storing (given_rows p l.modules) l.start l.initial.out (given_rows p (drop l.m-index l.modules)) l.out l.n
