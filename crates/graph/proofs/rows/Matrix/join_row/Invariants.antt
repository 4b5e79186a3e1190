-- `graph::rows::Matrix::join_row` meets its contract. The loop's invariant: the first i words are joined. Assumes nothing.
use Rattle.std.proofs.Common.{◌≡◌}
use Rattle.graph.specs.RowLaws.{Joining}
use Rattle.graph.proofs.rows.Matrix.join_row.Given as goal

abbrev pub invariant-loop-i : goal.invariant-loop-i
invariant-loop-i g l =
    let old = l.initial.self in
    (l.self.words ≡ old.words) × Joining old.words l.i l.a l.row old.cells l.self.cells
