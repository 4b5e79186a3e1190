-- `graph::rows::Matrix::remove` meets its contract: bit b of row a is a bit of word b / 64 of that row. Assumes nothing.
use Rattle.graph.specs.RowLaws.{row-remove}
use Rattle.graph.proofs.rows.Matrix.remove.Goals as goal

pub returns-clause-removed : goal.returns-clause-removed
returns-clause-removed g c =
    let a = c.args in
    let m = a.self.now in
    row-remove m.words m.cells a.a a.b c.requires
