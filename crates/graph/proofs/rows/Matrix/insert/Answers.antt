-- `graph::rows::Matrix::insert` meets its contract: bit b of row a is a bit of word b / 64 of that row. Assumes nothing.
use Rattle.graph.specs.RowLaws.{row-insert}
use Rattle.graph.proofs.rows.Matrix.insert.Goals as goal

pub returns-clause-inserted : goal.returns-clause-inserted
returns-clause-inserted g c =
    let a = c.args in
    let m = a.self.now in
    row-insert m.words m.cells a.a a.b c.requires
