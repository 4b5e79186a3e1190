-- `graph::rows::Matrix::holds` meets its contract: bit b of row a is a bit of word b / 64 of that row. Assumes nothing.
use mathlib.Core.Path.{sym, ◌∙◌}
use Rattle.graph.specs.RowLaws.{cell-word}
use Rattle.graph.proofs.rows.Matrix.holds.Goals as goal

pub returns : goal.returns
returns g c =
    let a = c.args in
    let m = a.self.now in
    c.has.ensures ∙ sym (cell-word m.words m.cells a.a a.b)
