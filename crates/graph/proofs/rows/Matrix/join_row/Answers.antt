use Rattle.std.proofs.Common.{arith, ◌<◌, get_or-take, length-take}
use Rattle.graph.specs.RowLaws.{joining-more}
use Rattle.graph.proofs.rows.Matrix.join_row.Goals as goal

pub loop-i-preserved : goal.loop-i-preserved
loop-i-preserved g c =
    let i = c.loop-i.i in
    let words = c.args.self.now.words in
    let within : i < words = omega (arith, length-take words c.args.row.now) in (
      c.loop-i.invariant.0,
      rw (get_or-take words c.args.row.now i 0 within) (joining-more c.loop-i.invariant.1 within (omega arith)),
    )
