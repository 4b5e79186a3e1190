use Rattle.std.proofs.Common.{arith, ap, length}
use mathlib.Core.Logic.{inl}
use Rattle.chunk.proofs.ImportLaws.{open-most}
use Rattle.chunk.proofs.imports.Imports.count_open.Goals as goal

pub count-requires-clause-fits : goal.count-requires-clause-fits
count-requires-clause-fits c = inl (omega (arith, ap length c.open.ensures, open-most c.args.self.now c.args.done c.args.circle c.args.m.0))
