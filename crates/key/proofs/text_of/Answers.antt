use Rattle.std.proofs.Common.{arith}
use Rattle.key.specs.PrintLaws.{never-short, prints}
use Rattle.key.proofs.text_of.Goals as goal

pub unwrap-requires : goal.unwrap-requires
unwrap-requires c = never-short c.args.read.now c.render.ensures.key (omega (arith, c.render.ensures.most))

pub returns : goal.returns
returns c = prints c.args.read.now c.render.ensures.key (omega (arith, c.render.ensures.most)) c.unwrap.ensures
