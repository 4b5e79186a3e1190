use Rattle.std.proofs.Common.{◌∙◌}
use Rattle.chunk.specs.CircleLaws.{elem-contains}
use Rattle.chunk.proofs.circles.contains.Goals as goal

pub returns : goal.returns
returns c = c.contains.ensures.value ∙ elem-contains c.args.m.0 c.args.list.now
