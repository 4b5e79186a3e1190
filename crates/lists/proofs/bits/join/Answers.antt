-- `lists::bits::join` meets its contract: the bits of either word. Assumes nothing.
use Rattle.lists.specs.BitLaws.{bit-or}
use Rattle.lists.proofs.bits.join.Goals as goal

pub returns : goal.returns
returns c = λ j. bit-or c.args.a c.args.b j
