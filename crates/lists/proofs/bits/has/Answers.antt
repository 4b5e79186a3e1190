-- `lists::bits::has` meets its contract: the last bit of the word shifted. Assumes nothing.
use Rattle.lists.specs.BitLaws.{bit-shift}
use Rattle.lists.proofs.bits.has.Goals as goal

pub returns : goal.returns
returns c = bit-shift c.args.set c.args.i
