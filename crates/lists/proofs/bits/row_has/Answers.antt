-- `lists::bits::row_has` meets its contract: the last bit of the word shifted. Assumes nothing.
use Rattle.lists.specs.BitLaws.{row-shift}
use Rattle.lists.proofs.bits.row_has.Goals as goal

pub returns : goal.returns
returns c = row-shift c.args.words.now c.args.k
