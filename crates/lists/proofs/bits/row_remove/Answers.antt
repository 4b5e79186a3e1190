-- `lists::bits::row_remove` meets its contract: one word changes, by one bit. Assumes nothing.
use Rattle.lists.specs.BitLaws.{row-remove}
use Rattle.lists.proofs.bits.row_remove.Goals as goal

pub returns : goal.returns
returns c = row-remove c.args.words.now c.args.k c.requires
