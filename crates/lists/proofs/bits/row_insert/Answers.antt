-- `lists::bits::row_insert` meets its contract: one word changes, by one bit. Assumes nothing.
use Rattle.lists.specs.BitLaws.{row-insert}
use Rattle.lists.proofs.bits.row_insert.Goals as goal

pub returns : goal.returns
returns c = row-insert c.args.words.now c.args.k c.requires
