-- `lists::bits::with` meets its contract: the word with one more bit. Assumes nothing.
use borrow.Author.Rules.{rules}
use Rattle.lists.specs.BitLaws.{bit-with}
use Rattle.lists.proofs.bits.with.Goals as goal

pub returns : goal.returns
returns c = λ j. bit-with c.args.set c.args.i j (search rules)
