use Rattle.std.proofs.Common.{arith}
use Rattle.keys.specs.TextLaws.{no-put}
use Rattle.keys.proofs.text.Text.put_no.Goals as goal

pub returns : goal.returns
returns c = no-put c.args.number (omega arith) c.requires c.put.ensures.text c.put_behind.ensures.text c.put-2.ensures.text
