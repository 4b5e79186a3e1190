use Rattle.std.proofs.Common.{arith}
use Rattle.keys.specs.Texts.{answer_of}
use Rattle.keys.specs.TextLaws.{ok-put}
use Rattle.keys.proofs.text.Text.put_ok.Goals as goal

pub returns : goal.returns
returns c =
    ok-put (answer_of c.args.numbers c.args.rows.now) (omega arith) (omega arith) (omega arith) (omega arith)
    c.requires.empty c.put.ensures.text c.put_behind.ensures.text c.put-2.ensures.text c.put_rows.ensures.text c.put-3.ensures.text
