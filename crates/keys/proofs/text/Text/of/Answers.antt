use Rattle.std.proofs.Common.{◌∙◌, sym}
use Rattle.keys.specs.Texts.{answer_of}
use Rattle.keys.specs.TextLaws.{key-ok, key-no}
use Rattle.keys.proofs.text.Text.of.Goals as goal

pub returns-then-numbers-eq0 : goal.returns-then-numbers-eq0
returns-then-numbers-eq0 c = c.put_ok.ensures ∙ sym (key-ok (answer_of c.args.numbers c.args.rows.now) c.if-numbers-eq0.true)

pub returns-else-numbers-eq0 : goal.returns-else-numbers-eq0
returns-else-numbers-eq0 c = c.put_no.ensures ∙ sym (key-no (answer_of c.args.numbers c.args.rows.now) c.if-numbers-eq0.false)
