use Rattle.std.proofs.Common.{length, ap, ◌∙◌}
use Rattle.rules.specs.Keys.{key_of}
use Rattle.keys.specs.Texts.{answer_of}
use Rattle.keys.specs.AnswerLaws.{renders-short, renders-written}
use Rattle.keys.proofs.render_answer.Goals as goal

pub returns-then-out-length-clause-key : goal.returns-then-out-length-clause-key
returns-then-out-length-clause-key c =
    renders-short (key_of (answer_of c.args.numbers c.args.rows.now)) c.args.out.now
    (c.len-length.ensures.value ∙ ap length c.of-text.ensures) c.if-out-length.true

pub returns-clause-key : goal.returns-clause-key
returns-clause-key c =
    renders-written (key_of (answer_of c.args.numbers c.args.rows.now)) c.args.out.now
    (c.len-length.ensures.value ∙ ap length c.of-text.ensures) c.if-out-length.false
    (c.copy_from_slice.ensures.after ∙ c.as_bytes.ensures ∙ c.of-text.ensures)
