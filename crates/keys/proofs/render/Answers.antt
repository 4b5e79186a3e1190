use Rattle.keys.specs.AnswerLaws.{key-rendered}
use Rattle.keys.proofs.render.Goals as goal

pub returns-clause-key : goal.returns-clause-key
returns-clause-key c =
    (key-rendered c.args.project.now c.order-numbers.ensures.answer (c.render_answer.ensures.key, c.render_answer.ensures.most)).0

pub returns-clause-most : goal.returns-clause-most
returns-clause-most c =
    (key-rendered c.args.project.now c.order-numbers.ensures.answer (c.render_answer.ensures.key, c.render_answer.ensures.most)).1
