use Rattle.rules.specs.Calls.{order_entry}
use Rattle.sort.specs.Guarantees.{order-entry-guaranteed}
use Rattle.sort.proofs.entry.escarpim_order.Goals as goal

pub returns-clause-answer : goal.returns-clause-answer
unfolding order_entry
returns-clause-answer c = c.enter.ensures

pub returns-clause-guarantees : goal.returns-clause-guarantees
unfolding order_entry
returns-clause-guarantees c =
    let a = c.args in
    (order-entry-guaranteed a.project.now a.reply.now a.report.now a.allowance c.enter.ensures).1
