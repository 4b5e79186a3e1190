use Rattle.rules.specs.Project.{project_of}
use Rattle.laws.proofs.Calls.{order-of}
use Rattle.sort.specs.OrderLaws.{allowed-most, order-refused}
use Rattle.sort.specs.Guarantees.{order-guaranteed}
use Rattle.sort.proofs.order.Goals as goal

pub order_of-requires : goal.order_of-requires
order_of-requires c = rw c.allowed.ensures (allowed-most c.args.allowance)

pub returns-in-Err : goal.returns-in-Err
returns-in-Err c =
    let a = c.args in
    let g = order-guaranteed a.project.now a.reply.now a.allowance
    (rw (c.refusal.ensures, c.into.ensures) (order-refused a.project.now a.reply.now a.allowance _ c.in-Err.ensures)) in
    record { answer = g.0; guarantees = g.1 }

pub returns-in-Ok : goal.returns-in-Ok
returns-in-Ok c =
    let a = c.args in
    let reads = rw c.in-Ok.ensures at c.in-Ok.accepted.accepts.reads in
    let g = order-guaranteed a.project.now a.reply.now a.allowance
    (rw (order-of a.project.now (project_of a.project.now) reads, ← c.allowed.ensures, ← c.in-Ok.ensures) c.order_of.ensures) in
    record { answer = g.0; guarantees = g.1 }
