use Rattle.rules.specs.Project.{project_of}
use Rattle.laws.proofs.Calls.{groups-of}
use Rattle.sort.specs.GroupLaws.{call-refused}
use Rattle.sort.specs.Guarantees.{groups-guaranteed}
use Rattle.sort.proofs.groups.Goals as goal

pub returns-in-Err : goal.returns-in-Err
returns-in-Err c =
    let a = c.args in
    let g = groups-guaranteed a.project.now a.reply.now a.allowance
    (rw (c.refusal.ensures, c.into.ensures) (call-refused a.project.now a.reply.now a.allowance _ c.in-Err.ensures)) in
    record { answer = g.0; guarantees = g.1 }

pub returns-in-Ok : goal.returns-in-Ok
returns-in-Ok c =
    let a = c.args in
    let reads = rw c.in-Ok.ensures at c.in-Ok.accepted.accepts.reads in
    let g = groups-guaranteed a.project.now a.reply.now a.allowance
    (rw (groups-of a.project.now (project_of a.project.now) reads, ← c.allowed.ensures, ← c.in-Ok.ensures) c.groups_of.ensures) in
    record { answer = g.0; guarantees = g.1 }
