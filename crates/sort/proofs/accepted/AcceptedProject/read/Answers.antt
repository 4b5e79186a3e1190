-- `AcceptedProject::read` meets its contract. Assumes nothing.
use Rattle.std.proofs.lemmas.Result.{err_from_is_err_and}
use Rattle.project.specs.ReadLaws.{answer-refused, answer-accepted}
use Rattle.sort.proofs.accepted.AcceptedProject.read.Goals as goal

pub returns-in_err-l : goal.returns-in_err-l
returns-in_err-l c =
    let p = err_from_is_err_and c.from_residual.result c.from_residual.ensures.1 in
    rw (p.1, p.2) (answer-refused c.args.bytes.now _ c.in_err-l.ensures)

pub invariant_of-result : goal.invariant_of-result
invariant_of-result c = record { accepts = answer-accepted c.args.bytes.now c.in_ok-l.ensures }
