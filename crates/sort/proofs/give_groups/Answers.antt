use mathlib.Core.Path.{subst}
use Rattle.sort.specs.Groups.{Answerable}
use Rattle.sort.specs.GroupLaws.{answers-finished, answers-stopped}
use Rattle.sort.proofs.give_groups.Goals as goal

pub returns-in-Ok : goal.returns-in-Ok
returns-in-Ok c stop h =
    let none = c.default.ensures in
    rw (none.1.0, none.1.1.1.1)
    (answers-finished (subst (Answerable stop _ _) c.in-Ok.is h) c.copy_front.ensures)

pub returns-in-Err : goal.returns-in-Err
returns-in-Err c stop h =
    rw (c.refusal.ensures, c.into.ensures, c.stopped-why.ensures) (answers-stopped (subst (Answerable stop _ _) c.in-Err.is h))
