use mathlib.Core.Path.{subst}
use Rattle.sort.specs.Orders.{Walked}
use Rattle.sort.specs.OrderLaws.{found, sorts-finished, sorts-stopped}
use Rattle.sort.proofs.sort_found.Goals as goal

pub sort_items-requires : goal.sort_items-requires
sort_items-requires c = (_, found (subst (Walked _ _ _ _) c.in-Ok.is c.requires))

pub returns-in-Ok : goal.returns-in-Ok
returns-in-Ok c = sorts-finished (subst (Walked _ _ _ _) c.in-Ok.is c.requires) c.sort_items.ensures

pub returns-in-Err : goal.returns-in-Err
returns-in-Err c =
    rw (c.refusal.ensures, c.into.ensures, c.stopped-why.ensures) (sorts-stopped (subst (Walked _ _ _ _) c.in-Err.is c.requires))
