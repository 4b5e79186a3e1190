-- `give_order` meets its contract. Assumes nothing.
use native.Mathlib.Omega.{arith}
use mathlib.Core.Path.{subst}
use lib.ListN.{length-take}
use Rattle.sort.specs.Orders.{Givable}
use Rattle.sort.specs.OrderLaws.{rows-within, gives-order, gives-stopped}
use Rattle.sort.proofs.give_order.Goals as goal

pub slice_bounds-copy_front-end : goal.slice_bounds-copy_front-end
slice_bounds-copy_front-end c =
    let g = subst (Givable _ _ _ _ _) c.in-Ok.is c.requires.2 in
    simp length-take (omega (arith, rows-within g))

pub returns-in-Ok : goal.returns-in-Ok
returns-in-Ok c p stop h =
    gives-order _ (subst (Givable p stop _ _ _) c.in-Ok.is h) c.copy_front.ensures

pub returns-in-Err : goal.returns-in-Err
returns-in-Err c p stop h =
    rw (c.refusal.ensures, c.into.ensures, c.stopped-why.ensures) (gives-stopped c.args.module_visits (subst (Givable p stop _ _ _) c.in-Err.is h))
