use mathlib.Core.Path.{refl}
use Rattle.rules.specs.Project.{project_of}
use Rattle.rules.specs.Modules.{groups_in_order}
use Rattle.sort.specs.OrderLaws.{found-visits, orderable, givable}
use Rattle.sort.proofs.sort_items.Goals as goal

pub overflow_sub-allowance : goal.overflow_sub-allowance
overflow_sub-allowance c = found-visits c.requires.1

pub sort_groups-sorted-requires : goal.sort_groups-sorted-requires
sort_groups-sorted-requires c =
    (project_of c.args.project.bytes.now, groups_in_order c.requires.0, rw (c.items.ensures, c.imports.ensures, c.needs.ensures) (orderable c.requires.1 refl))

pub give_order-requires : goal.give_order-requires
give_order-requires c =
    let f = c.requires.1 in
    let sorted = c.sort_groups-sorted.ensures (project_of c.args.project.bytes.now) (groups_in_order c.requires.0) in
    (_, _, givable f refl (sorted (rw (c.items.ensures, c.imports.ensures, c.needs.ensures) (orderable f refl))))

pub returns : goal.returns
returns c s f =
    let sorted = c.sort_groups-sorted.ensures (project_of c.args.project.bytes.now) (groups_in_order s) in
    rw (← f.count-is)
    (c.give_order.ensures _ _ (givable f refl (sorted (rw (c.items.ensures, c.imports.ensures, c.needs.ensures) (orderable f refl)))))
