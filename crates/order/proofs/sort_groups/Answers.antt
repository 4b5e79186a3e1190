-- `sort_groups` meets its contract: its parts in turn. Assumes nothing.
use Rattle.std.proofs.Common.{ℕ, List, refl}
use Rattle.rules.specs.Project.{Project}
use Rattle.order.specs.Turns.{Ready}
use Rattle.order.specs.Orders.{Orderable}
use Rattle.order.specs.LoopLaws.{turn_end, none-left}
use Rattle.order.specs.ReadyLaws.{ready, notable, going}
use Rattle.walks.specs.RunLaws.{ran-finished}
use Rattle.order.proofs.sort_groups.Goals as goal
use Rattle.order.proofs.sort_groups.Goals.{After-givers}

-- what every turn relies on
all : (c : After-givers) {p : Project} {gs : List (List ℕ)}
    → Orderable p gs c.args.items.now c.args.imports.now c.args.needs.now c.args.groups.now c.args.count c.args.out.now
    → Ready p gs record { items = c.new.result; importers = c.importers.result; givers = c.givers.result }
all c {p} o = ready o (c.new.ensures.shown p o.accepted o.items-are) c.importers.ensures c.givers.ensures

pub keep_groups-first-requires : goal.keep_groups-first-requires
keep_groups-first-requires c =
    let o = c.requires.2 in
    (c.requires.0, c.requires.1, all (goal.at.keep_groups-first-requires c).After-givers o, o.bytes-are, o.count-is, o.out-size)

pub returns-then-first-eq0 : goal.returns-then-first-eq0
returns-then-first-eq0 c =
    λ p gs o.
    let turns = all (goal.at.returns-then-first-eq0 c).After-givers o in
    let s = c.keep_groups-first.ensures p gs c.args.allowance turns o.bytes-are o.count-is o.out-size in
    ran-finished (turn_end {entries = 0} (none-left s.place c.if-first-eq0.true))

pub sort_rest-requires : goal.sort_rest-requires
sort_rest-requires c =
    let p = c.requires.0 in
    let gs = c.requires.1 in
    let o = c.requires.2 in
    let turns = all (goal.at.sort_rest-requires c).After-givers o in
    let kept = c.keep_groups-first in
    (p, gs, c.args.out.now, going o turns refl (c.new-owners.ensures gs (notable o)) kept.auto.out (kept.ensures p gs c.args.allowance turns o.bytes-are o.count-is o.out-size))

pub returns : goal.returns
returns c =
    λ p gs o.
    let turns = all (goal.at.returns c).After-givers o in
    let kept = c.keep_groups-first in
    c.sort_rest.ensures p gs c.args.out.now
    (going o turns refl (c.new-owners.ensures gs (notable o)) kept.auto.out (kept.ensures p gs c.args.allowance turns o.bytes-are o.count-is o.out-size))
