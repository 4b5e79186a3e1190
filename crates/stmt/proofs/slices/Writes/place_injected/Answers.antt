-- `Writes::place_injected` meets its contract. Assumes nothing.
use Rattle.std.proofs.Common.{arith, refl, ◌*◌, ◌<◌, length}
use Rattle.rules.specs.Items.{item_state, item_list, placed_of}
use Rattle.walks.specs.Runs.{placed_one, was_full}
use Rattle.stmt.specs.Walks.{moved_of}
use Rattle.stmt.proofs.StateLaws.{items-count, shows-placed}
use Rattle.stmt.proofs.VisitLaws.{pushed-shows, pushed-over, front_below, entry-left, taken, taken-room, some-unplaced}
use Rattle.stmt.proofs.slices.Writes.place_injected.Goals as goal
use Rattle.stmt.proofs.slices.Writes.place_injected.Goals.{In-Some}

pub passed-requires : goal.passed-requires
passed-requires c = entry-left c.requires.5

pub push_waiting-requires : goal.push_waiting-requires
push_waiting-requires c =
    let r = c.requires in
    let h = r.5 in
    let e = c.passed.ensures in
    (r.0, item_state r.1 r.2 r.3, h.laid, taken h e, front_below h, taken-room h e r.6)

pub returns-in_default-clause-comes : goal.returns-in_default-clause-comes
unfolding item_list placed_of
returns-in_default-clause-comes c i rest items pairs h =
    was_full (pushed-over c.in_default.is (c.push_waiting.ensures.pushed i _ h.laid (taken h c.passed.ensures) (front_below h)))

-- there is room in the order: not all are placed
room : (c : In-Some) → (c.args.x.0 < length c.push_waiting.new.self.placed.now * 64) × (c.in-Some.after.placed < length c.push_waiting.new.self.order.now)
unfolding placed_of
room c =
    let r = c.requires in
    let h = r.5 in
    let k = pushed-shows c.in-Some.is (c.push_waiting.ensures.pushed r.0 _ h.laid (taken h c.passed.ensures) (front_below h)) in
    (omega (arith, front_below h, k.placed-size), omega (arith, items-count k, some-unplaced h r.4, k.order-size))

pub place-requires : goal.place-requires
place-requires c = room (goal.at.place-requires c).In-Some

pub returns-clause-comes : goal.returns-clause-comes
unfolding item_list placed_of moved_of
returns-clause-comes c i rest items pairs h =
    let k = pushed-shows c.in-Some.is (c.push_waiting.ensures.pushed i _ h.laid (taken h c.passed.ensures) (front_below h)) in
    let p = c.place.ensures in
    placed_one refl (shows-placed k c.args.x.0 p.numbers p.placed p.order p.rest (room (goal.at.returns-clause-comes c).In-Some).1)
