-- `Writes::visit_uninjected` meets its contract, by the laws of step 5. Assumes nothing.
use Rattle.std.proofs.Common.{arith, refl, ap, ◌<◌, ◌∷◌, length}
use Rattle.rules.specs.Items.{item_list, placed_of}
use Rattle.walks.specs.Runs.{placed_one}
use Rattle.stmt.specs.Walks.{moved_of}
use Rattle.stmt.proofs.StateLaws.{cell, shows-placed, shows-moved, items-count, walking-moved}
use Rattle.stmt.proofs.VisitLaws.{front_below, entry-left, taken, some-unplaced, settled-placed, precedes-below, settled-waits, noted-shows}
use Rattle.stmt.proofs.slices.Writes.visit_uninjected.Goals as goal
use Rattle.stmt.proofs.slices.Writes.visit_uninjected.Goals.{After-passed}

pub preceding-requires : goal.preceding-requires
preceding-requires c = let r = c.requires in (r.0, c.args.w, _, r.5.shows, r.6)

pub passed-requires : goal.passed-requires
passed-requires c = entry-left c.requires.5

-- not all are placed
room : (c : After-passed) → c.passed.result.placed < length c.args.self.now.order.now
unfolding placed_of
room c =
    let r = c.requires in
    let h = r.5 in
    omega (arith, items-count (taken h c.passed.ensures), some-unplaced h r.4, h.shows.order-size)

pub place-requires : goal.place-requires
place-requires c =
    let h = c.requires.5 in
    (omega (arith, front_below h, h.shows.placed-size), room (goal.at.place-requires c).After-passed)

pub returns-in_default-clause-comes : goal.returns-in_default-clause-comes
unfolding item_list placed_of moved_of
returns-in_default-clause-comes c i rest items pairs h r =
    let p = c.place.ensures in
    rw (settled-placed i c.args.x.id.0 rest items pairs (c.preceding.ensures i c.args.w _ h.shows r) c.in_default.is)
    (placed_one refl
    (shows-placed (taken h c.passed.ensures) c.args.x.id.0 p.numbers p.placed p.order p.rest (room (goal.at.returns-in_default-clause-comes c).After-passed)))

pub note-requires : goal.note-requires
unfolding placed_of moved_of
note-requires c =
    let r = c.requires in
    let h = r.5 in
    let q = c.preceding.ensures r.0 c.args.w _ h.shows r.6 in
    cell h.shows.pairs c.args.x.id.0 c.in-Some.p.0 (front_below h) (precedes-below r.0 c.args.x.id.0 r.1 r.2 r.3 q c.in-Some.is (front_below h))

pub put_preceding-requires : goal.put_preceding-requires
unfolding item_list placed_of moved_of
put_preceding-requires c =
    let r = c.requires in
    let h = r.5 in
    let x = c.args.x.id.0 in
    let q = c.preceding.ensures r.0 c.args.w _ h.shows r.6 in
    let below = precedes-below r.0 x r.1 r.2 r.3 q c.in-Some.is (front_below h) in
    let k = noted-shows r.0 x r.1 r.2 r.3 q c.in-Some.is (shows-moved h.shows x c.in-Some.p.0 (front_below h) below c.note.ensures.noted c.note.ensures.rest) in
    let pairs = (x, c.in-Some.p.0) ∷ r.3 in
    (r.0, r.1, r.2, pairs, walking-moved h pairs (ap length c.note.ensures.rest.1) k, rw c.note.ensures.rest.3 r.7)

pub returns-clause-comes : goal.returns-clause-comes
unfolding item_list placed_of moved_of
returns-clause-comes c i rest items pairs h r =
    let x = c.args.x.id.0 in
    let q = c.preceding.ensures i c.args.w _ h.shows r in
    let below = precedes-below i x rest items pairs q c.in-Some.is (front_below h) in
    let k = noted-shows i x rest items pairs q c.in-Some.is (shows-moved h.shows x c.in-Some.p.0 (front_below h) below c.note.ensures.noted c.note.ensures.rest) in
    rw (settled-waits i x rest items pairs q c.in-Some.is)
    (c.put_preceding.ensures.comes i rest items ((x, c.in-Some.p.0) ∷ pairs) (walking-moved h ((x, c.in-Some.p.0) ∷ pairs) (ap length c.note.ensures.rest.1) k))
