-- `Writes::visit_unplaced` meets its contract, by the laws of steps 2 to 5. Assumes nothing.
use Rattle.std.proofs.Common.{arith, sym, ap, ◌∙◌}
use Rattle.rules.specs.Items.{is_injected, item_list, placed_of}
use Rattle.stmt.specs.Walks.{moved_of}
use Rattle.stmt.proofs.VisitLaws.{visit-puts, visit-injected, visit-uninjected, ranged}
use Rattle.stmt.proofs.slices.Writes.visit_unplaced.Goals as goal

pub find_open-n-requires : goal.find_open-n-requires
find_open-n-requires c =
    let r = c.requires in
    (r.0, c.args.w, _, r.5, r.6)

pub put_open-requires : goal.put_open-requires
put_open-requires c =
    let r = c.requires in
    let f = c.find_open-n.ensures.found r.0 c.args.w _ r.5 r.6 in
    let shows = f.walking.shows in
    (_, _, _, shows, omega (arith, f.within, shows.pairs.within, shows.pairs.most), omega (arith, f.within, f.walking.room), λ k m b. rw c.find_open-n.ensures.rest.2 (r.7 k m (omega (arith, f.within))))

pub returns-then-n-gt0-clause-comes : goal.returns-then-n-gt0-clause-comes
unfolding item_list placed_of moved_of
returns-then-n-gt0-clause-comes c i rest items pairs new h x =
    let f = c.find_open-n.ensures.found i c.args.w _ h x in
    rw (visit-puts new f c.if-n-gt0.true) (c.put_open.ensures.comes _ _ _ f.walking.shows)

pub place_injected-requires : goal.place_injected-requires
unfolding item_list placed_of moved_of
place_injected-requires c =
    let r = c.requires in
    let f = c.find_open-n.ensures.found r.0 c.args.w _ r.5 r.6 in
    (r.0, r.1, r.2, f.after, r.4, f.walking, rw c.find_open-n.ensures.rest.2 r.7)

pub returns-then-is_injected-clause-comes : goal.returns-then-is_injected-clause-comes
unfolding item_list placed_of moved_of
returns-then-is_injected-clause-comes c i rest items pairs new h x =
    let f = c.find_open-n.ensures.found i c.args.w _ h x in
    let injected = ap is_injected (sym x.kind-is) ∙ sym c.is_injected.ensures ∙ c.if-is_injected.true in
    rw (visit-injected new f (omega arith) injected) (c.place_injected.ensures.comes i rest items f.after f.walking)

pub visit_uninjected-requires : goal.visit_uninjected-requires
unfolding item_list placed_of moved_of
visit_uninjected-requires c =
    let r = c.requires in
    let f = c.find_open-n.ensures.found r.0 c.args.w _ r.5 r.6 in
    let other = ap is_injected (sym r.6.kind-is) ∙ sym c.is_injected.ensures ∙ c.if-is_injected.false in
    (r.0, r.1, r.2, f.after, r.4, f.walking, ranged r.5 r.6 other, rw c.find_open-n.ensures.rest.2 r.7)

pub returns-clause-comes : goal.returns-clause-comes
unfolding item_list placed_of moved_of
returns-clause-comes c i rest items pairs new h x =
    let f = c.find_open-n.ensures.found i c.args.w _ h x in
    let other = ap is_injected (sym x.kind-is) ∙ sym c.is_injected.ensures ∙ c.if-is_injected.false in
    rw (visit-uninjected new f (omega arith) other) (c.visit_uninjected.ensures.comes i rest items f.after f.walking (ranged h x other))
