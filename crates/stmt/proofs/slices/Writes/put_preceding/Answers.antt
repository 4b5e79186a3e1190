-- `Writes::put_preceding` meets its contract. Assumes nothing.
use Rattle.std.proofs.Common.{arith, refl, ap, ◌+◌, ◌≤◌, length, length-set}
use Rattle.rules.specs.Items.{item_state, item_list, placed_of}
use Rattle.walks.specs.Runs.{went_on, was_full}
use Rattle.stmt.specs.declared.walk.ItemWalk.{ItemWalk}
use Rattle.stmt.specs.Walks.{moved_of}
use Rattle.stmt.specs.Slices.{held}
use Rattle.stmt.proofs.StateLaws.{entry-count, shows-pushed}
use Rattle.stmt.proofs.VisitLaws.{pushed-shows, pushed-over, front_below, entry-left, taken, taken-room, two_fit}
use Rattle.stmt.proofs.slices.Writes.put_preceding.Goals as goal
use Rattle.stmt.proofs.slices.Writes.put_preceding.Goals.{Else-after-gt-LIST}

pub passed-requires : goal.passed-requires
passed-requires c = entry-left c.requires.4

pub push_waiting-requires : goal.push_waiting-requires
push_waiting-requires c =
    let r = c.requires in
    let h = r.4 in
    let e = c.passed.ensures in
    (r.0, item_state r.1 r.2 r.3, h.laid, taken h e, front_below h, taken-room h e r.5)

pub returns-in_default-clause-comes : goal.returns-in_default-clause-comes
unfolding item_list placed_of
returns-in_default-clause-comes c i rest items pairs h =
    let over = pushed-over c.in_default.is (c.push_waiting.ensures.pushed i _ h.laid (taken h c.passed.ensures) (front_below h)) in
    was_full (omega (arith, over))

pub overflow_add-after : goal.overflow_add-after
overflow_add-after c =
    let r = c.requires in
    let h = r.4 in
    let k = pushed-shows c.in-Some.is (c.push_waiting.ensures.pushed r.0 _ h.laid (taken h c.passed.ensures) (front_below h)) in
    omega (arith, k.entries.within)

pub returns-then-after-gt-LIST-clause-comes : goal.returns-then-after-gt-LIST-clause-comes
unfolding item_list placed_of
returns-then-after-gt-LIST-clause-comes c i rest items pairs h =
    let k = pushed-shows c.in-Some.is (c.push_waiting.ensures.pushed i _ h.laid (taken h c.passed.ensures) (front_below h)) in
    was_full (omega (arith, entry-count k, c.if-after-gt-LIST.true))

-- two more fit
room : (c : Else-after-gt-LIST) → c.in-Some.after.end + 2 ≤ length c.push_waiting.new.self.list.now
unfolding item_list placed_of
room c =
    let r = c.requires in
    let h = r.4 in
    let k = pushed-shows c.in-Some.is (c.push_waiting.ensures.pushed r.0 _ h.laid (taken h c.passed.ensures) (front_below h)) in
    rw c.push_waiting.ensures.sizes.1 (two_fit h k r.5 (omega arith))

pub push-behind-requires : goal.push-behind-requires
push-behind-requires c =
    let fit = room (goal.at.push-behind-requires c).Else-after-gt-LIST in
    omega arith

pub push-requires : goal.push-requires
push-requires c =
    let fit = room (goal.at.push-requires c).Else-after-gt-LIST in
    let one = ap (λ (w : ItemWalk). w.end) c.push-behind.ensures.numbers in
    rw c.push-behind.ensures.list (simp length-set (omega arith))

pub returns-clause-comes : goal.returns-clause-comes
unfolding item_list placed_of moved_of
returns-clause-comes c i rest items pairs h =
    let k = pushed-shows c.in-Some.is (c.push_waiting.ensures.pushed i _ h.laid (taken h c.passed.ensures) (front_below h)) in
    let fit = room (goal.at.returns-clause-comes c).Else-after-gt-LIST in
    let a = c.push-behind.ensures in
    let b = c.push.ensures in
    let one = ap (λ (w : ItemWalk). w.end) a.numbers in
    let behind = shows-pushed k {a' = held c.push-behind.new.self} c.args.x.0 a.numbers a.list a.rest (omega (arith, c.if-after-gt-LIST.false)) (omega arith) in
    went_on refl (shows-pushed behind c.args.p.0 b.numbers b.list b.rest (omega (arith, c.if-after-gt-LIST.false)) (rw a.list (simp length-set (omega arith))))
