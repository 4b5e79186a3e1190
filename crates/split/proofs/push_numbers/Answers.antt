use Rattle.std.proofs.Common.{arith, ◌+◌, ◌-◌, ◌≡◌, ◌<◌, length}
use Rattle.rules.specs.Lists.{up_from}
use Rattle.laws.specs.Lists.{length-up_from}
use Rattle.std.specs.List.{push}
use Rattle.split.specs.PushLaws.{pushing-end, entry-room, entry-next, numbers-last}
use Rattle.split.proofs.push_numbers.Goals as goal
use Rattle.split.proofs.push_numbers.Goals.{In-Some}

-- the numbers that are left end with this one
last : (c : In-Some) → up_from c.args.low (c.loop-i.i-iterator.iter.iter.end - c.args.low) ≡ push (up_from c.args.low (c.next.new.self.iter.iter.end - c.args.low)) c.in-Some.x
last c =
    let s = c.in-Some.ensures.steps.0 in
    let end = c.loop-i.i-iterator.iter.iter.end in
    let next : end - 1 ≡ c.next.new.self.iter.iter.end = omega (arith, s.1.2) in
    rw s.1.1 (rw next at (numbers-last c.args.low end (omega (arith, s.1.0, c.loop-i.invariant.0))))

-- there is room for one more number
room : (c : In-Some) → c.args.end + c.in-Some.i < length c.loop-i.list
room c =
    let a = c.args in
    rw c.in-Some.ensures.steps.1 (entry-room c.loop-i.invariant.2 _ _ (last c) (omega (arith, c.requires, length-up_from a.low (a.high - a.low))))

pub overflow_cast-list : goal.overflow_cast-list
overflow_cast-list c = omega (arith, c.in-Some.ensures.steps.0, c.loop-i.invariant.1, c.requires)

pub overflow_add-list : goal.overflow_add-list
overflow_add-list c = omega (arith, room (goal.at.overflow_add-list c).In-Some)

pub offset_bounds-list-end : goal.offset_bounds-list-end
offset_bounds-list-end c = omega (arith, room (goal.at.offset_bounds-list-end c).In-Some)

pub bounds-list-end : goal.bounds-list-end
bounds-list-end c = room (goal.at.bounds-list-end c).In-Some

pub loop-i-preserved : goal.loop-i-preserved
loop-i-preserved c =
    let here = (goal.at.loop-i-preserved c).In-Some in
    let s = c.in-Some.ensures.steps in
    let next : c.args.end + c.next.new.self.count ≡ c.args.end + c.loop-i.i-iterator.count + 1 = omega (arith, s.2) in
    (omega (arith, s.0, c.loop-i.invariant.0), omega (arith, s.0, c.loop-i.invariant.1), rw (next, s.1) (entry-next c.loop-i.invariant.2 _ (last here) (rw s.1 at (room here))))

pub returns : goal.returns
returns c =
    let a = c.args in
    let end = c.loop-i.i-iterator.iter.iter.end in
    let p = pushing-end (λ l. l) c.loop-i.invariant.2 (omega (arith, length-up_from a.low (end - a.low), c.in-None.ensures.steps.0, c.loop-i.invariant.0)) in
    let count : a.end + c.saturating_sub.result ≡ a.end + c.loop-i.i-iterator.count = omega (arith, p.count, length-up_from a.low (a.high - a.low), c.saturating_sub.ensures) in
    rw count p
