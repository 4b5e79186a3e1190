use Rattle.std.proofs.Common.{arith, sym, ◌∙◌, ap, ◌≡◌, ◌+◌, ◌-◌, length, take_all, length-take, get_or, ◌<◌}
use Rattle.lists.specs.ChainLaws.{link-none, link-turn, first-but-last}
use Rattle.lists.proofs.pairs.link.Goals as goal
use Rattle.lists.proofs.pairs.link.Goals.{After-from-key}

pub loop-place-init : goal.loop-place-init
loop-place-init c =
    let keys = c.args.keys.now in
    let all : c.into_iter-place-iterator.result.iter.iter.rest.now ≡ keys = (cc) in
    ((cc), rw all (sym (take_all (length keys) keys (omega arith))), rw all (link-none keys (length keys) c.args.heads.now c.args.next.now))

-- the place and its key
taken : (c : After-from-key)
    → (length c.loop-place.place-iterator.iter.iter.rest.now ≡ c.in-Some.place + 1) × (c.in-Some.place ≡ length c.next.new.self.iter.iter.rest.now)
    × (c.in-Some.place < length c.args.keys.now) × (get_or c.args.keys.now c.in-Some.place 0 ≡ c.from-key.result)
taken c =
    let keys = c.args.keys.now in
    let left = c.loop-place.place-iterator.iter.iter.rest.now in
    let i = c.loop-place.invariant in
    let s = c.in-Some.ensures.steps in
    let known = first-but-last keys _ _ _ s.1.0 i.1 in
    let is : c.in-Some.place ≡ length c.next.new.self.iter.iter.rest.now = omega (arith, s.1.1, i.0) in
    let count : length left ≡ c.in-Some.place + 1 = omega (arith, is, known.0) in
    (count, is, omega (arith, count, ap length i.1, length-take (length left) keys), rw is (known.2 ∙ sym c.from-key.ensures))

pub loop-place-preserved : goal.loop-place-preserved
loop-place-preserved c =
    let keys = c.args.keys.now in
    let i = c.loop-place.invariant in
    let s = c.in-Some.ensures.steps in
    let t = taken (goal.at.loop-place-preserved c).After-from-key in
    let n = length c.loop-place.place-iterator.iter.iter.rest.now in
    let place : n - 1 ≡ c.in-Some.place = omega (arith, t.0) in
    let below = rw t.3 at (c.requires.below c.in-Some.place t.2) in (
      s.0 ∙ i.0,
      (first-but-last keys _ _ _ s.1.0 i.1).1,
      rw (← t.1)
          (rw (place, t.3) at (link-turn keys c.args.heads.now c.args.next.now c.loop-place.heads c.loop-place.next (length keys) n (omega (arith, t.0)) (omega (arith, t.0, t.2)) (omega arith)
          (omega (arith, c.requires.next-size))
          (rw (place, t.3) (omega (arith, below)))
          (rw place (c.requires.empty c.in-Some.place t.2)) i.2)),
    )
