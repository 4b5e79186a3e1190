use Rattle.std.proofs.Common.{arith, refl, ◌∙◌, ◌<◌, length, length-set}
use Rattle.rules.specs.Paths.{dependants_of}
use Rattle.rules.specs.Items.{placed_of}
use Rattle.rules.specs.Calls.{item_list_limit}
use Rattle.laws.specs.Splits.{size}
use Rattle.stmt.proofs.StateLaws.{entry-count, shows-pushed}
use Rattle.stmt.proofs.PushLaws.{pushing-start, waiting-is, met-below, pushing-passed, pushing-room, pushing-one, pushing-full, pushing-end}
use Rattle.stmt.proofs.slices.Writes.push_waiting.Goals as goal
use Rattle.stmt.proofs.slices.Writes.push_waiting.Goals.{Else-after-eq-LIST}

pub loop-d-init : goal.loop-d-init
loop-d-init c = (
  tt,
  tt,
  (refl, refl, refl, refl),
  (refl, (refl, refl, refl, refl, refl)),
  λ i s laid h x.
      pushing-start
      (rw c.into_iter-d-iterator.ensures.into_iter_gives (c.of-d-items.ensures (dependants_of i.needs) (size i) laid.dependants x))
      laid.formed h,
)

pub is_waiting-requires : goal.is_waiting-requires
is_waiting-requires c =
    let r = c.requires in
    let below = met-below c.in-Some.ensures.steps (c.loop-d.invariant.4 r.0 r.1 r.2 r.3 r.4) in
    let k = c.loop-d.invariant.2 in
    (omega (arith, r.2.kinds-shown.room), rw k.0 (omega (arith, r.3.placed-size)))

pub returns-then-after-eq-LIST-clause-pushed : goal.returns-then-after-eq-LIST-clause-pushed
unfolding placed_of
returns-then-after-eq-LIST-clause-pushed c i s laid h x =
    let p = c.loop-d.invariant.4 i s laid h x in
    let steps = c.in-Some.ensures.steps in
    pushing-full steps p (waiting-is laid p.shows c.in-Some.d.0 (met-below steps p) c.is_waiting.ensures c.if-is_waiting.true) c.if-after-eq-LIST.true

-- no more dependants wait than there are items
room : (c : Else-after-eq-LIST) → (c.loop-d.after.end < item_list_limit) × (c.loop-d.after.end < length c.loop-d.self.list.now)
unfolding placed_of
room c =
    let r = c.requires in
    let p = c.loop-d.invariant.4 r.0 r.1 r.2 r.3 r.4 in
    let steps = c.in-Some.ensures.steps in
    let more : c.loop-d.after.end < item_list_limit = omega (arith, p.shows.entries.within, c.if-after-eq-LIST.false) in
    let waits = waiting-is r.2 p.shows c.in-Some.d.0 (met-below steps p) c.is_waiting.ensures c.if-is_waiting.true in
    (more, pushing-room steps p waits r.2.formed (entry-count r.3) more (rw c.loop-d.invariant.3.0 r.5))

pub push-after-requires : goal.push-after-requires
push-after-requires c = (room (goal.at.push-after-requires c).Else-after-eq-LIST).1

pub loop-d-preserved-then-is_waiting : goal.loop-d-preserved-then-is_waiting
unfolding placed_of
loop-d-preserved-then-is_waiting c = (
  tt,
  tt,
  let k = c.loop-d.invariant.2 in let r = c.push-after.ensures.rest in (r.0 ∙ k.0, r.1 ∙ k.1, r.2 ∙ k.2, r.3 ∙ k.3),
  let k = c.loop-d.invariant.3 in let r = c.push-after.ensures.lent in
      (rw c.push-after.ensures.list (simp length-set k.0), (r.0 ∙ k.1.0, r.1 ∙ k.1.1, r.2 ∙ k.1.2, r.3 ∙ k.1.3, r.4 ∙ k.1.4)),
  λ i s laid h x.
      let p = c.loop-d.invariant.4 i s laid h x in
      let steps = c.in-Some.ensures.steps in
      pushing-one steps p (waiting-is laid p.shows c.in-Some.d.0 (met-below steps p) c.is_waiting.ensures c.if-is_waiting.true)
      (let k = c.push-after.ensures in let fit = room (goal.at.loop-d-preserved-then-is_waiting c).Else-after-eq-LIST in shows-pushed p.shows c.in-Some.d.0 k.numbers k.list k.rest fit.0 fit.1),
)

pub loop-d-preserved : goal.loop-d-preserved
unfolding placed_of
loop-d-preserved c = (
  tt,
  tt,
  c.loop-d.invariant.2,
  c.loop-d.invariant.3,
  λ i s laid h x.
      let p = c.loop-d.invariant.4 i s laid h x in
      let steps = c.in-Some.ensures.steps in
      pushing-passed steps p (waiting-is laid p.shows c.in-Some.d.0 (met-below steps p) c.is_waiting.ensures c.if-is_waiting.false),
)

pub returns-clause-pushed : goal.returns-clause-pushed
returns-clause-pushed c i s laid h x = pushing-end c.in-None.ensures.steps.0 (c.loop-d.invariant.4 i s laid h x)
