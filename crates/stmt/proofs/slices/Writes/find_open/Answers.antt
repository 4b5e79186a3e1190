use Rattle.std.proofs.Common.{arith, refl, sym, ap, ◌∙◌, ◌<◌, length, length-set, not}
use Rattle.rules.specs.Project.{item_limit}
use Rattle.rules.specs.Items.{placed_of}
use Rattle.rules.specs.Paths.{dependencies_of}
use Rattle.laws.specs.Lists.{∈-self}
use Rattle.laws.specs.Splits.{size}
use Rattle.stmt.proofs.FindLaws.{finding-start, finding-rest, finding-few, finding-room, finding-kept, finding-skipped, finding-dropped, finding-end}
use Rattle.stmt.proofs.slices.Writes.find_open.Goals as goal
use Rattle.stmt.proofs.slices.Writes.find_open.Goals.{Then-stays, else-not-skips-via-then-not-skips+else-stays, else-not-skips-via-else-not-skips}

pub loop-d-init : goal.loop-d-init
loop-d-init c = (
  tt,
  tt,
  (refl, refl, refl),
  (refl, refl),
  (refl, refl, refl, refl, refl),
  λ i w s h x.
      finding-start c.args.x.id.0 (rw (c.into_iter-d-iterator.ensures.into_iter_gives) (c.of-d-items.ensures (dependencies_of i.needs) (size i) h.laid.dependencies x.below)) h,
)

pub skips-requires : goal.skips-requires
skips-requires c =
    let r = c.requires in
    let f = finding-rest c.in-Some.ensures.steps (c.loop-d.invariant.5 r.0 r.1 r.2 r.3 r.4) in
    (r.0, r.1, _, f.walking, r.4, f.below _ ∈-self)

pub stays-requires : goal.stays-requires
stays-requires c =
    let r = c.requires in
    let f = finding-rest c.in-Some.ensures.steps (c.loop-d.invariant.5 r.0 r.1 r.2 r.3 r.4) in
    let k = c.skips.ensures.skipped r.0 r.1 _ f.walking r.4 (f.below _ ∈-self) in
    (r.0, r.1, _, k.walking, r.4, f.below _ ∈-self)

-- no more dependencies stay than there are items
room : (c : Then-stays) → (c.loop-d.n < length c.loop-d.self.«open».now) × (c.loop-d.n < item_limit)
unfolding placed_of
room c =
    let r = c.requires in
    let f = finding-rest c.in-Some.ensures.steps (c.loop-d.invariant.5 r.0 r.1 r.2 r.3 r.4) in
    let k = c.skips.ensures.skipped r.0 r.1 _ f.walking r.4 (f.below _ ∈-self) in
    let unskipped = ap not c.if-not-skips.true in
    let stay = sym (c.stays.ensures r.0 r.1 _ k.walking r.4 (f.below _ ∈-self)) ∙ c.if-stays.true in
    (finding-room f k c.skips.ensures.rest.1 unskipped stay, finding-few f k c.skips.ensures.rest.1 unskipped stay)

pub bounds-self-n : goal.bounds-self-n
bounds-self-n c = rw c.skips.ensures.rest.1 (room c).0

pub offset_bounds-self-n : goal.offset_bounds-self-n
offset_bounds-self-n c = let h = room c in omega (arith, h.1)

pub overflow_add-n : goal.overflow_add-n
overflow_add-n c = let h = room c in omega (arith, h.1)

pub loop-d-preserved-then-stays : goal.loop-d-preserved-then-stays
unfolding placed_of
loop-d-preserved-then-stays c = (
  tt,
  tt,
  let k = c.loop-d.invariant.2 in let r = c.skips.ensures.rest in (r.0 ∙ k.0, r.2 ∙ k.1, r.3 ∙ k.2),
  let k = c.loop-d.invariant.3 in let r = c.skips.ensures.sizes in (simp length-set (r.0 ∙ k.0), r.1 ∙ k.1),
  let k = c.loop-d.invariant.4 in let r = c.skips.ensures.lent in (r.0 ∙ k.0, r.1 ∙ k.1, r.2 ∙ k.2, r.3 ∙ k.3, r.4 ∙ k.4),
  λ i w s h x.
      let f = finding-rest c.in-Some.ensures.steps (c.loop-d.invariant.5 i w s h x) in
      let k = c.skips.ensures.skipped i w _ f.walking x (f.below _ ∈-self) in
      finding-kept f k c.skips.ensures.rest.1 (ap not c.if-not-skips.true)
      (sym (c.stays.ensures i w _ k.walking x (f.below _ ∈-self)) ∙ c.if-stays.true) _ refl refl refl refl refl,
)

pub loop-d-preserved : goal.loop-d-preserved
unfolding placed_of
loop-d-preserved c = (
  tt,
  tt,
  let k = c.loop-d.invariant.2 in let r = c.skips.ensures.rest in (r.0 ∙ k.0, r.2 ∙ k.1, r.3 ∙ k.2),
  let k = c.loop-d.invariant.3 in let r = c.skips.ensures.sizes in (r.0 ∙ k.0, r.1 ∙ k.1),
  let k = c.loop-d.invariant.4 in let r = c.skips.ensures.lent in (r.0 ∙ k.0, r.1 ∙ k.1, r.2 ∙ k.2, r.3 ∙ k.3, r.4 ∙ k.4),
  λ i w s h x.
      let f = finding-rest c.in-Some.ensures.steps (c.loop-d.invariant.5 i w s h x) in
      let k = c.skips.ensures.skipped i w _ f.walking x (f.below _ ∈-self) in
      elim c.else-not-skips.branch [
        | else-not-skips-via-then-not-skips+else-stays v ↦
            finding-dropped f k c.skips.ensures.rest.1 (sym (v.stays.ensures i w _ k.walking x (f.below _ ∈-self)) ∙ v.if-stays.false)
        | else-not-skips-via-else-not-skips v ↦ finding-skipped f k c.skips.ensures.rest.1 (ap not v.if-not-skips.false)
      ],
)

pub returns-clause-found : goal.returns-clause-found
returns-clause-found c i w s h x = finding-end (finding-rest c.in-None.ensures.steps.0 (c.loop-d.invariant.5 i w s h x))
