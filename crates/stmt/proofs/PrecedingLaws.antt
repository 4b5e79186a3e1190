-- Laws of step 5: the items that precede an item. Assumes nothing.
use Rattle.std.specs.Prelude.{ℕ, suc, ◌+◌, ◌-◌, ◌≤◌, ◌<◌, ◌≡◌, true, false, not, ◌&&◌, ltb, List, ◌∷◌, Some, None}
use Rattle.std.proofs.Common.{arith, ◌∙◌, lt-ltb, ltb-true, add-one}
use Rattle.rules.specs.Lists.{cons_if, keep, elem, up_from}
use Rattle.rules.specs.Items.{range_of, numbers_of, Group, has_moved, preceding}
use Rattle.laws.specs.Lists.{◌∈◌, both, keep-∈, up_from-∈}
use Rattle.laws.specs.Counting.{no_member}
use Rattle.laws.proofs.Splits.{in_range-true}
use Rattle.stmt.specs.declared.steps.Item.{Item}
use Rattle.stmt.specs.Walks.{Ranged, First, none, first}

module _ {g : Group} (items : List ℕ) (pairs : List (ℕ × ℕ)) {x : Item} (i : Ranged g x) where
  -- those of the items that precede x from p on
  unfoldable pub preceding_from : ℕ → List ℕ
  preceding_from p =
      keep (λ p. not (elem p items) && ltb p x.id.0 && not (has_moved pairs x.id.0 p))
      (up_from p ((range_of g.ranges x.id.0).start + (range_of g.ranges x.id.0).count - p))

  pub preceding-start : preceding g items pairs x.id.0 ≡ preceding_from x.low
  unfolding preceding numbers_of preceding_from
  preceding-start =
      let q = range_of g.ranges x.id.0 in
      let a : x.low ≡ q.start = i.item.range-is.start in
      let b : q.start + q.count - x.low ≡ q.count = omega arith in
      rw (b, a)

  -- a number p below x
  module _ (p : ℕ) (h : p < x.id.0) where
    from-turn : preceding_from p ≡ cons_if (not (elem p items) && ltb p x.id.0 && not (has_moved pairs x.id.0 p)) p (preceding_from (p + 1))
    unfolding preceding_from keep up_from
    from-turn =
        let q = range_of g.ranges x.id.0 in
        let e : q.start + q.count - p ≡ suc (q.start + q.count - (p + 1)) = omega (arith, (in_range-true x.id.0 q i.inside).1) in
        rw (e, ← add-one p)

    pub preceding-placed : elem p items ≡ true → preceding_from p ≡ preceding_from (p + 1)
    unfolding cons_if
    preceding-placed t = from-turn ∙ rw t

    module _ (open-p : elem p items ≡ false) where
      pub preceding-moved : has_moved pairs x.id.0 p ≡ true → preceding_from p ≡ preceding_from (p + 1)
      unfolding cons_if
      preceding-moved t = from-turn ∙ rw (open-p, lt-ltb p x.id.0 h, t)

      pub preceding-found : has_moved pairs x.id.0 p ≡ false → preceding g items pairs x.id.0 ≡ preceding_from p
          → First x.id.0 (preceding g items pairs x.id.0) (Some (record { 0 = p }))
      unfolding cons_if
      preceding-found t e =
          let here : preceding_from p ≡ p ∷ preceding_from (p + 1) = from-turn ∙ rw (open-p, lt-ltb p x.id.0 h, t) in
          rw (e ∙ here) (first h)

  pub preceding-none : {p : ℕ} → x.id.0 ≤ p → preceding g items pairs x.id.0 ≡ preceding_from p → First x.id.0 (preceding g items pairs x.id.0) None
  unfolding preceding_from
  preceding-none {p} h e = rw (e ∙ no_member (preceding_from p) nobody) none
    where
      nobody : (y : ℕ) → y ∈ preceding_from p → ⊥
      nobody y m =
          let q = range_of g.ranges x.id.0 in
          let k = keep-∈ (λ p. not (elem p items) && ltb p x.id.0 && not (has_moved pairs x.id.0 p)) (up_from p (q.start + q.count - p)) m in
          let t = ltb-true y x.id.0 (both {a = not (elem y items)} (both {a = not (elem y items) && ltb y x.id.0} k.1).0).1 in
          omega (arith, (up_from-∈ p (q.start + q.count - p) k.0).0)
