-- The length of the list that the walk of a group starts with, over the number of its modules and rows: at most 12,479 within the limits of the
-- project bytes. Assumes nothing.
use Prim.Native.Nat.{ℕ, suc, ◌+◌, ◌-◌, ◌*◌, ◌≤◌, ◌<◌}
use native.Mathlib.Omega.{arith}
use Rattle.std.proofs.Common.{mul_comm, mul-add, mul-le-mul, mul-le-mul_right, sym, ◌∙◌, inl, inr}
use Rattle.std.proofs.Math.Nat.{add-mul}
use Rattle.std.specs.Prelude.{◌≡◌, ◌⊎◌, true, false, eqb, ltb, leb}
use Rattle.std.proofs.Math.Path.{refl, ap}
use mathlib.Core.List.Memᴰ
use mathlib.Core.List.{List, [], ◌∷◌, map, flat_map}
use Rattle.std.proofs.Math.ListN.{length, length-append}
use Rattle.std.proofs.lemmas.List.{length-map}
use borrow.Author.Tests.{eqb-true, eqb-false, ltb-true, ltb-false, leb-true, leb-false}
use Rattle.rules.specs.Lists.{is_empty, keep, up_from}
use Rattle.rules.specs.Project.{Project}
use Rattle.rules.specs.Items.{is_injected, kept_rows_of, uninjected_rows, injected_rows, numbering, Range, ranges_from, numbers_of, range_of, Group, group_of, kind_of, numbers, starts, first_list}
use Rattle.laws.specs.Lists.{◌∈◌, false≢true, Tested, holds, fails, tested, ∈-self, keep-∈, once-keep, once-up_from, once-length, up_from-∈, ∈-up_from, length-up_from, total, ∈-total}
use Rattle.laws.proofs.Splits.{true-in_range, Found, found, nowhere, range_of-found, runs, in-range, gives-some, length-kinds, well_formed, length-numbering, giving-below}
use Rattle.laws.specs.Splits.{size, WellFormed, Giving}
use Rattle.laws.specs.Counting.{below_length}
use Rattle.laws.specs.Accepted.{Accepted}
use Rattle.laws.proofs.ItemWalk.{range_of-start}

-- Of two numbers whose sum and the first are bounded, the product is largest where both bounds are met.
product-most : (e u c w : ℕ) → e ≤ c → c ≤ w → e + u ≤ c + w → e * u ≤ c * w
product-most e u c w h k s = go (tested (leb u w))
  where
    go : Tested (leb u w) → e * u ≤ c * w
    go (holds t) = mul-le-mul h (leb-true u w t)
    go (fails t) =
        let b = leb-false u w t in
        let f : ℕ = u - w in
        let q : u ≡ w + f = omega arith in
        let i : e + f ≤ c = omega arith in
        let j : e ≤ w = omega arith in
        omega (arith, ap (λ (z : ℕ). e * z) q, mul-add e w f, mul-le-mul_right f j, mul_comm w f, add-mul e f w, mul-le-mul_right w i)

-- How many numbers ranges hold, and how many ranges are empty.
abbrev counts : List Range → ℕ
counts = total (λ (r : Range). r.count)

abbrev empties : List Range → ℕ
empties = total (λ (r : Range). 1 - r.count)

empties-most : (ranges : List Range) → empties ranges ≤ length ranges
unfolding total
empties-most [] = omega arith
empties-most (r ∷ ranges) = let h = empties-most ranges in omega arith

-- the ranges hold no number, or not all of them are empty
some_holds : (ranges : List Range) → (counts ranges ≡ 0) ⊎ (empties ranges < length ranges)
unfolding total
some_holds [] = inl refl
some_holds (r ∷ ranges) = go (tested (eqb r.count 0)) (some_holds ranges)
  where
    go : Tested (eqb r.count 0) → (counts ranges ≡ 0) ⊎ (empties ranges < length ranges)
        → (r.count + counts ranges ≡ 0) ⊎ ((1 - r.count) + empties ranges < suc (length ranges))
    go (holds e) (inl h) = inl (omega (arith, eqb-true r.count 0 e))
    go (holds e) (inr h) = inr (omega arith)
    go (fails e) h = let d = eqb-false r.count 0 e in inr (omega (arith, empties-most ranges))

module _ (g : Group) (w : WellFormed g) where
  -- The start of a range adds its own numbers, or where it is empty those of one other range at most.
  start-length : (r : Range) → r ∈ g.ranges
      → length (numbers_of (range_of g.ranges r.start)) ≤ r.count + (1 - r.count) * counts g.ranges
  unfolding numbers_of
  start-length r m = go (tested (eqb r.count 0))
    where
      any-count : {q : Range} → Found g.ranges r.start q → q.count ≤ counts g.ranges
      any-count (found n t) = ∈-total (λ (r : Range). r.count) n
      any-count (nowhere n c) = omega arith

      go : Tested (eqb r.count 0)
          → length (numbers_of (range_of g.ranges r.start)) ≤ r.count + (1 - r.count) * counts g.ranges
      go (holds e) =
          let z : r.count ≡ 0 = eqb-true r.count 0 e in
          let q : 1 - r.count ≡ 1 = omega arith in
          rw length-up_from (omega (arith, any-count (range_of-found g.ranges r.start), ap (λ (n : ℕ). n * counts g.ranges) q))
      go (fails e) =
          let d = eqb-false r.count 0 e in
          rw (range_of-start g w r r.start m (true-in_range r.start r (omega arith) (omega arith)), length-up_from) (omega arith)

  held-length : (part : List Range) → ((r : Range) → r ∈ part → r ∈ g.ranges)
      → length (flat_map (λ s. numbers_of (range_of g.ranges s)) (map (λ (r : Range). r.start) part))
      ≤ counts part + empties part * counts g.ranges
  unfolding flat_map total
  held-length [] h = omega arith
  held-length (r ∷ part) h =
      rw length-append
      (omega (arith, start-length r (h r ∈-self), held-length part (λ q m. h q (Memᴰ.tail m)), add-mul (1 - r.count) (empties part) (counts g.ranges)))

module _ (p : Project) where
  -- The ranges of modules hold as many numbers as these have uninjected rows.
  total-ranges : (s : ℕ) (modules : List ℕ) → counts (ranges_from p s modules) ≡ length (runs p modules)
  unfolding ranges_from total flat_map
  total-ranges s [] = refl
  total-ranges s (m ∷ modules) = simp length-append (rw (total-ranges (s + length (uninjected_rows p m)) modules))

  pub length-ranges : (s : ℕ) (modules : List ℕ) → length (ranges_from p s modules) ≡ length modules
  unfolding ranges_from
  length-ranges s [] = refl
  length-ranges s (m ∷ modules) = ap suc (length-ranges (s + length (uninjected_rows p m)) modules)

  -- a module whose range is empty gives an injected row
  empties-injected : (s : ℕ) (modules : List ℕ) → ((m : ℕ) → m ∈ modules → is_empty (kept_rows_of p m) ≡ false)
      → empties (ranges_from p s modules) ≤ length (flat_map (injected_rows p) modules)
  unfolding ranges_from total flat_map
  empties-injected s [] g = omega arith
  empties-injected s (m ∷ modules) g =
      rw length-append
      (omega (arith, gives-some p m (g m ∈-self), empties-injected (s + length (uninjected_rows p m)) modules (λ n i. g n (Memᴰ.tail i))))

module _ (p : Project) (modules : List ℕ) (g : Giving p modules) where
  abbrev group : Group
  group = group_of p modules

  abbrev uninjected : ℕ
  uninjected = length (runs p modules)

  abbrev injected : ℕ
  injected = length (flat_map (injected_rows p) modules)

  all-rows : length (numbering p modules) ≡ uninjected + injected
  unfolding numbering
  all-rows = length-append (runs p modules) (flat_map (injected_rows p) modules)

  -- The injected items have the numbers behind the ranges.
  injected-behind : (x : ℕ) → is_injected (kind_of group x) ≡ true → uninjected ≤ x
  unfolding group_of
  injected-behind x e = go (tested (ltb x uninjected))
    where
      go : Tested (ltb x uninjected) → uninjected ≤ x
      go (holds t) =
          let r = in-range p [] modules x (omega arith) (ltb-true x uninjected t) in
          absurd (false≢true (sym ((well_formed p modules g).holds-uninjected r.0 x r.1 r.2).1 ∙ e))
      go (fails t) = ltb-false x uninjected t

  injected-length : length (keep (λ x. is_injected (kind_of group x)) (numbers group)) ≤ injected
  unfolding numbers
  injected-length =
      let r : length (keep (λ x. is_injected (kind_of group x)) (numbers group)) ≤ length (up_from uninjected injected) =
      once-length (up_from uninjected injected) (once-keep (λ x. is_injected (kind_of group x)) (once-up_from 0 (size group)))
      (λ x m.
      let k = keep-∈ (λ x. is_injected (kind_of group x)) (numbers group) m in
      let b = up_from-∈ 0 (size group) k.0 in
      ∈-up_from uninjected injected (injected-behind x k.1) (omega (arith, length-kinds p modules, all-rows))) in
      omega (arith, length-up_from uninjected injected)

  -- the starts of empty ranges add at most this
  repeats : (c w : ℕ) → c ≤ w → length modules ≤ suc c → length (numbering p modules) ≤ c + w
      → empties group.ranges * counts group.ranges ≤ c * w
  unfolding group_of
  repeats c w h k n = go (some_holds group.ranges)
    where
      go : (counts group.ranges ≡ 0) ⊎ (empties group.ranges < length group.ranges) → empties group.ranges * counts group.ranges ≤ c * w
      go (inl z) = omega (arith, ap (λ (u : ℕ). empties group.ranges * u) z)
      go (inr b) =
          product-most (empties group.ranges) (counts group.ranges) c w (omega (arith, length-ranges p 0 modules)) h
          (omega (arith, all-rows, total-ranges p 0 modules, empties-injected p 0 modules g.gives))

  -- The first list of at most 1 + c modules with at most c + w rows. It is longest where c modules have one row each, an injected one, and the last
  -- module has w uninjected rows: then all starts lie in its range.
  pub first_list-most : (c w : ℕ) → c ≤ w → length modules ≤ suc c → length (numbering p modules) ≤ c + w
      → length (first_list group) ≤ suc c + (c + w) + c * w
  unfolding first_list starts group_of
  first_list-most c w h k n =
      let held = held-length group (well_formed p modules g) group.ranges (λ r m. m) in
      simp (length-append, length-map)
      (omega (arith, all-rows, injected-length, length-ranges p 0 modules, total-ranges p 0 modules, held, repeats c w h k n))

-- "The list starts as all starts; .. That is at most 12,479 entries."
pub first_list-limit : {p : Project} {modules : List ℕ} → Accepted p → Giving p modules → length (first_list (group_of p modules)) ≤ 12479
first_list-limit {p} {modules} a g =
    let k = below_length g.once (giving-below (λ i m. (a.item-rows i m).module-below) g) in
    first_list-most p modules g 63 193 (omega arith) (omega (arith, a.modules-most)) (omega (arith, a.items-most, length-numbering p g.once))
