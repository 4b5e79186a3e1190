-- Laws of what the arrays show once all is numbered: the kinds, the ranges and the starts of a group. Assumes nothing.
use Prim.Native.Nat.{ℕ, ◌+◌, ◌-◌, ◌≤◌, ◌<◌}
use Rattle.std.specs.Prelude.{◌≡◌, refl, ltb, length, get_or, take, replicate}
use Rattle.std.proofs.Common.{arith, sym, ap, ◌∙◌, ltb-true, ltb-false, get_or-append-add, length-append}
use mathlib.Core.List.{List, [], ◌∷◌, ◌++◌, map, flat_map, map-append}
use Rattle.std.proofs.Math.ListN.{get_or-append}
use Rattle.std.proofs.lemmas.List.{length-map, length-replicate, get_or-replicate}
use Rattle.std.proofs.lemmas.List.Edits.{sets}
use Rattle.rules.specs.Project.{Project, item_limit}
use Rattle.rules.specs.Items.{kind_at, uninjected_rows, injected_rows, numbering, Range, ranges_from, in_range, range_of, group_of, kind_of, starts as starts_of}
use Rattle.laws.specs.Lists.{Tested, holds, fails, tested}
use Rattle.laws.specs.Orders.{get_d_map}
use Rattle.laws.proofs.Splits.{true-in_range, in_range-true, runs}
use Rattle.laws.proofs.FirstList.{length-ranges}
use Rattle.split.specs.declared.Split.{Split}
use Rattle.split.specs.Rows.{rows_as}
use Rattle.split.specs.Splits.{starts_in, RangesNumbered, InjectedNumbered, Splittable, Splits, no_ranges, SplitStored}
use Rattle.split.specs.StoreLaws.{sets-take, sets-get_or, stored-behind}
use Rattle.split.specs.SplitLaws.{numbering-parts, numbered-parts}

-- The range of a number: the first where that holds it, else one of the others; none from the end of the runs on.
range_of-first : (r : Range) (ranges : List Range) (y : ℕ) → r.start ≤ y → y < r.start + r.count → range_of (r ∷ ranges) y ≡ r
unfolding range_of
range_of-first r ranges y h k = rw (true-in_range y r h k, range_of)

range_of-later : (r : Range) (ranges : List Range) (y : ℕ) → r.start + r.count ≤ y → range_of (r ∷ ranges) y ≡ range_of ranges y
unfolding range_of
range_of-later r ranges y h = go (tested (in_range y r))
  where
    go : Tested (in_range y r) → range_of (r ∷ ranges) y ≡ range_of ranges y
    go (holds e) = let k = in_range-true y r e in absurd (omega arith)
    go (fails e) = rw (e, range_of)

range_none : (p : Project) (s : ℕ) (modules : List ℕ) (x : ℕ) → s + length (runs p modules) ≤ x
    → range_of (ranges_from p s modules) x ≡ record { start = 0; count = 0 }
unfolding ranges_from flat_map range_of
range_none p s [] x h = refl
range_none p s (m ∷ modules) x h =
    let count : ℕ = length (uninjected_rows p m) in
    let k : s + count + length (runs p modules) ≤ x = omega (arith, length-append (uninjected_rows p m) (runs p modules)) in
    range_of-later (record { start = s; count = count }) (ranges_from p (s + count) modules) x (omega arith) ∙ range_none p (s + count) modules x k

-- What a value of each range, stored at each of its numbers, is at a number.
module _ (p : Project) (value : Range → ℕ) where
  abbrev values : List Range → List ℕ
  values ranges = flat_map (λ (r : Range). replicate r.count (value r)) ranges

  range_at : (s : ℕ) (modules : List ℕ) (x : ℕ) → x < length (runs p modules)
      → get_or (values (ranges_from p s modules)) x 0 ≡ value (range_of (ranges_from p s modules) (s + x))
  unfolding ranges_from flat_map
  range_at s [] x h = absurd (omega arith)
  range_at s (m ∷ modules) x h = go (tested (ltb x count)) (range_at (s + count) modules (x - count))
    where
      count : ℕ
      count = length (uninjected_rows p m)

      r : Range
      r = record { start = s; count = count }

      rest : List Range
      rest = ranges_from p (s + count) modules

      size : length (replicate count (value r)) ≡ count
      size = length-replicate count (value r)

      go : Tested (ltb x count) → (x - count < length (runs p modules) → get_or (values rest) (x - count) 0 ≡ value (range_of rest (s + count + (x - count))))
          → get_or (replicate count (value r) ++ values rest) x 0 ≡ value (range_of (r ∷ rest) (s + x))
      go (holds e) f =
          let k : x < count = ltb-true x count e in
          get_or-append (replicate count (value r)) (values rest) 0 x (omega (arith, size))
          ∙ get_or-replicate count x (value r) 0 k
          ∙ sym (ap value (range_of-first r rest (s + x) (omega arith) (omega arith)))
      go (fails e) f =
          let k : count ≤ x = ltb-false x count e in
          let a : x ≡ length (replicate count (value r)) + (x - count) = omega (arith, size) in
          let b : s + count + (x - count) ≡ s + x = omega arith in
          ap (λ (j : ℕ). get_or (replicate count (value r) ++ values rest) j 0) a
          ∙ get_or-append-add (replicate count (value r)) (values rest) (x - count) 0
          ∙ f (omega (arith, length-append (uninjected_rows p m) (runs p modules)))
          ∙ ap (λ (j : ℕ). value (range_of rest j)) b
          ∙ sym (ap value (range_of-later r rest (s + x) (omega arith)))

  length-values : (s : ℕ) (modules : List ℕ) → length (values (ranges_from p s modules)) ≡ length (runs p modules)
  unfolding ranges_from flat_map
  length-values s [] = refl
  length-values s (m ∷ modules) =
      let count : ℕ = length (uninjected_rows p m) in
      let r : Range = record { start = s; count = count } in
      let rest : List Range = ranges_from p (s + count) modules in
      omega (
        arith,
        length-append (replicate count (value r)) (values rest),
        length-replicate count (value r),
        length-append (uninjected_rows p m) (runs p modules),
        length-values (s + count) modules,
      )

  -- with zeros at the numbers behind the runs, for which there is no range
  range-filled : (modules a b : List ℕ) (x : ℕ) → value (record { start = 0; count = 0 }) ≡ 0 → length (numbering p modules) ≤ length a
      → b ≡ sets a 0 (values (ranges_from p 0 modules) ++ no_ranges p modules) → x < length (numbering p modules)
      → get_or b x 0 ≡ value (range_of (ranges_from p 0 modules) x)
  range-filled modules a b x z room e k =
      ap (λ (l : List ℕ). get_or l x 0) e ∙ sets-get_or (stored ++ zeros) a x 0 (omega (arith, size)) (omega (arith, size)) ∙ go (tested (ltb x u))
    where
      u : ℕ
      u = length (runs p modules)

      injected : ℕ
      injected = length (flat_map (injected_rows p) modules)

      stored : List ℕ
      stored = values (ranges_from p 0 modules)

      zeros : List ℕ
      zeros = no_ranges p modules

      size : length (stored ++ zeros) ≡ length (numbering p modules)
      size =
          omega (arith, length-append stored zeros, length-replicate {A = ℕ} injected 0, length-values 0 modules, numbering-parts p modules)

      go : Tested (ltb x u) → get_or (stored ++ zeros) x 0 ≡ value (range_of (ranges_from p 0 modules) x)
      go (holds t) =
          let j : x < u = ltb-true x u t in
          let q : 0 + x ≡ x = omega arith in
          get_or-append stored zeros 0 x (omega (arith, length-values 0 modules)) ∙ range_at 0 modules x j
          ∙ ap (λ (i : ℕ). value (range_of (ranges_from p 0 modules) i)) q
      go (fails t) =
          let j : u ≤ x = ltb-false x u t in
          let q : x ≡ length stored + (x - u) = omega (arith, length-values 0 modules) in
          ap (λ (i : ℕ). get_or (stored ++ zeros) i 0) q ∙ get_or-append-add stored zeros (x - u) 0
          ∙ get_or-replicate {A = ℕ} injected (x - u) 0 0 (omega (arith, numbering-parts p modules))
          ∙ sym (ap value (range_none p 0 modules x (omega arith)) ∙ z)

-- The split in one step, from its two.
module _ {p : Project} {modules : List ℕ} {s t u : Split} (first : RangesNumbered p modules s t) (second : InjectedNumbered p modules t u) where
  pub split-stored : SplitStored p modules s u
  unfolding numbering rows_as
  split-stored =
      let run : List ℕ = flat_map (uninjected_rows p) modules in
      let behind : List ℕ = flat_map (injected_rows p) modules in
      record {
        rows_whole = (stored-behind first.rows_stored second.numbered.rows_stored).whole;
        kinds-whole = (stored-behind first.kinds-stored second.numbered.kinds-stored).whole ∙ sym (ap (sets s.kinds 0) (map-append (kind_at p) run behind));
        low-whole = (stored-behind first.low-stored second.low-stored).whole;
        high-whole = (stored-behind first.high-stored second.high-stored).whole;
        starts-whole = second.starts ∙ first.starts-stored.whole;
      }

  pub split-shown : Splittable p modules → Splits p modules u
  unfolding rows_as group_of kind_of starts_of
  split-shown a =
      let d : SplitStored p modules s u = split-stored in
      let n : ℕ = length (numbering p modules) in
      let most : n ≤ item_limit = a.numbering-most in
      let count : u.count ≡ n = omega (arith, second.numbered.rows_stored.count, first.rows_stored.count, numbered-parts p modules) in
      let kinds : List ℕ = map (kind_at p) (numbering p modules) in
      let size : length kinds ≡ n = length-map (numbering p modules) (kind_at p) in
      let starts : List ℕ = starts_in (ranges_from p 0 modules) in
      let many : length starts ≡ length modules = length-map (ranges_from p 0 modules) (λ (r : Range). r.start) ∙ length-ranges p 0 modules in
      let known : u.modules ≡ length modules = omega (arith, second.modules-same, first.starts-stored.count) in
      record {
        numbered =
            ap (λ (k : ℕ). take k u.rows) count ∙ ap (take n) d.rows_whole ∙ sets-take (numbering p modules) s.rows (omega (arith, s.sizes));
        count-is = count;
        uninjected-is = omega (arith, second.uninjected, first.uninjected, first.rows_stored.count);
        modules-is = known;
        kinds-shown =
            record {
              room = omega (arith, u.sizes);
              each =
                  λ x k.
                  ap (λ (l : List ℕ). get_or l x 0) d.kinds-whole
                  ∙ sets-get_or kinds s.kinds x 0 (omega (arith, s.sizes)) k
                  ∙ get_d_map (kind_at p) (numbering p modules) x 0 0 (omega arith)
                  ∙ sym (get_d_map (kind_at p) (numbering p modules) x 0 5 (omega arith));
            };
        ranges-shown =
            record {
              low-size = omega (arith, u.sizes);
              high-size = omega (arith, u.sizes);
              each =
                  λ x k.
                  record {
                    start = range-filled p (λ (r : Range). r.start) modules s.low u.low x refl (omega (arith, s.sizes)) d.low-whole (omega arith);
                    end = range-filled p (λ (r : Range). r.start + r.count) modules s.high u.high x refl (omega (arith, s.sizes)) d.high-whole (omega arith);
                  };
            };
        starts-shown =
            ap (λ (k : ℕ). take k u.starts) (known ∙ sym many) ∙ ap (take (length starts)) d.starts-whole
            ∙ sets-take starts s.starts (omega (arith, a.modules-most, s.sizes));
      }
