-- Laws of the walk's first list: of its parts, of the loop that puts the ranges in front, and of its length. Assumes nothing.
use Prim.Native.Nat.{ℕ, ◌+◌, ◌-◌, ◌≤◌, ◌<◌}
use Rattle.std.specs.Prelude.{◌≡◌, length, get_or, drop}
use Rattle.std.proofs.Common.{arith, add-one, sym, ap, ◌∙◌, subst, length-append, length-take-le, get_or-take, get_or-append-add, append-nil, append_assoc, drop-cons, drop_of_length-le}
use mathlib.Core.List.{List, [], ◌∷◌, ◌++◌, flat_map}
use Rattle.std.specs.List.{push}
use Rattle.std.proofs.lemmas.List.Concat.{flat_map-append}
use Rattle.rules.specs.Lists.{up_from}
use Rattle.rules.specs.Items.{numbers_of, range_of, Group, starts as starts_of, first_list}
use Rattle.laws.specs.Lists.{length-up_from}
use Rattle.laws.specs.Splits.{size}
use Rattle.lists.specs.Stacks.{stack}
use Rattle.split.specs.declared.Split.{Split}
use Rattle.split.specs.FirstLists.{Pushed, held_by, starts_on, StartsWithin, ListableOn, Listable, FirstListed}
use Rattle.split.specs.PushLaws.{pushed_more, Pushing, pushing-more}

-- Each start is a number of the group, and so a place of the slices.
module _ {g : Group} {low high starts : List ℕ} (a : StartsWithin g low high starts) where
  module _ (x : ℕ) (below : x < size g) where
    abbrev pub range-count : ℕ
    range-count = get_or high x 0 - get_or low x 0

    range-numbers : up_from (get_or low x 0) range-count ≡ numbers_of (range_of g.ranges x)
    unfolding numbers_of
    range-numbers =
        let r = a.ranges-shown.each x below in
        let e : range-count ≡ (range_of g.ranges x).count = omega (arith, r.start, r.end) in
        rw (e, r.start)

    range-length : length (numbers_of (range_of g.ranges x)) ≡ range-count
    range-length = sym (ap length range-numbers) ∙ length-up_from (get_or low x 0) range-count

  -- Ranges are put in front, that of the last start first.
  module _ {rest list₀ : List ℕ} {end : ℕ} {list : List ℕ} {n : ℕ} (p : Pushing (held_by g) starts rest list₀ end list n) (l : List ℕ) (x : ℕ)
      (last : rest ≡ push l x) where
    parts : starts ≡ l ++ (x ∷ p.done)
    parts = p.parts ∙ ap (λ (k : List ℕ). k ++ p.done) last ∙ append_assoc l (x ∷ []) p.done

    pub push-below : x < size g
    push-below =
        let e : length l + 0 ≡ length l = omega arith in
        let here : get_or starts (length l) 0 ≡ x =
        ap (λ (k : List ℕ). get_or k (length l) 0) parts ∙ ap (λ (i : ℕ). get_or (l ++ (x ∷ p.done)) i 0) (sym e) ∙ get_or-append-add l (x ∷ p.done) 0 0 in
        subst (λ (y : ℕ). y < size g) here (a.starts-below (length l) (omega (arith, ap length parts, length-append l (x ∷ p.done))))

    held-front : held_by g (x ∷ p.done) ≡ up_from (get_or low x 0) (range-count x push-below) ++ held_by g p.done
    unfolding flat_map
    held-front = ap (λ (k : List ℕ). k ++ held_by g p.done) (sym (range-numbers x push-below))

    pub push-room : end + length (held_by g starts) ≤ length list₀ → n + range-count x push-below ≤ length list
    unfolding flat_map
    push-room h =
        let count : ℕ = range-count x push-below in
        let all : held_by g starts ≡ held_by g l ++ held_by g (x ∷ p.done) =
        ap (held_by g) parts ∙ flat_map-append (λ (y : ℕ). numbers_of (range_of g.ranges y)) l (x ∷ p.done) in
        omega (
          arith,
          p.size,
          p.pushed.count,
          ap length all,
          length-append (held_by g l) (held_by g (x ∷ p.done)),
          ap length held-front,
          length-append (up_from (get_or low x 0) count) (held_by g p.done),
          length-up_from (get_or low x 0) count,
        )

    pub push-turn : {list' : List ℕ} {n' : ℕ} → Pushed (up_from (get_or low x 0) (range-count x push-below)) list n list' n' → length list' ≡ length list
        → Pushing (held_by g) starts l list₀ end list' n'
    push-turn q e = pushing-more (held_by g) p (up_from (get_or low x 0) (range-count x push-below)) last held-front q e

  -- Counting the ranges of the starts from i on: none behind the last, and else one more than from i + 1 on.
  pub held_none : (i : ℕ) → length starts ≤ i → length (held_by g (drop i starts)) ≡ 0
  unfolding flat_map
  held_none i h = ap (λ (l : List ℕ). length (held_by g l)) (drop_of_length-le starts h)

  pub held_more : (i : ℕ) (some : i < length starts) → length (held_by g (drop i starts))
      ≡ range-count (get_or starts i 0) (a.starts-below i some) + length (held_by g (drop (i + 1) starts))
  unfolding flat_map
  held_more i some =
      rw (add-one, drop-cons starts i 0 some, length-append, range-length (get_or starts i 0) (a.starts-below i some))

-- The first list: the injected numbers, then the ranges before them, then the starts before these.
module _ {g : Group} {low high starts : List ℕ} {uninjected count : ℕ} (a : ListableOn g low high starts uninjected count) where
  abbrev injected : List ℕ
  injected = up_from uninjected (count - uninjected)

  first-parts : first_list g ≡ starts ++ (held_by g starts ++ injected)
  unfolding first_list
  first-parts =
      ap (λ (l : List ℕ). starts_of g ++ (held_by g (starts_of g) ++ l)) a.injected-behind
      ∙ sym (ap (λ (l : List ℕ). l ++ (held_by g l ++ injected)) a.starts-shown)

  pub parts-length : length (first_list g) ≡ length starts + (count - uninjected) + length (held_by g starts)
  parts-length =
      omega (
        arith,
        ap length first-parts,
        length-append starts (held_by g starts ++ injected),
        length-append (held_by g starts) injected,
        length-up_from uninjected (count - uninjected),
      )

  pub first-listed : {list list' list'' list''' : List ℕ} {n n' end : ℕ} → Pushed injected list 0 list' n → Pushed (held_by g starts) list' n list'' n'
      → Pushed starts list'' n' list''' end → FirstListed g list list''' end
  unfolding stack
  first-listed {list} {list''' = list'''} {end = end} p q r =
      let whole : Pushed (starts ++ (held_by g starts ++ injected)) list 0 list''' end = pushed_more (pushed_more p q) r in
      record {
        shown = whole.shown ∙ append-nil (starts ++ (held_by g starts ++ injected)) ∙ sym first-parts;
        count = omega (arith, whole.count, ap length first-parts);
        rest = whole.rest;
      }

-- The same of a split, whose starts stand in front of its array.
module _ {g : Group} {s : Split} (a : Listable g s) where
  pub starts-length : length (starts_on s) ≡ s.modules
  starts-length = length-take-le s.modules s.starts (omega (arith, s.sizes, s.counts))

  pub start-below : (i : ℕ) → i < length (starts_on s) → get_or (starts_on s) i 0 < size g
  start-below i h =
      let k : i < s.modules = omega (arith, starts-length) in
      subst (λ (x : ℕ). x < size g) (sym (get_or-take s.modules s.starts i 0 k)) (a.starts-below i k)

  pub listable-on : ListableOn g s.low s.high (starts_on s) s.uninjected s.count
  listable-on =
      record {
        within = record { ranges-shown = a.ranges-shown; starts-below = start-below };
        starts-shown = a.starts-shown;
        injected-behind = a.injected-behind;
        most = omega (arith, s.counts);
      }

  pub first-length : length (first_list g) ≡ s.modules + (s.count - s.uninjected) + length (held_by g (starts_on s))
  first-length = omega (arith, parts-length listable-on, starts-length)
