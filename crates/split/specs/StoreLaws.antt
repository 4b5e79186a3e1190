-- Laws of loops that store entries one behind the other. Assumes nothing.
use Rattle.std.specs.Prelude.{ℕ, suc, ◌+◌, ◌-◌, ◌≤◌, ◌<◌, ◌≡◌, refl, length, get_or, take, drop, set, replicate}
use Rattle.std.proofs.Common.{arith, add-one, sym, ap, ◌∙◌, length-set, length-append, length-drop, length-take-le, drop-drop, get_or-take, append_assoc}
use Rattle.std.proofs.lemmas.List.{length-replicate}
use mathlib.Core.List.{List, [], ◌∷◌, ◌++◌}
use Rattle.std.proofs.lemmas.List.Edits.{sets, sets-eq}
use Rattle.std.proofs.Math.Seq.{length-sets, take-append_seam}
use Rattle.split.specs.Stored.{Stored}

module _ {A : Type 0} where
  -- Entries stored in two parts.
  pub sets-append : (a : List A) (n : ℕ) (s t : List A) → sets a n (s ++ t) ≡ sets (sets a n s) (n + length s) t
  sets-append a n [] t = let e : n + 0 ≡ n = omega arith in sym (ap (λ (k : ℕ). sets a k t) e)
  sets-append a n (x ∷ s) t =
      let e : n + suc (length s) ≡ suc n + length s = omega arith in
      sets-append (set a n x) (suc n) s t ∙ sym (ap (λ (k : ℕ). sets (sets a n (x ∷ s)) k t) e)

  -- What stands on an array after entries are stored from its first place on.
  pub sets-take : (l a : List A) → length l ≤ length a → take (length l) (sets a 0 l) ≡ l
  sets-take l a h = ap (take (length l)) (sets-eq l a 0 (omega arith)) ∙ take-append_seam l (drop (0 + length l) a)

  pub sets-get_or : (l a : List A) (x : ℕ) (d : A) → length l ≤ length a → x < length l → get_or (sets a 0 l) x d ≡ get_or l x d
  sets-get_or l a x d h k = sym (get_or-take (length l) (sets a 0 l) x d k) ∙ ap (λ (j : List A). get_or j x d) (sets-take l a h)

  -- In the midst of storing: with those left stored from `end` on the array is as it is to be.
  pub record Storing (entries : List A) (start : ℕ) (before rest now : List A) (end : ℕ) : Type 0 where
    pub size : length now ≡ length before
    pub same : sets now end rest ≡ sets before start entries
    pub count : end + length rest ≡ start + length entries

  pub storing-start : (entries : List A) (start : ℕ) (before : List A) → Storing entries start before entries before start
  storing-start entries start before = record { size = refl; same = refl; count = refl }

  module _ {entries : List A} {start : ℕ} {before rest now : List A} {end : ℕ} (s : Storing entries start before rest now end) where
    -- what is left, in another form
    pub storing-as : {rest' : List A} → rest ≡ rest' → Storing entries start before rest' now end
    storing-as e = rw (← e) s

    pub storing-room : {x : A} {l : List A} → rest ≡ x ∷ l → start + length entries ≤ length before → end < length now
    storing-room e h = omega (arith, ap length e, s.count, s.size)

    pub storing-one : {x : A} {l : List A} → rest ≡ x ∷ l → Storing entries start before l (set now end x) (end + 1)
    storing-one {x} {l} e =
        record {
          size = simp length-set s.size;
          same = rw add-one (sym (ap (sets now end) e) ∙ s.same);
          count = omega (arith, ap length e, s.count);
        }

    pub storing-more : (front l : List A) {now' : List A} {end' : ℕ} → rest ≡ front ++ l → Stored front end now now' end'
        → Storing entries start before l now' end'
    storing-more front l e d =
        record {
          size = ap length d.whole ∙ length-sets now end front ∙ s.size;
          same = rw (d.whole, d.count) (sym (sets-append now end front l) ∙ sym (ap (sets now end) e) ∙ s.same);
          count = omega (arith, ap length e, length-append front l, d.count, s.count);
        }

    pub storing-room-more : (front l : List A) → rest ≡ front ++ l → start + length entries ≤ length before → end + length front ≤ length now
    storing-room-more front l e h = omega (arith, ap length e, length-append front l, s.count, s.size)

    pub storing-end : rest ≡ [] → Stored entries start before now end
    storing-end e = record { whole = sym (ap (sets now end) e) ∙ s.same; count = omega (arith, ap length e, s.count) }

  -- Entries stored behind those that were.
  pub stored-behind : {entries more before now after : List A} {start n end : ℕ} → Stored entries start before now n → Stored more n now after end
      → Stored (entries ++ more) start before after end
  stored-behind {entries} {more} {before} {start = start} d e =
      record {
        whole = e.whole ∙ rw (d.whole, d.count) (sym (sets-append before start entries more));
        count = omega (arith, e.count, d.count, length-append entries more);
      }

  -- Entries stored from the front of an array on.
  module _ {entries before after : List A} {n : ℕ} (d : Stored entries 0 before after n) where
    pub stored-front : length entries ≤ length before → take n after ≡ entries
    stored-front h =
        let e : n ≡ length entries = omega (arith, d.count) in
        rw (e, d.whole) (sets-take entries before h)

-- A part of an array filled with one value.
pub part-filled : (a : List ℕ) (start end value : ℕ) → start ≤ end → end ≤ length a
    → take start a ++ (replicate (length (take (end - start) (drop start a))) value ++ drop (end - start) (drop start a)) ≡ sets a start (replicate (end - start) value)
part-filled a start end value h k =
    let count : ℕ = end - start in
    let room : count ≤ length (drop start a) = omega (arith, length-drop start a) in
    let size : length (replicate count value) ≡ count = length-replicate count value in
    ap (λ (n : ℕ). take start a ++ (replicate n value ++ drop count (drop start a))) (length-take-le count (drop start a) room)
    ∙ ap (λ (l : List ℕ). take start a ++ (replicate count value ++ l)) (drop-drop count start a ∙ ap (λ (n : ℕ). drop (start + n) a) (sym size))
    ∙ sym (append_assoc (take start a) (replicate count value) (drop (start + length (replicate count value)) a))
    ∙ sym (sets-eq (replicate count value) a start (omega (arith, size)))
