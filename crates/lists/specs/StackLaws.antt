-- Laws of lists on arrays. Assumes nothing.
use Rattle.std.specs.Prelude.{ℕ, zero, suc, ◌+◌, ◌-◌, ◌≤◌, ◌<◌, ◌≡◌, refl, get_or, take, drop, set}
use Rattle.std.proofs.Common.{arith, add-one, ap, subst, ◌∙◌, length-append, length-take, length-set, take-append-drop, take-suc, take_at, drop-cons, drop-set-lt, get_or-set_same, get_or-set_other, lt-length-set}
use Rattle.std.proofs.Math.Nat.{sub-zero}
use Rattle.std.proofs.Math.Path.{sym}
use mathlib.Core.List.{List, [], ◌∷◌, ◌++◌, reverse, reverse-cons, reverse-append, reverse-reverse, append_assoc}
use Rattle.std.proofs.Math.ListN.{length}
use Rattle.std.proofs.lemmas.List.{length-reverse, take-set-le}
use Rattle.std.proofs.Math.Seq.{append_snoc}
use Rattle.lists.specs.Stacks.{stack, placed_below, Placeable, Placed}

pub stack-length : (a : List ℕ) (n : ℕ) → length (stack a n) ≡ n
unfolding stack
stack-length a zero = refl
stack-length a (suc n) = ap suc (stack-length a n)

-- The array's first n entries, read backwards.
pub stack-reverse : (a : List ℕ) (n : ℕ) → n ≤ length a → stack a n ≡ reverse (take n a)
unfolding stack
stack-reverse a zero h = refl
stack-reverse a (suc n) h =
    ap (λ (l : List ℕ). get_or a n 0 ∷ l) (stack-reverse a n (omega arith)) ∙ sym (ap reverse (take-suc a n 0 h) ∙ reverse-append (take n a) (get_or a n 0 ∷ []))

-- A store at or above the end leaves the list; one at the end puts an entry in front.
pub stack_above : (a : List ℕ) (n i x : ℕ) → n ≤ i → stack (set a i x) n ≡ stack a n
unfolding stack
stack_above a zero i x h = refl
stack_above a (suc n) i x h = rw (get_or-set_other a i n x 0 (λ e. omega arith), stack_above a n i x (omega arith))

pub stack_push : (a : List ℕ) (n x : ℕ) → n < length a → stack (set a n x) (n + 1) ≡ x ∷ stack a n
unfolding stack
stack_push a n x h = rw add-one (rw (get_or-set_same a n x 0 h, stack_above a n n x (omega arith)))

-- Entries placed below an index: none, one after the other, and one list after the other.
pub placed-none : (top : ℕ) (a : List ℕ) → placed_below top [] a ≡ a
unfolding placed_below
placed-none top a = rw sub-zero (take-append-drop top a)

drop-set : (a : List ℕ) (i x : ℕ) → i < length a → drop i (set a i x) ≡ x ∷ drop (suc i) a
drop-set a i x h = drop-cons (set a i x) i 0 (lt-length-set a i x h) ∙ rw (get_or-set_same a i x 0 h, drop-set-lt (suc i) a i x (omega arith))

pub placed_one : (top d : ℕ) (entries a : List ℕ) → length entries < top → top ≤ length a
    → placed_below top (d ∷ entries) a ≡ placed_below (top - 1) entries (set a (top - 1) d)
unfolding placed_below
placed_one top d entries a h g =
    let count : top - suc (length entries) ≡ top - 1 - length entries = omega arith in
    let next : suc (top - 1) ≡ top = omega arith in
    rw (count, take-set-le (top - 1 - length entries) a (top - 1) d (omega arith), drop-set a (top - 1) d (omega arith), next, reverse-cons, append_snoc)

pub length-placed : (top : ℕ) (entries a : List ℕ) → length entries ≤ top → top ≤ length a → length (placed_below top entries a) ≡ length a
length-placed top [] a h g = ap length (placed-none top a)
length-placed top (d ∷ entries) a h g =
    ap length (placed_one top d entries a h g) ∙ length-placed (top - 1) entries (set a (top - 1) d) (omega arith) (simp length-set (omega arith))
    ∙ simp length-set

pub placed-append : (top : ℕ) (s t a : List ℕ) → length s + length t ≤ top → top ≤ length a
    → placed_below top (s ++ t) a ≡ placed_below (top - length s) t (placed_below top s a)
placed-append top [] t a h g = rw (sub-zero, placed-none)
placed-append top (d ∷ s) t a h g =
    let count : top - suc (length s) ≡ top - 1 - length s = omega arith in
    let fits : length (s ++ t) < top = omega (arith, length-append s t) in
    rw (placed_one top d (s ++ t) a fits g, placed_one top d s a (omega arith) g, count)
    (placed-append (top - 1) s t (set a (top - 1) d) (omega arith) (simp length-set (omega arith)))

-- The list up to `top` is the entries in front of the list below them; what stands from `top` on stays.
module _ (top : ℕ) (entries a : List ℕ) (room : length entries ≤ top) (within : top ≤ length a) where
  split : placed_below top entries a ≡ (take (top - length entries) a ++ reverse entries) ++ drop top a
  unfolding placed_below
  split = sym (append_assoc (take (top - length entries) a) (reverse entries) (drop top a))

  split-length : length (take (top - length entries) a ++ reverse entries) ≡ top
  split-length = simp (length-append, length-take, length-reverse) (omega arith)

  pub placed-stack : stack (placed_below top entries a) top ≡ entries ++ stack a (top - length entries)
  placed-stack =
      rw (stack-reverse (placed_below top entries a) top (omega (arith, length-placed top entries a room within)), split)
      (rw (take_at (take (top - length entries) a ++ reverse entries) (drop top a) top split-length, reverse-append, reverse-reverse)
      (ap (λ (l : List ℕ). entries ++ l) (sym (stack-reverse a (top - length entries) (omega arith)))))

-- In the midst of placing: with the rest of the entries placed below `at` the array is as it is to be.
pub record Placing (top : ℕ) (entries old : List ℕ) (at : ℕ) (rest a : List ℕ) : Type 0 where
  pub size : length a ≡ length old
  pub placeable : Placeable at rest a
  pub count : at + length entries ≡ top + length rest
  pub whole : placed_below at rest a ≡ placed_below top entries old

pub placeable-front : {top : ℕ} (s t : List ℕ) {a : List ℕ} → Placeable top (s ++ t) a → Placeable top s a
placeable-front s t p = record { room = omega (arith, length-append s t); within = p.within }

module _ {top : ℕ} {entries old : List ℕ} where
  pub placing-start : Placeable top entries old → Placing top entries old top entries old
  placing-start p = record { size = refl; placeable = p; count = refl; whole = refl }

  pub placing-rest : {at : ℕ} {rest rest' a : List ℕ} → rest ≡ rest' → Placing top entries old at rest a → Placing top entries old at rest' a
  placing-rest {at} {rest} {rest'} {a} e p = subst (λ (r : List ℕ). Placing top entries old at r a) e p

  pub placing-one : {at d : ℕ} {rest a : List ℕ} → Placing top entries old at (d ∷ rest) a → Placing top entries old (at - 1) rest (set a (at - 1) d)
  placing-one {at} {d} {rest} {a} p =
      record {
        size = simp length-set p.size;
        placeable = record { room = omega arith; within = simp length-set (omega arith) };
        count = omega arith;
        whole = sym (placed_one at d rest a p.placeable.room p.placeable.within) ∙ p.whole;
      }

  pub placing-more : {at last : ℕ} {s t a b : List ℕ} → Placing top entries old at (s ++ t) a → Placed at s a b last → Placing top entries old last t b
  placing-more {at} {last} {s} {t} {a} {b} p q =
      let both : length (s ++ t) ≡ length s + length t = length-append s t in
      let left : last ≡ at - length s = omega arith in
      let size : length b ≡ length old = ap length q.whole ∙ length-placed at s a (omega arith) p.placeable.within ∙ p.size in
      record {
        size = size;
        placeable = record { room = omega arith; within = omega arith };
        count = omega arith;
        whole = rw (q.whole, left) (sym (placed-append at s t a (omega arith) p.placeable.within) ∙ p.whole);
      }

  pub placing-end : {at : ℕ} {a : List ℕ} → Placing top entries old at [] a → Placed top entries old a at
  placing-end {at} {a} p = record { whole = sym (placed-none at a) ∙ p.whole; count = omega (arith, p.count) }
