-- Rows by their place in a section, for scans that go from one row to the next. Assumes nothing.
use Prim.Native.Nat.{ℕ, zero, suc, ◌+◌, ◌-◌, ◌/◌, ◌≤◌, ◌<◌}
use native.Mathlib.Omega.{arith}
use Rattle.std.specs.Prelude.{◌≡◌, Bool, true, false, not, ◌||◌, eqb, leb, length, get_or, drop}
use Rattle.std.proofs.Math.Path.{refl}
use mathlib.Core.List.{List, [], ◌∷◌}
use Rattle.std.proofs.Math.Dec.{eqb-suc-zero}
use Rattle.std.proofs.Common.{length-drop, drop_of_length-le, le-leb}
use Rattle.std.proofs.Math.Seq.{drop-cons}
use Rattle.std.proofs.lemmas.Bool.{lt-leb}
use Rattle.std.specs.List.{list_any}
use Rattle.rules.specs.Lists.{any}
use Rattle.rules.specs.Project.{need_row, pair_rows, need_rows, bad_circles}

-- the library's word and that of the paper's definitions
pub any-of : {A : Type 0} (test : A → Bool) (l : List A) → list_any test l ≡ any test l
unfolding any
any-of test [] = refl
any-of test (x ∷ l) = rw (any-of test l)

-- A test of rows, by what the first of them says.
module _ {A : Type 0} (test : A → Bool) {x : A} {l rows : List A} (first : rows ≡ x ∷ l) where
  pub any_here : test x ≡ true → any test rows ≡ true
  unfolding any
  any_here t = rw (first, t)

  pub any-past : test x ≡ false → any test rows ≡ any test l
  unfolding any
  any-past t = rw (first, any, t)

pub any_none : {A : Type 0} (test : A → Bool) {rows : List A} → rows ≡ [] → any test rows ≡ false
unfolding any
any_none test e = rw e

-- The rows of 2 bytes at byte i.
module _ {A : Type 0} (row : ℕ → ℕ → A) where
  short-pairs : (l : List ℕ) → length l ≤ 1 → pair_rows row l ≡ []
  unfolding pair_rows
  short-pairs [] h = refl
  short-pairs (a ∷ []) h = refl
  short-pairs (a ∷ b ∷ l) h = absurd (omega arith)

  pub pairs-length : (l : List ℕ) → length (pair_rows row l) ≡ length l / 2
  unfolding pair_rows
  pairs-length [] = refl
  pairs-length (a ∷ []) = refl
  pairs-length (a ∷ b ∷ l) = omega (arith, pairs-length l)

  pub pairs_none : (l : List ℕ) (i : ℕ) → length l < i + 2 → pair_rows row (drop i l) ≡ []
  pairs_none l i h = short-pairs (drop i l) (simp length-drop (omega arith))

  pub pairs_first : (l : List ℕ) (i : ℕ) → i + 2 ≤ length l
      → pair_rows row (drop i l) ≡ row (get_or l i 0) (get_or l (i + 1) 0) ∷ pair_rows row (drop (i + 2) l)
  unfolding pair_rows
  pairs_first l i h =
      let e : i + 1 ≡ suc i = omega arith in
      let f : i + 2 ≡ suc (suc i) = omega arith in
      rw (drop-cons l i 0 (omega arith), drop-cons l (suc i) 0 (omega arith), e, f)

-- The rows of 3 bytes at byte i.
short-needs : (l : List ℕ) → length l ≤ 2 → need_rows l ≡ []
unfolding need_rows
short-needs [] h = refl
short-needs (a ∷ []) h = refl
short-needs (a ∷ b ∷ []) h = refl
short-needs (a ∷ b ∷ c ∷ l) h = absurd (omega arith)

pub needs_none : (l : List ℕ) (i : ℕ) → length l < i + 3 → need_rows (drop i l) ≡ []
needs_none l i h = short-needs (drop i l) (simp length-drop (omega arith))

pub needs_first : (l : List ℕ) (i : ℕ) → i + 3 ≤ length l
    → need_rows (drop i l) ≡ need_row (get_or l i 0) (get_or l (i + 1) 0) (get_or l (i + 2) 0) ∷ need_rows (drop (i + 3) l)
unfolding need_rows
needs_first l i h =
    let e : i + 1 ≡ suc i = omega arith in
    let f : i + 2 ≡ suc (suc i) = omega arith in
    let g : i + 3 ≡ suc (suc (suc i)) = omega arith in
    rw (drop-cons l i 0 (omega arith), drop-cons l (suc i) 0 (omega arith), drop-cons l (suc (suc i)) 0 (omega arith), e, f, g)

-- The circles at byte i, where the present list still lacks `left` members.
module _ (modules : ℕ) (l : List ℕ) (i : ℕ) where
  pub circles-end : (left : ℕ) → length l ≤ i → bad_circles modules left (drop i l) ≡ not (eqb left 0)
  unfolding bad_circles
  circles-end zero h = rw (drop_of_length-le l h)
  circles-end (suc left) h = rw (drop_of_length-le l h, eqb-suc-zero left)

  pub count_at : (left : ℕ) → i < length l → left ≡ 0
      → bad_circles modules left (drop i l) ≡ bad_circles modules (get_or l i 0) (drop (i + 1) l)
  unfolding bad_circles
  count_at left h e = let f : i + 1 ≡ suc i = omega arith in rw (e, drop-cons l i 0 h, f)

  member-at : (left : ℕ) → i < length l → (left ≡ 0 → ⊥)
      → bad_circles modules left (drop i l) ≡ (leb modules (get_or l i 0) || bad_circles modules (left - 1) (drop (i + 1) l))
  unfolding bad_circles
  member-at zero h n = absurd (n refl)
  member-at (suc left) h n =
      let e : suc left - 1 ≡ left = omega arith in
      let f : i + 1 ≡ suc i = omega arith in
      rw (drop-cons l i 0 h, e, f)

  pub member-bad : (left : ℕ) → i < length l → (left ≡ 0 → ⊥) → modules ≤ get_or l i 0
      → bad_circles modules left (drop i l) ≡ true
  member-bad left h n k = rw (member-at left h n, le-leb modules (get_or l i 0) k)

  pub member-good : (left : ℕ) → i < length l → (left ≡ 0 → ⊥) → get_or l i 0 < modules
      → bad_circles modules left (drop i l) ≡ bad_circles modules (left - 1) (drop (i + 1) l)
  member-good left h n k = rw (member-at left h n, lt-leb modules (get_or l i 0) k)
