-- Laws of item rows: of positions, of rows of 2 bytes, and of the rows along a module's chain. Assumes nothing.
use Prim.Native.Nat.{ℕ, zero, suc, ◌+◌, ◌*◌, ◌/◌, ◌≤◌, ◌<◌}
use Rattle.std.specs.Prelude.{◌≡◌, refl, Bool, true, false, not, ◌&&◌, List, [], ◌∷◌, eqb, length, get_or}
use Rattle.std.proofs.Common.{arith, sym, ap, subst, ◌∙◌}
use Rattle.std.proofs.Math.Bool.{beq}
use Rattle.rules.specs.Lists.{cons_if, keep, positions_from}
use Rattle.rules.specs.Project.{Item, Project, module_limit, item_row, pair_rows}
use Rattle.rules.specs.Items.{is_kept, is_injected, no_item, item_at, kind_at, kept_rows, kept_rows_of, uninjected_rows, injected_rows}
use Rattle.laws.specs.Counting.{Below}
use Rattle.laws.specs.Orders.{positions-∈}
use Rattle.project.specs.RowLaws.{pairs-length}
use Rattle.split.specs.declared.rows.ItemRows.{ItemRows}
use Rattle.split.specs.Rows.{module_rows, RowsShown, RowsOf, RowsAmong, kept_as, rows_as}

-- Positions: of entries that pass equal tests, and of those that pass two.
keep-cons_if : (test : ℕ → Bool) (b : Bool) (n : ℕ) (l : List ℕ) → keep test (cons_if b n l) ≡ cons_if (b && test n) n (keep test l)
unfolding keep cons_if
keep-cons_if test true n l = refl
keep-cons_if test false n l = refl

module _ {A : Type 0} where
  pub positions-same : (f g : A → Bool) → ((x : A) → f x ≡ g x) → (n : ℕ) (l : List A) → positions_from n f l ≡ positions_from n g l
  unfolding positions_from
  positions-same f g e n [] = refl
  positions-same f g e n (x ∷ l) = rw (e x, positions-same f g e (suc n) l)

  keep-positions : (first second : A → Bool) (d : A) (test : ℕ → Bool) (n : ℕ) (l : List A) → ((i x : ℕ) → x ≡ n + i → test x ≡ second (get_or l i d))
      → keep test (positions_from n first l) ≡ positions_from n (λ x. first x && second x) l
  unfolding positions_from keep
  keep-positions first second d test n [] h = refl
  keep-positions first second d test n (x ∷ l) h =
      keep-cons_if test (first x) n (positions_from (suc n) first l)
      ∙ rw (h 0 n (omega arith), keep-positions first second d test (suc n) l (λ i y e. h (suc i) y (omega arith)))

  pub keep-rows : (first second : A → Bool) (d : A) (test : ℕ → Bool) (l : List A) → ((i : ℕ) → test i ≡ second (get_or l i d))
      → keep test (positions_from 0 first l) ≡ positions_from 0 (λ x. first x && second x) l
  keep-rows first second d test l h = keep-positions first second d test 0 l (λ i x e. let q : x ≡ i = omega arith in ap test q ∙ h i)

-- Rows of 2 bytes: row i is at byte 2 * i.
pub pair-at : {A : Type 0} (row : ℕ → ℕ → A) (d : A) (l : List ℕ) (i : ℕ) → i < length (pair_rows row l)
    → get_or (pair_rows row l) i d ≡ row (get_or l (2 * i) 0) (get_or l (2 * i + 1) 0)
unfolding pair_rows
pair-at row d [] i h = absurd (omega arith)
pair-at row d (a ∷ []) i h = absurd (omega arith)
pair-at row d (a ∷ b ∷ l) zero h = refl
pair-at row d (a ∷ b ∷ l) (suc i) h =
    let e : 2 * suc i ≡ suc (suc (2 * i)) = omega arith in
    let f : 2 * suc i + 1 ≡ suc (suc (2 * i + 1)) = omega arith in
    let whole : List ℕ = a ∷ b ∷ l in
    pair-at row d l i (omega arith)
    ∙ sym (ap (λ (k : ℕ). row (get_or whole (2 * suc i) 0) (get_or whole k 0)) f ∙ ap (λ (k : ℕ). row (get_or whole k 0) (get_or l (2 * i + 1) 0)) e)

swap-first : (a b c : Bool) → ((a && b) && c) ≡ (b && (a && c))
swap-first true true c = refl
swap-first true false c = refl
swap-first false true c = refl
swap-first false false c = refl

-- The kept rows of a module, injected or not, are those among all rows of the module.
module _ (p : Project) (m : ℕ) where
  abbrev of_module : Item → Bool
  of_module i = eqb i.in_module m

  pub kept_rows_of-positions : kept_rows_of p m ≡ positions_from 0 (λ (i : Item). is_kept i.kind && of_module i) p.items
  unfolding kept_rows_of kept_rows item_at
  kept_rows_of-positions = keep-rows (λ (i : Item). is_kept i.kind) of_module no_item (λ row. eqb (item_at p row).in_module m) p.items (λ i. refl)

  -- a test on the kinds of kept rows
  kept-positions : (test : ℕ → Bool)
      → keep (λ row. test (kind_at p row)) (kept_rows_of p m) ≡ positions_from 0 (λ (i : Item). of_module i && (is_kept i.kind && test i.kind)) p.items
  unfolding kind_at item_at
  kept-positions test =
      rw kept_rows_of-positions
      (keep-rows (λ (i : Item). is_kept i.kind && of_module i) (λ (i : Item). test i.kind) no_item (λ row. test (kind_at p row)) p.items (λ i. refl)
      ∙ positions-same _ _ (λ (i : Item). swap-first (is_kept i.kind) (of_module i) (test i.kind)) 0 p.items)

  rows_as-positions : (injected : Bool) → rows_as injected p m ≡ positions_from 0 (λ (i : Item). of_module i && kept_as injected i.kind) p.items
  unfolding rows_as kept_as uninjected_rows injected_rows
  rows_as-positions true = kept-positions is_injected
  rows_as-positions false = kept-positions (λ kind. not (is_injected kind))

  pub rows-kept : (injected : Bool) {rows : List ℕ} → rows ≡ positions_from 0 of_module p.items
      → keep (λ row. kept_as injected (kind_at p row)) rows ≡ rows_as injected p m
  unfolding kind_at item_at
  rows-kept injected e =
      rw e
      (keep-rows of_module (λ (i : Item). kept_as injected i.kind) no_item (λ row. kept_as injected (kind_at p row)) p.items (λ i. refl)
      ∙ sym (rows_as-positions injected))

-- The code's test of a kind.
beq-true : (b : Bool) → beq b true ≡ b
beq-true true = refl
beq-true false = refl

beq-false : (b : Bool) → beq b false ≡ not b
beq-false true = refl
beq-false false = refl

pub kept-asked : (injected : Bool) (kind : ℕ) → (is_kept kind && beq (is_injected kind) injected) ≡ kept_as injected kind
unfolding kept_as
kept-asked true kind = rw (beq-true (is_injected kind))
kept-asked false kind = rw (beq-false (is_injected kind))

-- Where the rows of all modules are shown, those of each are.
pub rows-among : {p : Project} {items : ItemRows} {modules : List ℕ} → RowsShown p items → Below module_limit modules → RowsAmong p modules items
rows-among shown below m k = record { section = shown.section; most = shown.most; along = shown.along m (below m k) }

-- The rows of a module, read from the items section.
module _ {p : Project} {m : ℕ} {items : ItemRows} (shown : RowsOf p m items) where
  pub row-count : length p.items ≡ length items.section.now / 2
  row-count = ap length shown.section ∙ pairs-length item_row items.section.now

  pub rows-below : Below (length p.items) (module_rows p m)
  rows-below x h = let r = positions-∈ (λ (i : Item). eqb i.in_module m) no_item 0 p.items h in omega (arith, r.1, r.2)

  pub kind-read : (row : ℕ) → row < length p.items → kind_at p row ≡ get_or items.section.now (2 * row + 1) 0
  unfolding kind_at item_at
  kind-read row h =
      ap (λ (l : List Item). (get_or l row no_item).kind) shown.section
      ∙ ap (λ (i : Item). i.kind) (pair-at item_row no_item items.section.now row (subst (λ (l : List Item). row < length l) shown.section h))

  pub row-room : (row : ℕ) → row < length p.items → 2 * row + 2 ≤ length items.section.now
  row-room row h = omega (arith, row-count)
