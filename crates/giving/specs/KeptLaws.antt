-- Laws of the kept rows along a module's chain. Assumes nothing.
use Prim.Native.Nat.{ℕ, ◌+◌, ◌≤◌, ◌<◌}
use Rattle.std.proofs.Common.{add-one, sym, ap, ◌∙◌, drop_of_length-le, drop-cons}
use Rattle.std.specs.Prelude.{◌≡◌, refl, Bool, true, false, ◌&&◌, eqb, length, get_or, drop, set}
use mathlib.Core.List.Memᴰ
use mathlib.Core.List.{List, [], ◌∷◌, ◌++◌, flat_map}
use Rattle.rules.specs.Lists.{cons_if, keep}
use Rattle.rules.specs.Project.{Item, Project}
use Rattle.rules.specs.Items.{is_kept, no_item, item_at, kind_at, kept_rows_of, given_rows}
use Rattle.laws.specs.Lists.{∈-self}
use Rattle.laws.specs.Counting.{Below}
use Rattle.split.specs.declared.rows.ItemRows.{ItemRows}
use Rattle.split.specs.Rows.{module_rows, RowsOf}
use Rattle.split.specs.RowLaws.{rows-below, keep-rows, positions-same, kept_rows_of-positions}
use Rattle.split.specs.Stored.{Stored}
use Rattle.split.specs.StoreLaws.{Storing, storing-start, storing-as, storing-room, storing-one, storing-end}

pub swap_and : (a b : Bool) → (a && b) ≡ (b && a)
swap_and true true = refl
swap_and true false = refl
swap_and false true = refl
swap_and false false = refl

-- the kept ones of some rows
abbrev pub kept_among : Project → List ℕ → List ℕ
kept_among p rows = keep (λ row. is_kept (kind_at p row)) rows

kept-all : (p : Project) (m : ℕ) → kept_among p (module_rows p m) ≡ kept_rows_of p m
unfolding kind_at item_at
kept-all p m =
    keep-rows (λ (i : Item). eqb i.in_module m) (λ (i : Item). is_kept i.kind) no_item (λ row. is_kept (kind_at p row)) p.items (λ i. refl)
    ∙ positions-same _ _ (λ (i : Item). swap_and (eqb i.in_module m) (is_kept i.kind)) 0 p.items
    ∙ sym (kept_rows_of-positions p m)

-- In the midst of writing the kept rows of a module: with those of the rows left stored from n on the array is as it is to be.
pub record Writing (p : Project) (m : ℕ) (start : ℕ) (before left now : List ℕ) (n : ℕ) : Type 0 where
  pub within : Below (length p.items) left
  pub rows : Storing (kept_rows_of p m) start before (kept_among p left) now n

module _ (p : Project) (m start : ℕ) (before : List ℕ) where
  pub writing-start : {items : ItemRows} → RowsOf p m items → Writing p m start before (module_rows p m) before start
  writing-start shown =
      record {
        within = rows-below shown;
        rows = storing-as (storing-start (kept_rows_of p m) start before) (sym (kept-all p m));
      }

  module _ {left now : List ℕ} {n : ℕ} (a : Writing p m start before left now n) where
    module _ (row : ℕ) (rest : List ℕ) (first : left ≡ row ∷ rest) where
      kept-one : is_kept (kind_at p row) ≡ true → kept_among p left ≡ row ∷ kept_among p rest
      unfolding keep cons_if
      kept-one t = rw (first, keep, t)

      kept-past : is_kept (kind_at p row) ≡ false → kept_among p left ≡ kept_among p rest
      unfolding keep cons_if
      kept-past t = rw (first, keep, t)

      pub writing-below : row < length p.items
      writing-below = a.within row (rw first ∈-self)

      within-rest : Below (length p.items) rest
      within-rest x h = a.within x (rw first (Memᴰ.tail h))

      pub writing-room : is_kept (kind_at p row) ≡ true → start + length (kept_rows_of p m) ≤ length before → n < length now
      writing-room t h = storing-room a.rows (kept-one t) h

      pub writing-one : is_kept (kind_at p row) ≡ true → Writing p m start before rest (set now n row) (n + 1)
      writing-one t = record { within = within-rest; rows = storing-one a.rows (kept-one t) }

      pub writing-past : is_kept (kind_at p row) ≡ false → Writing p m start before rest now n
      writing-past t = record { within = within-rest; rows = storing-as a.rows (kept-past t) }

    pub writing-end : left ≡ [] → Stored (kept_rows_of p m) start before now n
    unfolding keep
    writing-end e = storing-end a.rows (ap (kept_among p) e)

-- The rows that modules give, module by module.
module _ (p : Project) (modules : List ℕ) where
  pub given-step : (i : ℕ) → i < length modules → given_rows p (drop i modules) ≡ kept_rows_of p (get_or modules i 0) ++ given_rows p (drop (i + 1) modules)
  unfolding given_rows flat_map
  given-step i h = rw (add-one) (ap (flat_map (kept_rows_of p)) (drop-cons modules i 0 h))

  pub given-end : (i : ℕ) → length modules ≤ i → given_rows p (drop i modules) ≡ []
  unfolding given_rows flat_map
  given-end i h = ap (flat_map (kept_rows_of p)) (drop_of_length-le modules h)
