-- Sums over a list, with the laws on lists that go with them, and the imports of a project as such a sum: those of all modules together are at
-- most the different rows. Assumes nothing.
use Rattle.std.specs.Prelude.{ℕ, suc, ◌+◌, ◌≤◌, ◌≡◌, refl, true, not, eqb, length}
use Rattle.std.proofs.Common.{arith, sym, ap, ◌∙◌, ⊎_elim, length-append, eqb-true}
use Rattle.std.proofs.Math.Path.{subst⁻¹}
use mathlib.Core.List.Memᴰ
use mathlib.Core.List.{List, [], ◌∷◌, map, flat_map}
use Rattle.std.proofs.lemmas.List.{length-map}
use Rattle.rules.specs.Lists.{keep, any, elem, up_from}
use Rattle.rules.specs.Project.{Import, Project, import_row}
use Rattle.rules.specs.Modules.{imports_of, same_import, count_different, import_count}
use Rattle.laws.specs.Lists.{◌∈◌, Tested, holds, fails, tested, both, not-true, true-elem, elem-false, false-elem, keep-∈, ∈-keep, any-true, Once, once-up_from, once-length, total, once-total, total-keep}
use Rattle.laws.specs.Counting.{flat_map-∈}
use Rattle.laws.specs.Orders.{once-map, once-flat_map}
use Rattle.laws.specs.ModuleVisit.{imports_of-∈, once-imports}

-- The entries of a list that `l` does not hold.
unfoldable pub except : List ℕ → List ℕ → List ℕ
except l k = keep (λ x. not (elem x l)) k

pub except-∈ : (l k : List ℕ) {x : ℕ} → x ∈ except l k → (x ∈ k) × (x ∈ l → ⊥)
unfolding except
except-∈ l k m = let r = keep-∈ (λ x. not (elem x l)) k m in (r.0, elem-false (not-true r.1))

pub ∈-except : (l : List ℕ) {k : List ℕ} {x : ℕ} → x ∈ k → (x ∈ l → ⊥) → x ∈ except l k
unfolding except
∈-except l m f = ∈-keep (λ x. not (elem x l)) m (ap not (false-elem l f))

pub total-except : (f : ℕ → ℕ) {l : List ℕ} (k : List ℕ) → Once l → ((x : ℕ) → x ∈ l → x ∈ k) → total f l + total f (except l k) ≤ total f k
unfolding except
total-except f {l} k o h =
    omega (
      arith,
      once-total f (keep (λ x. elem x l) k) o (λ x m. ∈-keep (λ x. elem x l) (h x m) (true-elem m)),
      total-keep f (λ x. elem x l) k,
    )

pub flat_map-total : {A B : Type 0} (f : A → List B) (l : List A) → length (flat_map f l) ≡ total (λ x. length (f x)) l
unfolding flat_map total
flat_map-total f [] = refl
flat_map-total f (x ∷ l) = omega (arith, length-append (f x) (flat_map f l), flat_map-total f l)

-- The rows of all modules.
same-import : (i j : Import) → same_import i j ≡ true → i ≡ j
unfolding same_import
same-import i j e =
    let r = both {a = eqb i.importer j.importer} e in
    λ k. record { importer = eqb-true i.importer j.importer r.0 k; imported = eqb-true i.imported j.imported r.1 k }

-- The different rows: as many as `count_different` counts, and every row is one of them.
different-rows : (rows : List Import) → (k : List Import) × (length k ≡ count_different rows) × ((i : Import) → i ∈ rows → i ∈ k)
unfolding count_different
different-rows [] = ([], refl, λ i m. m)
different-rows (i ∷ rows) = go (tested (any (same_import i) rows)) (different-rows rows)
  where
    go : Tested (any (same_import i) rows) → (k : List Import) × (length k ≡ count_different rows) × ((j : Import) → j ∈ rows → j ∈ k)
        → (k : List Import) × (length k ≡ count_different (i ∷ rows)) × ((j : Import) → j ∈ i ∷ rows → j ∈ k)
    go (holds e) r =
        let s = any-true (same_import i) rows e in
        let m : i ∈ rows = subst⁻¹ (λ (j : Import). j ∈ rows) (same-import i s.0 s.2) s.1 in
        (r.0, rw (e, count_different) r.1, λ j h. r.2 j (⊎_elim (λ q. subst⁻¹ (λ (k : Import). k ∈ rows) q m) (λ t. t) (Memᴰ.cases_cons h)))
    go (fails e) r =
        (i ∷ r.0, rw (e, count_different) (ap suc r.1), λ j h. ⊎_elim (λ q. Memᴰ.head q) (λ t. Memᴰ.tail (r.2 j t)) (Memᴰ.cases_cons h))

-- They are at most as many as the rows, and at least as many as the imports of all modules together.
pub count_most : (rows : List Import) → count_different rows ≤ length rows
unfolding count_different
count_most [] = omega arith
count_most (i ∷ rows) = go (tested (any (same_import i) rows)) (count_most rows)
  where
    go : Tested (any (same_import i) rows) → count_different rows ≤ length rows → count_different (i ∷ rows) ≤ suc (length rows)
    go (holds e) h = rw (e, count_different) (omega arith)
    go (fails e) h = rw (e, count_different) (omega arith)

abbrev rows_of : Project → ℕ → List Import
rows_of p m = map (import_row m) (imports_of p m)

pub imports-counted : (p : Project) (bound : ℕ) → total (λ m. length (imports_of p m)) (up_from 0 bound) ≤ import_count p
unfolding import_count
imports-counted p bound =
    let r = different-rows p.imports in
    let once : Once (flat_map (rows_of p) (up_from 0 bound)) = once-flat_map (rows_of p) once-rows apart (once-up_from 0 bound) in
    omega (arith, simp length-map at (flat_map-total (rows_of p) (up_from 0 bound)), once-length r.0 once (λ i h. r.2 i (row h)))
  where
    once-rows : (m : ℕ) → Once (rows_of p m)
    once-rows m = once-map (import_row m) (λ x y h k e. ap (λ (i : Import). i.imported) e) (once-imports p m)

    apart : (m n : ℕ) (i : Import) → i ∈ rows_of p m → i ∈ rows_of p n → m ≡ n
    apart m n i h k =
        ap (λ (j : Import). j.importer) ((Memᴰ.of_map (import_row m) (imports_of p m) h).2 ∙ sym (Memᴰ.of_map (import_row n) (imports_of p n) k).2)

    row : {i : Import} → i ∈ flat_map (rows_of p) (up_from 0 bound) → i ∈ p.imports
    row h =
        let r = flat_map-∈ (rows_of p) (up_from 0 bound) h in
        let s = Memᴰ.of_map (import_row r.0) (imports_of p r.0) r.2 in
        rw s.2 at (imports_of-∈ p s.1)
