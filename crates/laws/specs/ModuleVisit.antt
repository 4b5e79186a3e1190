-- The kinds of a module visit, as a view of `visit_module`, and what the words of the module walk mean: imports, undone imports, the imports of
-- a circle that lie outside it, modules done. Assumes nothing.
use Rattle.std.specs.Prelude.{ℕ, ◌≡◌, refl, ◌⊎◌, true, false, not, List, [], ◌∷◌, ◌++◌, eqb}
use Rattle.std.proofs.Common.{ap, inl, inr, ⊎_elim, eqb-true, eq-eqb}
use mathlib.Core.List.Memᴰ
use Rattle.rules.specs.Lists.{is_empty, keep, any, elem, append_new}
use Rattle.rules.specs.Project.{Import, Project, import_row}
use Rattle.rules.specs.Modules.{imports_of, ModuleState, module_state, is_done, undone_imports, circle_of, outside_imports, with_group, visit_module}
use Rattle.laws.specs.Lists.{◌∈◌, Tested, holds, fails, tested, either, or_right, not-true, true-elem, elem-true, elem-false, false-elem, keep-∈, ∈-keep, any-true, true-any, different-∈, ∈-different, Once, once-keep, once-different}
use Rattle.laws.specs.Counting.{neither, flat_map-∈, ∈-flat_map}

-- What a visit of the front module `m` makes of the state, by its steps.
pub data Visited (p : Project) (m : ℕ) (list marks : List ℕ) (groups : List (List ℕ)) : ModuleState → Type 0 where
  -- 1, "m done"
  was-done : is_done groups m ≡ true → Visited p m list marks groups (module_state list marks groups)
  -- 2, "No undone imports"
  alone : is_done groups m ≡ false → is_empty (undone_imports p groups m) ≡ true
      → Visited p m list marks groups (module_state list [] ((m ∷ []) ∷ groups))
  -- 3, "The gathered circle, reversed, is empty"
  uncircled : is_done groups m ≡ false → is_empty (undone_imports p groups m) ≡ false → is_empty (circle_of p m) ≡ true
      → Visited p m list marks groups (module_state (undone_imports p groups m ++ (m ∷ list)) marks groups)
  -- 4, "None: the circle is a group"
  whole : is_done groups m ≡ false → is_empty (undone_imports p groups m) ≡ false → is_empty (circle_of p m) ≡ false
      → is_empty (outside_imports p groups (circle_of p m)) ≡ true
      → Visited p m list marks groups (module_state list [] (circle_of p m ∷ groups))
  -- 4, "Some, and m marked"
  gave-up : is_done groups m ≡ false → is_empty (undone_imports p groups m) ≡ false → is_empty (circle_of p m) ≡ false
      → is_empty (outside_imports p groups (circle_of p m)) ≡ false → elem m marks ≡ true
      → Visited p m list marks groups (module_state list [] (append_new (circle_of p m) (outside_imports p groups (circle_of p m)) ∷ groups))
  -- 4, "Some, and m not marked"
  marked : is_done groups m ≡ false → is_empty (undone_imports p groups m) ≡ false → is_empty (circle_of p m) ≡ false
      → is_empty (outside_imports p groups (circle_of p m)) ≡ false → elem m marks ≡ false
      → Visited p m list marks groups (module_state (outside_imports p groups (circle_of p m) ++ (m ∷ list)) (m ∷ marks) groups)

pub visited : (p : Project) (m : ℕ) (list marks : List ℕ) (groups : List (List ℕ))
    → Visited p m list marks groups (visit_module p (module_state (m ∷ list) marks groups))
unfolding visit_module with_group
visited p m list marks groups =
    go (tested (is_done groups m)) (tested (is_empty (undone_imports p groups m))) (tested (is_empty (circle_of p m)))
    (tested (is_empty (outside_imports p groups (circle_of p m)))) (tested (elem m marks))
  where
    go : Tested (is_done groups m) → Tested (is_empty (undone_imports p groups m)) → Tested (is_empty (circle_of p m))
        → Tested (is_empty (outside_imports p groups (circle_of p m))) → Tested (elem m marks)
        → Visited p m list marks groups (visit_module p (module_state (m ∷ list) marks groups))
    go (holds d) i c o k = rw (d, visit_module) (was-done d)
    go (fails d) (holds i) c o k = rw (d, visit_module, i) (alone d i)
    go (fails d) (fails i) (holds c) o k = rw (d, visit_module, i, c) (uncircled d i c)
    go (fails d) (fails i) (fails c) (holds o) k = rw (d, visit_module, i, c, o) (whole d i c o)
    go (fails d) (fails i) (fails c) (fails o) (holds k) = rw (d, visit_module, i, c, o, k) (gave-up d i c o k)
    go (fails d) (fails i) (fails c) (fails o) (fails k) = rw (d, visit_module, i, c, o, k) (marked d i c o k)

-- Modules done.
pub is_done-∈ : (groups : List (List ℕ)) {m : ℕ} → is_done groups m ≡ true → (g : List ℕ) × (g ∈ groups) × (m ∈ g)
unfolding is_done
is_done-∈ groups {m} e = let r = any-true (elem m) groups e in (r.0, r.1, elem-true r.0 r.2)

pub ∈-is_done : {groups : List (List ℕ)} {g : List ℕ} {m : ℕ} → g ∈ groups → m ∈ g → is_done groups m ≡ true
unfolding is_done
∈-is_done {m = m} h k = true-any (elem m) h (true-elem k)

-- A further group makes its members done, and no other module.
pub is_done-cons : (g : List ℕ) (groups : List (List ℕ)) {m : ℕ} → is_done (g ∷ groups) m ≡ true → (m ∈ g) ⊎ (is_done groups m ≡ true)
unfolding is_done any
is_done-cons g groups {m} e = ⊎_elim (λ h. inl (elem-true g h)) (λ h. inr h) (either {a = elem m g} e)

pub done-now : {g : List ℕ} (groups : List (List ℕ)) {m : ℕ} → m ∈ g → is_done (g ∷ groups) m ≡ true
unfolding is_done any
done-now groups k = rw (true-elem k)

pub done-still : (g : List ℕ) (groups : List (List ℕ)) (m : ℕ) → is_done groups m ≡ true → is_done (g ∷ groups) m ≡ true
unfolding is_done any
done-still g groups m e = or_right (elem m g) e

pub undone-cons : (g : List ℕ) (groups : List (List ℕ)) (m : ℕ) → is_done (g ∷ groups) m ≡ false → (m ∈ g → ⊥) × (is_done groups m ≡ false)
unfolding is_done any
undone-cons g groups m e = let r = neither {a = elem m g} e in (elem-false r.0, r.1)

-- The imports of a module are the imported ends of its rows, each once.
pub imports_of-∈ : (p : Project) {m n : ℕ} → n ∈ imports_of p m → import_row m n ∈ p.imports
unfolding imports_of
imports_of-∈ p {m} {n} h =
    let r = Memᴰ.of_map (λ (i : Import). i.imported) (keep (λ (i : Import). eqb i.importer m) p.imports) (different-∈ _ h) in
    let k = keep-∈ (λ (i : Import). eqb i.importer m) p.imports r.1 in
    let e : r.0 ≡ import_row m n = λ i. record { importer = eqb-true r.0.importer m k.1 i; imported = r.2 i } in
    rw e at k.0

pub ∈-imports_of : (p : Project) {m n : ℕ} → import_row m n ∈ p.imports → n ∈ imports_of p m
unfolding imports_of
∈-imports_of p {m} {n} h = ∈-different (Memᴰ.map (λ (i : Import). i.imported) (∈-keep (λ (i : Import). eqb i.importer m) h (eq-eqb m m refl)))

pub once-imports : (p : Project) (m : ℕ) → Once (imports_of p m)
unfolding imports_of
once-imports p m = once-different _

-- The undone imports of a module: those of its imports that are not done, each once.
pub undone_imports-∈ : (p : Project) (groups : List (List ℕ)) (m : ℕ) {d : ℕ} → d ∈ undone_imports p groups m → (d ∈ imports_of p m) × (is_done groups d ≡ false)
unfolding undone_imports
undone_imports-∈ p groups m h = let r = keep-∈ (λ d. not (is_done groups d)) (imports_of p m) h in (r.0, not-true r.1)

pub ∈-undone_imports : (p : Project) (groups : List (List ℕ)) (m : ℕ) {d : ℕ} → d ∈ imports_of p m → is_done groups d ≡ false → d ∈ undone_imports p groups m
unfolding undone_imports
∈-undone_imports p groups m h e = ∈-keep (λ d. not (is_done groups d)) h (ap not e)

pub once-undone_imports : (p : Project) (groups : List (List ℕ)) (m : ℕ) → Once (undone_imports p groups m)
unfolding undone_imports
once-undone_imports p groups m = once-keep (λ d. not (is_done groups d)) (once-imports p m)

-- "the undone imports, outside the circle, of its members"
pub outside_imports-∈ : (p : Project) (groups : List (List ℕ)) (circle : List ℕ) {d : ℕ} → d ∈ outside_imports p groups circle
    → (c : ℕ) × (c ∈ circle) × (d ∈ undone_imports p groups c) × (d ∈ circle → ⊥)
unfolding outside_imports
outside_imports-∈ p groups circle h =
    let r = flat_map-∈ (λ c. keep (λ d. not (elem d circle)) (undone_imports p groups c)) circle h in
    let k = keep-∈ (λ d. not (elem d circle)) (undone_imports p groups r.0) r.2 in
    (r.0, r.1, k.0, elem-false (not-true k.1))

pub ∈-outside_imports : (p : Project) (groups : List (List ℕ)) {circle : List ℕ} {c d : ℕ} → c ∈ circle → d ∈ undone_imports p groups c
    → (d ∈ circle → ⊥) → d ∈ outside_imports p groups circle
unfolding outside_imports
∈-outside_imports p groups {circle} {c} h u f =
    ∈-flat_map (λ c. keep (λ d. not (elem d circle)) (undone_imports p groups c)) h
    (∈-keep (λ d. not (elem d circle)) u (ap not (false-elem circle f)))
