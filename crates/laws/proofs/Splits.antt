-- The rows that a group's modules give, their numbering, and the group that the walk goes by: its kinds, ranges and needs are those of the rows, and
-- it is well formed. Assumes nothing.
use Prim.Native.Nat.{ℕ, zero, suc, ◌+◌, ◌≤◌, ◌<◌}
use Rattle.std.proofs.Common.{arith, subst, ◌∙◌, inl, inr}
use Rattle.std.specs.Prelude.{◌≡◌, ◌⊎◌, Bool, true, false, ltb, leb, get_or}
use Rattle.std.proofs.Math.Path.{refl, sym, ap}
use Rattle.std.proofs.Math.Logic.{⊎_elim}
use Rattle.std.proofs.Math.Bool.{not}
use mathlib.Core.List.Memᴰ
use mathlib.Core.List.{List, [], ◌∷◌, ◌++◌, append_assoc, flat_map, reverse}
use Rattle.std.proofs.Math.Dec.{eqb}
use Rattle.std.proofs.Math.ListN.{length, length-append, length-map, get_or-append}
use borrow.Author.Tests.{eqb-true, eqb-false, eq-eqb, ne_eqb, ltb-true, ltb-false, leb-true, lt-ltb, le-leb}
use Rattle.rules.specs.Lists.{is_empty, elem, keep}
use Rattle.rules.specs.Project.{Item, Need, Project}
use Rattle.rules.specs.Modules.{is_done}
use Rattle.rules.specs.Paths.{DependsOn, ReachesItem}
use Rattle.rules.specs.Items.{is_kept, is_injected, item_at, kind_at, no_item, kept_rows, kept_rows_of, giving_modules, given_rows, uninjected_rows, injected_rows, numbering, Range, ranges_from, in_range, numbers_of, range_of, number_of, is_among, numbered, Group, group_of, kind_of, same_range}
use Rattle.laws.specs.Lists.{◌∈◌, false≢true, both, not-true, Tested, holds, fails, tested, ∈-append, ∈-left, ∈-right, ∈-self, keep-∈, ∈-keep, Once, none, next, once-append, once-keep, once-reverse, elem-true, true-elem, up_from-∈, ∈-up_from, length_without, length-parts}
use Rattle.laws.specs.Orders.{not-fails, and-true, once-flat_map, get_or-∈, get_or-middle, get_or-behind, get_d_map, positions-∈, ∈-positions, once-positions}
use Rattle.laws.specs.Counting.{is_empty_false, flat_map-∈, ∈-flat_map, Below, below_length}
use Rattle.laws.specs.Splits.{WellFormed, Giving}
use Rattle.laws.specs.Terms.{Kept, module_of}
use Rattle.laws.specs.PathLaws.{reaches-map}

module _ (p : Project) where
  -- The kept rows are the rows of the items whose kind is not 5, each once.
  pub kept_rows-∈ : {row : ℕ} → row ∈ kept_rows p → Kept p row
  unfolding kept_rows kind_at item_at is_kept
  kept_rows-∈ {row} m =
      let r = positions-∈ (λ (i : Item). is_kept i.kind) no_item 0 p.items m in
      let e : row ≡ r.0 = omega (arith, r.1) in
      record { item = omega (arith, r.2); kept = rw e (eqb-false (kind_at p r.0) 5 (not-true r.3)) }

  pub ∈-kept_rows : {row : ℕ} → Kept p row → row ∈ kept_rows p
  unfolding kept_rows kind_at item_at is_kept
  ∈-kept_rows {row} k =
      ∈-positions (λ (i : Item). is_kept i.kind) no_item 0 p.items row (omega arith) k.item (not-fails (ne_eqb (kind_at p row) 5 k.kept))

  pub once-kept_rows : Once (kept_rows p)
  unfolding kept_rows
  once-kept_rows = once-positions (λ (i : Item). is_kept i.kind) 0 p.items

  -- The kept rows of a module.
  pub kept_rows_of-∈ : (m : ℕ) {row : ℕ} → row ∈ kept_rows_of p m → (row ∈ kept_rows p) × (module_of p row ≡ m)
  unfolding kept_rows_of
  kept_rows_of-∈ m {row} h = let r = keep-∈ (λ row. eqb (module_of p row) m) (kept_rows p) h in (r.0, eqb-true (module_of p row) m r.1)

  pub ∈-kept_rows_of : {row : ℕ} → row ∈ kept_rows p → row ∈ kept_rows_of p (module_of p row)
  unfolding kept_rows_of
  ∈-kept_rows_of {row} h = ∈-keep (λ k. eqb (module_of p k) (module_of p row)) h (eq-eqb (module_of p row) (module_of p row) refl)

  pub once-kept_rows_of : (m : ℕ) → Once (kept_rows_of p m)
  unfolding kept_rows_of
  once-kept_rows_of m = once-keep (λ row. eqb (module_of p row) m) once-kept_rows

  one-module : {a b row : ℕ} → row ∈ kept_rows_of p a → row ∈ kept_rows_of p b → a ≡ b
  one-module {a} {b} h k = sym (kept_rows_of-∈ a h).1 ∙ (kept_rows_of-∈ b k).1

  -- The rows that modules give are the kept rows of these modules, each once.
  pub given_rows-∈ : (modules : List ℕ) {row : ℕ} → row ∈ given_rows p modules → (row ∈ kept_rows p) × (module_of p row ∈ modules)
  unfolding given_rows
  given_rows-∈ modules m =
      let r = flat_map-∈ (kept_rows_of p) modules m in
      let k = kept_rows_of-∈ r.0 r.2 in
      (k.0, Memᴰ.cast k.1 r.1)

  pub ∈-given_rows : {modules : List ℕ} {row : ℕ} → row ∈ kept_rows p → module_of p row ∈ modules → row ∈ given_rows p modules
  unfolding given_rows
  ∈-given_rows h m = ∈-flat_map (kept_rows_of p) m (∈-kept_rows_of h)

  pub once-given_rows : {modules : List ℕ} → Once modules → Once (given_rows p modules)
  unfolding given_rows
  once-given_rows o = once-flat_map (kept_rows_of p) once-kept_rows_of (λ a b row h k. one-module h k) o

  -- Of the rows that modules give, those that pass a test.
  module _ (test : ℕ → Bool) where
    abbrev rows_by : ℕ → List ℕ
    rows_by m = keep test (kept_rows_of p m)

    rows_by-∈ : (modules : List ℕ) {row : ℕ} → row ∈ flat_map rows_by modules → (row ∈ given_rows p modules) × (test row ≡ true)
    unfolding given_rows
    rows_by-∈ modules m =
        let r = flat_map-∈ rows_by modules m in
        let k = keep-∈ test (kept_rows_of p r.0) r.2 in
        (∈-flat_map (kept_rows_of p) r.1 k.0, k.1)

    ∈-rows_by : (modules : List ℕ) {row : ℕ} → row ∈ given_rows p modules → test row ≡ true → row ∈ flat_map rows_by modules
    unfolding given_rows
    ∈-rows_by modules m t = let r = flat_map-∈ (kept_rows_of p) modules m in ∈-flat_map rows_by r.1 (∈-keep test r.2 t)

    once-rows_by : {modules : List ℕ} → Once modules → Once (flat_map rows_by modules)
    once-rows_by o =
        once-flat_map rows_by (λ m. once-keep test (once-kept_rows_of m))
        (λ a b row h k. one-module (keep-∈ test (kept_rows_of p a) h).0 (keep-∈ test (kept_rows_of p b) k).0) o

  abbrev injected : ℕ → Bool
  injected row = is_injected (kind_at p row)

  abbrev uninjected : ℕ → Bool
  uninjected row = not (injected row)

  pub uninjected-∈ : (modules : List ℕ) {row : ℕ} → row ∈ flat_map (uninjected_rows p) modules → (row ∈ given_rows p modules) × (injected row ≡ false)
  unfolding uninjected_rows
  uninjected-∈ modules m = let r = rows_by-∈ uninjected modules m in (r.0, not-true r.1)

  pub injected-∈ : (modules : List ℕ) {row : ℕ} → row ∈ flat_map (injected_rows p) modules → (row ∈ given_rows p modules) × (injected row ≡ true)
  unfolding injected_rows
  injected-∈ modules m = rows_by-∈ injected modules m

  -- The rows that are numbered are those given, each once.
  pub numbering-∈ : (modules : List ℕ) {row : ℕ} → row ∈ numbering p modules → row ∈ given_rows p modules
  unfolding numbering
  numbering-∈ modules m =
      ⊎_elim (λ h. (uninjected-∈ modules h).0) (λ h. (injected-∈ modules h).0) (∈-append (flat_map (uninjected_rows p) modules) m)

  pub ∈-numbering : (modules : List ℕ) {row : ℕ} → row ∈ given_rows p modules → row ∈ numbering p modules
  unfolding numbering uninjected_rows injected_rows
  ∈-numbering modules {row} m = go (tested (injected row))
    where
      go : Tested (injected row) → row ∈ numbering p modules
      go (holds e) = ∈-right (flat_map (uninjected_rows p) modules) (∈-rows_by injected modules m e)
      go (fails e) = ∈-left (flat_map (injected_rows p) modules) (∈-rows_by uninjected modules m (not-fails e))

  pub once-numbering : {modules : List ℕ} → Once modules → Once (numbering p modules)
  unfolding numbering uninjected_rows injected_rows
  once-numbering {modules} o =
      once-append (once-rows_by uninjected o) (once-rows_by injected o)
      (λ row h k. false≢true (sym (uninjected-∈ modules h).1 ∙ (injected-∈ modules k).1))

  pub length-numbering : {modules : List ℕ} → Once modules → length (numbering p modules) ≤ length p.items
  length-numbering {modules} o =
      below_length (once-numbering o) (λ row m. (kept_rows-∈ (given_rows-∈ modules (numbering-∈ modules m)).0).item)

-- The number of a row is its place in the numbering.
number_of-here : (r : ℕ) (rows : List ℕ) (row : ℕ) → eqb r row ≡ true → number_of (r ∷ rows) row ≡ 0
unfolding number_of
number_of-here r rows row e = rw (e, number_of)

number_of-later : (r : ℕ) (rows : List ℕ) (row : ℕ) → eqb r row ≡ false → number_of (r ∷ rows) row ≡ suc (number_of rows row)
unfolding number_of
number_of-later r rows row e = rw (e, number_of)

pub get_or-number_of : {row : ℕ} (rows : List ℕ) → row ∈ rows → (number_of rows row < length rows) × (get_or rows (number_of rows row) 0 ≡ row)
get_or-number_of [] m = absurd (Memᴰ.not-nil m)
get_or-number_of {row} (r ∷ rows) m = go (tested (eqb r row)) (λ h. get_or-number_of rows h)
  where
    go : Tested (eqb r row) → (row ∈ rows → (number_of rows row < length rows) × (get_or rows (number_of rows row) 0 ≡ row))
        → (number_of (r ∷ rows) row < suc (length rows)) × (get_or (r ∷ rows) (number_of (r ∷ rows) row) 0 ≡ row)
    go (holds e) f = rw (number_of-here r rows row e) (omega arith, eqb-true r row e)
    go (fails e) f =
        rw (number_of-later r rows row e)
        (let q = f (⊎_elim (λ h. absurd (eqb-false r row e (sym h))) (λ h. h) (Memᴰ.cases_cons m)) in (omega arith, q.1))

row-numbered : {row : ℕ} (rows : List ℕ) {x : ℕ} → row ∈ rows → number_of rows row ≡ x → (x < length rows) × (row ≡ get_or rows x 0)
row-numbered rows m e = let r = get_or-number_of rows m in rw (← e) (r.0, sym r.1)

pub number_of-get_or : {rows : List ℕ} → Once rows → (x : ℕ) → x < length rows → number_of rows (get_or rows x 0) ≡ x
number_of-get_or none x h = absurd (omega arith)
number_of-get_or (next {x = r} {l = rows} n o) zero h = number_of-here r rows r (eq-eqb r r refl)
number_of-get_or (next {x = r} {l = rows} n o) (suc x) h =
    number_of-later r rows (get_or rows x 0) (ne_eqb r (get_or rows x 0) (λ e. n (Memᴰ.cast e (get_or-∈ rows x 0 (omega arith)))))
    ∙ ap suc (number_of-get_or o x (omega arith))

-- Ranges.
pub in_range-true : (x : ℕ) (r : Range) → in_range x r ≡ true → (r.start ≤ x) × (x < r.start + r.count)
unfolding in_range
in_range-true x r e = let t = both {a = leb r.start x} e in (leb-true r.start x t.0, ltb-true x (r.start + r.count) t.1)

pub true-in_range : (x : ℕ) (r : Range) → r.start ≤ x → x < r.start + r.count → in_range x r ≡ true
unfolding in_range
true-in_range x r h k = and-true (le-leb r.start x h) (lt-ltb x (r.start + r.count) k)

pub numbers_of-∈ : (r : Range) {x : ℕ} → x ∈ numbers_of r → in_range x r ≡ true
unfolding numbers_of
numbers_of-∈ r {x} m = let h = up_from-∈ r.start r.count m in true-in_range x r h.0 h.1

pub ∈-numbers_of : (r : Range) (x : ℕ) → in_range x r ≡ true → x ∈ numbers_of r
unfolding numbers_of
∈-numbers_of r x e = let h = in_range-true x r e in ∈-up_from r.start r.count h.0 h.1

-- `range_of` is a range that holds x, or none does and it holds nothing;
pub data Found (ranges : List Range) (x : ℕ) : Range → Type 0 where
  found : {r : Range} → r ∈ ranges → in_range x r ≡ true → Found ranges x r
  nowhere : {r : Range} → ((q : Range) → q ∈ ranges → in_range x q ≡ true → ⊥) → r.count ≡ 0 → Found ranges x r

pub range_of-found : (ranges : List Range) (x : ℕ) → Found ranges x (range_of ranges x)
unfolding range_of
range_of-found [] x = nowhere (λ q m. absurd (Memᴰ.not-nil m)) refl
range_of-found (r ∷ ranges) x = go (tested (in_range x r)) (range_of-found ranges x)
  where
    wider : {k : Range} → in_range x r ≡ false → Found ranges x k → Found (r ∷ ranges) x k
    wider e (found m t) = found (Memᴰ.tail m) t
    wider e (nowhere n c) =
        nowhere (λ q m t. ⊎_elim (λ h. false≢true (sym e ∙ (rw h at t))) (λ h. n q h t) (Memᴰ.cases_cons m)) c

    go : Tested (in_range x r) → Found ranges x (range_of ranges x) → Found (r ∷ ranges) x (range_of (r ∷ ranges) x)
    go (holds e) f = rw (e, range_of) (found ∈-self e)
    go (fails e) f = rw (e, range_of) (wider e f)

-- where it holds any number, it is a range that holds x
pub range_of-holds : (ranges : List Range) (x y : ℕ) → in_range y (range_of ranges x) ≡ true
    → (range_of ranges x ∈ ranges) × (in_range x (range_of ranges x) ≡ true)
range_of-holds ranges x y = go (range_of-found ranges x)
  where
    go : {r : Range} → Found ranges x r → in_range y r ≡ true → (r ∈ ranges) × (in_range x r ≡ true)
    go (found m t) e = (m, t)
    go {r} (nowhere n c) e = let h = in_range-true y r e in absurd (omega arith)

module _ (p : Project) where
  -- The ranges of modules whose runs stand behind `front`.
  abbrev pub runs : List ℕ → List ℕ
  runs modules = flat_map (uninjected_rows p) modules

  -- `Within rows r`: r holds the numbers of rows of one module
  abbrev Within : List ℕ → Range → Type 0
  Within rows r = (m : ℕ) × ((x : ℕ) → in_range x r ≡ true → (x < length rows) × (get_or rows x 0 ∈ uninjected_rows p m))

  range-within : (front modules : List ℕ) {r : Range} → r ∈ ranges_from p (length front) modules → Within (front ++ runs modules) r
  unfolding ranges_from flat_map
  range-within front [] h = absurd (Memᴰ.not-nil h)
  range-within front (m ∷ modules) {r} h = go (Memᴰ.cases_cons h) (λ k. range-within (front ++ run) modules k)
    where
      run : List ℕ
      run = uninjected_rows p m

      go : (r ≡ record { start = length front; count = length run }) ⊎ (r ∈ ranges_from p (length front + length run) modules)
          → (r ∈ ranges_from p (length (front ++ run)) modules → Within (front ++ run ++ runs modules) r)
          → Within (front ++ (run ++ runs modules)) r
      go (inl e) f = (
        m,
        λ x t.
            let k : (length front ≤ x) × (x < length front + length run) = rw e at (in_range-true x r t) in
            (simp length-append (omega arith), get_or-middle front run (runs modules) x 0 k.0 k.1),
      )
      go (inr k) f = rw append_assoc at (f (rw (sym (length-append front run)) at k))

  -- each number behind `front` is in a range
  pub in-range : (front modules : List ℕ) (x : ℕ) → length front ≤ x → x < length (front ++ runs modules)
      → (r : Range) × (r ∈ ranges_from p (length front) modules) × (in_range x r ≡ true)
  unfolding ranges_from flat_map
  in-range front [] x h k = absurd (omega (arith, simp length-append at k))
  in-range front (m ∷ modules) x h k = go (tested (ltb x (length front + length run))) (λ j. in-range (front ++ run) modules x j (rw append_assoc k))
    where
      run : List ℕ
      run = uninjected_rows p m

      first : Range
      first = record { start = length front; count = length run }

      rest : List Range
      rest = ranges_from p (length front + length run) modules

      go : Tested (ltb x (length front + length run))
          → (length (front ++ run) ≤ x → (r : Range) × (r ∈ ranges_from p (length (front ++ run)) modules) × (in_range x r ≡ true))
          → (r : Range) × (r ∈ first ∷ rest) × (in_range x r ≡ true)
      go (holds e) f = (first, ∈-self, true-in_range x first h (ltb-true x (length front + length run) e))
      go (fails e) f =
          let j : length (front ++ run) ≤ x = simp length-append (ltb-false x (length front + length run) e) in
          let r = f j in
          (r.0, Memᴰ.tail (rw length-append at r.1), r.2)

  -- a range begins where the runs do, or later
  range-from : (s : ℕ) (modules : List ℕ) {r : Range} → r ∈ ranges_from p s modules → s ≤ r.start
  unfolding ranges_from
  range-from s [] h = absurd (Memᴰ.not-nil h)
  range-from s (m ∷ modules) {r} h =
      ⊎_elim (λ e. let q : r.start ≡ s = ap (λ (z : Range). z.start) e in omega arith)
      (λ k. let q : s + length (uninjected_rows p m) ≤ r.start = range-from (s + length (uninjected_rows p m)) modules k in omega arith)
      (Memᴰ.cases_cons h)

  ranges_apart : (s : ℕ) (modules : List ℕ) {r q : Range} (x : ℕ) → r ∈ ranges_from p s modules → q ∈ ranges_from p s modules
      → in_range x r ≡ true → in_range x q ≡ true → r ≡ q
  unfolding ranges_from
  ranges_apart s [] x h k e f = absurd (Memᴰ.not-nil h)
  ranges_apart s (m ∷ modules) {r} {q} x h k e f =
      go (Memᴰ.cases_cons h) (Memᴰ.cases_cons k) (in_range-true x r e) (in_range-true x q f) (λ a b. ranges_apart next modules x a b e f)
    where
      next : ℕ
      next = s + length (uninjected_rows p m)

      first : Range
      first = record { start = s; count = length (uninjected_rows p m) }

      behind : {a b : Range} → a ≡ first → b ∈ ranges_from p next modules → x < a.start + a.count → b.start ≤ x → ⊥
      behind {a} {b} c d i j =
          let l : next ≤ b.start = range-from next modules d in
          let i : x < next = rw c at i in
          omega arith

      go : (r ≡ first) ⊎ (r ∈ ranges_from p next modules) → (q ≡ first) ⊎ (q ∈ ranges_from p next modules)
          → (r.start ≤ x) × (x < r.start + r.count) → (q.start ≤ x) × (x < q.start + q.count)
          → (r ∈ ranges_from p next modules → q ∈ ranges_from p next modules → r ≡ q) → r ≡ q
      go (inl a) (inl b) i j g = a ∙ sym b
      go (inl a) (inr b) i j g = absurd (behind a b i.1 j.0)
      go (inr a) (inl b) i j g = absurd (behind b a j.1 i.0)
      go (inr a) (inr b) i j g = g a b

  -- a module that gives a row has one that is uninjected or one that is injected
  pub gives-some : (m : ℕ) → is_empty (kept_rows_of p m) ≡ false → 0 < length (uninjected_rows p m) + length (injected_rows p m)
  unfolding uninjected_rows injected_rows
  gives-some m e = omega (arith, length-parts (injected p) (kept_rows_of p m), length_without (is_empty_false (kept_rows_of p m) e).1)

  -- where each module gives a row, the start of a range is a number
  start-below : (s : ℕ) (modules : List ℕ) {r : Range} → ((m : ℕ) → m ∈ modules → is_empty (kept_rows_of p m) ≡ false)
      → r ∈ ranges_from p s modules
      → r.start < s + length (runs modules) + length (flat_map (injected_rows p) modules)
  unfolding ranges_from flat_map
  start-below s [] g h = absurd (Memᴰ.not-nil h)
  start-below s (m ∷ modules) {r} g h =
      simp length-append
      (go (Memᴰ.cases_cons h) (λ k. start-below (s + length run) modules (λ n i. g n (Memᴰ.tail i)) k))
    where
      run : List ℕ
      run = uninjected_rows p m

      go : (r ≡ record { start = s; count = length run }) ⊎ (r ∈ ranges_from p (s + length run) modules)
          → (r ∈ ranges_from p (s + length run) modules
          → r.start < s + length run + length (runs modules) + length (flat_map (injected_rows p) modules))
          → r.start < s + (length run + length (runs modules)) + (length (injected_rows p m) + length (flat_map (injected_rows p) modules))
      go (inl e) f =
          let q : r.start ≡ s = ap (λ (z : Range). z.start) e in
          omega (arith, gives-some m (g m ∈-self))
      go (inr k) f = omega (arith, f k)

pub giving : (p : Project) (earlier : List (List ℕ)) {group : List ℕ} → Once group → Giving p (giving_modules p earlier group)
unfolding giving_modules
giving p earlier {group} o =
    record {
      once = once-keep _ (once-reverse o);
      gives = λ m h. not-true (both {a = not (is_done earlier m)} (keep-∈ _ (reverse group) h).1).1;
    }

-- the modules that give items are modules of items
pub giving-below : {p : Project} {modules : List ℕ} {bound : ℕ} → ((i : Item) → i ∈ p.items → i.in_module < bound) → Giving p modules
    → Below bound modules
unfolding item_at
giving-below {p} {bound = bound} h g m k =
    let r = is_empty_false (kept_rows_of p m) (g.gives m k) in
    let q = kept_rows_of-∈ p m r.1 in
    subst (λ (n : ℕ). n < bound) q.1 (h (item_at p r.0) (get_or-∈ p.items r.0 no_item (kept_rows-∈ p q.0).item))

-- The group of modules: its kinds and needs are those of the rows.
module _ (p : Project) (modules : List ℕ) where
  abbrev rows : List ℕ
  rows = numbering p modules

  abbrev group : Group
  group = group_of p modules

  pub length-kinds : length group.kinds ≡ length rows
  unfolding group_of
  length-kinds = length-map rows (kind_at p)

  pub kind_of-row : (x : ℕ) → x < length rows → kind_of group x ≡ kind_at p (get_or rows x 0)
  unfolding group_of kind_of
  kind_of-row x h = get_d_map (kind_at p) rows x 0 5 h

  -- The needs of the group are the numbered ones of the rows' needs.
  pub needs-from : {x y : ℕ} → DependsOn group.needs x y
      → (x < length rows) × (y < length rows) × DependsOn (keep (is_among rows) p.needs) (get_or rows x 0) (get_or rows y 0)
  unfolding group_of is_among numbered
  needs-from (k, m, e, f) =
      let r = Memᴰ.of_map (numbered rows) (keep (is_among rows) p.needs) m in
      let t = both {a = elem r.0.dependant rows} (keep-∈ (is_among rows) p.needs r.1).1 in
      let a = row-numbered rows (elem-true rows t.0) (ap (λ (n : Need). n.dependant) r.2 ∙ e) in
      let b = row-numbered rows (elem-true rows t.1) (ap (λ (n : Need). n.dependency) r.2 ∙ f) in
      (a.0, b.0, (r.0, r.1, a.1, b.1))

  pub needs-to : {n : Need} → n ∈ p.needs → n.dependant ∈ rows → n.dependency ∈ rows
      → DependsOn group.needs (number_of rows n.dependant) (number_of rows n.dependency)
  unfolding group_of numbered is_among
  needs-to m a b = (numbered rows _, Memᴰ.map (numbered rows) (∈-keep (is_among rows) m (and-true (true-elem a) (true-elem b))), refl, refl)

  pub reaches-rows : {x y : ℕ} → ReachesItem group.needs x y → ReachesItem (keep (is_among rows) p.needs) (get_or rows x 0) (get_or rows y 0)
  reaches-rows r = reaches-map (λ x. get_or rows x 0) (λ a b s. (needs-from s).2) r

  -- A range of the group holds the numbers of uninjected rows of one module, so two numbers of one range have one module.
  held_rows : {r : Range} → r ∈ group.ranges
      → (m : ℕ)
      × ((x : ℕ) → in_range x r ≡ true
      → (x < length rows) × (is_injected (kind_at p (get_or rows x 0)) ≡ false) × (module_of p (get_or rows x 0) ≡ m))
  unfolding group_of numbering uninjected_rows
  held_rows {r} h =
      let w = range-within p [] modules h in (
        w.0,
        λ x t.
            let k = w.1 x t in
            let u = keep-∈ (λ row. not (is_injected (kind_at p row))) (kept_rows_of p w.0) k.1 in
            rw (get_or-append (runs p modules) (flat_map (injected_rows p) modules) 0 x k.0)
            (simp length-append (omega arith), not-true u.1, (kept_rows_of-∈ p w.0 u.0).1),
      )

  pub same-range : (x y : ℕ) → same_range group x y ≡ true
      → (is_injected (kind_at p (get_or rows x 0)) ≡ false)
      × (is_injected (kind_at p (get_or rows y 0)) ≡ false)
      × (module_of p (get_or rows x 0) ≡ module_of p (get_or rows y 0))
  unfolding same_range
  same-range x y t =
      let q = range_of-holds group.ranges x y t in
      let h = held_rows q.0 in
      let a = h.1 x q.1 in
      let b = h.1 y t in
      (a.1, b.1, a.2 ∙ sym b.2)

  -- Each uninjected number is in a range.
  ranged-row : (x : ℕ) → x < length rows → is_injected (kind_at p (get_or rows x 0)) ≡ false
      → (r : Range) × (r ∈ group.ranges) × (in_range x r ≡ true)
  unfolding group_of numbering
  ranged-row x h e = go (tested (ltb x (length (runs p modules))))
    where
      go : Tested (ltb x (length (runs p modules))) → (r : Range) × (r ∈ group.ranges) × (in_range x r ≡ true)
      go (holds t) = in-range p [] modules x (omega arith) (ltb-true x (length (runs p modules)) t)
      go (fails t) =
          let m = get_or-behind (runs p modules) (flat_map (injected_rows p) modules) x 0 (ltb-false x (length (runs p modules)) t) h in
          absurd (false≢true (sym e ∙ (injected-∈ p modules m).1))

  -- The group of modules that give rows is well formed.
  pub well_formed : Giving p modules → WellFormed group
  unfolding group_of numbering
  well_formed g =
      record {
        ends-below = λ x y s. let r = needs-from s in (omega (arith, length-kinds, r.0), omega (arith, length-kinds, r.1));
        starts-below = λ r m. omega (arith, length-kinds, start-below p 0 modules g.gives m, length-append (runs p modules) (flat_map (injected_rows p) modules));
        holds-uninjected = λ r x m t. let h = (held_rows m).1 x t in (omega (arith, length-kinds, h.0), rw (kind_of-row x h.0) h.1);
        apart = λ r q x m n e f. ranges_apart p 0 modules x m n e f;
        ranged = λ x h e. let k : x < length rows = omega (arith, length-kinds) in ranged-row x k (rw (kind_of-row x k) at e);
      }
