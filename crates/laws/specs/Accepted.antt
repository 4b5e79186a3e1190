-- What `read` guarantees of a project that it accepts, in one record: the limits, and the rows' numbers within their bounds. Assumes nothing.
use Rattle.std.specs.Prelude.{ℕ, zero, suc, ◌*◌, ◌≤◌, ◌<◌, ◌≡◌, refl, Bool, true, false, cond, List, [], ◌∷◌, leb, length}
use Rattle.std.proofs.Common.{arith, sym, length-take, ltb-false, leb-false}
use mathlib.Core.List.Memᴰ
use Rattle.std.proofs.lemmas.Bool.{eqb-false}
use Rattle.rules.specs.Lists.{any}
use Rattle.rules.specs.Project.{Item, Import, Need, Project, Reading, refused, accepted, module_limit, item_limit, import_limit, circle_bytes_limit, need_limit, need_bytes, byte_at, length_of, section, item_row, import_row, pair_rows, need_rows, join_first, lists_from, circle_lists, stub, foreign, misplaced, ragged, outsize, bad_item, bad_import, bad_circles, bad_need, project_of, read}
use Rattle.laws.specs.Lists.{◌∈◌, ∈-self, false≢true}
use Rattle.laws.specs.Counting.{neither, none_passes, EachBelow, below-nil, below-cons, each-cons, tail-∈}

pub record ItemRow (modules : ℕ) (i : Item) : Type 0 where
  pub module-below : i.in_module < modules

pub record ImportRow (modules : ℕ) (i : Import) : Type 0 where
  pub importer-below : i.importer < modules
  pub imported-below : i.imported < modules
  pub ends-differ : i.importer ≡ i.imported → ⊥

pub record NeedRow (items : ℕ) (n : Need) : Type 0 where
  pub dependant-below : n.dependant < items
  pub dependency-below : n.dependency < items

-- "an accepted project is one that none of 1 to 9 turns down"
pub record Accepted (p : Project) : Type 0 where
  pub modules-least : 1 ≤ p.modules
  pub modules-most : p.modules ≤ module_limit
  pub entry-below : p.entry < p.modules
  pub items-most : length p.items ≤ item_limit
  pub imports-most : length p.imports ≤ import_limit
  pub needs-most : length p.needs ≤ need_limit
  pub item-rows : (i : Item) → i ∈ p.items → ItemRow p.modules i
  pub import-rows : (i : Import) → i ∈ p.imports → ImportRow p.modules i
  pub circles-below : EachBelow p.modules p.circles
  pub need-rows : (n : Need) → n ∈ p.needs → NeedRow (length p.items) n

-- The number of rows, by the bytes of their section.
pair-count : {A : Type 0} (row : ℕ → ℕ → A) (l : List ℕ) → 2 * length (pair_rows row l) ≤ length l
unfolding pair_rows
pair-count row [] = omega arith
pair-count row (a ∷ []) = omega arith
pair-count row (a ∷ b ∷ l) = omega (arith, pair-count row l)

need-count : (l : List ℕ) → need_bytes * length (need_rows l) ≤ length l
unfolding need_rows
need-count [] = omega arith
need-count (a ∷ []) = omega arith
need-count (a ∷ b ∷ []) = omega arith
need-count (a ∷ b ∷ c ∷ l) = omega (arith, need-count l)

section-length : (bytes : List ℕ) (s : ℕ) → length (section bytes s) ≤ length_of bytes s
unfolding section
section-length bytes s = simp length-take (omega arith)

-- The members of the lists that pass test 8.
join-below : {bound m : ℕ} (ls : List (List ℕ)) → m < bound → EachBelow bound ls → EachBelow bound (join_first m ls)
unfolding join_first
join-below [] h b = b
join-below (l ∷ ls) h b = each-cons (below-cons h (b l ∈-self)) (λ k m. b k (Memᴰ.tail m))

lists-below : (bound left : ℕ) (bytes : List ℕ) → bad_circles bound left bytes ≡ false → EachBelow bound (lists_from left bytes)
unfolding bad_circles lists_from
lists-below bound zero [] e = each-cons below-nil (λ l m. absurd (Memᴰ.not-nil m))
lists-below bound zero (n ∷ bytes) e = each-cons below-nil (lists-below bound n bytes e)
lists-below bound (suc left) [] e = absurd (false≢true (sym e))
lists-below bound (suc left) (m ∷ bytes) e =
    let r = neither {a = leb bound m} e in
    join-below (lists_from left bytes) (leb-false bound m r.0) (lists-below bound left bytes r.1)

circles-within : (bound : ℕ) (bytes : List ℕ) → bad_circles bound 0 bytes ≡ false → EachBelow bound (circle_lists bytes)
unfolding circle_lists
circles-within bound bytes e l m = lists-below bound 0 bytes e l (tail-∈ (lists_from 0 bytes) m)

-- The tests of the rows.
good-item : (modules : ℕ) (i : Item) → bad_item modules i ≡ false → ItemRow modules i
unfolding bad_item
good-item modules i e =
    let r = neither e in
    record { module-below = leb-false modules i.in_module r.0 }

good-import : (modules : ℕ) (i : Import) → bad_import modules i ≡ false → ImportRow modules i
unfolding bad_import
good-import modules i e =
    let r = neither e in
    let q = neither r.0 in
    record {
      importer-below = leb-false modules i.importer q.0;
      imported-below = leb-false modules i.imported q.1;
      ends-differ = eqb-false i.importer i.imported r.1;
    }

good-need : (items : ℕ) (n : Need) → bad_need items n ≡ false → NeedRow items n
unfolding bad_need
good-need items n e =
    let r = neither e in
    let q = neither r.0 in
    let o = neither q.0 in
    record {
      dependant-below = leb-false items n.dependant o.0;
      dependency-below = leb-false items n.dependency o.1;
    }

-- The nine tests of the table, none of which turns the bytes down.
pub record Passes (bytes : List ℕ) : Type 0 where
  pub not-stub : stub bytes ≡ false
  pub not-foreign : foreign bytes ≡ false
  pub not-misplaced : misplaced bytes ≡ false
  pub not-ragged : ragged bytes ≡ false
  pub not-outsize : outsize bytes ≡ false
  pub no-bad-item : any (bad_item (project_of bytes).modules) (project_of bytes).items ≡ false
  pub no-bad-import : any (bad_import (project_of bytes).modules) (project_of bytes).imports ≡ false
  pub no-bad-circle : bad_circles (project_of bytes).modules 0 (section bytes 2) ≡ false
  pub no-bad-need : any (bad_need (length (project_of bytes).items)) (project_of bytes).needs ≡ false

passed : (t : Bool) (n : ℕ) (rest : Reading) {p : Project} → cond t (refused n) rest ≡ accepted p → (t ≡ false) × (rest ≡ accepted p)
passed true n rest e = absurd (let z : ◌≡◌ {A = ℕ} 0 1 = cc in omega arith)
passed false n rest e = (refl, e)

pub read-passes : (bytes : List ℕ) (p : Project) → read bytes ≡ accepted p → Passes bytes × (p ≡ project_of bytes)
unfolding read
read-passes bytes p e =
    let q = project_of bytes in
    let a = passed (stub bytes) 1 _ e in
    let b = passed (foreign bytes) 2 _ a.1 in
    let c = passed (misplaced bytes) 3 _ b.1 in
    let d = passed (ragged bytes) 4 _ c.1 in
    let f = passed (outsize bytes) 5 _ d.1 in
    let g = passed (any (bad_item q.modules) q.items) 6 _ f.1 in
    let h = passed (any (bad_import q.modules) q.imports) 7 _ g.1 in
    let i = passed (bad_circles q.modules 0 (section bytes 2)) 8 _ h.1 in
    let j = passed (any (bad_need (length q.items)) q.needs) 9 _ i.1 in (
      record {
        not-stub = a.0;
        not-foreign = b.0;
        not-misplaced = c.0;
        not-ragged = d.0;
        not-outsize = f.0;
        no-bad-item = g.0;
        no-bad-import = h.0;
        no-bad-circle = i.0;
        no-bad-need = j.0;
      },
      cc j.1,
    )

-- Test 5, taken apart.
pub record Sizes (bytes : List ℕ) : Type 0 where
  pub modules-least : 1 ≤ byte_at bytes 1
  pub modules-most : byte_at bytes 1 ≤ module_limit
  pub entry-below : byte_at bytes 2 < byte_at bytes 1
  pub items-most : length_of bytes 0 ≤ 2 * item_limit
  pub imports-most : length_of bytes 1 ≤ 2 * import_limit
  pub circles-most : length_of bytes 2 ≤ circle_bytes_limit
  pub needs-most : length_of bytes 3 ≤ need_bytes * need_limit

pub sizes : (bytes : List ℕ) → outsize bytes ≡ false → Sizes bytes
unfolding outsize
sizes bytes e =
    let needs = neither e in
    let circles = neither needs.0 in
    let imports = neither circles.0 in
    let items = neither imports.0 in
    let entry = neither items.0 in
    let modules = neither entry.0 in
    let some : byte_at bytes 1 ≡ 0 → ⊥ = eqb-false (byte_at bytes 1) 0 modules.0 in
    record {
      modules-least = omega arith;
      modules-most = ltb-false module_limit (byte_at bytes 1) modules.1;
      entry-below = leb-false (byte_at bytes 1) (byte_at bytes 2) entry.1;
      items-most = ltb-false (2 * item_limit) (length_of bytes 0) items.1;
      imports-most = ltb-false (2 * import_limit) (length_of bytes 1) imports.1;
      circles-most = ltb-false circle_bytes_limit (length_of bytes 2) circles.1;
      needs-most = ltb-false (need_bytes * need_limit) (length_of bytes 3) needs.1;
    }

passes-accepted : (bytes : List ℕ) → Passes bytes → Accepted (project_of bytes)
unfolding project_of
passes-accepted bytes t =
    let p = project_of bytes in
    let s = sizes bytes t.not-outsize in
    record {
      modules-least = s.modules-least;
      modules-most = s.modules-most;
      entry-below = s.entry-below;
      items-most = omega (arith, pair-count item_row (section bytes 0), section-length bytes 0);
      imports-most = omega (arith, pair-count import_row (section bytes 1), section-length bytes 1);
      needs-most = omega (arith, need-count (section bytes 3), section-length bytes 3);
      item-rows = λ i m. good-item p.modules i (none_passes (bad_item p.modules) t.no-bad-item m);
      import-rows = λ i m. good-import p.modules i (none_passes (bad_import p.modules) t.no-bad-import m);
      circles-below = circles-within p.modules (section bytes 2) t.no-bad-circle;
      need-rows = λ n m. good-need (length p.items) n (none_passes (bad_need (length p.items)) t.no-bad-need m);
    }

-- A project that the reader accepts is what the bytes say, and is within all limits and bounds.
pub read-project : (bytes : List ℕ) (p : Project) → read bytes ≡ accepted p → p ≡ project_of bytes
read-project bytes p e = (read-passes bytes p e).1

pub read-accepted : (bytes : List ℕ) (p : Project) → read bytes ≡ accepted p → Accepted p
read-accepted bytes p e = rw (read-project bytes p e) (passes-accepted bytes (read-passes bytes p e).0)
