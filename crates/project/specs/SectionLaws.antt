-- Where the sections of bytes stand that the first five tests let pass. Assumes nothing.
use Rattle.std.specs.Prelude.{ℕ, ◌-◌, ◌%◌, ◌≤◌, ◌≡◌, refl, false, not, List, eqb, length}
use Rattle.std.proofs.Common.{arith, sym, ◌∙◌, length-take, length-drop, eqb-true}
use Rattle.std.proofs.lemmas.Bool.{not-false}
use Rattle.rules.specs.Project.{need_bytes, offset_of, length_of, end_of, section, item_row, misplaced, ragged}
use Rattle.laws.specs.Counting.{neither}
use Rattle.laws.specs.Accepted.{sizes}
use Rattle.project.specs.declared.Layout.{Layout}
use Rattle.project.specs.Answers.{layout_of}
use Rattle.project.specs.Sections.{part, Sections}
use Rattle.project.specs.Passed.{PassesHeader, Measured}
use Rattle.project.specs.RowLaws.{pairs-length}

-- Test 3, taken apart.
record Placed (bytes : List ℕ) : Type 0 where
  items : offset_of bytes 0 ≡ 36
  imports : offset_of bytes 1 ≡ end_of bytes 0
  circles : offset_of bytes 2 ≡ end_of bytes 1
  needs : offset_of bytes 3 ≡ end_of bytes 2
  last : length bytes ≡ end_of bytes 3

equal : (m n : ℕ) → not (eqb m n) ≡ false → m ≡ n
equal m n e = eqb-true m n (not-false (eqb m n) e)

placed : (bytes : List ℕ) → misplaced bytes ≡ false → Placed bytes
unfolding misplaced
placed bytes e =
    let last = neither e in
    let needs = neither last.0 in
    let circles = neither needs.0 in
    let imports = neither circles.0 in
    record {
      items = equal (offset_of bytes 0) 36 imports.0;
      imports = equal (offset_of bytes 1) (end_of bytes 0) imports.1;
      circles = equal (offset_of bytes 2) (end_of bytes 1) circles.1;
      needs = equal (offset_of bytes 3) (end_of bytes 2) needs.1;
      last = equal (length bytes) (end_of bytes 3) last.1;
    }

-- Test 4, taken apart.
record Whole (bytes : List ℕ) : Type 0 where
  items : length_of bytes 0 % 2 ≡ 0
  imports : length_of bytes 1 % 2 ≡ 0
  needs : length_of bytes 3 % need_bytes ≡ 0

whole : (bytes : List ℕ) → ragged bytes ≡ false → Whole bytes
unfolding ragged
whole bytes e =
    let needs = neither e in
    let imports = neither needs.0 in
    record {
      items = equal (length_of bytes 0 % 2) 0 imports.0;
      imports = equal (length_of bytes 1 % 2) 0 imports.1;
      needs = equal (length_of bytes 3 % need_bytes) 0 needs.1;
    }

pub part_length : (from to : ℕ) (bytes : List ℕ) → to ≤ length bytes → length (part from to bytes) ≡ to - from
part_length from to bytes h = simp (length-take, length-drop) (omega arith)

-- A section by its two ends.
section-part : (bytes : List ℕ) (s : ℕ) {from to : ℕ} → offset_of bytes s ≡ from → end_of bytes s ≡ to → section bytes s ≡ part from to bytes
unfolding section end_of
section-part bytes s {from} {to} e f = let g : to - from ≡ length_of bytes s = omega arith in rw (g, e)

pub sections : (bytes : List ℕ) → PassesHeader bytes → Sections bytes (layout_of bytes)
unfolding layout_of end_of
sections bytes t =
    let at = placed bytes t.not-misplaced in
    let rows = whole bytes t.not-ragged in
    let most = sizes bytes t.not-outsize in
    let items : section bytes 0 ≡ part 36 (end_of bytes 0) bytes = section-part bytes 0 at.items refl in
    record {
      items-bounds = omega arith;
      imports-bounds = omega arith;
      circles-bounds = omega arith;
      needs-bounds = omega arith;
      items = items;
      imports = section-part bytes 1 at.imports refl;
      circles = section-part bytes 2 at.circles refl;
      needs = section-part bytes 3 at.needs (sym at.last);
      items-even = omega arith;
      imports-even = omega arith;
      needs-whole = omega arith;
      items-count = pairs-length item_row (section bytes 0) ∙ rw (items, part_length 36 (end_of bytes 0) bytes (omega arith));
      items-most = omega arith;
      imports-most = omega arith;
      circles-most = omega arith;
      needs-most = omega arith;
    }

pub measured : (bytes : List ℕ) {l : Layout} → PassesHeader bytes → l ≡ layout_of bytes → Measured bytes l
measured bytes t e = record { passes = t; layout = e; sections = rw e (sections bytes t) }
