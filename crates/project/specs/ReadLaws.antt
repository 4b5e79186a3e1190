-- What `read` gives, by the test of the table that decides; and what an answer of the code says of it. Assumes nothing.
use Rattle.std.specs.Prelude.{ℕ, ◌-◌, ◌/◌, ◌≤◌, ◌<◌, refl, true, false, cond, List, length, Ok, Err}
use Rattle.std.proofs.Common.{arith, sym, ◌∙◌, lt-ltb, le-ltb, ltb-false}
use Rattle.std.proofs.Math.Path.{◌≡◌, ap}
use Rattle.rules.specs.Lists.{any}
use Rattle.rules.specs.Project.{Reading, refused, accepted, item_row, import_row, pair_rows, need_rows, stub, foreign, misplaced, ragged, outsize, bad_item, bad_import, bad_circles, bad_need, project_of, read}
use Rattle.laws.specs.Accepted.{Passes, read-passes}
use Rattle.project.specs.declared.Layout.{Layout}
use Rattle.project.specs.declared.Refusal.{Refusal}
use Rattle.project.specs.Answers.{layout_of, number_of, numbered, answer_of}
use Rattle.project.specs.Sections.{part, Accepts}
use Rattle.project.specs.Passed.{PassesHeader, Measured}
use Rattle.project.specs.SectionLaws.{sections}

module _ (bytes : List ℕ) where
  pub read_stub : length bytes < 36 → read bytes ≡ refused 1
  unfolding read stub
  read_stub h = rw (lt-ltb (length bytes) 36 h)

  pub read_foreign : 36 ≤ length bytes → foreign bytes ≡ true → read bytes ≡ refused 2
  unfolding read stub
  read_foreign h e = rw (le-ltb (length bytes) 36 h, e)

  pub read_misplaced : 36 ≤ length bytes → foreign bytes ≡ false → misplaced bytes ≡ true → read bytes ≡ refused 3
  unfolding read stub
  read_misplaced h e f = rw (le-ltb (length bytes) 36 h, e, f)

  pub read_ragged : 36 ≤ length bytes → foreign bytes ≡ false → misplaced bytes ≡ false → ragged bytes ≡ true → read bytes ≡ refused 4
  unfolding read stub
  read_ragged h e f g = rw (le-ltb (length bytes) 36 h, e, f, g)

  pub read_outsize : 36 ≤ length bytes → foreign bytes ≡ false → misplaced bytes ≡ false → ragged bytes ≡ false → outsize bytes ≡ true
      → read bytes ≡ refused 5
  unfolding read stub
  read_outsize h e f g i = rw (le-ltb (length bytes) 36 h, e, f, g, i)

  pub measures : 36 ≤ length bytes → foreign bytes ≡ false → misplaced bytes ≡ false → ragged bytes ≡ false → outsize bytes ≡ false
      → Measured bytes (layout_of bytes)
  measures h e f g i =
      let t : PassesHeader bytes = record { header = h; not-foreign = e; not-misplaced = f; not-ragged = g; not-outsize = i } in
      record { passes = t; layout = refl; sections = sections bytes t }

-- The rest of the table, on the parts of the bytes that the code takes.
pub read_rows : {bytes : List ℕ} {l : Layout} → Measured bytes l
    → read bytes ≡
    cond (any (bad_item l.modules) (pair_rows item_row (part 36 l.items_end bytes))) (refused 6)
    (cond (any (bad_import l.modules) (pair_rows import_row (part l.items_end l.imports_end bytes))) (refused 7)
    (cond (bad_circles l.modules 0 (part l.imports_end l.circles_end bytes)) (refused 8)
    (cond (any (bad_need ((l.items_end - 36) / 2)) (need_rows (part l.circles_end (length bytes) bytes))) (refused 9)
    (accepted (project_of bytes)))))
unfolding read stub project_of layout_of
read_rows {bytes} {l} m =
    let t = m.passes in
    let s = m.sections in
    rw (le-ltb (length bytes) 36 t.header, t.not-foreign, t.not-misplaced, t.not-ragged, t.not-outsize)
    (rw (← s.items, ← s.imports, ← s.circles, ← s.needs, ← s.items-count, m.layout) refl)

passes-header : (bytes : List ℕ) → Passes bytes → PassesHeader bytes
unfolding stub
passes-header bytes t =
    record {
      header = ltb-false (length bytes) 36 t.not-stub;
      not-foreign = t.not-foreign;
      not-misplaced = t.not-misplaced;
      not-ragged = t.not-ragged;
      not-outsize = t.not-outsize;
    }

-- What the code's answer says, by what `read` gives.
module _ (bytes : List ℕ) where
  accepts : Passes bytes → read bytes ≡ accepted (project_of bytes) → Accepts bytes (layout_of bytes)
  unfolding layout_of project_of
  accepts t e = record { reads = e; modules = refl; entry = refl; sections = sections bytes (passes-header bytes t) }

  refused-answer : {n : ℕ} (r : Reading) → answer_of bytes r ≡ Err n → r ≡ refused n
  unfolding answer_of
  refused-answer {n} (refused m) e = let f : m ≡ n = cc in ap refused f
  refused-answer (accepted p) e = absurd (let z : ◌≡◌ {A = ℕ} 0 1 = cc in omega arith)

  accepted-answer : {l : Layout} (r : Reading) → read bytes ≡ r → answer_of bytes r ≡ Ok l → Accepts bytes l
  unfolding answer_of
  accepted-answer (refused m) r e = absurd (let z : ◌≡◌ {A = ℕ} 0 1 = cc in omega arith)
  accepted-answer {l} (accepted p) r e =
      let passed = read-passes bytes p r in
      let f : layout_of bytes ≡ l = cc in
      rw f at (accepts passed.0 (r ∙ ap accepted passed.1))

  pub answer-refused : (r : Refusal) → numbered (Err r) ≡ answer_of bytes (read bytes) → read bytes ≡ refused (number_of r)
  unfolding numbered
  answer-refused r e = refused-answer (read bytes) (sym e)

  pub answer-accepted : {l : Layout} → numbered (Ok l) ≡ answer_of bytes (read bytes) → Accepts bytes l
  unfolding numbered
  answer-accepted e = accepted-answer (read bytes) refl (sym e)
