-- Laws for the proofs of the entries. Assumes nothing.
use Rattle.std.specs.Prelude.{ℕ, ◌+◌, ◌-◌, ◌≤◌, ◌<◌, ◌≡◌, refl, length}
use Rattle.std.proofs.Common.{arith, sym, ◌∙◌, lt-ltb, le-ltb, take, drop, drop-drop}
use Rattle.std.specs.Int.{w32, to_le_bytes}
use borrow.Rule.Slice.PartMut.{put_mid}
use mathlib.Core.List.{List, flat_map, append_assoc}
use Rattle.std.proofs.lemmas.List.Edits.{sets}
use Rattle.std.proofs.Math.Seq.{sets-eq}
use Rattle.rules.specs.Calls.{groups_call, groups_entry, Answer, overwrite, bytes32, report_bytes, reported}
use Rattle.laws.specs.Entries.{reported-short, reported-long}
use Rattle.sort.specs.declared.Numbers.{Numbers}
use Rattle.sort.specs.Answers.{numbers_of, Answered}
use Rattle.sort.specs.Entries.{entry_of}

-- Four bytes copied to a place, the lowest first.
pub number-written : (report copied : List ℕ) (at n : ℕ) → at + 4 ≤ length report → copied ≡ to_le_bytes w32 n
    → put_mid at (at + 4 - at) report copied ≡ sets report at (bytes32 n)
unfolding bytes32
number-written report copied at n h e =
    let four : at + 4 - at ≡ 4 = omega arith in
    rw (four, e, drop-drop)
    (sym (append_assoc (take at report) (bytes32 n) (drop (at + 4) report)) ∙ sym (sets-eq (bytes32 n) report at h))

-- Five numbers of 32 bits written one behind the other are the report's bytes.
module _ (a : Answer) (report : List ℕ) (long : 20 ≤ length report) where
  written-in-turn : sets (sets (sets (sets (sets report 0 (bytes32 a.number)) 4 (bytes32 a.kept)) 8 (bytes32 a.groups)) 12
      (bytes32 a.module_visits))
      16
      (bytes32 a.item_visits)
      ≡ overwrite (report_bytes a) report
  unfolding overwrite report_bytes flat_map bytes32
  written-in-turn = sets-eq (report_bytes a) report 0 long

  pub report-written : {n : Numbers} {one two three four five : List ℕ} → n ≡ numbers_of a → one ≡ sets report 0 (bytes32 n.answer)
      → two ≡ sets one 4 (bytes32 n.kept) → three ≡ sets two 8 (bytes32 n.groups) → four ≡ sets three 12 (bytes32 n.module_visits)
      → five ≡ sets four 16 (bytes32 n.item_visits) → five ≡ overwrite (report_bytes a) report
  report-written e e₁ e₂ e₃ e₄ e₅ = rw (e₅, e₄, e₃, e₂, e₁, e) written-in-turn

-- From the answer of any call to that of its entry.
module _ (a : Answer) (reply report : List ℕ) where
  -- 13 comes before the call, and nothing is touched.
  pub entered-short : length report < 20 → entry_of 13 reply report ≡ reported a reply report
  entered-short h = sym (reported-short a reply report (lt-ltb (length report) 20 h))

  -- The call has answered, and the report is written.
  pub entered-long : {after full : List ℕ} {r : Numbers} → 20 ≤ length report → Answered a reply after r → full ≡ overwrite (report_bytes a) report
      → entry_of r.answer after full ≡ reported a reply report
  entered-long {r = r} h k e =
      rw (reported-long a reply report (le-ltb (length report) 20 h), k.numbers, k.reply, e) refl

-- The groups entry answers a short report with 13.
pub groups-short : (bytes reply report : List ℕ) (allowance : ℕ) → length report < 20 → entry_of 13 reply report ≡ groups_entry bytes reply report allowance
unfolding groups_entry
groups-short bytes reply report allowance = entered-short (groups_call bytes (length reply) allowance) reply report
