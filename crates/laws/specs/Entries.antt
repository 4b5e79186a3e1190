-- The entries of a host: what stands in the reply and in the report after a call. Assumes nothing.
use Rattle.std.specs.Prelude.{ℕ, ◌+◌, ◌*◌, ◌/◌, ◌%◌, ◌≤◌, ◌<◌, ◌≡◌, refl, true, false, ltb, length, take, drop}
use Rattle.std.proofs.Common.{arith, sym, ap, ◌∙◌, take_at, ltb-false, le-ltb}
use Rattle.std.proofs.Math.Nat.{div-div-eq-div-mul}
use mathlib.Core.List.{List, flat_map}
use Rattle.rules.specs.Project.{number32}
use Rattle.rules.specs.Calls.{Answer, overwrite, bytes32, report_bytes, reported}
use Rattle.laws.specs.Lists.{Tested, holds, fails, tested}

-- Four bytes give back the number of 32 bits that they were made of.
four_bytes : (n : ℕ) → n < 4294967296 → n % 256 + 256 * (n / 256 % 256) + 65536 * (n / 65536 % 256) + 16777216 * (n / 16777216 % 256) ≡ n
four_bytes n h =
    let e : n / 65536 ≡ n / 256 / 256 = sym (div-div-eq-div-mul n 256 256) in
    let f : n / 16777216 ≡ n / 256 / 256 / 256 = sym (ap (λ (x : ℕ). x / 256) (div-div-eq-div-mul n 256 256) ∙ div-div-eq-div-mul n 65536 256) in
    rw (e, f) (digits (n / 256) (n / 256 / 256) (n / 256 / 256 / 256) refl refl refl)
  where
    digits : (a b c : ℕ) → a ≡ n / 256 → b ≡ a / 256 → c ≡ b / 256 → n % 256 + 256 * (a % 256) + 65536 * (b % 256) + 16777216 * (c % 256) ≡ n
    digits a b c x y z = omega arith

module _ (a : Answer) (reply report : List ℕ) where
  pub reported-short : ltb (length report) 20 ≡ true → reported a reply report ≡ record { number = 13; reply = reply; report = report }
  unfolding reported
  reported-short e = rw (e, reported)

  pub reported-long : ltb (length report) 20 ≡ false
      → reported a reply report ≡ record { number = a.number; reply = overwrite a.written reply; report = overwrite (report_bytes a) report }
  unfolding reported
  reported-long e = rw (e, reported)

  -- The five numbers, read back.
  pub kept_read : a.kept < 4294967296 → number32 (overwrite (report_bytes a) report) 4 ≡ a.kept
  unfolding number32 overwrite report_bytes flat_map bytes32
  kept_read h = four_bytes a.kept h

  pub visits-read : a.module_visits < 4294967296 → number32 (overwrite (report_bytes a) report) 12 ≡ a.module_visits
  unfolding number32 overwrite report_bytes flat_map bytes32
  visits-read h = four_bytes a.module_visits h

  pub items-read : a.item_visits < 4294967296 → number32 (overwrite (report_bytes a) report) 16 ≡ a.item_visits
  unfolding number32 overwrite report_bytes flat_map bytes32
  items-read h = four_bytes a.item_visits h

  pub report-read : 20 ≤ length report → take 20 (reported a reply report).report ≡ report_bytes a
  unfolding overwrite report_bytes flat_map bytes32
  report-read long = rw (reported-long (le-ltb (length report) 20 long)) (take_at (report_bytes a) (drop 20 report) 20 refl)

  -- What the host reads off where the answer is 0.
  pub given-read : (reported a reply report).number ≡ 0 → (a.number ≡ 0) × (20 ≤ length report)
  given-read g = go (tested (ltb (length report) 20))
    where
      go : Tested (ltb (length report) 20) → (a.number ≡ 0) × (20 ≤ length report)
      go (holds e) = let f : ◌≡◌ {A = ℕ} 13 0 = rw (reported-short e) at g in absurd (omega arith)
      go (fails e) = (rw (reported-long e) at g, ltb-false (length report) 20 e)

  pub order-read : 20 ≤ length report → a.kept < 4294967296 → a.kept ≡ length a.written
      → take (number32 (reported a reply report).report 4) (reported a reply report).reply ≡ a.written
  unfolding overwrite
  order-read long small count =
      rw (reported-long (le-ltb (length report) 20 long), kept_read small, count) (take_at a.written (drop (length a.written) reply) (length a.written) refl)

  pub visits-most : (bound : ℕ) → 20 ≤ length report → a.module_visits ≤ bound → bound < 4294967296
      → number32 (reported a reply report).report 12 ≤ bound
  visits-most bound long most small = rw (reported-long (le-ltb (length report) 20 long), visits-read (omega arith)) most
