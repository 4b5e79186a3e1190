-- Document 02, item 1: "A larger allowance changes no key", about any two allowances of which the first is no larger, "0 first being replaced by its
-- meaning", on the same bytes and with replies of one length. A reader opens this page beside Demands.antt. Here are
-- the terms; the theorems are in proofs/Allowances.antt and EntryAllowances.antt. Assumes nothing.
use Rattle.std.specs.Prelude.{ℕ, ◌≤◌, ◌<◌, ◌≡◌, ◌⊎◌, take}
use Rattle.rules.specs.Project.{number32}
use Rattle.rules.specs.Calls.{Answer, Entry}
use Rattle.laws.specs.Demands.{order_read, visits_read}

-- An answer and the one under the larger allowance.
pub record ChangesNoKey (smaller larger : Answer) : Type 0 where
  -- "if the smaller gives an order then the larger gives the same bytes and counts. If the smaller ends in 12, so does the larger, with the same
  -- visits."
  pub same_answer : (smaller.number ≡ 0) ⊎ (smaller.number ≡ 12) → larger ≡ smaller
  -- Beyond the request: every number but 11 is the same, and after 11 the larger allowance reports no fewer visits of either walk.
  pub same_number : (smaller.number ≡ 11 → ⊥) → larger.number ≡ smaller.number
  pub no-fewer : smaller.number ≡ 11 → (smaller.module_visits ≤ larger.module_visits) × (smaller.item_visits ≤ larger.item_visits)

-- The entries of a host, on the same bytes, reply and report; b is the larger allowance. A host reads the visits off the report's fourth and fifth
-- numbers. "The allowance is 32 bits", and so are these.
abbrev pub item_visits_read : Entry → ℕ
item_visits_read e = number32 e.report 16

pub record EntryChangesNoKey (b : ℕ) (smaller larger : Entry) : Type 0 where
  pub same-entry : (smaller.number ≡ 0) ⊎ (smaller.number ≡ 12) → larger ≡ smaller
  pub same_number : (smaller.number ≡ 11 → ⊥) → larger.number ≡ smaller.number
  pub no-fewer : b < 4294967296 → smaller.number ≡ 11
      → (visits_read smaller ≤ visits_read larger) × (item_visits_read smaller ≤ item_visits_read larger)

-- "Examiners sit at machines set to different allowances and want one key." What two hosts read off, each with a reply of one length and a report of
-- its own, whatever these hold before.
pub record OneKey (smaller larger : Entry) : Type 0 where
  pub one_number : larger.number ≡ smaller.number
  pub one-order : order_read larger ≡ order_read smaller
  pub one-report : take 20 larger.report ≡ take 20 smaller.report
