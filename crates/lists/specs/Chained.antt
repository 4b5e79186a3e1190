-- Chains of places on two arrays, as src/chains.rt keeps them. Assumes nothing.
use Rattle.std.specs.Prelude.{ℕ, suc, ◌≤◌, ◌<◌, List, length, get_or}
use Rattle.lists.specs.Pairs.{chain, Onward}

-- The places from an entry on.
abbrev pub places : List ℕ → ℕ → List ℕ
places next entry = chain next (length next) entry

-- An entry is that of a place or 0, and every place leads only to places behind it, so that its chain ends.
pub record Leads (next : List ℕ) (entry : ℕ) : Type 0 where
  pub most : entry ≤ length next
  pub onward : (i : ℕ) → i < length next → Onward (suc i) (length next) (get_or next i 0)

-- The same of every key's entry.
pub record Ascends (heads next : List ℕ) : Type 0 where
  pub most : (k : ℕ) → get_or heads k 0 ≤ length next
  pub onward : (i : ℕ) → i < length next → Onward (suc i) (length next) (get_or next i 0)
