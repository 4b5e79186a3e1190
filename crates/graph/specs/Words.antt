-- Bit matrices with rows of one word. Assumes nothing.
use Rattle.std.specs.Prelude.{ℕ, ◌≤◌, ◌<◌, ◌≡◌, Bool, true, not, ◌&&◌, ◌||◌, List, Option, Some, None, eqb, length}
use Rattle.lists.specs.Bits.{bit}
use Rattle.graph.specs.Rows.{cell}

-- The rows that a set holds are there.
abbrev pub SetRoom : ℕ → List ℕ → Type 0
SetRoom set matrix = (a : ℕ) → a < 64 → bit set a ≡ true → a < length matrix

-- A matrix after each row of a set was joined with another set; there are no rows from 64 on in a set.
pub record SetJoined (rows set : ℕ → Bool) (old new : List ℕ) : Type 0 where
  pub cells : (a b : ℕ) → a < 64 → b < 64 → cell 1 new a b ≡ (cell 1 old a b || (rows a && set b))
  pub rest : (a b : ℕ) → 64 ≤ a → b < 64 → cell 1 new a b ≡ cell 1 old a b

-- What a set gives next, and what it has left then: a number that it holds, and all others; nothing, where it is empty.
abbrev pub Taken : ℕ → Option ℕ → ℕ → Type 0
Taken set None left = (set ≡ 0) × (left ≡ 0)
Taken set (Some i) left = (i < 64) × (bit set i ≡ true) × ((j : ℕ) → j < 64 → bit left j ≡ (not (eqb j i) && bit set j))
