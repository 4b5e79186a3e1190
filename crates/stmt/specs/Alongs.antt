-- Neighbours along a chain of places on two slices. Assumes nothing.
use Rattle.std.specs.Prelude.{ℕ, suc, ◌≡◌, List, length}
use Rattle.laws.specs.Counting.{Below}
use Rattle.lists.specs.Pairs.{chain, targets}

-- The places from an entry on are places of both slices, and the chain ends among them.
pub record Onwards (ends next : List ℕ) (entry : ℕ) : Type 0 where
  pub ends-below : Below (length ends) (chain next (length next) entry)
  pub next-below : Below (length next) (chain next (length next) entry)
  pub ending : chain next (length next) entry ≡ chain next (suc (length next)) entry

-- what stands in an array at the places of a chain
abbrev pub nodes_from : List ℕ → List ℕ → ℕ → List ℕ
nodes_from ends next entry = targets ends next (length next) entry
