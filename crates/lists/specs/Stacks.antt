-- A list on an array: its front stands at the end index, so that entries are put in front and taken off there. Assumes nothing.
use Rattle.std.specs.Prelude.{ℕ, zero, suc, ◌+◌, ◌-◌, ◌≤◌, ◌≡◌, List, [], ◌∷◌, ◌++◌, reverse, length, get_or, take, drop}

-- the list with end n
unfoldable pub stack : List ℕ → ℕ → List ℕ
stack a zero = []
stack a (suc n) = get_or a n 0 ∷ stack a n

-- an array with entries written below `top`, the first uppermost; what stands below them and from `top` on stays
unfoldable pub placed_below : ℕ → List ℕ → List ℕ → List ℕ
placed_below top entries a = take (top - length entries) a ++ (reverse entries ++ drop top a)

-- What placing entries below `top` asks for, and what it gives, with the index of the last of them.
pub record Placeable (top : ℕ) (entries a : List ℕ) : Type 0 where
  pub room : length entries ≤ top
  pub within : top ≤ length a

pub record Placed (top : ℕ) (entries old new : List ℕ) (last : ℕ) : Type 0 where
  pub whole : new ≡ placed_below top entries old
  pub count : last + length entries ≡ top
