-- Arrays, whose contents are lists. Assumes nothing.
use Rattle.std.specs.Prelude.{ℕ, ◌≡◌, List, length, get_or}

-- An array of n zeros; past its end it reads as 0 too.
pub record Zeros (n : ℕ) (l : List ℕ) : Type 0 where
  pub size : length l ≡ n
  pub zeros : (i : ℕ) → get_or l i 0 ≡ 0
