-- Sets of numbers as bits: a word, and rows of words of 64 bits. Assumes nothing.
use Rattle.std.specs.Prelude.{ℕ, zero, suc, ◌/◌, ◌%◌, ◌≡◌, Bool, not, ◌&&◌, ◌||◌, List, eqb, length, get_or}

-- whether bit i of a word is set
unfoldable pub bit : ℕ → ℕ → Bool
bit w zero = eqb (w % 2) 1
bit w (suc i) = bit (w / 2) i

-- bit k of a row of words
unfoldable pub bit_at : List ℕ → ℕ → Bool
bit_at words k = bit (get_or words (k / 64) 0) (k % 64)

-- A row after k was put into it, and after k was taken out of it.
pub record Inserted (k : ℕ) (old new : List ℕ) : Type 0 where
  pub bits : (j : ℕ) → bit_at new j ≡ (eqb j k || bit_at old j)
  pub size : length new ≡ length old

pub record Removed (k : ℕ) (old new : List ℕ) : Type 0 where
  pub bits : (j : ℕ) → bit_at new j ≡ (not (eqb j k) && bit_at old j)
  pub size : length new ≡ length old
