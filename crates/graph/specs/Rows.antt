-- Bit matrices: rows of `words` words of 64 bits, one behind the other. Assumes nothing.
use Rattle.std.specs.Prelude.{ℕ, ◌+◌, ◌*◌, ◌/◌, ◌^◌, ◌≤◌, ◌<◌, ◌≡◌, Bool, ◌&&◌, ◌||◌, List, ◌++◌, eqb, length, drop, replicate}
use Rattle.lists.specs.Bits.{bit_at}

-- the most words of a row: a bit for each item that there can be
abbrev pub row_words : ℕ
row_words = 4

-- the words of a row for n items
abbrev pub words_for : ℕ → ℕ
words_for n = (n + 63) / 64

-- Rows of so many words for n items fit the words of a matrix, so that places in them fit 32 bits.
pub record Fits (WORDS words n : ℕ) : Type 0 where
  pub numbers : n ≤ 64 * words
  pub most : words ≤ row_words
  pub size : n * words ≤ WORDS

-- What n rows for numbers below n ask for: that they are long enough, that they are so short that places in them fit 32 bits, and that they are there.
pub record Rows (words n : ℕ) (matrix : List ℕ) : Type 0 where
  pub numbers : n ≤ 64 * words
  pub most : words ≤ row_words
  pub size : n * words ≤ length matrix

-- What the place of bit b of row a asks for: that it is there, and fits 32 bits.
pub record Place (words a b : ℕ) (matrix : List ℕ) : Type 0 where
  pub most : words ≤ row_words
  pub within : a * (64 * words) + b < length matrix * 64
  pub small : a * (64 * words) + b < 2 ^ 32

-- words of which the first n were cleared
abbrev pub cleared : ℕ → List ℕ → List ℕ
cleared n words = replicate n 0 ++ drop n words

-- bit b of row a
abbrev pub cell : ℕ → List ℕ → ℕ → ℕ → Bool
cell words matrix a b = bit_at matrix (a * (64 * words) + b)

-- The first n rows hold a relation.
abbrev pub Holds : ℕ → ℕ → (ℕ → ℕ → Bool) → List ℕ → Type 0
Holds words n relation matrix = (a b : ℕ) → a < n → b < 64 * words → cell words matrix a b ≡ relation a b

-- The rows from n on are as they were.
abbrev pub Rest : ℕ → ℕ → List ℕ → List ℕ → Type 0
Rest words n old new = (a b : ℕ) → n ≤ a → b < 64 * words → cell words new a b ≡ cell words old a b

-- A matrix after row a was joined with a set.
pub record RowJoined (words a : ℕ) (set : ℕ → Bool) (old new : List ℕ) : Type 0 where
  pub cells : (c b : ℕ) → b < 64 * words → cell words new c b ≡ (cell words old c b || (eqb c a && set b))

-- The same of each of the first n rows, with a set for each; the others are as they were.
pub record RowsJoined (words n : ℕ) (sets : ℕ → ℕ → Bool) (old new : List ℕ) : Type 0 where
  pub rows : (a b : ℕ) → a < n → b < 64 * words → cell words new a b ≡ (cell words old a b || sets a b)
  pub rest : Rest words n old new

-- Bits after the one at k was set to a value.
pub record Stored (k : ℕ) (value : Bool) (old new : List ℕ) : Type 0 where
  pub there : bit_at new k ≡ value
  pub others : (j : ℕ) → (j ≡ k → ⊥) → bit_at new j ≡ bit_at old j
