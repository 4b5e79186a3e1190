-- What the program prints of the bytes that it has read. Assumes nothing.
use Rattle.std.specs.Prelude.{ℕ, ◌≤◌, ◌≡◌, List, length, take}
use Rattle.rules.specs.Keys.{key_text, key_input_limit, printed}

-- The first `end` bytes of `text` are those to print: the key of the bytes read; and where these are the input's first 8,229, or all of a shorter one,
-- what the paper prints for that input.
pub record Prints (read text : List ℕ) (end : ℕ) : Type 0 where
  pub within : end ≤ length text
  pub key : take end text ≡ key_text read
  pub paper : (input : List ℕ) → read ≡ take key_input_limit input → take end text ≡ printed input
