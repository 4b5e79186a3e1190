-- Lists that stand one behind the other, each a count byte and its members: whether they are whole. Assumes nothing.
use Rattle.std.specs.Prelude.{ℕ, zero, suc, Bool, true, false, List, [], ◌∷◌, ◌≡◌}

-- of what stands where a list still lacks `left` members
unfoldable pub is_whole : ℕ → List ℕ → Bool
is_whole zero [] = true
is_whole zero (n ∷ rest) = is_whole n rest
is_whole (suc left) [] = false
is_whole (suc left) (m ∷ rest) = is_whole left rest

-- no list passes the end
abbrev pub AreWhole : List ℕ → Type 0
AreWhole bytes = is_whole 0 bytes ≡ true
