-- Open imports along a chain of places. Assumes nothing.
use Rattle.std.specs.Prelude.{ℕ, Bool, not, ◌&&◌, get_or}
use mathlib.Core.List.{List, map}
use Rattle.rules.specs.Lists.{keep}
use Rattle.lists.specs.Bits.{bit}
use Rattle.lists.specs.Chained.{places}

-- whether an import counts, the modules done and those of the circle being sets of bits
unfoldable pub is_open : ℕ → ℕ → ℕ → Bool
is_open done circle d = not (bit done d) && not (bit circle d)

-- those that count of the modules at the places of a chain
unfoldable pub open_from : List ℕ → List ℕ → ℕ → ℕ → ℕ → List ℕ
open_from to next done circle entry = keep (is_open done circle) (map (λ i. get_or to i 0) (places next entry))
