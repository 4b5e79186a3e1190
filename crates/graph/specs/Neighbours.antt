-- Neighbours along a chain of places. Assumes nothing.
use Rattle.std.specs.Prelude.{ℕ, get_or}
use mathlib.Core.List.{List, map}
use Rattle.lists.specs.Chained.{places}

-- what stands in an array at the places of a chain
unfoldable pub nodes_along : List ℕ → List ℕ → ℕ → List ℕ
nodes_along ends next entry = map (λ i. get_or ends i 0) (places next entry)
