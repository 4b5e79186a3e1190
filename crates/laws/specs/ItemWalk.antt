-- Where an item may stand before one that it depends on, and what holds after each visit of the item walk: the theorems stand in proofs/ItemWalk.antt.
-- Assumes nothing.
use Prim.Native.Nat.{ℕ, ◌<◌}
use Rattle.std.specs.Prelude.{◌≡◌, ◌⊎◌, true, false}
use mathlib.Core.List.{List}
use Rattle.rules.specs.Paths.{DependsOn, ReachesItem}
use Rattle.rules.specs.Items.{is_injected, Group, kind_of, same_range, ItemState, item_list, placed_of}
use Rattle.laws.specs.Lists.{◌∈◌, Once}
use Rattle.laws.specs.Orders.{Before}
use Rattle.laws.specs.Counting.{Below}
use Rattle.laws.specs.Splits.{size}

module _ (g : Group) where
  -- x may stand before its dependency d: x is uninjected, and d is in its range or reaches it
  abbrev pub Excused : ℕ → ℕ → Type 0
  Excused x d = (is_injected (kind_of g x) ≡ false) × ((same_range g x d ≡ true) ⊎ ReachesItem g.needs d x)

  -- nothing is open between x and its dependency d
  abbrev pub Settled : List ℕ → ℕ → ℕ → Type 0
  Settled placed x d = (d ∈ placed) ⊎ Excused x d

  -- Lists of numbers.
  abbrev pub Numbers : List ℕ → Type 0
  Numbers l = Below (size g) l

  -- What holds after each visit: the entries of the list and the placed items are numbers, each number is placed or in the list, none is placed twice,
  -- and each dependency of a placed number was placed before it, or the number is excused. The latest placed is first.
  pub record Walked (s : ItemState) : Type 0 where
    pub list-below : Numbers (item_list s)
    pub placed_below : Numbers (placed_of s)
    pub unplaced-listed : (x : ℕ) → x < size g → (x ∈ placed_of s) ⊎ (x ∈ item_list s)
    pub once : Once (placed_of s)
    pub in_order : (x d : ℕ) → x ∈ placed_of s → DependsOn g.needs x d → Before x d (placed_of s) ⊎ Excused x d
