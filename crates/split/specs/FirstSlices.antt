-- What the functions over slices that write the walk's first list require and guarantee. Assumes nothing.
use Rattle.std.specs.Prelude.{ℕ, ◌-◌, ◌≤◌, ◌<◌, ◌≡◌, length, get_or, drop}
use mathlib.Core.List.{List, flat_map}
use Rattle.rules.specs.Lists.{keep, up_from}
use Rattle.rules.specs.Project.{item_limit}
use Rattle.rules.specs.Items.{is_injected, numbers_of, range_of, Group, kind_of, numbers, starts as starts_of, first_list}
use Rattle.laws.specs.Splits.{size}
use Rattle.lists.specs.Stacks.{stack}
use Rattle.split.specs.Shown.{Ranges}

-- "per start, the range holding it, if any"
abbrev pub held_by : Group → List ℕ → List ℕ
held_by g starts = flat_map (λ s. numbers_of (range_of g.ranges s)) starts

-- The ranges of a group, and starts that are numbers of it.
pub record StartsWithin (g : Group) (low high starts : List ℕ) : Type 0 where
  pub ranges-shown : Ranges g low high
  pub starts-below : (i : ℕ) → i < length starts → get_or starts i 0 < size g

-- What the first list of a group asks for: its ranges and its starts, no more than these, and the injected numbers as those behind all ranges.
pub record ListableOn (g : Group) (low high starts : List ℕ) (uninjected count : ℕ) : Type 0 where
  pub within : StartsWithin g low high starts
  pub starts-shown : starts ≡ starts_of g
  pub injected-behind : keep (λ x. is_injected (kind_of g x)) (numbers g) ≡ up_from uninjected (count - uninjected)
  pub most : count ≤ item_limit

-- The first list stands on the array, with this end; what stands from there on stays.
pub record FirstListed (g : Group) (list list' : List ℕ) (end : ℕ) : Type 0 where
  pub shown : stack list' end ≡ first_list g
  pub count : end ≡ length (first_list g)
  pub rest : drop end list' ≡ drop end list
