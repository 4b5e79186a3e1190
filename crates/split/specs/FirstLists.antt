-- What the methods of `Split` that make the walk's first list require and guarantee. Assumes nothing.
use Rattle.std.specs.Prelude.{ℕ, ◌-◌, ◌<◌, ◌≡◌, get_or, take}
use mathlib.Core.List.{List}
use Rattle.rules.specs.Lists.{keep, up_from}
use Rattle.rules.specs.Items.{is_injected, Group, kind_of, numbers, starts as starts_of}
use Rattle.laws.specs.Splits.{size}
use Rattle.split.specs.Shown.{Ranges}
pub use Rattle.split.specs.Pushed.{Pushed}
pub use Rattle.split.specs.FirstSlices.{held_by, StartsWithin, ListableOn, FirstListed}
use Rattle.split.specs.declared.Split.{Split}

-- the starts of the modules
abbrev pub starts_on : Split → List ℕ
starts_on s = take s.modules s.starts

-- What the first list of a group asks for: its ranges and its starts, which are numbers of it, and the injected numbers as those behind all ranges.
pub record Listable (g : Group) (s : Split) : Type 0 where
  pub ranges-shown : Ranges g s.low s.high
  pub starts-shown : starts_on s ≡ starts_of g
  pub starts-below : (i : ℕ) → i < s.modules → get_or s.starts i 0 < size g
  pub injected-behind : keep (λ x. is_injected (kind_of g x)) (numbers g) ≡ up_from s.uninjected (s.count - s.uninjected)
