-- How arrays show the kinds and the ranges of a group's numbers. Assumes nothing.
use Rattle.std.specs.Prelude.{ℕ, ◌+◌, ◌≤◌, ◌<◌, ◌≡◌, List, length, get_or}
use Rattle.rules.specs.Items.{range_of, Group, kind_of}
use Rattle.laws.specs.Splits.{size}

-- The kinds of a group's numbers.
pub record Kinds (g : Group) (kinds : List ℕ) : Type 0 where
  pub room : size g ≤ length kinds
  pub each : (x : ℕ) → x < size g → get_or kinds x 0 ≡ kind_of g x

-- The range that holds x is `low` to `high`, without `high`; where there is none, both are 0.
pub record RangeIs (g : Group) (x low high : ℕ) : Type 0 where
  pub start : low ≡ (range_of g.ranges x).start
  pub end : high ≡ (range_of g.ranges x).start + (range_of g.ranges x).count

pub record Ranges (g : Group) (low high : List ℕ) : Type 0 where
  pub low-size : size g ≤ length low
  pub high-size : size g ≤ length high
  pub each : (x : ℕ) → x < size g → RangeIs g x (get_or low x 0) (get_or high x 0)
