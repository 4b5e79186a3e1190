-- What the walk of a group relies on, as terms: the theorems stand in proofs/Splits.antt. Assumes nothing.
use Prim.Native.Nat.{ℕ, ◌<◌}
use Rattle.std.specs.Prelude.{◌≡◌, true, false}
use mathlib.Core.List.{List}
use Rattle.std.proofs.Math.ListN.{length}
use Rattle.rules.specs.Lists.{is_empty}
use Rattle.rules.specs.Project.{Project}
use Rattle.rules.specs.Paths.{DependsOn}
use Rattle.rules.specs.Items.{is_injected, kept_rows_of, Range, in_range, Group, kind_of}
use Rattle.laws.specs.Lists.{◌∈◌, Once}

-- The number of a group's items: its numbers are those below it.
abbrev pub size : Group → ℕ
size g = length g.kinds

-- What the walk of a group relies on: needs lead from number to number, starts are numbers, ranges hold uninjected numbers, no two ranges share one,
-- and each uninjected number is in a range.
pub record WellFormed (g : Group) : Type 0 where
  pub ends-below : (x y : ℕ) → DependsOn g.needs x y → (x < size g) × (y < size g)
  pub starts-below : (r : Range) → r ∈ g.ranges → r.start < size g
  pub holds-uninjected : (r : Range) (x : ℕ) → r ∈ g.ranges → in_range x r ≡ true → (x < size g) × (is_injected (kind_of g x) ≡ false)
  pub apart : (r q : Range) (x : ℕ) → r ∈ g.ranges → q ∈ g.ranges → in_range x r ≡ true → in_range x q ≡ true → r ≡ q
  pub ranged : (x : ℕ) → x < size g → is_injected (kind_of g x) ≡ false → (r : Range) × (r ∈ g.ranges) × (in_range x r ≡ true)

-- The modules that give a group's items: each listed once, and each with a kept item. "modules already used or without kept items are passed over"
pub record Giving (p : Project) (modules : List ℕ) : Type 0 where
  pub once : Once modules
  pub gives : (m : ℕ) → m ∈ modules → is_empty (kept_rows_of p m) ≡ false
