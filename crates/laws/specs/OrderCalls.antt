-- Groups that list each of their modules once: the theorems on orders stand in proofs/OrderCalls.antt. Assumes nothing.
use Prim.Native.Nat.{ℕ}
use mathlib.Core.List.{List}
use Rattle.laws.specs.Lists.{◌∈◌, Once}

abbrev pub EachOnce : List (List ℕ) → Type 0
EachOnce groups = (g : List ℕ) → g ∈ groups → Once g
