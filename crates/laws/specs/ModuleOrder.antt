-- What the order of the groups guarantees of their imports: the theorems stand in proofs/ModuleOrder.antt. Assumes nothing.
use Rattle.std.specs.Prelude.{ℕ, ◌≡◌, true, false}
use mathlib.Core.List.{List}
use Rattle.rules.specs.Project.{Project}
use Rattle.rules.specs.Modules.{imports_of, ReachesModule, is_done}
use Rattle.laws.specs.Lists.{◌∈◌}

-- What holds of a group and the groups made before it.
pub record FollowsGroups (p : Project) (earlier : List (List ℕ)) (g : List ℕ) : Type 0 where
  -- "if module m imports n and n does not reach m", n is done before m
  pub imports-done : (m n : ℕ) → m ∈ g → n ∈ imports_of p m → (ReachesModule p n m → ⊥) → is_done earlier n ≡ true
  pub new : (m : ℕ) → m ∈ g → is_done earlier m ≡ false
