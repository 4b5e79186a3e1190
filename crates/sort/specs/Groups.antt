-- What the groups call relies on between its functions. Assumes nothing.
use Rattle.std.specs.Prelude.{ℕ, ◌≤◌, ◌≡◌, List, length, Result}
use Rattle.std.specs.declared.convert.Infallible.{Infallible}
use Rattle.rules.specs.Project.{module_limit}
use Rattle.rules.specs.Walk.{Stop, finished}
use Rattle.rules.specs.Modules.{ModuleState, groups_of, groups_in_order}
use Rattle.rules.specs.Calls.{group_bytes}
use Rattle.walks.specs.declared.Stop.{Stop as WalkStop}
use Rattle.walks.specs.Runs.{Ran}
use Rattle.chunk.specs.Walks.{Holds}
use Rattle.chunk.specs.declared.walk.ModuleWalk.{ModuleWalk}

-- A grouping that can be answered: where it has finished, its bytes stand in front of `out` and fit the reply.
pub record Answerable (stop : Stop ModuleState) (out reply : List ℕ) (found : Result (ModuleWalk × ℕ) (WalkStop Infallible)) : Type 0 where
  pub ran : Ran stop (Holds out) (λ _. ⊥) found
  pub count : (s : ModuleState) (n : ℕ) → stop ≡ finished s n → length (groups_of s) ≤ module_limit
  pub within : (s : ModuleState) (n : ℕ) → stop ≡ finished s n → length (group_bytes (groups_in_order s)) ≤ length out
  pub fits : (s : ModuleState) (n : ℕ) → stop ≡ finished s n → length (group_bytes (groups_in_order s)) ≤ length reply
