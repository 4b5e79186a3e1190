-- What the order call relies on between its functions. Assumes nothing.
use Rattle.std.specs.Prelude.{ℕ, ◌+◌, ◌*◌, ◌≤◌, ◌≡◌, List, length, Result}
use Rattle.std.specs.declared.convert.Infallible.{Infallible}
use Rattle.rules.specs.Project.{Project, project_of, accepted, read, module_limit, item_limit}
use Rattle.rules.specs.Walk.{Stop, finished}
use Rattle.rules.specs.Modules.{ModuleState, groups_of, groups_in_order, run_modules}
use Rattle.rules.specs.Items.{kept_rows}
use Rattle.rules.specs.Calls.{module_list_limit, order_bytes, group_bytes}
use Rattle.walks.specs.declared.Stop.{Stop as WalkStop}
use Rattle.walks.specs.Runs.{Ran}
use Rattle.chunk.specs.Walks.{Holds}
use Rattle.chunk.specs.declared.walk.ModuleWalk.{ModuleWalk}
use Rattle.order.specs.Orders.{Ordered}

-- An accepted project and a reply that is long enough, with an allowance that is not 0.
pub record Ready (bytes reply : List ℕ) (allowance : ℕ) : Type 0 where
  pub reads : read bytes ≡ accepted (project_of bytes)
  pub room : order_bytes (project_of bytes) ≤ length reply
  pub some : 1 ≤ allowance

-- The module walk has stopped: where it has finished, its groups stand in front of `groups`.
pub record Walked (bytes groups reply : List ℕ) (allowance : ℕ) (found : Result (ModuleWalk × ℕ) (WalkStop Infallible)) : Type 0 where
  pub ready : Ready bytes reply allowance
  pub size : length groups ≡ module_limit * (module_limit + 1)
  pub ran : Ran (run_modules (project_of bytes) module_list_limit allowance) (Holds groups) (λ _. ⊥) found

-- The module walk has finished, and `groups` are the bytes of its groups.
pub record Found (bytes groups : List ℕ) (count visits : ℕ) (reply : List ℕ) (allowance : ℕ) (s : ModuleState) : Type 0 where
  pub ready : Ready bytes reply allowance
  pub grouped : run_modules (project_of bytes) module_list_limit allowance ≡ finished s visits
  pub bytes-are : groups ≡ group_bytes (groups_in_order s)
  pub count-is : count ≡ length (groups_of s)

-- A sort of all groups that can be answered: where it has finished, it has placed all kept rows, and they fit the reply.
pub record Givable (p : Project) (stop : Stop (List ℕ)) (rows : List ℕ) (count : ℕ) (reply : List ℕ) (sorted : Result (ℕ × ℕ) (WalkStop Infallible)) : Type 0
  where
    pub before : List ℕ
    pub size : length before ≡ item_limit
    pub ordered : Ordered stop before rows sorted
    pub count_most : count ≤ module_limit
    pub kept : (placed : List ℕ) (n : ℕ) → stop ≡ finished placed n → length (kept_rows p) ≡ length placed
    pub kept-most : length (kept_rows p) ≤ item_limit
    pub room : length (kept_rows p) ≤ length reply
