-- What sorting all groups of an order call relies on and comes to. Assumes nothing.
use Rattle.std.specs.Prelude.{ℕ, ◌≤◌, ◌≡◌, List, length, Result}
use Rattle.std.specs.declared.convert.Infallible.{Infallible}
use Rattle.rules.specs.Project.{Project, module_limit, item_limit, item_row, import_row, pair_rows, need_rows}
use Rattle.rules.specs.Walk.{Stop}
use Rattle.rules.specs.Calls.{group_bytes}
use Rattle.laws.specs.Lists.{◌∈◌}
use Rattle.laws.specs.Counting.{Below}
use Rattle.laws.specs.Accepted.{Accepted}
use Rattle.laws.specs.OrderCalls.{EachOnce}
use Rattle.giving.specs.Giving.{Stored}
use Rattle.walks.specs.declared.Stop.{Stop as Stopped}
use Rattle.walks.specs.Runs.{Ran}

-- The groups of a project, as the bytes of a groups call, and its sections; `out` has a place for each item row.
pub record Orderable (p : Project) (groups : List (List ℕ)) (items imports needs bytes : List ℕ) (count : ℕ) (out : List ℕ) : Type 0 where
  pub accepted : Accepted p
  pub items-are : p.items ≡ pair_rows item_row items
  pub imports-are : p.imports ≡ pair_rows import_row imports
  pub needs-are : p.needs ≡ need_rows needs
  pub bytes-are : bytes ≡ group_bytes groups
  pub count-is : count ≡ length groups
  pub count_most : count ≤ module_limit
  pub each-once : EachOnce groups
  pub members-below : (g : List ℕ) → g ∈ groups → Below p.modules g
  pub out-size : length out ≡ item_limit

-- How the sort of all groups stops, as the definition does. Where it has finished, `out` begins with the rows and is else as it was; else what `out`
-- holds is left free.
abbrev pub Ordered : Stop (List ℕ) → List ℕ → List ℕ → Result (ℕ × ℕ) (Stopped Infallible) → Type 0
Ordered stop before after result = Ran stop (λ end rows. Stored rows 0 before after end) (λ c. ⊥) result
