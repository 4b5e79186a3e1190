-- The terms of demand 3: what its sentences and document 01's paragraph on it speak of. Assumes nothing.
use Rattle.std.specs.Prelude.{ℕ, ◌+◌, ◌*◌, ◌<◌, ◌≡◌, List, [], length}
use Rattle.rules.specs.Project.{Project}
use Rattle.rules.specs.Circles.{Tied}
use Rattle.rules.specs.Walk.{Stop, finished, spent, full}
use Rattle.rules.specs.Modules.{import_count, ReachesModule, ModuleState, groups_in_order, run_modules}
use Rattle.rules.specs.Paths.{DependsOn}
use Rattle.rules.specs.Items.{item_at, kind_at}
use Rattle.rules.specs.Calls.{Answer, allowed, module_list_limit}
use Rattle.laws.specs.Lists.{◌∈◌}

-- "An order or a grouping is given when its call answers 0".
abbrev pub Given : Answer → Type 0
Given a = a.number ≡ 0

-- A kept item: a row whose kind is not 5.
pub record Kept (p : Project) (row : ℕ) : Type 0 where
  pub item : row < length p.items
  pub kept : kind_at p row ≡ 5 → ⊥

abbrev pub module_of : Project → ℕ → ℕ
module_of p row = (item_at p row).in_module

-- "Document 01's table and walks settle .. the groups .. meant here": those that the module walk of the call makes, in their order.
unfoldable pub groups_of_run : Stop ModuleState → List (List ℕ)
groups_of_run (finished s made) = groups_in_order s
groups_of_run (spent made) = []
groups_of_run (full made) = []

unfoldable pub groups_made : Project → ℕ → List (List ℕ)
groups_made p allowance = groups_of_run (run_modules p module_list_limit (allowed allowance))

-- "An item belongs to the first group that lists its module." `earlier` are the groups before this one.
pub record BelongsTo (p : Project) (earlier : List (List ℕ)) (group : List ℕ) (row : ℕ) : Type 0 where
  pub kept_item : Kept p row
  pub listed : module_of p row ∈ group
  pub first : (g : List ℕ) → g ∈ earlier → module_of p row ∈ g → ⊥

-- "A group's dependencies are the needs whose two ends are kept items belonging to it."
pub record GroupNeeds (p : Project) (earlier : List (List ℕ)) (group : List ℕ) (a b : ℕ) : Type 0 where
  pub need : DependsOn p.needs a b
  pub from : BelongsTo p earlier group a
  pub to : BelongsTo p earlier group b

-- "any accepted project whose listed circles tie any two different modules exactly when each reaches the other by imports"
pub record CirclesMatch (p : Project) : Type 0 where
  pub tied-reach : (m n : ℕ) → m < p.modules → n < p.modules → Tied p.circles m n → ReachesModule p m n × ReachesModule p n m
  pub reach-tied : (m n : ℕ) → m < p.modules → n < p.modules → (m ≡ n → ⊥) → ReachesModule p m n → ReachesModule p n m → Tied p.circles m n

-- "2 × modules + imports"
abbrev pub visit_limit : Project → ℕ
visit_limit p = 2 * p.modules + import_count p
