-- The imports of a project as src/imports.rt lays them out: the different import rows in the order of their first places, `to` their imported modules,
-- and for each importer the chain of its rows. Assumes nothing.
use Rattle.std.specs.Prelude.{ℕ, ◌≤◌, ◌<◌, ◌≡◌, length, get_or}
use mathlib.Core.List.{List, map, flat_map}
use Rattle.rules.specs.Project.{Import, Project, module_limit, import_limit}
use Rattle.rules.specs.Modules.{imports_of}
use Rattle.laws.specs.Lists.{◌∈◌}
use Rattle.laws.specs.Counting.{Below}
use Rattle.lists.specs.Chained.{places}
use Rattle.lists.specs.declared.chains.Chains.{Chains}
use Rattle.chunk.specs.Open.{open_from}
use Rattle.chunk.specs.declared.imports.Imports.{Imports}
use Rattle.chunk.specs.declared.open.Open.{Open}

-- Import rows within the limits.
pub record FitRows (rows : List Import) : Type 0 where
  pub importers-below : (i : Import) → i ∈ rows → i.importer < module_limit
  pub imported-below : (i : Import) → i ∈ rows → i.imported < module_limit
  pub most : length rows ≤ import_limit

-- Imports before any rows are laid out.
pub record Fresh (imports : Imports) : Type 0 where
  pub none : imports.rows.count ≡ 0
  pub seen : (k : ℕ) → get_or imports.rows.seen k 0 ≡ 0
  pub from : (i : ℕ) → get_or imports.rows.from i 0 ≡ 0
  pub to : (i : ℕ) → get_or imports.rows.to i 0 ≡ 0
  pub heads : (m : ℕ) → get_or imports.chains.heads m 0 ≡ 0

-- what stands in an array at the places of the chain of a module
abbrev pub places_to : List ℕ → Chains module_limit import_limit → ℕ → List ℕ
places_to to chains m = map (λ i. get_or to i 0) (places chains.next (get_or chains.heads m 0))

abbrev pub imports_at : Imports → ℕ → List ℕ
imports_at imports m = places_to imports.rows.to imports.chains m

-- The rows are laid out: along the chain of a module stand its imports.
abbrev pub Laid : List Import → Imports → Type 0
Laid rows imports = (p : Project) → p.imports ≡ rows → (m : ℕ) → m < module_limit → imports_at imports m ≡ imports_of p m

-- the open imports that an iterator has left, those of a module, and those of members together, repeats kept
abbrev pub open_left : Open → List ℕ
open_left o = open_from o.to.now o.chain.next.now o.done o.circle o.chain.entry

abbrev pub open_of : Imports → ℕ → ℕ → ℕ → List ℕ
open_of imports done circle m = open_from imports.rows.to imports.chains.next done circle (get_or imports.chains.heads m 0)

unfoldable pub open_imports : Imports → ℕ → ℕ → List ℕ → List ℕ
open_imports imports done circle members = flat_map (open_of imports done circle) members

-- Members of a circle: modules, no more than there are.
pub record Members (members : List ℕ) : Type 0 where
  pub below : Below module_limit members
  pub most : length members ≤ module_limit
