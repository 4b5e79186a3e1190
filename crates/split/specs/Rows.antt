-- The item rows of a project as src/rows.rt chains them. Assumes nothing.
use Rattle.std.specs.Prelude.{ℕ, ◌/◌, ◌≤◌, ◌<◌, ◌≡◌, Bool, true, false, not, ◌&&◌, List, map, eqb, length, get_or, replicate}
use mathlib.Core.List.{flat_map}
use Rattle.rules.specs.Lists.{positions_from}
use Rattle.rules.specs.Project.{Item, Project, module_limit, item_limit, item_row, pair_rows}
use Rattle.rules.specs.Items.{is_kept, is_injected, uninjected_rows, injected_rows}
use Rattle.laws.specs.Lists.{◌∈◌}
use Rattle.lists.specs.Chained.{places}
use Rattle.lists.specs.Pairs.{Linked}
use Rattle.split.specs.declared.rows.ItemRows.{ItemRows}

-- all rows of a module, ascending
abbrev pub module_rows : Project → ℕ → List ℕ
module_rows p m = positions_from 0 (λ (i : Item). eqb i.in_module m) p.items

-- the number by which a row is chained: its module; and that of each row of a section
abbrev pub module_in : Item → ℕ
module_in i = i.in_module

abbrev pub modules_in : List ℕ → List ℕ
modules_in section = map module_in (pair_rows item_row section)

-- All rows are linked by their modules, from arrays of zeros on, so that `next` has zeros behind the rows.
abbrev pub RowsLinked : ItemRows → Type 0
RowsLinked items =
    Linked 0 (modules_in items.section.now) (length items.section.now / 2) (replicate module_limit 0) (replicate item_limit 0) items.chains.heads items.chains.next

-- The section is that of the project's items, and each module's rows stand along its chain.
pub record RowsShown (p : Project) (items : ItemRows) : Type 0 where
  pub section : p.items ≡ pair_rows item_row items.section.now
  pub most : length p.items ≤ item_limit
  pub along : (m : ℕ) → m < module_limit → places items.chains.next (get_or items.chains.heads m 0) ≡ module_rows p m

-- The section is that of the project's items, and the rows of module m stand along its chain.
pub record RowsOf (p : Project) (m : ℕ) (items : ItemRows) : Type 0 where
  pub section : p.items ≡ pair_rows item_row items.section.now
  pub most : length p.items ≤ item_limit
  pub along : places items.chains.next (get_or items.chains.heads m 0) ≡ module_rows p m

-- The same of each of some modules.
abbrev pub RowsAmong : Project → List ℕ → ItemRows → Type 0
RowsAmong p modules items = (m : ℕ) → m ∈ modules → RowsOf p m items

-- whether a kind is kept, and injected or not as asked
unfoldable pub kept_as : Bool → ℕ → Bool
kept_as true kind = is_kept kind && is_injected kind
kept_as false kind = is_kept kind && not (is_injected kind)

-- a module's kept rows that are injected, or those that are not
unfoldable pub rows_as : Bool → Project → ℕ → List ℕ
rows_as true = injected_rows
rows_as false = uninjected_rows

-- those of a list of modules, in their order
abbrev pub numbered_as : Bool → Project → List ℕ → List ℕ
numbered_as injected p modules = flat_map (rows_as injected p) modules
