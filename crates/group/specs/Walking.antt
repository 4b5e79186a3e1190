-- The walk of a group's items from its first list on. Assumes nothing.
use Rattle.std.specs.Prelude.{ℕ, ◌≤◌, ◌≡◌, List, length}
use Rattle.rules.specs.Project.{Project, Need}
use Rattle.rules.specs.Items.{numbering, Group, group_of, first_list, item_start}
use Rattle.rules.specs.Calls.{item_list_limit}
use Rattle.laws.specs.Splits.{WellFormed}
use Rattle.split.specs.declared.Split.{Split}
use Rattle.split.specs.FirstLists.{Listable}
use Rattle.layout.specs.declared.Group.{Group as GroupArrays}
use Rattle.layout.specs.Needs.{needs_among}
use Rattle.owners.specs.Owners.{NeedsAlong}
use Rattle.stmt.specs.Walks.{Laid, SameVisits}

-- What it asks for: a group laid out whose first state and visits are those of the group to be walked.
pub record Walkable {WORDS NEEDS : ℕ} (g walked : Group) (group : GroupArrays WORDS NEEDS) : Type 0 where
  pub laid : Laid g group
  pub same : SameVisits g walked
  pub first : item_start g ≡ item_start walked
  pub listable : Listable g group.split
  pub first-most : length (first_list g) ≤ item_list_limit

-- A group with other needs.
abbrev pub with_needs : Group → List Need → Group
with_needs g needs = record { kinds = g.kinds; ranges = g.ranges; needs = needs }

-- the group of modules, with no more needs than these
abbrev pub asked_group : Project → List ℕ → List Need → Group
asked_group p modules own = with_needs (group_of p modules) (needs_among (numbering p modules) own)

-- Along the chain from an entry stand the needs that the walk of modules' items asks for: with these alone it begins as it does with all, and every
-- visit is the same.
pub record AskedNeeds (p : Project) (modules section next : List ℕ) (entry : ℕ) : Type 0 where
  pub own : List Need
  pub along : NeedsAlong section next entry own
  pub few : length own ≤ length p.needs
  pub formed : WellFormed (asked_group p modules own)
  pub same : SameVisits (asked_group p modules own) (group_of p modules)
  pub first : item_start (asked_group p modules own) ≡ item_start (group_of p modules)

-- Where that chain begins: where that of all needs does, or nowhere for uninjected items of one module.
pub data Asked (entry : ℕ) (s : Split) : ℕ → Type 0 where
  all-needs : Asked entry s entry
  no-need : s.modules ≡ 1 → s.uninjected ≡ s.count → Asked entry s 0
