-- What the turns of groups some of which are sorted rely on and come to. Assumes nothing.
use Rattle.std.specs.Prelude.{ℕ, ◌+◌, ◌*◌, ◌-◌, ◌≤◌, ◌<◌, ◌≡◌, List, [], length, get_or, Result}
use Rattle.rules.specs.Project.{Project, module_limit, item_limit}
use Rattle.rules.specs.Items.{numbering, giving_modules, sort_modules}
use Rattle.rules.specs.Calls.{item_list_limit, order_groups}
use Rattle.graph.specs.Rows.{words_for}
use Rattle.owners.specs.declared.NeedRows.{NeedRows}
use Rattle.owners.specs.Owners.{Owned}
use Rattle.owners.specs.NeedRows.{NeedsChained}
use Rattle.giving.specs.Giving.{Stored}
use Rattle.walks.specs.declared.Stop.{Stop as Stopped}
use Rattle.walks.specs.declared.Stop.TheVariants.{Spent, Full, Crowded}
use Rattle.walks.specs.Runs.{Ran}
use Rattle.stmt.specs.declared.walk.Crowded.{Crowded as ListCrowded}
use Rattle.group.specs.Sorts.{Sortable}
use Rattle.order.specs.declared.tables.SortTurns.{SortTurns}
use Rattle.order.specs.declared.turns.Turn.{Turn}
use Rattle.order.specs.declared.turns.Turns.{Turns}
use Rattle.order.specs.Turns.{Ready, Taking, Turning}

-- How the turns stop where the sort of a group stops in turn t.
unfoldable pub stopped_as : Turn → Stopped ListCrowded → Stopped Turn
stopped_as t (Spent made) = Spent made
stopped_as t (Full made) = Full made
stopped_as t (Crowded c) = Crowded t

-- What the sort of a group in its turn relies on.
pub record SortTurn (WORDS NEEDS : ℕ) (p : Project) (earlier : List (List ℕ)) (members : List ℕ) (turns : Turns) (needs : NeedRows NEEDS) (allowance : ℕ)
    (t : Turn) (out : List ℕ) : Type 0 where
  pub taking : Taking p earlier members turns t out
  pub left-most : t.left ≤ module_limit
  pub made-most : t.made ≤ allowance
  pub sortable : Sortable WORDS NEEDS p (giving_modules p earlier members) turns.items needs.section.now needs.chains.next (get_or needs.chains.heads (t.left - 1) 0)
  pub rows-room : t.kept + length (numbering p (giving_modules p earlier members)) ≤ length out

-- What it comes to, as the definition's sort does: its rows, written behind those before, or that the list may not fit.
abbrev pub Sorts : ℕ → Project → List (List ℕ) → List ℕ → ℕ → Turn → List ℕ → List ℕ → Result (ℕ × ℕ) (Stopped ListCrowded) → Type 0
Sorts entries p earlier members allowance t before after result =
    Ran (sort_modules p (giving_modules p earlier members) item_list_limit (allowance - t.made) t.made)
    (λ kept rows. Stored rows t.kept before after kept) (λ c. entries < item_list_limit) result

-- Rows of bits for as many items as the project has, and room for its needs.
pub record Sized (WORDS NEEDS : ℕ) (p : Project) : Type 0 where
  pub rows : length p.items * words_for (length p.items) ≤ WORDS
  pub places : length p.needs ≤ NEEDS

-- What the turns from one on rely on: the sections of items and needs, the owner of each module, and all that turns rely on.
pub record Going (p : Project) (groups : List (List ℕ)) (sort : SortTurns) (allowance : ℕ) (before now : List ℕ) (t : Turn) : Type 0 where
  pub ready : Ready p groups sort.turns.now
  pub owned : Owned p groups sort.turns.now.items.section.now sort.needs.now sort.owners.now.array
  pub size : length now ≡ item_limit
  pub turning : Turning p groups allowance before now t

-- The same with the needs chained by owners.
pub record Sorting (WORDS NEEDS : ℕ) (p : Project) (groups : List (List ℕ)) (turns : Turns) (needs : NeedRows NEEDS) (allowance : ℕ) (before now : List ℕ)
    (t : Turn) : Type 0 where
  pub ready : Ready p groups turns
  pub chained : NeedsChained p groups needs
  pub sized : Sized WORDS NEEDS p
  pub size : length now ≡ item_limit
  pub turning : Turning p groups allowance before now t

-- What the turns come to with a list of so many entries: they stop as the definition does, or where the entries are fewer than the limit, between two
-- turns. Where they have finished, `out` begins with the rows and is else as it was; else what `out` holds is left free.
abbrev pub Turned : ℕ → Project → List (List ℕ) → ℕ → List ℕ → List ℕ → Result (ℕ × ℕ) (Stopped Turn) → Type 0
Turned entries p groups allowance before after result =
    Ran (order_groups p item_list_limit allowance [] groups [] 0) (λ end rows. Stored rows 0 before after end)
    (λ t. (entries < item_list_limit) × Turning p groups allowance before after t) result
