-- The needs of a group, added to its graph. A graph is a list of needs, the one added last in front, as in rules' Paths. Assumes nothing.
use Rattle.std.specs.Prelude.{ℕ, ◌+◌, ◌*◌, ◌≤◌, ◌<◌, ◌≡◌, List, [], ◌∷◌, map, length}
use Rattle.rules.specs.Lists.{cons_if, keep}
use Rattle.rules.specs.Project.{Project, Need}
use Rattle.rules.specs.Items.{is_among, numbered, numbering}
use Rattle.owners.specs.Owners.{need_at, NeedsAlong}
use Rattle.split.specs.declared.Split.{Split}
use Rattle.graph.specs.declared.Graph.{Graph}
use Rattle.graph.specs.Rows.{words_for}
use Rattle.graph.specs.Graph.{Shown}

-- the needs whose two ends are among the rows, by their numbers
abbrev pub needs_among : List ℕ → List Need → List Need
needs_among rows needs = map (numbered rows) (keep (is_among rows) needs)

-- Along the chain from an entry stand needs of a project, and among them all whose two ends are rows of some modules.
pub record OwnNeeds (p : Project) (modules section next : List ℕ) (entry : ℕ) : Type 0 where
  pub own : List Need
  pub along : NeedsAlong section next entry own
  pub few : length own ≤ length p.needs
  pub among : needs_among (numbering p modules) own ≡ needs_among (numbering p modules) p.needs

-- a graph with one need added, or with none where its ends are not among the rows
unfoldable pub add_need : List ℕ → List Need → Need → List Need
add_need rows graph n = cons_if (is_among rows n) (numbered rows n) graph

unfoldable pub add_needs : List ℕ → List Need → List Need → List Need
add_needs rows graph [] = graph
add_needs rows graph (n ∷ needs) = add_needs rows (add_need rows graph n) needs

-- What laying out the needs of n items asks for.
pub record LayRoom (WORDS NEEDS n : ℕ) (needs : List Need) : Type 0 where
  pub rows : n * words_for n ≤ WORDS
  pub places : length needs ≤ NEEDS

-- A graph shows needs of a split's items.
pub record Shows {WORDS NEEDS : ℕ} (needs : List Need) (s : Split) (g : Graph WORDS NEEDS) : Type 0 where
  pub nodes-are : g.nodes ≡ s.count
  pub words-are : g.weak.words ≡ words_for s.count
  pub shown : Shown needs g

-- And there is room for one more pair.
pub record NeedRoom {WORDS NEEDS : ℕ} (needs : List Need) (s : Split) (g : Graph WORDS NEEDS) : Type 0 where
  pub shows : Shows needs s g
  pub room : length needs < NEEDS

-- In the midst of adding needs along a chain: those at the places that are left are not added.
pub record Adding {WORDS NEEDS : ℕ} (rows section places : List ℕ) (needs : List Need) (s : Split) (g : Graph WORDS NEEDS) : Type 0 where
  pub graph : List Need
  pub shows : Shows graph s g
  pub left : length graph + length places ≤ length needs
  pub same : add_needs rows graph (map (need_at section) places) ≡ add_needs rows [] needs
