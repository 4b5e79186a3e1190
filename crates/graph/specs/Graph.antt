-- The graph of one group's needs on arrays. A graph is a list of needs, the one added last in front, as in rules' Paths. Assumes nothing.
use Rattle.std.specs.Prelude.{ℕ, ◌*◌, ◌≤◌, ◌<◌, ◌≡◌, Bool, List, [], ◌∷◌, map, reverse, eqb, length, get_or, drop, replicate}
use Rattle.rules.specs.Project.{Need, item_limit, need_row}
use Rattle.rules.specs.Paths.{dependencies_of, dependants_of, weight_in, can_reach, in_paths}
use Rattle.lists.specs.declared.chains.Chains.{Chains}
use Rattle.lists.specs.Pairs.{different_pairs, pairs_of, Seen, Room, Added}
use Rattle.graph.specs.Rows.{Rows, cleared, Holds, Rest}
use Rattle.graph.specs.Reach.{Transposed}
pub use Rattle.graph.specs.Links.{ends}
use Rattle.graph.specs.Links.{Relinked, Chained}
use Rattle.graph.specs.Neighbours.{nodes_along}
use Rattle.graph.specs.declared.Graph.{Graph}
use Rattle.graph.specs.declared.neighbours.Neighbours.{Neighbours}

-- The matrices: of the pairs that needs were added for, of those whose weight is Maybe, of what each item reaches, where rows have one word of what
-- reaches each, and of the record of paths.
pub record Matrices : Type 0 where
  pub seen : List ℕ
  pub weak : List ℕ
  pub reach : List ℕ
  pub into : List ℕ
  pub paths : List ℕ

abbrev pub matrices : List ℕ → List ℕ → List ℕ → List ℕ → List ℕ → Matrices
matrices seen weak reach into paths = record { seen = seen; weak = weak; reach = reach; into = into; paths = paths }

-- What a graph of n items asks of them: a row for each item, of `into` where rows have one word.
pub record Space (words n : ℕ) (m : Matrices) : Type 0 where
  pub seen-rows : Rows words n m.seen
  pub seen_most : length m.seen ≤ 65536
  pub weak-rows : Rows words n m.weak
  pub reach-rows : Rows words n m.reach
  pub into-rows : words ≡ 1 → Rows words n m.into
  pub paths-rows : Rows words n m.paths

-- whether the weight of a pair is Maybe
unfoldable pub is_maybe : List Need → ℕ → ℕ → Bool
is_maybe graph a b = eqb (weight_in graph a b) 1

-- The arrays show a graph of n items. `from` and `to` have its `count` different pairs, "in the order in which edges were first added", all below n;
-- and the first n rows of the matrices have these pairs, their weights, what each item reaches, and the record of paths.
pub record Shows (words n : ℕ) (graph : List Need) (m : Matrices) (from to : List ℕ) (count : ℕ) : Type 0 where
  pub space : Space words n m
  pub pairs : pairs_of from to count ≡ different_pairs (map ends (reverse graph))
  pub counted : count ≡ length (pairs_of from to count)
  pub from-below : (i : ℕ) → i < count → get_or from i 0 < n
  pub to_below : (i : ℕ) → i < count → get_or to i 0 < n
  pub seen-pairs : Seen n (64 * words) m.seen (pairs_of from to count)
  pub weights : Holds words n (is_maybe graph) m.weak
  pub reached : Holds words n (can_reach graph) m.reach
  pub transposed : words ≡ 1 → Transposed n m.reach m.into
  pub in-paths : Holds words n (in_paths graph) m.paths

-- What clearing gives, whatever stood there: the graph without needs.
pub record Cleared (words n : ℕ) (m m' : Matrices) : Type 0 where
  pub shows : (from to : List ℕ) → Shows words n [] m' from to 0
  pub seen-whole : m'.seen ≡ cleared (n * words) m.seen
  pub weak-whole : m'.weak ≡ cleared (n * words) m.weak
  pub reach-whole : m'.reach ≡ cleared (n * words) m.reach
  pub into-whole : words ≡ 1 → m'.into ≡ replicate 64 0
  pub into-left : (words ≡ 1 → ⊥) → m'.into ≡ m.into
  pub paths-whole : m'.paths ≡ cleared (n * words) m.paths

-- What adding the need x to y asks for.
pub record EdgeRoom (words n x y : ℕ) (m : Matrices) (from to : List ℕ) (count : ℕ) : Type 0 where
  pub space : Space words n m
  pub pairs : Room (64 * words) x y m.seen from to count
  pub transposed : words ≡ 1 → Transposed n m.reach m.into
  pub first : x < n
  pub second : y < n

-- What it gives: where the arrays showed a graph, they show it with the need. `seen`, `from` and `to` are as lists' pairs leave them, and the rows from
-- n on of `weak`, `reach` and `paths` are as they were; those of `into` are left free.
pub record EdgeAdded (words n x y weight : ℕ) (m : Matrices) (from to : List ℕ) (count : ℕ) (m' : Matrices) (from' to' : List ℕ) (count' : ℕ)
    : Type 0 where
  pub shows : (graph : List Need) → Shows words n graph m from to count → Shows words n (need_row x y weight ∷ graph) m' from' to' count'
  pub pairs : Added (64 * words) x y m.seen from to count m'.seen from' to' count'
  pub weak-rest : Rest words n m.weak m'.weak
  pub reach-rest : Rest words n m.reach m'.reach
  pub paths-rest : Rest words n m.paths m'.paths

-- The arrays of a graph show needs.
abbrev pub matrices_of : {WORDS NEEDS : ℕ} → Graph WORDS NEEDS → Matrices
matrices_of g = matrices g.pairs.seen g.weak.cells g.reach.cells g.into g.paths.cells

abbrev pub Shown : {WORDS NEEDS : ℕ} → List Need → Graph WORDS NEEDS → Type 0
Shown graph g = Shows g.weak.words g.nodes graph (matrices_of g) g.pairs.from g.pairs.to g.pairs.count

-- The neighbours of an item on its chain, and those that an iterator has left.
abbrev pub neighbours_at : {NEEDS : ℕ} → List ℕ → Chains item_limit NEEDS → ℕ → List ℕ
neighbours_at ends chains x = nodes_along ends chains.next (get_or chains.heads x 0)

abbrev pub nodes_left : Neighbours → List ℕ
nodes_left n = nodes_along n.ends.now n.chain.next.now n.chain.entry

-- The neighbours of items as needs have them: "`Dependencies` are outgoing, `Dependants` incoming", of needs in row order.
pub record NeighboursLaid {WORDS NEEDS : ℕ} (needs : List Need) (g : Graph WORDS NEEDS) : Type 0 where
  pub dependencies : (x : ℕ) → x < g.nodes → neighbours_at g.pairs.to g.outgoing x ≡ dependencies_of needs x
  pub dependants : (x : ℕ) → x < g.nodes → neighbours_at g.pairs.from g.incoming x ≡ dependants_of needs x

-- And on chains that use at most as many places as there are needs.
pub record NeighboursChained {WORDS NEEDS : ℕ} (needs : List Need) (g : Graph WORDS NEEDS) : Type 0 where
  pub out-chained : Chained (length needs) (dependencies_of needs) g.nodes g.pairs.to g.outgoing.heads g.outgoing.next
  pub in-chained : Chained (length needs) (dependants_of needs) g.nodes g.pairs.from g.incoming.heads g.incoming.next

-- Needs laid out for a walk: the neighbours, the record of paths, and the weights that are Maybe.
pub record Laid {WORDS NEEDS : ℕ} (needs : List Need) (g : Graph WORDS NEEDS) : Type 0 where
  pub neighbours : NeighboursLaid needs g
  pub paths-shown : Holds g.weak.words g.nodes (in_paths (reverse needs)) g.paths.cells
  pub weak-shown : Holds g.weak.words g.nodes (is_maybe (reverse needs)) g.weak.cells

-- What chaining the neighbours asks for: pairs of items.
pub record LinkRoom {WORDS NEEDS : ℕ} (g : Graph WORDS NEEDS) : Type 0 where
  pub from-below : (i : ℕ) → i < g.pairs.count → get_or g.pairs.from i 0 < g.nodes
  pub to_below : (i : ℕ) → i < g.pairs.count → get_or g.pairs.to i 0 < g.nodes

-- And so few that entries fit 16 bits.
pub record LinkRoom16 {WORDS NEEDS : ℕ} (g : Graph WORDS NEEDS) : Type 0 where
  pub most : g.pairs.count < 65536
  pub room : LinkRoom g

-- The pairs are the different ones of needs, in the order of their first rows.
abbrev pub PairsOf : {WORDS NEEDS : ℕ} → List Need → Graph WORDS NEEDS → Type 0
PairsOf needs g = pairs_of g.pairs.from g.pairs.to g.pairs.count ≡ different_pairs (map ends needs)

-- After the neighbours were chained all else is as it was. Of the heads of numbers that are no items this says nothing.
pub record Linked {WORDS NEEDS : ℕ} (old new : Graph WORDS NEEDS) : Type 0 where
  pub matrices-kept : matrices_of new ≡ matrices_of old
  pub words-kept : new.weak.words ≡ old.weak.words
  pub from-kept : new.pairs.from ≡ old.pairs.from
  pub to_kept : new.pairs.to ≡ old.pairs.to
  pub count-kept : new.pairs.count ≡ old.pairs.count
  pub out-rest : drop old.pairs.count new.outgoing.next ≡ drop old.pairs.count old.outgoing.next
  pub in_rest : drop old.pairs.count new.incoming.next ≡ drop old.pairs.count old.incoming.next

-- The chains lead along the pairs, and the heads of numbers that are no items are as they were.
pub record Rechained {WORDS NEEDS : ℕ} (old new : Graph WORDS NEEDS) : Type 0 where
  pub outgoing-made : Relinked old.nodes old.pairs.count old.outgoing.heads old.outgoing.next new.outgoing.heads new.outgoing.next
  pub incoming-made : Relinked old.nodes old.pairs.count old.incoming.heads old.incoming.next new.incoming.heads new.incoming.next
