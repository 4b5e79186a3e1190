-- 'Paths (graph.rs)': the graph of one group's needs. A graph is a list of needs, the one added last in front. Assumes nothing.
use Rattle.std.specs.Prelude.{ℕ, ◌≡◌, Bool, true, false, not, ◌&&◌, ◌||◌, eqb}
use mathlib.Core.List.{List, [], ◌∷◌, map, Memᴰ}
use Rattle.rules.specs.Lists.{keep, different, Reaches}
use Rattle.rules.specs.Project.{Need}

-- "neighbours stand in the order in which edges were first added"; "`Dependencies` are outgoing, `Dependants` incoming". Of needs in row order.
unfoldable pub dependencies_of : List Need → ℕ → List ℕ
dependencies_of needs x = different (map (λ (n : Need). n.dependency) (keep (λ (n : Need). eqb n.dependant x) needs))

unfoldable pub dependants_of : List Need → ℕ → List ℕ
dependants_of needs x = different (map (λ (n : Need). n.dependant) (keep (λ (n : Need). eqb n.dependency x) needs))

unfoldable pub is_need : ℕ → ℕ → Need → Bool
is_need x y n = eqb n.dependant x && eqb n.dependency y

-- "an edge added again keeps its place and takes the new weight"
unfoldable pub weight_in : List Need → ℕ → ℕ → ℕ
weight_in [] x y = 0
weight_in (n ∷ graph) x y = elim (is_need x y n) [ true ↦ n.weight | false ↦ weight_in graph x y ]

-- "An item reaches another over one or more of these"
abbrev pub DependsOn : List Need → ℕ → ℕ → Type 0
DependsOn needs x y = (n : Need) × Memᴰ n needs × (n.dependant ≡ x) × (n.dependency ≡ y)

abbrev pub ReachesItem : List Need → ℕ → ℕ → Type 0
ReachesItem needs = Reaches (DependsOn needs)

-- What an item reaches, as a test. A need x to y adds the ways that go to x before it is taken first and on from y after it is taken last.
unfoldable pub can_reach : List Need → ℕ → ℕ → Bool
can_reach [] a b = false
can_reach (n ∷ graph) a b =
    can_reach graph a b
    || ((eqb a n.dependant || can_reach graph a n.dependant) && (eqb n.dependency b || can_reach graph n.dependency b))

-- What adding a need x to y enters: whether b enters P(a).
-- "y enters P(x), with all that y reaches except x; and y enters P(z) for each z other than y that is x or reaches x"
unfoldable pub enters : List Need → ℕ → ℕ → ℕ → ℕ → Bool
enters graph x y a b =
    (eqb a x && (eqb b y || (can_reach graph y b && not (eqb b x))))
    || (eqb b y && not (eqb a y) && (eqb a x || can_reach graph a x))

-- Whether P(a) holds b. "Adding a need x to y: the edge is added; if y is in P(x), no more. Else .."
unfoldable pub in_paths : List Need → ℕ → ℕ → Bool
in_paths [] a b = false
in_paths (n ∷ graph) a b =
    in_paths graph a b || (not (in_paths graph n.dependant n.dependency) && enters (n ∷ graph) n.dependant n.dependency a b)
