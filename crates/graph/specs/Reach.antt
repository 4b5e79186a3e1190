-- What each item reaches, and the record of paths, as bit matrices with a row for each of n items. A graph is a list of needs, the one added last in
-- front, as in rules' Paths. Assumes nothing.
use Rattle.std.specs.Prelude.{ℕ, ◌+◌, ◌*◌, ◌≤◌, ◌<◌, ◌≡◌, Bool, false, not, ◌&&◌, ◌||◌, List, ◌∷◌, eqb, length}
use Rattle.rules.specs.Project.{Need, need_row}
use Rattle.rules.specs.Paths.{can_reach, in_paths}
use Rattle.graph.specs.Rows.{Rows, Place, Holds, Rest, cell, RowJoined, RowsJoined}

-- What a need x to y changes, by a relation that says what was reached before it. Whether b joins what a reaches: a is x or reaches it, and a set
-- holds b.
unfoldable pub joins : (ℕ → ℕ → Bool) → ℕ → (ℕ → Bool) → ℕ → ℕ → Bool
joins reaches x set a b = (eqb a x || reaches a x) && set b

-- that set: y and what y reaches
unfoldable pub onward : (ℕ → ℕ → Bool) → ℕ → ℕ → Bool
onward reaches y b = eqb b y || reaches y b

-- Whether b enters P(x): "y enters P(x), with all that y reaches except x".
unfoldable pub enters_own : (ℕ → ℕ → Bool) → ℕ → ℕ → ℕ → Bool
enters_own reaches x y b = eqb b y || (reaches y b && not (eqb b x))

-- Whether b enters P(a): "y enters P(z) for each z other than y that is x or reaches x".
unfoldable pub enters_others : (ℕ → ℕ → Bool) → ℕ → ℕ → ℕ → ℕ → Bool
enters_others reaches x y a b = eqb b y && not (eqb a y) && (eqb a x || reaches a x)

-- both
unfoldable pub enters_either : (ℕ → ℕ → Bool) → ℕ → ℕ → ℕ → ℕ → Bool
enters_either reaches x y a b = (eqb a x && enters_own reaches x y b) || enters_others reaches x y a b

-- What entering the way from x to y into row a of both matrices, where a reaches x, asks for, and what it gives, with the set that joins.
pub record RowRoom (words a x y : ℕ) (row reach paths : List ℕ) : Type 0 where
  pub column : y < 64 * words
  pub arrival : Place words a x reach
  pub entry : Place words a y paths
  pub reach-row : a * words + words ≤ length reach
  pub row-size : words ≤ length row

pub record RowEntered (words a x y : ℕ) (set : ℕ → Bool) (reach paths reach' paths' : List ℕ) : Type 0 where
  pub reached : RowJoined words a (λ b. cell words reach a x && set b) reach reach'
  pub entered : RowJoined words a (λ b. eqb b y && not (eqb a y) && cell words reach a x) paths paths'

-- The same of each of the first n rows.
pub record WayRoom (words n x y : ℕ) (reach paths : List ℕ) : Type 0 where
  pub reach-rows : Rows words n reach
  pub paths-rows : Rows words n paths
  pub first : x < n
  pub second : y < n

pub record RowsEntered (words n x y : ℕ) (set : ℕ → Bool) (reach paths reach' paths' : List ℕ) : Type 0 where
  pub reached : RowsJoined words n (λ a b. cell words reach a x && set b) reach reach'
  pub entered : RowsJoined words n (λ a b. eqb b y && not (eqb a y) && cell words reach a x) paths paths'

-- What entering into the record's row of x asks for.
pub record OwnRoom (words x y : ℕ) (row paths : List ℕ) : Type 0 where
  pub first : x < 64 * words
  pub second : y < 64 * words
  pub paths-row : x * words + words ≤ length paths
  pub row-size : words ≤ length row

-- Both matrices with the way from x to y: what joins what is reached, and what enters the record.
pub record WayEntered (words n x y : ℕ) (reach paths reach' paths' : List ℕ) : Type 0 where
  pub reached : RowsJoined words n (joins (cell words reach) x (onward (cell words reach) y)) reach reach'
  pub entered : RowsJoined words n (enters_either (cell words reach) x y) paths paths'

-- Matrices with rows of one word, each the transpose of the other: `into` has which items reach each item. They hold numbers below n alone.
pub record Transposed (n : ℕ) (reach into : List ℕ) : Type 0 where
  pub cells : (a b : ℕ) → a < n → b < n → cell 1 into b a ≡ cell 1 reach a b
  pub reach-below : (a b : ℕ) → a < n → n ≤ b → b < 64 → cell 1 reach a b ≡ false
  pub into-below : (a b : ℕ) → a < n → n ≤ b → b < 64 → cell 1 into a b ≡ false

-- What adding the need x to y asks for. `into` has rows only where they have one word.
pub record AddRoom (words n x y : ℕ) (reach into paths : List ℕ) : Type 0 where
  pub way : WayRoom words n x y reach paths
  pub into-rows : words ≡ 1 → Rows words n into
  pub transposed : words ≡ 1 → Transposed n reach into

-- What it gives: where the matrices showed a graph, they show that graph with the need.
pub record WayAdded (words n x y : ℕ) (reach paths reach' into' paths' : List ℕ) : Type 0 where
  pub reached : (graph : List Need) (weight : ℕ) → Holds words n (can_reach graph) reach → Holds words n (in_paths graph) paths
      → Holds words n (can_reach (need_row x y weight ∷ graph)) reach'
  pub in-paths : (graph : List Need) (weight : ℕ) → Holds words n (can_reach graph) reach → Holds words n (in_paths graph) paths
      → Holds words n (in_paths (need_row x y weight ∷ graph)) paths'
  pub transposed : words ≡ 1 → Transposed n reach' into'
  pub reach-rest : Rest words n reach reach'
  pub paths-rest : Rest words n paths paths'
