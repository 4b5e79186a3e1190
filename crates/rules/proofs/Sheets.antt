-- 'Sheets and their keys': the marked sheets of the paper, each from the project's bytes to the whole answer.
-- All are proved by computation. They are examples: what they pin of the definitions is what the edits in must-fail/ show. Assumes nothing.
use Rattle.std.specs.Prelude.{ℕ, ◌≡◌, refl, List, [], ◌∷◌, length, take}
use Rattle.rules.specs.SheetWords.{project_bytes, always, maybe, order, grouping, given, turned_down, paths}

-- One: "01 01 00 00, pairs (36, 2) (38, 0) (38, 0) (38, 0), then 00 00; 38 bytes. Prints `ok 1 1 2 0`, then `0`. With 35 bytes: 1."
abbrev one_bytes : List ℕ
one_bytes =
    1 ∷ 1 ∷ 0 ∷ 0
    ∷ 36 ∷ 0 ∷ 0 ∷ 0 ∷ 2 ∷ 0 ∷ 0 ∷ 0
    ∷ 38 ∷ 0 ∷ 0 ∷ 0 ∷ 0 ∷ 0 ∷ 0 ∷ 0
    ∷ 38 ∷ 0 ∷ 0 ∷ 0 ∷ 0 ∷ 0 ∷ 0 ∷ 0
    ∷ 38 ∷ 0 ∷ 0 ∷ 0 ∷ 0 ∷ 0 ∷ 0 ∷ 0
    ∷ 0 ∷ 0 ∷ []

one-length : length one_bytes ≡ 38
one-length = refl

-- The other sheets are written by their rows; of One the rows give its bytes.
one-rows : project_bytes 1 ((0, 0) ∷ []) [] [] [] ≡ one_bytes
unfolding project_bytes
one-rows = refl

one : order one_bytes 1 0 ≡ given 1 1 2 0 (0 ∷ [])
unfolding order
one = refl

one-35 : order (take 35 one_bytes) 1 0 ≡ turned_down 1 0 0
unfolding order
one-35 = refl

-- Early: "rows (0,0) (1,0) (1,0) (1,4) (1,4), imports 0→1 1→0, circle [0,1], needs 0→2 1→3 4→3 4→2 Always. `ok 5 1 3 11`, `3 2 4 1 0`."
abbrev pub early_bytes : List ℕ
early_bytes =
    project_bytes 2
    ((0, 0) ∷ (1, 0) ∷ (1, 0) ∷ (1, 4) ∷ (1, 4) ∷ [])
    ((0, 1) ∷ (1, 0) ∷ [])
    ((0 ∷ 1 ∷ []) ∷ [])
    (always 0 2 ∷ always 1 3 ∷ always 4 3 ∷ always 4 2 ∷ [])

early : order early_bytes 5 0 ≡ given 5 1 3 11 (3 ∷ 2 ∷ 4 ∷ 1 ∷ 0 ∷ [])
unfolding order
early = refl

-- Twice: "three modules, one plain item each, imports 1→2 2→1, circle [0,1,2]. Groups [0] [2,1,0]; `ok 3 2 4 2`, `0 1 2`."
abbrev pub twice_bytes : List ℕ
twice_bytes = project_bytes 3 ((0, 0) ∷ (1, 0) ∷ (2, 0) ∷ []) ((1, 2) ∷ (2, 1) ∷ []) ((0 ∷ 1 ∷ 2 ∷ []) ∷ []) []

twice-groups : grouping twice_bytes 12 0 ≡ given 0 2 4 0 (1 ∷ 0 ∷ 3 ∷ 2 ∷ 1 ∷ 0 ∷ [])
unfolding grouping
twice-groups = refl

twice : order twice_bytes 3 0 ≡ given 3 2 4 2 (0 ∷ 1 ∷ 2 ∷ [])
unfolding order
twice = refl

-- Fallback: "three modules, no items, imports 0→2 2→0, circle [0,1]. Group [1,0,2], 8 visits."
fallback : grouping (project_bytes 3 [] ((0, 2) ∷ (2, 0) ∷ []) ((0 ∷ 1 ∷ []) ∷ []) []) 12 0 ≡ given 0 1 8 0 (3 ∷ 1 ∷ 0 ∷ 2 ∷ [])
unfolding grouping
fallback = refl

-- Unlisted: "two modules, imports 0→1 1→0, no circle. Allowance 1,021: 11. 1,022: 12." Its theorems are in SheetsOnTheLists.
abbrev pub unlisted_bytes : List ℕ
unlisted_bytes = project_bytes 2 [] ((0, 1) ∷ (1, 0) ∷ []) [] []

-- Weights: "rows (0,3) (1,0), imports 0→1 1→0, circle [0,1], needs 0→1 Always, 0→1 Maybe, 1→0 Always: order 0 1, 2 item visits. First two rows
-- exchanged: 4."
abbrev weights_bytes : List ℕ → List ℕ → List ℕ
weights_bytes first second =
    project_bytes 2
    ((0, 3) ∷ (1, 0) ∷ [])
    ((0, 1) ∷ (1, 0) ∷ [])
    ((0 ∷ 1 ∷ []) ∷ [])
    (first ∷ second ∷ always 1 0 ∷ [])

weights : order (weights_bytes (always 0 1) (maybe 0 1)) 2 0 ≡ given 2 1 3 2 (0 ∷ 1 ∷ [])
unfolding order
weights = refl

weights-exchanged : order (weights_bytes (maybe 0 1) (always 0 1)) 2 0 ≡ given 2 1 3 4 (0 ∷ 1 ∷ [])
unfolding order
weights-exchanged = refl

-- Untouched: "one module, rows (0,4) (0,0), need 0→1: order 0 1, no item visits."
untouched : order (project_bytes 1 ((0, 4) ∷ (0, 0) ∷ []) [] [] (always 0 1 ∷ [])) 2 0 ≡ given 2 1 2 0 (0 ∷ 1 ∷ [])
unfolding order
untouched = refl

-- The path example: "needs 0→1, 2→3, 1→2 leave 3 out of P(0)".
path-example : paths 4 (always 0 1 ∷ always 2 3 ∷ always 1 2 ∷ []) ≡ (1 ∷ 2 ∷ []) ∷ (2 ∷ 3 ∷ []) ∷ (3 ∷ []) ∷ [] ∷ []
unfolding paths
path-example = refl
