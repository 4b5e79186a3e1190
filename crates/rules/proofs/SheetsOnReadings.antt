-- Sheets of ours, not of the paper: small projects, each with the sentence of the paper that it tells from another reading. All are proved by
-- computation. They are examples: what they pin of the definitions is what the edits in must-fail/ show. Assumes nothing.
use Rattle.std.specs.Prelude.{ℕ, ◌≡◌, refl, List, [], ◌∷◌, set}
use Rattle.rules.specs.Project.{project_of}
use Rattle.rules.specs.Walk.{spent, full}
use Rattle.rules.specs.Modules.{run_modules}
use Rattle.rules.specs.Calls.{allowed, groups_call, order_call}
use Rattle.rules.specs.SheetWords.{project_bytes, always, maybe, order, grouping, given, turned_down, paths, imports_counted}
use Rattle.rules.proofs.Sheets.{twice_bytes, unlisted_bytes}

-- 'Project bytes'.
-- "Byte 2: entry module": "The list starts as the entry, then 0 to M−1." Two modules, entry 1.
entry : grouping (set (project_bytes 2 ((0, 0) ∷ []) [] [] []) 2 1) 6 0 ≡ given 0 2 3 0 (1 ∷ 1 ∷ 1 ∷ 0 ∷ [])
unfolding grouping
entry = refl

-- "Kind 5 is dropped, all others are kept."
dropped : order (project_bytes 1 ((0, 5) ∷ (0, 0) ∷ (0, 1) ∷ (0, 2) ∷ (0, 3) ∷ (0, 4) ∷ []) [] [] []) 6 0 ≡ given 5 1 2 0 (1 ∷ 2 ∷ 3 ∷ 4 ∷ 5 ∷ [])
unfolding order
dropped = refl

-- '"Imports" as a count means different rows.'
imports-counted : imports_counted 3 ((0, 1) ∷ (1, 0) ∷ (0, 1) ∷ (2, 1) ∷ (0, 2) ∷ []) ≡ 4
unfolding imports_counted
imports-counted = refl

-- Repeated import rows are one import, which keeps its first place: imports 0→1 0→2 0→1.
import-again : grouping (project_bytes 3 [] ((0, 1) ∷ (0, 2) ∷ (0, 1) ∷ []) [] []) 12 0 ≡ given 0 3 7 0 (1 ∷ 1 ∷ 1 ∷ 2 ∷ 1 ∷ 0 ∷ [])
unfolding grouping
import-again = refl

-- 'What is turned down'.
-- "visits made equal the allowance and another is due": the end is tested before the allowance. One plain item, 2 module visits.
abbrev one_bytes : List ℕ
one_bytes = project_bytes 1 ((0, 0) ∷ []) [] [] []

one-2 : order one_bytes 1 2 ≡ given 1 1 2 0 (0 ∷ [])
unfolding order
one-2 = refl

one-1 : order one_bytes 1 1 ≡ turned_down 11 1 0
unfolding order
one-1 = refl

-- "a visit leaves over" the limit: the list of Unlisted starts with 3 entries, and each visit leaves one more. With a limit of 5 it is full after 3
-- visits, "with the last one".
over-5 : run_modules (project_of unlisted_bytes) 5 3 ≡ full 3
unfolding order
over-5 = refl

at_5 : run_modules (project_of unlisted_bytes) 5 2 ≡ spent 2
unfolding order
at_5 = refl

-- "Visits of both walks are counted against one allowance": Twice makes 4 module visits and 2 item visits. "its counts are 0, except that 11 and 12
-- carry the visits made"
twice-6 : order twice_bytes 3 6 ≡ given 3 2 4 2 (0 ∷ 1 ∷ 2 ∷ [])
unfolding order
twice-6 = refl

twice-5 : order twice_bytes 3 5 ≡ turned_down 11 4 1
unfolding order
twice-5 = refl

-- "All groups are found before the first item visit; then they are sorted in turn": items in modules 2 and 0, imports 0→1 2→0. Groups [1] [0] [2],
-- after 6 module visits; [0] and [2] are sorted with one visit each, and both visits count.
abbrev two_sorted_bytes : List ℕ
two_sorted_bytes = project_bytes 3 ((2, 0) ∷ (0, 0) ∷ []) ((0, 1) ∷ (2, 0) ∷ []) [] []

two-sorted : order two_sorted_bytes 2 8 ≡ given 2 3 6 2 (1 ∷ 0 ∷ [])
unfolding order
two-sorted = refl

two-sorted-7 : order two_sorted_bytes 2 7 ≡ turned_down 11 6 1
unfolding order
two-sorted-7 = refl

two-sorted-5 : order two_sorted_bytes 2 5 ≡ turned_down 11 5 0
unfolding order
two-sorted-5 = refl

-- Document 02, item 13: "Allowance 0 means 20,000."
allowance-0 : allowed 0 ≡ 20000
unfolding allowed
allowance-0 = refl

-- Of every call: 0 is answered as 20,000 is, whatever the bytes and the reply.
order-0 : (bytes : List ℕ) (space : ℕ) → order_call bytes space 0 ≡ order_call bytes space 20000
unfolding allowed order_call
order-0 bytes space = refl

groups-0 : (bytes : List ℕ) (space : ℕ) → groups_call bytes space 0 ≡ groups_call bytes space 20000
unfolding allowed groups_call
groups-0 bytes space = refl

allowance-1 : allowed 1 ≡ 1
unfolding allowed
allowance-1 = refl

-- 'Circles of a module'.
-- "A count of 0 and a repeated member are allowed": import 0→1, circles [] [0,0]. 0 is gathered once, so that 1 goes to the list once.
repeated-member : grouping (project_bytes 2 [] ((0, 1) ∷ []) ([] ∷ (0 ∷ 0 ∷ []) ∷ []) []) 6 0 ≡ given 0 2 5 0 (1 ∷ 1 ∷ 1 ∷ 0 ∷ [])
unfolding grouping
repeated-member = refl

-- A list that holds m alone is a circle of m: imports 0→1 1→0, circle [0].
alone : grouping (project_bytes 2 [] ((0, 1) ∷ (1, 0) ∷ []) ((0 ∷ []) ∷ []) []) 6 0 ≡ given 0 1 7 0 (2 ∷ 0 ∷ 1 ∷ [])
unfolding grouping
alone = refl

-- "gather, each once, the members of every list holding it": import 0→1, circles [0] [1,0].
every-list : grouping (project_bytes 2 [] ((0, 1) ∷ []) ((0 ∷ []) ∷ (1 ∷ 0 ∷ []) ∷ []) []) 6 0 ≡ given 0 1 3 0 (2 ∷ 1 ∷ 0 ∷ [])
unfolding grouping
every-list = refl

-- "then follow, in order, each gathered member not yet noted and append what is new", depth first: import 0→1, circles [2,3] [1,4] [2,1,0] [5,3].
-- From 0: 2, 1, 0 are gathered; following 2 gathers 3 and, from 3, 5; following 1 then gathers 4.
depth-first : grouping (project_bytes 6 [] ((0, 1) ∷ []) ((2 ∷ 3 ∷ []) ∷ (1 ∷ 4 ∷ []) ∷ (2 ∷ 1 ∷ 0 ∷ []) ∷ (5 ∷ 3 ∷ []) ∷ []) []) 42 0
    ≡ given 0 1 7 0 (6 ∷ 4 ∷ 5 ∷ 3 ∷ 0 ∷ 1 ∷ 2 ∷ [])
unfolding grouping
depth-first = refl

-- 'Module walk'.
-- 3. "m goes to the front, then m's undone imports before it, first import foremost": imports 0→2 0→1, in the order of their rows.
import-rows : grouping (project_bytes 3 [] ((0, 2) ∷ (0, 1) ∷ []) [] []) 12 0 ≡ given 0 3 7 0 (1 ∷ 2 ∷ 1 ∷ 1 ∷ 1 ∷ 0 ∷ [])
unfolding grouping
import-rows = refl

-- The same of m itself: import 1→3. 1 stands before 2, which waits on the list.
to_front : grouping (project_bytes 4 [] ((1, 3) ∷ []) [] []) 20 0 ≡ given 0 4 7 0 (1 ∷ 0 ∷ 1 ∷ 3 ∷ 1 ∷ 1 ∷ 1 ∷ 2 ∷ [])
unfolding grouping
to_front = refl

-- 4. "put m and then these in front as in 3": import 1→2, circle [1]. 1 stands before 3.
to-front-4 : grouping (project_bytes 4 [] ((1, 2) ∷ []) ((1 ∷ []) ∷ []) []) 20 0 ≡ given 0 4 7 0 (1 ∷ 0 ∷ 1 ∷ 2 ∷ 1 ∷ 1 ∷ 1 ∷ 3 ∷ [])
unfolding grouping
to-front-4 = refl

-- 4. "in member order", which is that of the reversed circle: imports 2→1 0→3, circle [0,2]. The outside imports of [2,0] are 1, 3.
member-order : grouping (project_bytes 4 [] ((2, 1) ∷ (0, 3) ∷ []) ((0 ∷ 2 ∷ []) ∷ []) []) 20 0
    ≡ given 0 4 8 0 (1 ∷ 1 ∷ 1 ∷ 3 ∷ 1 ∷ 0 ∷ 1 ∷ 2 ∷ [])
unfolding grouping
member-order = refl

-- 4. "repeats kept": imports 0→1 2→1, circle [0,2]. 1 goes to the list twice.
repeats : grouping (project_bytes 3 [] ((0, 1) ∷ (2, 1) ∷ []) ((0 ∷ 2 ∷ []) ∷ []) []) 12 0 ≡ given 0 3 7 0 (1 ∷ 1 ∷ 1 ∷ 0 ∷ 1 ∷ 2 ∷ [])
unfolding grouping
repeats = refl

-- 4. "Some, and m not marked: mark m", and no other member: imports 0→2 1→2 2→1, circle [2,0]. 0 is marked; 2 is met unmarked.
mark-m : grouping (project_bytes 3 [] ((0, 2) ∷ (1, 2) ∷ (2, 1) ∷ []) ((2 ∷ 0 ∷ []) ∷ []) []) 12 0 ≡ given 0 1 12 0 (3 ∷ 0 ∷ 2 ∷ 1 ∷ [])
unfolding grouping
mark-m = refl

-- 4. "the circle with them appended, each once, is a group": imports 2→1 0→2 1→2, circle [1,0]. Both members import 2.
each-once : grouping (project_bytes 3 [] ((2, 1) ∷ (0, 2) ∷ (1, 2) ∷ []) ((1 ∷ 0 ∷ []) ∷ []) []) 12 0 ≡ given 0 1 14 0 (3 ∷ 0 ∷ 1 ∷ 2 ∷ [])
unfolding grouping
each-once = refl

-- 4. "of its members", done ones too: imports 3→1 1→0 0→3 2→0 0→2, circles [2,1] [3].
done-member : grouping (project_bytes 4 [] ((3, 1) ∷ (1, 0) ∷ (0, 3) ∷ (2, 0) ∷ (0, 2) ∷ []) ((2 ∷ 1 ∷ []) ∷ (3 ∷ []) ∷ []) []) 20 0
    ≡ given 0 2 21 0 (2 ∷ 3 ∷ 1 ∷ 3 ∷ 1 ∷ 2 ∷ 0 ∷ [])
unfolding grouping
done-member = refl

-- "A group makes its members done and clears all marks", the groups of step 2: imports 0→1 2→0 0→2, circles [2] [0]. 0 is marked, [1] is a group,
-- and 0 is expanded again before 2, met marked, takes its imports in.
cleared : grouping (project_bytes 3 [] ((0, 1) ∷ (2, 0) ∷ (0, 2) ∷ []) ((2 ∷ []) ∷ (0 ∷ []) ∷ []) []) 12 0 ≡ given 0 2 11 0 (1 ∷ 1 ∷ 2 ∷ 2 ∷ 0 ∷ [])
unfolding grouping
cleared = refl

-- The same of a circle: imports 4→3 1→4 3→2 4→1, circles [1] [2,3]. 1 is marked when [3,2] is a group.
cleared-by-circle : grouping (project_bytes 5 [] ((4, 3) ∷ (1, 4) ∷ (3, 2) ∷ (4, 1) ∷ []) ((1 ∷ []) ∷ (2 ∷ 3 ∷ []) ∷ []) []) 30 0
    ≡ given 0 3 15 0 (1 ∷ 0 ∷ 2 ∷ 3 ∷ 2 ∷ 2 ∷ 1 ∷ 4 ∷ [])
unfolding grouping
cleared-by-circle = refl

-- The same of a circle with its outside imports: imports 1→2 0→3 3→0 2→1, circles [2] [3,1]. 3 is marked when [2,1] is a group.
cleared-by-fallback : grouping (project_bytes 4 [] ((1, 2) ∷ (0, 3) ∷ (3, 0) ∷ (2, 1) ∷ []) ((2 ∷ []) ∷ (3 ∷ 1 ∷ []) ∷ []) []) 20 0
    ≡ given 0 2 21 0 (2 ∷ 2 ∷ 1 ∷ 3 ∷ 1 ∷ 3 ∷ 0 ∷ [])
unfolding grouping
cleared-by-fallback = refl

-- 'Paths'.
-- "if y is in P(x), no more", also where the edge is new: the path example and then 0→2.
path-new-edge : paths 4 (always 0 1 ∷ always 2 3 ∷ always 1 2 ∷ always 0 2 ∷ []) ≡ (1 ∷ 2 ∷ []) ∷ (2 ∷ 3 ∷ []) ∷ (3 ∷ []) ∷ [] ∷ []
unfolding paths
path-new-edge = refl

-- The same where the edge is added again: the path example and then 0→1.
path-again : paths 4 (always 0 1 ∷ always 2 3 ∷ always 1 2 ∷ always 0 1 ∷ []) ≡ (1 ∷ 2 ∷ []) ∷ (2 ∷ 3 ∷ []) ∷ (3 ∷ []) ∷ [] ∷ []
unfolding paths
path-again = refl

-- "with all that y reaches except x; and y enters P(z) for each z other than y that is x or reaches x": a circle enters no item into its own P.
path-circle : paths 2 (always 0 1 ∷ always 1 0 ∷ []) ≡ (1 ∷ []) ∷ (0 ∷ []) ∷ []
unfolding paths
path-circle = refl

-- 'Item walk'. Most of these have two modules and import 0→1. `lone`: items of module 0 alone, in group [0], which is sorted after 5 module visits.
-- `zero_first`: circle [0,1], group [1,0] after 3, so that module 0 gives its items first. `one_first`: circle [1,0], group [0,1], module 1 first.
abbrev lone : List (ℕ × ℕ) → List (List ℕ) → List ℕ
lone items needs = project_bytes 2 items ((0, 1) ∷ []) [] needs

abbrev zero_first : List (ℕ × ℕ) → List (List ℕ) → List ℕ
zero_first items needs = project_bytes 2 items ((0, 1) ∷ []) ((0 ∷ 1 ∷ []) ∷ []) needs

abbrev one_first : List (ℕ × ℕ) → List (List ℕ) → List ℕ
one_first items needs = project_bytes 2 items ((0, 1) ∷ []) ((1 ∷ 0 ∷ []) ∷ []) needs

-- "modules already used .. are passed over", in whichever earlier group: import 2→3, circle [2,0,3]. Groups [0] [1] [3,0,2]; the last gives nothing.
used-before : order (project_bytes 4 ((0, 0) ∷ []) ((2, 3) ∷ []) ((2 ∷ 0 ∷ 3 ∷ []) ∷ []) []) 1 0 ≡ given 1 3 5 0 (0 ∷ [])
unfolding order
used-before = refl

-- "A group of one module with no imports keeps its row order": a group of two is sorted though one alone gives items.
one-gives : order (one_first ((0, 4) ∷ (0, 0) ∷ []) []) 2 0 ≡ given 2 1 3 3 (1 ∷ 0 ∷ [])
unfolding order
one-gives = refl

-- Also where the one that gives them has no imports.
one-gives-unimporting : order (one_first ((1, 0) ∷ []) []) 1 0 ≡ given 1 1 3 1 (0 ∷ [])
unfolding order
one-gives-unimporting = refl

-- "with no imports": whether it is imported does not count. Import 1→0.
imported : order (project_bytes 2 ((0, 4) ∷ (0, 0) ∷ []) ((1, 0) ∷ []) [] []) 2 0 ≡ given 2 2 3 0 (0 ∷ 1 ∷ [])
unfolding order
imported = refl

-- "uninjected items by module", not by row.
by-module : order (one_first ((0, 0) ∷ (1, 0) ∷ []) []) 2 0 ≡ given 2 1 3 2 (1 ∷ 0 ∷ [])
unfolding order
by-module = refl

-- "then injected ones", by module and then by row.
injected : order (one_first ((0, 4) ∷ (1, 4) ∷ []) []) 2 0 ≡ given 2 1 3 4 (1 ∷ 0 ∷ [])
unfolding order
injected = refl

-- "its start the run's first number, also where the run is empty": module 0 runs from 0, module 1 has an empty run at 2, and 2 is the injected item.
empty-run : order (zero_first ((0, 0) ∷ (0, 0) ∷ (1, 4) ∷ []) []) 3 0 ≡ given 3 1 3 4 (0 ∷ 2 ∷ 1 ∷ [])
unfolding order
empty-run = refl

-- "then, per start, the range holding it": module 1 has an empty run at 0, which lies in module 0's range. That range stands on the list twice.
empty-run-inside : order (one_first ((0, 0) ∷ (1, 4) ∷ []) []) 2 0 ≡ given 2 1 3 5 (0 ∷ 1 ∷ [])
unfolding order
empty-run-inside = refl

-- "the needs whose two ends are among them": a need between two groups is none of either.
two_ends : order (project_bytes 2 ((0, 0) ∷ (1, 0) ∷ []) ((1, 0) ∷ []) [] (always 1 0 ∷ [])) 2 0 ≡ given 2 2 3 1 (0 ∷ 1 ∷ [])
unfolding order
two_ends = refl

-- "An item belongs to the first group that lists its module": Twice with needs 1→0 0→2, groups [0] [2,1,0].
first_group : order (project_bytes 3 ((0, 0) ∷ (1, 0) ∷ (2, 0) ∷ []) ((1, 2) ∷ (2, 1) ∷ []) ((0 ∷ 1 ∷ 2 ∷ []) ∷ []) (always 1 0 ∷ always 0 2 ∷ [])) 3 0
    ≡ given 3 2 4 2 (0 ∷ 1 ∷ 2 ∷ [])
unfolding order
first_group = refl

-- "a graph of the group's kept items": needs of a dropped item lead nowhere.
dropped-end : order (lone ((0, 0) ∷ (0, 5) ∷ (0, 4) ∷ []) (always 0 1 ∷ always 1 2 ∷ [])) 3 0 ≡ given 2 2 5 3 (0 ∷ 2 ∷ [])
unfolding order
dropped-end = refl

-- 2. "For each dependency d in order", that of the first rows.
dependencies : order (lone ((0, 0) ∷ (0, 4) ∷ (0, 4) ∷ []) (always 0 2 ∷ always 0 1 ∷ [])) 3 0 ≡ given 3 2 5 4 (2 ∷ 1 ∷ 0 ∷ [])
unfolding order
dependencies = refl

-- "an edge added again keeps its place"
dependencies-again : order (lone ((0, 0) ∷ (0, 4) ∷ (0, 4) ∷ []) (always 0 2 ∷ always 0 1 ∷ always 0 2 ∷ [])) 3 0 ≡ given 3 2 5 4 (2 ∷ 1 ∷ 0 ∷ [])
unfolding order
dependencies-again = refl

-- 2. "skip it in x's range"
own_range : order (lone ((0, 0) ∷ (0, 0) ∷ []) (always 0 1 ∷ [])) 2 0 ≡ given 2 2 5 3 (0 ∷ 1 ∷ [])
unfolding order
own_range = refl

-- 2. "else note that pair as moved"
moved : order (lone ((0, 0) ∷ (0, 4) ∷ []) (always 1 0 ∷ always 0 1 ∷ [])) 2 0 ≡ given 2 2 5 4 (0 ∷ 1 ∷ [])
unfolding order
moved = refl

-- 2. "If x is uninjected": the pairs of the injected 0 are not noted, and it waits for 2.
moved-uninjected : order (lone ((0, 4) ∷ (0, 0) ∷ (0, 0) ∷ []) (always 0 2 ∷ always 1 0 ∷ always 2 0 ∷ [])) 3 0 ≡ given 3 2 5 10 (2 ∷ 0 ∷ 1 ∷ [])
unfolding order
moved-uninjected = refl

-- 3. "Drop an open d if P(d) holds x and x is of kind 1 or 2, or of kind 3 with weight Maybe." Items 0 of module 0 and 1 of module 1 need each other;
-- 0 is plain and comes first.
abbrev mutual_needs : ℕ → List ℕ → List ℕ
mutual_needs kind need = zero_first ((0, 0) ∷ (1, kind) ∷ []) (always 0 1 ∷ need ∷ [])

drop-function : order (mutual_needs 1 (always 1 0)) 2 0 ≡ given 2 1 3 3 (1 ∷ 0 ∷ [])
unfolding order
drop-function = refl

drop-class : order (mutual_needs 2 (always 1 0)) 2 0 ≡ given 2 1 3 3 (1 ∷ 0 ∷ [])
unfolding order
drop-class = refl

drop-weak : order (mutual_needs 3 (maybe 1 0)) 2 0 ≡ given 2 1 3 3 (1 ∷ 0 ∷ [])
unfolding order
drop-weak = refl

drop-no-strong : order (mutual_needs 3 (always 1 0)) 2 0 ≡ given 2 1 3 4 (0 ∷ 1 ∷ [])
unfolding order
drop-no-strong = refl

drop-no-plain : order (mutual_needs 0 (maybe 1 0)) 2 0 ≡ given 2 1 3 4 (0 ∷ 1 ∷ [])
unfolding order
drop-no-plain = refl

drop-no-injected : order (lone ((0, 4) ∷ (0, 0) ∷ []) (maybe 0 1 ∷ always 1 0 ∷ [])) 2 0 ≡ given 2 2 5 4 (1 ∷ 0 ∷ [])
unfolding order
drop-no-injected = refl

-- The weight is that of the pair: 1 of kind 3 needs 0 Maybe, and the needs 1→2 and 2→0 that follow are Always.
weight-of-pair : order (zero_first ((0, 0) ∷ (1, 3) ∷ (1, 4) ∷ []) (always 0 1 ∷ maybe 1 0 ∷ always 1 2 ∷ always 2 0 ∷ [])) 3 0 ≡ given 3 1 3 6 (0 ∷ 2 ∷ 1 ∷ [])
unfolding order
weight-of-pair = refl

-- 3. "if P(d) holds x", of each of these kinds.
weak : order (lone ((0, 3) ∷ (0, 4) ∷ []) (maybe 0 1 ∷ [])) 2 0 ≡ given 2 2 5 3 (1 ∷ 0 ∷ [])
unfolding order
weak = refl

function-without-path : order (lone ((0, 1) ∷ (0, 4) ∷ []) (always 0 1 ∷ [])) 2 0 ≡ given 2 2 5 3 (1 ∷ 0 ∷ [])
unfolding order
function-without-path = refl

class-without-path : order (lone ((0, 2) ∷ (0, 4) ∷ []) (always 0 1 ∷ [])) 2 0 ≡ given 2 2 5 3 (1 ∷ 0 ∷ [])
unfolding order
class-without-path = refl

-- Paths go over the group's needs alone: rows (1,4) (1,3) (0,0), import 1→0, needs 1→0 Maybe 2→1 0→2. Over the project's, 0 would reach 1.
paths-of-group : order (project_bytes 2 ((1, 4) ∷ (1, 3) ∷ (0, 0) ∷ []) ((1, 0) ∷ []) [] (maybe 1 0 ∷ always 2 1 ∷ always 0 2 ∷ [])) 3 0
    ≡ given 3 2 3 3 (2 ∷ 0 ∷ 1 ∷ [])
unfolding order
paths-of-group = refl

-- 3. "If any stay, x goes to the front, then these before it": those that stay, without the dropped. Class 0 of module 1 needs 2 and 1; P(2) holds it.
staying-alone : order (one_first ((1, 2) ∷ (0, 0) ∷ (0, 0) ∷ []) (always 0 2 ∷ always 0 1 ∷ always 2 0 ∷ [])) 3 0 ≡ given 3 1 3 7 (1 ∷ 0 ∷ 2 ∷ [])
unfolding order
staying-alone = refl

-- 4. "its unplaced injected dependants go to the front one by one": after 0, 2 stands before 1.
dependants : order (lone ((0, 4) ∷ (0, 4) ∷ (0, 4) ∷ []) (always 1 0 ∷ always 2 0 ∷ [])) 3 0 ≡ given 3 2 5 3 (0 ∷ 2 ∷ 1 ∷ [])
unfolding order
dependants = refl

-- Dependants stand in the order of their first rows, too.
dependants-rows : order (lone ((0, 4) ∷ (0, 4) ∷ (0, 4) ∷ []) (always 2 0 ∷ always 1 0 ∷ [])) 3 0 ≡ given 3 2 5 3 (0 ∷ 1 ∷ 2 ∷ [])
unfolding order
dependants-rows = refl

dependants-again : order (lone ((0, 4) ∷ (0, 4) ∷ (0, 4) ∷ []) (always 1 0 ∷ always 2 0 ∷ always 1 0 ∷ [])) 3 0 ≡ given 3 2 5 3 (0 ∷ 2 ∷ 1 ∷ [])
unfolding order
dependants-again = refl

-- 5. "find the first unplaced p below x in its range whose pair (x, p) hasn't moved", past one whose pair has.
past-moved : order (lone ((0, 4) ∷ (0, 0) ∷ (0, 0) ∷ (0, 0) ∷ []) (always 0 3 ∷ always 1 0 ∷ [])) 4 0 ≡ given 4 2 5 13 (3 ∷ 0 ∷ 1 ∷ 2 ∷ [])
unfolding order
past-moved = refl

-- 5. One p in a visit: 2 of module 1 needs 4, and 0, 1, 3 stand below it.
one-preceding : order (zero_first ((0, 0) ∷ (0, 0) ∷ (1, 0) ∷ (0, 0) ∷ (0, 0) ∷ []) (always 2 4 ∷ [])) 5 0 ≡ given 5 1 3 8 (0 ∷ 1 ∷ 3 ∷ 4 ∷ 2 ∷ [])
unfolding order
one-preceding = refl

-- 5. "put those dependants in front, then x, then p"
dependants-x-p : order (lone ((0, 0) ∷ (0, 0) ∷ (0, 4) ∷ []) (always 0 2 ∷ always 1 0 ∷ always 2 1 ∷ [])) 3 0 ≡ given 3 2 5 6 (0 ∷ 1 ∷ 2 ∷ [])
unfolding order
dependants-x-p = refl
