-- 'Module walk (chunk.rs)'. Assumes nothing.
use Rattle.std.specs.Prelude.{ℕ, suc, Bool, true, false, not, ◌&&◌, eqb}
use mathlib.Core.List.{List, [], ◌∷◌, ◌++◌, map, flat_map, reverse, Memᴰ}
use Rattle.rules.specs.Lists.{is_empty, keep, any, elem, up_from, append_new, different, Reaches}
use Rattle.rules.specs.Project.{Import, Project}
use Rattle.rules.specs.Circles.{gather}
use Rattle.rules.specs.Walk.{Walk, Stop, run}

-- The imports of a module: the different modules that it imports, in the order of their first rows.
unfoldable pub imports_of : Project → ℕ → List ℕ
imports_of p m = different (map (λ (i : Import). i.imported) (keep (λ (i : Import). eqb i.importer m) p.imports))

-- '"Imports" as a count means different rows.' A row counts where no equal one follows.
unfoldable pub same_import : Import → Import → Bool
same_import i j = eqb i.importer j.importer && eqb i.imported j.imported

unfoldable pub count_different : List Import → ℕ
count_different [] = 0
count_different (i ∷ rows) = elim (any (same_import i) rows) [ true ↦ count_different rows | false ↦ suc (count_different rows) ]

unfoldable pub import_count : Project → ℕ
import_count p = count_different p.imports

-- "An item reaches another over one or more of these, a module another over one or more imports."
abbrev pub ImportsModule : Project → ℕ → ℕ → Type 0
ImportsModule p m n = Memᴰ n (imports_of p m)

abbrev pub ReachesModule : Project → ℕ → ℕ → Type 0
ReachesModule p = Reaches (ImportsModule p)

-- The list of modules to visit, the marked modules and the groups made, latest first.
pub data ModuleState : Type 0 where
  module_state : (list marks : List ℕ) (groups : List (List ℕ)) → ModuleState

-- "A group makes its members done": a module is done where a group lists it.
unfoldable pub is_done : List (List ℕ) → ℕ → Bool
is_done groups m = any (elem m) groups

unfoldable pub undone_imports : Project → List (List ℕ) → ℕ → List ℕ
undone_imports p groups m = keep (λ d. not (is_done groups d)) (imports_of p m)

-- "The gathered circle, reversed"
unfoldable pub circle_of : Project → ℕ → List ℕ
circle_of p m = reverse (gather p.modules p.circles m)

-- "the undone imports, outside the circle, of its members, in member order, repeats kept"
unfoldable pub outside_imports : Project → List (List ℕ) → List ℕ → List ℕ
outside_imports p groups circle = flat_map (λ c. keep (λ d. not (elem d circle)) (undone_imports p groups c)) circle

-- "A group makes its members done and clears all marks."
unfoldable pub with_group : List ℕ → ModuleState → ModuleState
with_group group (module_state list marks groups) = module_state list [] (group ∷ groups)

-- "A visit takes the front module m off."
-- 1. "m done: nothing."
-- 2. "No undone imports: group [m]."
-- 3. "The gathered circle, reversed, is empty: m goes to the front, then m's undone imports before it, first import foremost."
-- 4. "Otherwise find the undone imports, outside the circle, of its members .. None: the circle is a group. Some, and m not marked: mark m, put m
--    and then these in front as in 3. Some, and m marked: the circle with them appended, each once, is a group."
unfoldable pub visit_module : Project → ModuleState → ModuleState
visit_module p (module_state [] marks groups) = module_state [] marks groups
visit_module p (module_state (m ∷ list) marks groups) =
    let rest = module_state list marks groups in
    let imports = undone_imports p groups m in
    let circle = circle_of p m in
    let outside = outside_imports p groups circle in
    elim (is_done groups m) [
      | true ↦ rest
      | false ↦ elim (is_empty imports) [
        | true ↦ with_group (m ∷ []) rest
        | false ↦ elim (is_empty circle) [
          | true ↦ module_state (imports ++ (m ∷ list)) marks groups
          | false ↦ elim (is_empty outside) [
            | true ↦ with_group circle rest
            | false ↦ elim (elem m marks) [
              | true ↦ with_group (append_new circle outside) rest
              | false ↦ module_state (outside ++ (m ∷ list)) (m ∷ marks) groups
            ]
          ]
        ]
      ]
    ]

unfoldable pub module_list : ModuleState → List ℕ
module_list (module_state list marks groups) = list

unfoldable pub groups_of : ModuleState → List (List ℕ)
groups_of (module_state list marks groups) = groups

-- "The walk ends when the list is empty."
abbrev pub module_walk : Project → Walk ModuleState
module_walk p = record { ended = λ s. is_empty (module_list s); visit = visit_module p; list = module_list }

-- "The list starts as the entry, then 0 to M−1."
unfoldable pub module_start : Project → ModuleState
module_start p = module_state (p.entry ∷ up_from 0 p.modules) [] []

-- The grouping of a project under a list limit and an allowance.
unfoldable pub run_modules : Project → ℕ → ℕ → Stop ModuleState
run_modules p limit allowance = run (module_walk p) limit allowance 0 (module_start p)

-- the groups of a state in the order in which they were made
unfoldable pub groups_in_order : ModuleState → List (List ℕ)
groups_in_order s = reverse (groups_of s)
