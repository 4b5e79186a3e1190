-- What the sheets are written in: a project by its rows, the calls on it, and the answers. Assumes nothing.
use Rattle.std.specs.Prelude.{ℕ, ◌+◌, length}
use mathlib.Core.List.{List, [], ◌∷◌, ◌++◌, map, flat_map, flatten}
use Rattle.rules.specs.Lists.{is_empty, cons_if, keep, any, all, positions_from, up_from, elem, append_new, different}
use Rattle.rules.specs.Project.{Reading, refused, accepted, number32, offset_of, length_of, end_of, section, pair_rows, need_rows, join_first, lists_from, circle_lists, stub, foreign, misplaced, ragged, outsize, bad_item, bad_import, bad_circles, bad_need, project_of, read}
use Rattle.rules.specs.Circles.{listed_with, with_found, follow_member, follow_members, follow_module, gathered_of, gather}
use Rattle.rules.specs.Walk.{run}
use Rattle.rules.specs.Modules.{imports_of, same_import, count_different, import_count, is_done, undone_imports, circle_of, outside_imports, with_group, visit_module, module_list, groups_of, module_start, run_modules, groups_in_order}
use Rattle.rules.specs.Paths.{dependencies_of, dependants_of, is_need, weight_in, can_reach, enters, in_paths}
use Rattle.rules.specs.Items.{is_kept, is_injected, may_drop, no_item, item_at, kind_at, kept_rows, kept_rows_of, giving_modules, given_rows, keeps_row_order, uninjected_rows, injected_rows, numbering, ranges_from, in_range, numbers_of, range_of, number_of, is_among, numbered, group_of, kind_of, numbers, path_holds, weight_of, same_range, starts, first_list, has_moved, with_open, find_open, is_dropped, waiting, one_by_one, preceding, after_preceding, after_open, visit_item, item_list, placed_of, item_start, order_of, sort_modules, sort_group}
use Rattle.rules.specs.Calls.{Answer, Entry, refusal, allowed, order_bytes, groups_bytes, group_bytes, groups_answer, groups_of_project, groups_call, continue_with, order_groups, order_answer, after_groups, order_of_project, order_call, bytes32, overwrite, report_bytes, reported, order_entry, groups_entry}

-- The bytes of a project with entry module 0, from those of its sections: the header with its pairs, then items, imports, circles, needs.
unfoldable pub sections : ℕ → List ℕ → List ℕ → List ℕ → List ℕ → List ℕ
unfolding bytes32
sections modules items imports circles needs =
    let a = 36 + length items in
    let b = a + length imports in
    let c = b + length circles in
    (1 ∷ modules ∷ 0 ∷ 0 ∷ [])
    ++ (bytes32 36 ++ (bytes32 (length items)
    ++ (bytes32 a ++ (bytes32 (length imports)
    ++ (bytes32 b ++ (bytes32 (length circles)
    ++ (bytes32 c ++ (bytes32 (length needs)
    ++ (items ++ (imports ++ (circles ++ needs)))))))))))

-- The rows: (module, kind) of an item, (importer, imported) of an import, the members of a circle, and of a need `always` or `maybe` item and
-- item it depends on.
unfoldable pub pair_bytes : List (ℕ × ℕ) → List ℕ
pair_bytes = flat_map (λ (q : ℕ × ℕ). q.0 ∷ q.1 ∷ [])

unfoldable pub circle_bytes : List (List ℕ) → List ℕ
circle_bytes = flat_map (λ members. length members ∷ members)

abbrev pub always : ℕ → ℕ → List ℕ
always x y = x ∷ y ∷ 0 ∷ []

abbrev pub maybe : ℕ → ℕ → List ℕ
maybe x y = x ∷ y ∷ 1 ∷ []

-- The bytes of a project with entry module 0, from its rows.
unfoldable pub project_bytes : ℕ → List (ℕ × ℕ) → List (ℕ × ℕ) → List (List ℕ) → List (List ℕ) → List ℕ
unfolding sections pair_bytes circle_bytes flat_map flatten
project_bytes modules items imports circles needs =
    sections modules (pair_bytes items) (pair_bytes imports) (circle_bytes circles) (flatten needs)

-- The calls, on a project's bytes with a reply of `space` bytes, and the entries. `unfolding order` opens all that the calls compute with,
-- `unfolding unrun` all of it but the runs.
unfoldable pub unrun : List ℕ → ℕ → ℕ → Answer
unfolding project_bytes is_empty cons_if keep any all positions_from up_from elem append_new different flat_map flatten number32 offset_of length_of end_of section pair_rows need_rows join_first lists_from circle_lists stub foreign misplaced ragged outsize bad_item bad_import bad_circles bad_need project_of read listed_with with_found follow_member follow_members follow_module gathered_of gather imports_of is_done undone_imports circle_of outside_imports with_group visit_module module_list groups_of module_start run_modules groups_in_order dependencies_of dependants_of is_need weight_in can_reach enters in_paths is_kept is_injected may_drop no_item item_at kind_at kept_rows kept_rows_of giving_modules given_rows keeps_row_order uninjected_rows injected_rows numbering ranges_from in_range numbers_of range_of number_of is_among numbered group_of kind_of numbers path_holds weight_of same_range starts first_list has_moved with_open find_open is_dropped waiting one_by_one preceding after_preceding after_open visit_item item_list placed_of item_start order_of sort_modules sort_group refusal allowed order_bytes continue_with order_groups order_answer after_groups order_of_project order_call
unrun bytes space allowance = order_call bytes space allowance

unfoldable pub order : List ℕ → ℕ → ℕ → Answer
unfolding unrun run
order bytes space allowance = unrun bytes space allowance

unfoldable pub grouping : List ℕ → ℕ → ℕ → Answer
unfolding order groups_bytes group_bytes groups_answer groups_of_project groups_call
grouping bytes space allowance = groups_call bytes space allowance

unfoldable pub enter_order : List ℕ → List ℕ → List ℕ → ℕ → Entry
unfolding order overwrite bytes32 report_bytes reported order_entry
enter_order bytes reply report allowance = order_entry bytes reply report allowance

unfoldable pub enter_groups : List ℕ → List ℕ → List ℕ → ℕ → Entry
unfolding grouping overwrite bytes32 report_bytes reported groups_entry
enter_groups bytes reply report allowance = groups_entry bytes reply report allowance

-- The answers: an order or a grouping that is given, and a refusal. `answer` is the number alone.
abbrev pub given : ℕ → ℕ → ℕ → ℕ → List ℕ → Answer
given kept groups module_visits item_visits written =
    record { number = 0; kept = kept; groups = groups; module_visits = module_visits; item_visits = item_visits; written = written }

abbrev pub turned_down : ℕ → ℕ → ℕ → Answer
turned_down n module_visits item_visits =
    record { number = n; kept = 0; groups = 0; module_visits = module_visits; item_visits = item_visits; written = [] }

abbrev pub left : ℕ → List ℕ → List ℕ → Entry
left n reply report = record { number = n; reply = reply; report = report }

-- The record of paths that needs leave among `n` plain items of one module: P(0), P(1), and so on.
unfoldable pub paths_in : ℕ → Reading → List (List ℕ)
unfolding order
paths_in n (refused r) = []
paths_in n (accepted p) = map (λ x. keep (path_holds (group_of p (0 ∷ [])) x) (up_from 0 n)) (up_from 0 n)

unfoldable pub paths : ℕ → List (List ℕ) → List (List ℕ)
unfolding order paths_in
paths n needs = paths_in n (read (project_bytes 1 (map (λ x. (0, 0)) (up_from 0 n)) [] [] needs))

-- '"Imports" as a count' of a project of `modules` modules
unfoldable pub count_in : Reading → ℕ
unfolding order same_import count_different import_count
count_in (refused r) = 0
count_in (accepted p) = import_count p

unfoldable pub imports_counted : ℕ → List (ℕ × ℕ) → ℕ
unfolding order count_in
imports_counted modules imports = count_in (read (project_bytes modules [] imports [] []))
