-- The sheets on which a walk goes on until its list is full: Unlisted, and Injected circle, which the paper does not mark. Each visit puts the other of
-- two entries before the front one. By induction, since to compute so many visits is slow. Assumes nothing.
use Rattle.std.specs.Prelude.{ℕ, zero, suc, ◌+◌, ◌-◌, ◌≤◌, ◌<◌, ◌≡◌, refl, Bool, true, false, not, ltb, length, replicate}
use Rattle.std.proofs.Common.{arith, ap, ◌∙◌, lt-ltb, le-ltb}
use mathlib.Core.List.{List, [], ◌∷◌, flat_map, flatten}
use Rattle.rules.specs.Project.{Project, need_row, project_of}
use Rattle.rules.specs.Walk.{Walk, Stop, finished, spent, full, run}
use Rattle.rules.specs.Modules.{ModuleState, module_state, module_walk, run_modules}
use Rattle.rules.specs.Items.{Group, ItemState, item_state, item_walk, order_of}
use Rattle.rules.specs.Calls.{Answer, refusal, allowed, module_list_limit, item_list_limit, groups_bytes, groups_answer, groups_of_project, groups_call, continue_with, order_answer, after_groups, order_call, bytes32, overwrite, report_bytes, reported, order_entry, groups_entry}
use Rattle.rules.specs.Keys.{digits_within, decimal, behind, no_text, key_of, key_allowance, key_text, printed}
use Rattle.rules.specs.SheetWords.{project_bytes, always, unrun, order, turned_down, left}
use Rattle.rules.proofs.Sheets.{unlisted_bytes}

-- The entry in front, 0 or 1.
front : Bool → ℕ
front false = 0
front true = 1

-- A walk whose visits do so: `state x l` is its state with x in front and l behind it.
module _ {State : Type 0} (w : Walk State) (state : Bool → List ℕ → State) where
  abbrev Grows : Type 0
  Grows =
      (x : Bool) (limit left made : ℕ) (l : List ℕ)
      → (run w limit 0 made (state x l) ≡ spent made)
      × (run w limit (suc left) made (state x l)
      ≡ elim (ltb limit (suc (suc (length l)))) [ true ↦ full (suc made) | false ↦ run w limit left (suc made) (state (not x) (front x ∷ l)) ])

  -- It is spent where the list has room for all visits of the allowance ..
  stays : Grows → (left made total limit : ℕ) (x : Bool) (l : List ℕ) → left + made ≡ total → suc (length l) + left ≤ limit
      → run w limit left made (state x l) ≡ spent total
  stays grows zero made total limit x l e h =
      let m : made ≡ total = omega (arith, e) in
      rw ((grows x limit 0 made l).0, m) refl
  stays grows (suc left) made total limit x l e h =
      rw ((grows x limit left made l).1, le-ltb limit (suc (suc (length l))) (omega (arith, h)))
      (stays grows left (suc made) total limit (not x) (front x ∷ l) (omega (arith, e)) (omega (arith, h)))

  -- .. and where it has room for fewer, the list is full after one more than these.
  fills : Grows → (room left made total limit : ℕ) (x : Bool) (l : List ℕ) → room < left → suc room + made ≡ total → suc (length l) + room ≡ limit
      → run w limit left made (state x l) ≡ full total
  fills grows room zero made total limit x l k e h = absurd (omega arith)
  fills grows zero (suc left) made total limit x l k e h =
      let m : suc made ≡ total = omega (arith, e) in
      rw ((grows x limit left made l).1, lt-ltb limit (suc (suc (length l))) (omega (arith, h)), m) refl
  fills grows (suc room) (suc left) made total limit x l k e h =
      rw ((grows x limit left made l).1, le-ltb limit (suc (suc (length l))) (omega (arith, h)))
      (fills grows room left (suc made) total limit (not x) (front x ∷ l) (omega arith) (omega (arith, e)) (omega (arith, h)))

-- Unlisted: "two modules, imports 0→1 1→0, no circle. Allowance 1,021: 11. 1,022: 12." The list starts with 3 entries.
abbrev unlisted_project : Project
unlisted_project = project_of unlisted_bytes

abbrev unlisted : Bool → List ℕ → ModuleState
unlisted x l = module_state (front x ∷ l) [] []

unlisted-grows : Grows (module_walk unlisted_project) unlisted
unfolding order front
unlisted-grows false limit left made l = (refl, refl)
unlisted-grows true limit left made l = (refl, refl)

unlisted-start : (limit allowance : ℕ) → run_modules unlisted_project limit allowance ≡ run (module_walk unlisted_project) limit allowance 0 (unlisted false (0 ∷ 1 ∷ []))
unfolding unrun front
unlisted-start limit allowance = refl

unlisted-spent : (allowance : ℕ) → allowance ≤ 1021 → run_modules unlisted_project module_list_limit allowance ≡ spent allowance
unlisted-spent allowance h =
    rw (unlisted-start module_list_limit allowance)
    (stays (module_walk unlisted_project) unlisted unlisted-grows allowance 0 allowance module_list_limit false (0 ∷ 1 ∷ []) (omega arith) (omega (arith, h)))

unlisted-full : (allowance : ℕ) → 1022 ≤ allowance → run_modules unlisted_project module_list_limit allowance ≡ full 1022
unlisted-full allowance h =
    rw (unlisted-start module_list_limit allowance)
    (fills (module_walk unlisted_project) unlisted unlisted-grows 1021 allowance 0 1022 module_list_limit false (0 ∷ 1 ∷ []) h (omega arith) (omega arith))

-- What the calls make of it.
unlisted-groups : (allowance : ℕ) → groups_call unlisted_bytes 6 allowance ≡ groups_answer (run_modules unlisted_project module_list_limit (allowed allowance))
unfolding unrun groups_bytes groups_of_project groups_call
unlisted-groups allowance = refl

abbrev UnlistedUnder : ℕ → Answer → Type 0
UnlistedUnder allowance answer = groups_call unlisted_bytes 6 allowance ≡ answer

unlisted-300 : UnlistedUnder 300 (turned_down 11 300 0)
unfolding allowed groups_answer refusal
unlisted-300 = rw (unlisted-groups 300, unlisted-spent 300 (omega arith)) refl

unlisted-1021 : UnlistedUnder 1021 (turned_down 11 1021 0)
unfolding allowed groups_answer refusal
unlisted-1021 = rw (unlisted-groups 1021, unlisted-spent 1021 (omega arith)) refl

unlisted-1022 : UnlistedUnder 1022 (turned_down 12 1022 0)
unfolding allowed groups_answer refusal
unlisted-1022 = rw (unlisted-groups 1022, unlisted-full 1022 (omega arith)) refl

unlisted-order : (allowance : ℕ) → order_call unlisted_bytes 256 allowance ≡ after_groups unlisted_project (allowed allowance) (run_modules unlisted_project module_list_limit (allowed allowance))
unfolding unrun
unlisted-order allowance = refl

unlisted-12 : (allowance : ℕ) → 1022 ≤ allowed allowance → order_call unlisted_bytes 256 allowance ≡ turned_down 12 1022 0
unfolding after_groups refusal
unlisted-12 allowance enough = rw (unlisted-order allowance, unlisted-full (allowed allowance) enough) refl

-- And the entries: "A refusal writes nothing to the reply". 1,022 visits are 254 and 3, 300 are 44 and 1.
entry-order-12 : order_entry unlisted_bytes (replicate 256 9) (replicate 20 7) 0
    ≡ left 12 (replicate 256 9) (12 ∷ 0 ∷ 0 ∷ 0 ∷ 0 ∷ 0 ∷ 0 ∷ 0 ∷ 0 ∷ 0 ∷ 0 ∷ 0 ∷ 254 ∷ 3 ∷ 0 ∷ 0 ∷ 0 ∷ 0 ∷ 0 ∷ 0 ∷ [])
unfolding allowed order_entry overwrite bytes32 report_bytes reported flat_map flatten
entry-order-12 = rw (unlisted-12 0 (omega arith)) refl

entry-groups-11 : groups_entry unlisted_bytes (replicate 6 9) (replicate 20 7) 300
    ≡ left 11 (replicate 6 9) (11 ∷ 0 ∷ 0 ∷ 0 ∷ 0 ∷ 0 ∷ 0 ∷ 0 ∷ 0 ∷ 0 ∷ 0 ∷ 0 ∷ 44 ∷ 1 ∷ 0 ∷ 0 ∷ 0 ∷ 0 ∷ 0 ∷ 0 ∷ [])
unfolding groups_entry overwrite bytes32 report_bytes reported flat_map flatten
entry-groups-11 = rw unlisted-300 refl

-- And its key: `no 12`, which it is not under an allowance of 1,000.
unlisted-call : printed unlisted_bytes ≡ key_of (order_call unlisted_bytes 256 key_allowance)
unfolding unrun key_text printed
unlisted-call = refl

key-12 : key_of (turned_down 12 1022 0) ≡ 110 ∷ 111 ∷ 32 ∷ 49 ∷ 50 ∷ 10 ∷ []
unfolding digits_within decimal behind no_text key_of flat_map flatten
key-12 = refl

unlisted-key : printed unlisted_bytes ≡ 110 ∷ 111 ∷ 32 ∷ 49 ∷ 50 ∷ 10 ∷ []
unfolding allowed
unlisted-key = unlisted-call ∙ ap key_of (unlisted-12 key_allowance (omega arith)) ∙ key-12

-- Injected circle: "import 0→1, rows (0,4) (0,4), needs 0→1 1→0. Module visits 5; allowance 16,386: 11, 16,387: 12."
abbrev injected_circle_bytes : List ℕ
injected_circle_bytes = project_bytes 2 ((0, 4) ∷ (0, 4) ∷ []) ((0, 1) ∷ []) [] (always 0 1 ∷ always 1 0 ∷ [])

-- Group [0] as the walk goes by it, and a state in which nothing is placed and nothing moved.
abbrev circle_group : Group
circle_group =
    record { kinds = 4 ∷ 4 ∷ []; ranges = record { start = 0; count = 0 } ∷ []; needs = need_row 0 1 0 ∷ need_row 1 0 0 ∷ [] }

abbrev circling : Bool → List ℕ → ItemState
circling x l = item_state (front x ∷ l) [] []

circling-grows : Grows (item_walk circle_group) circling
unfolding order front
circling-grows false limit left made l = (refl, refl)
circling-grows true limit left made l = (refl, refl)

-- The groups, and what the order call makes of the stop of the second one's walk.
abbrev circle_project : Project
circle_project = project_of injected_circle_bytes

abbrev found : ModuleState
found = module_state [] [] ((0 ∷ []) ∷ (1 ∷ []) ∷ [])

found-16386 : run_modules circle_project module_list_limit (allowed 16386) ≡ finished found 5
unfolding order
found-16386 = refl

found-16387 : run_modules circle_project module_list_limit (allowed 16387) ≡ finished found 5
unfolding order
found-16387 = refl

found-0 : run_modules circle_project module_list_limit (allowed 0) ≡ finished found 5
unfolding order
found-0 = refl

after_walk : Stop ItemState → Answer
after_walk stop = order_answer circle_project 2 5 (continue_with (order_of (0 ∷ 1 ∷ []) stop) (λ more total. finished more total))

after-modules : (allowance : ℕ) → order_call injected_circle_bytes 2 allowance ≡ after_groups circle_project (allowed allowance) (run_modules circle_project module_list_limit (allowed allowance))
unfolding unrun
after-modules allowance = refl

after_items : (allowance : ℕ) → after_groups circle_project allowance (finished found 5)
    ≡ after_walk (run (item_walk circle_group) item_list_limit (allowance - 5 - 0) 0 (circling false (0 ∷ 1 ∷ [])))
unfolding unrun front after_walk
after_items allowance = refl

after-spent : (made : ℕ) → after_walk (spent made) ≡ turned_down 11 5 made
unfolding unrun after_walk
after-spent made = refl

after-full : (made : ℕ) → after_walk (full made) ≡ turned_down 12 5 made
unfolding unrun after_walk
after-full made = refl

injected-circle-16386 : order_call injected_circle_bytes 2 16386 ≡ turned_down 11 5 16381
unfolding allowed
injected-circle-16386 =
    rw (after-modules 16386, found-16386, after_items (allowed 16386), stays (item_walk circle_group) circling circling-grows 16381 0 16381 item_list_limit false (0 ∷ 1 ∷ []) (omega arith) (omega arith), after-spent 16381) refl

injected-circle-12 : (allowance : ℕ) → run_modules circle_project module_list_limit (allowed allowance) ≡ finished found 5 → 16387 ≤ allowed allowance
    → order_call injected_circle_bytes 2 allowance ≡ turned_down 12 5 16382
injected-circle-12 allowance grouped enough =
    rw (after-modules allowance, grouped, after_items (allowed allowance), fills (item_walk circle_group) circling circling-grows 16381 (allowed allowance - 5 - 0) 0 16382 item_list_limit false (0 ∷ 1 ∷ []) (omega arith) (omega arith) (omega arith), after-full 16382) refl

injected-circle-16387 : order_call injected_circle_bytes 2 16387 ≡ turned_down 12 5 16382
unfolding allowed
injected-circle-16387 = injected-circle-12 16387 found-16387 (omega arith)

-- Document 02, item 13: "The Injected circle sheet still ends in 12 under 0."
injected-circle-0 : order_call injected_circle_bytes 2 0 ≡ turned_down 12 5 16382
unfolding allowed
injected-circle-0 = injected-circle-12 0 found-0 (omega arith)
