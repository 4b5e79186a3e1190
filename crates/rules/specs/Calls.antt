-- 'What is turned down', the calls: from a project's bytes, the length of the reply and the allowance to the five numbers and the bytes written.
-- Assumes nothing.
use Rattle.std.specs.Prelude.{ℕ, ◌+◌, ◌*◌, ◌-◌, ◌/◌, ◌%◌, true, false, cond, eqb, ltb, length, drop}
use mathlib.Core.List.{List, [], ◌∷◌, ◌++◌, flat_map}
use Rattle.rules.specs.Project.{Project, refused, accepted, read}
use Rattle.rules.specs.Walk.{Stop, finished, spent, full}
use Rattle.rules.specs.Modules.{ModuleState, groups_of, groups_in_order, run_modules}
use Rattle.rules.specs.Items.{kept_rows, sort_group}

-- "Answer (0 for accepted), kept items, groups, module visits and item visits are returned", and the bytes that are written to the reply's front
pub record Answer : Type 0 where
  pub number : ℕ
  pub kept : ℕ
  pub groups : ℕ
  pub module_visits : ℕ
  pub item_visits : ℕ
  pub written : List ℕ

-- "A refusal writes nothing to the reply; its counts are 0, except that 11 and 12 carry the visits made, for 12 with the last one."
unfoldable pub refusal : ℕ → ℕ → ℕ → Answer
refusal n module_visits item_visits =
    record { number = n; kept = 0; groups = 0; module_visits = module_visits; item_visits = item_visits; written = [] }

-- "The allowance is 32 bits". Document 02, item 13: "Allowance 0 means 20,000."
unfoldable pub allowed : ℕ → ℕ
allowed allowance = cond (eqb allowance 0) 20000 allowance

-- "a visit leaves over 1,024 module or 16,384 item entries"
abbrev pub module_list_limit : ℕ
module_list_limit = 1024

abbrev pub item_list_limit : ℕ
item_list_limit = 16384

-- 10, "under one byte per item row (order), or under M × (M + 1) bytes (groups)"
unfoldable pub order_bytes : Project → ℕ
order_bytes p = length p.items

unfoldable pub groups_bytes : Project → ℕ
groups_bytes p = p.modules * (p.modules + 1)

-- Groups calls.
-- "a group reply a count byte and the members of each group"
unfoldable pub group_bytes : List (List ℕ) → List ℕ
group_bytes = flat_map (λ group. length group ∷ group)

-- "Groups count also those without items. A groups call reports its kept items and item visits as 0."
unfoldable pub groups_answer : Stop ModuleState → Answer
groups_answer (finished s made) =
    record {
      number = 0;
      kept = 0;
      groups = length (groups_of s);
      module_visits = made;
      item_visits = 0;
      written = group_bytes (groups_in_order s);
    }
groups_answer (spent made) = refusal 11 made 0
groups_answer (full made) = refusal 12 made 0

unfoldable pub groups_of_project : Project → ℕ → ℕ → Answer
groups_of_project p reply_length allowance =
    elim (ltb reply_length (groups_bytes p)) [
      | true ↦ refusal 10 0 0
      | false ↦ groups_answer (run_modules p module_list_limit allowance)
    ]

unfoldable pub groups_call : List ℕ → ℕ → ℕ → Answer
groups_call bytes reply_length allowance =
    elim (read bytes) [
      | refused n ↦ refusal n 0 0
      | accepted p ↦ groups_of_project p reply_length (allowed allowance)
    ]

-- Order calls.
unfoldable pub continue_with : Stop (List ℕ) → (List ℕ → ℕ → Stop (List ℕ)) → Stop (List ℕ)
continue_with (finished rows made) rest = rest rows made
continue_with (spent made) rest = spent made
continue_with (full made) rest = full made

-- "All groups are found before the first item visit; then they are sorted in turn." `rows` and `made` are those of the earlier groups.
unfoldable pub order_groups : Project → ℕ → ℕ → List (List ℕ) → List (List ℕ) → List ℕ → ℕ → Stop (List ℕ)
order_groups p limit allowance earlier [] rows made = finished rows made
order_groups p limit allowance earlier (group ∷ groups) rows made =
    continue_with (sort_group p earlier group limit (allowance - made) made)
    (λ more total. order_groups p limit allowance (group ∷ earlier) groups (rows ++ more) total)

-- "An order reply gets one byte, its row number, per kept item"
unfoldable pub order_answer : Project → ℕ → ℕ → Stop (List ℕ) → Answer
order_answer p groups module_visits (finished rows made) =
    record {
      number = 0;
      kept = length (kept_rows p);
      groups = groups;
      module_visits = module_visits;
      item_visits = made;
      written = rows;
    }
order_answer p groups module_visits (spent made) = refusal 11 module_visits made
order_answer p groups module_visits (full made) = refusal 12 module_visits made

-- "Visits of both walks are counted against one allowance"
unfoldable pub after_groups : Project → ℕ → Stop ModuleState → Answer
after_groups p allowance (finished s made) =
    order_answer p (length (groups_of s)) made
    (order_groups p item_list_limit (allowance - made) [] (groups_in_order s) [] 0)
after_groups p allowance (spent made) = refusal 11 made 0
after_groups p allowance (full made) = refusal 12 made 0

unfoldable pub order_of_project : Project → ℕ → ℕ → Answer
order_of_project p reply_length allowance =
    elim (ltb reply_length (order_bytes p)) [
      | true ↦ refusal 10 0 0
      | false ↦ after_groups p allowance (run_modules p module_list_limit allowance)
    ]

unfoldable pub order_call : List ℕ → ℕ → ℕ → Answer
order_call bytes reply_length allowance =
    elim (read bytes) [
      | refused n ↦ refusal n 0 0
      | accepted p ↦ order_of_project p reply_length (allowed allowance)
    ]

-- What stands in a slice after bytes are written to its front: "bytes beyond stay".
unfoldable pub overwrite : List ℕ → List ℕ → List ℕ
overwrite written old = written ++ drop (length written) old

-- The entries of a host: "its entry also writes those five numbers in that order, 32 bits each, to the first 20 bytes of a report, on every
-- answer but 13, which leaves it untouched." What an entry returns, and what stands in the reply and in the report as it does.
pub record Entry : Type 0 where
  pub number : ℕ
  pub reply : List ℕ
  pub report : List ℕ

unfoldable pub bytes32 : ℕ → List ℕ
bytes32 n = n % 256 ∷ n / 256 % 256 ∷ n / 65536 % 256 ∷ n / 16777216 % 256 ∷ []

unfoldable pub report_bytes : Answer → List ℕ
report_bytes a =
    flat_map bytes32 (a.number ∷ a.kept ∷ a.groups ∷ a.module_visits ∷ a.item_visits ∷ [])

-- 13, "report under 20 bytes", is checked first
unfoldable pub reported : Answer → List ℕ → List ℕ → Entry
reported a reply report =
    elim (ltb (length report) 20) [
      | true ↦ record { number = 13; reply = reply; report = report }
      | false ↦ record { number = a.number; reply = overwrite a.written reply; report = overwrite (report_bytes a) report }
    ]

unfoldable pub order_entry : List ℕ → List ℕ → List ℕ → ℕ → Entry
order_entry bytes reply report allowance = reported (order_call bytes (length reply) allowance) reply report

unfoldable pub groups_entry : List ℕ → List ℕ → List ℕ → ℕ → Entry
groups_entry bytes reply report allowance = reported (groups_call bytes (length reply) allowance) reply report
