-- The calls on an accepted project: what a call that answers 0 has done, and the visits that every call reports. Assumes nothing.
use Rattle.std.specs.Prelude.{ℕ, ◌-◌, ◌≤◌, ◌<◌, ◌≡◌, true, false, ltb, length}
use Rattle.std.proofs.Common.{arith, le_of_eq, le-ltb}
use Rattle.std.proofs.Math.Path.{refl}
use mathlib.Core.List.{List, []}
use Rattle.rules.specs.Project.{Project, accepted, read}
use Rattle.rules.specs.Walk.{Stop, finished, spent, full}
use Rattle.rules.specs.Modules.{ModuleState, groups_of, groups_in_order, run_modules}
use Rattle.rules.specs.Items.{kept_rows}
use Rattle.rules.specs.Calls.{Answer, refusal, allowed, module_list_limit, item_list_limit, order_bytes, groups_bytes, groups_answer, groups_of_project, groups_call, order_groups, order_answer, after_groups, order_of_project, order_call}
use Rattle.laws.specs.Lists.{Tested, holds, fails, tested}
use Rattle.laws.specs.Runs.{visits_of}
use Rattle.laws.specs.Terms.{Given, CirclesMatch, visit_limit}
use Rattle.laws.specs.Accepted.{Accepted}
use Rattle.laws.proofs.ModuleOrder.{Bounded, finishes, spends, fills, bounded}

-- A refusal is not given.
refused-order : {A : Type 0} (n module_visits item_visits : ℕ) → 0 < n → Given (refusal n module_visits item_visits) → A
unfolding refusal
refused-order n module_visits item_visits h e = absurd (omega arith)

-- An order that is given: the module walk has ended, and then every group's sort.
pub record OrderGiven (p : Project) (allowance : ℕ) (a : Answer) : Type 0 where
  pub state : ModuleState
  pub module_visits : ℕ
  pub grouped : run_modules p module_list_limit allowance ≡ finished state module_visits
  pub item_visits : ℕ
  pub ordered : order_groups p item_list_limit (allowance - module_visits) [] (groups_in_order state) [] 0 ≡ finished a.written item_visits
  pub kept_count : a.kept ≡ length (kept_rows p)

module _ (p : Project) where
  order-given : (allowance : ℕ) (s : ModuleState) (n : ℕ) → run_modules p module_list_limit allowance ≡ finished s n → (stop : Stop (List ℕ))
      → order_groups p item_list_limit (allowance - n) [] (groups_in_order s) [] 0 ≡ stop → Given (order_answer p (length (groups_of s)) n stop)
      → OrderGiven p allowance (order_answer p (length (groups_of s)) n stop)
  unfolding order_answer
  order-given allowance s n e (finished rows made) f g = record { state = s; module_visits = n; grouped = e; item_visits = made; ordered = f; kept_count = refl }
  order-given allowance s n e (spent made) f g = refused-order 11 n made (omega arith) g
  order-given allowance s n e (full made) f g = refused-order 12 n made (omega arith) g

  after-given : (allowance : ℕ) (stop : Stop ModuleState) → run_modules p module_list_limit allowance ≡ stop → Given (after_groups p allowance stop)
      → OrderGiven p allowance (after_groups p allowance stop)
  unfolding after_groups
  after-given allowance (finished s n) e g =
      order-given allowance s n e (order_groups p item_list_limit (allowance - n) [] (groups_in_order s) [] 0) refl g
  after-given allowance (spent n) e g = refused-order 11 n 0 (omega arith) g
  after-given allowance (full n) e g = refused-order 12 n 0 (omega arith) g

  -- Number 10 and what is behind it.
  pub order-short : (space allowance : ℕ) → ltb space (order_bytes p) ≡ true → order_of_project p space allowance ≡ refusal 10 0 0
  unfolding order_of_project
  order-short space allowance e = rw (e, order_of_project)

  pub order-long : (space allowance : ℕ) → ltb space (order_bytes p) ≡ false
      → order_of_project p space allowance ≡ after_groups p allowance (run_modules p module_list_limit allowance)
  unfolding order_of_project
  order-long space allowance e = rw (e, order_of_project)

  pub groups-short : (space allowance : ℕ) → ltb space (groups_bytes p) ≡ true → groups_of_project p space allowance ≡ refusal 10 0 0
  unfolding groups_of_project
  groups-short space allowance e = rw (e, groups_of_project)

  pub groups-long : (space allowance : ℕ) → ltb space (groups_bytes p) ≡ false
      → groups_of_project p space allowance ≡ groups_answer (run_modules p module_list_limit allowance)
  unfolding groups_of_project
  groups-long space allowance e = rw (e, groups_of_project)

  project-given : (space allowance : ℕ) → Given (order_of_project p space allowance) → OrderGiven p allowance (order_of_project p space allowance)
  project-given space allowance = go (tested (ltb space (order_bytes p)))
    where
      go : Tested (ltb space (order_bytes p)) → Given (order_of_project p space allowance) → OrderGiven p allowance (order_of_project p space allowance)
      go (holds e) g = refused-order 10 0 0 (omega arith) (rw (order-short space allowance e) at g)
      go (fails e) g =
          let f = order-long space allowance e in
          rw f (after-given allowance (run_modules p module_list_limit allowance) refl (rw f at g))

module _ (bytes : List ℕ) (p : Project) (read_as : read bytes ≡ accepted p) (space allowance : ℕ) where
  pub order-of : order_call bytes space allowance ≡ order_of_project p space (allowed allowance)
  unfolding order_call
  order-of = rw (read_as, order_call)

  pub groups-of : groups_call bytes space allowance ≡ groups_of_project p space (allowed allowance)
  unfolding groups_call
  groups-of = rw (read_as, groups_call)

  pub call-given : Given (order_call bytes space allowance) → OrderGiven p (allowed allowance) (order_call bytes space allowance)
  call-given g = rw order-of (project-given p space (allowed allowance) (rw order-of at g))

-- The module visits that a call reports: those of its module walk, or 0 where it is refused before.
pub groups-answer-visits : (stop : Stop ModuleState) → (groups_answer stop).module_visits ≡ visits_of stop
unfolding groups_answer visits_of refusal
groups-answer-visits (finished s n) = refl
groups-answer-visits (spent n) = refl
groups-answer-visits (full n) = refl

module _ (p : Project) where
  pub order-answer-visits : (groups n : ℕ) (stop : Stop (List ℕ)) → (order_answer p groups n stop).module_visits ≡ n
  unfolding order_answer refusal
  order-answer-visits groups n (finished rows made) = refl
  order-answer-visits groups n (spent made) = refl
  order-answer-visits groups n (full made) = refl

  pub after-groups-visits : (allowance : ℕ) (stop : Stop ModuleState) → (after_groups p allowance stop).module_visits ≡ visits_of stop
  unfolding after_groups visits_of refusal
  after-groups-visits allowance (finished s n) = order-answer-visits (length (groups_of s)) n _
  after-groups-visits allowance (spent n) = refl
  after-groups-visits allowance (full n) = refl

  abbrev walk_visits : ℕ → ℕ
  walk_visits allowance = visits_of (run_modules p module_list_limit allowance)

  pub groups-visits : (space allowance : ℕ) → (groups_of_project p space allowance).module_visits ≤ walk_visits allowance
  unfolding refusal
  groups-visits space allowance = go (tested (ltb space (groups_bytes p)))
    where
      go : Tested (ltb space (groups_bytes p)) → (groups_of_project p space allowance).module_visits ≤ walk_visits allowance
      go (holds e) = rw (groups-short p space allowance e) (omega arith)
      go (fails e) = rw (groups-long p space allowance e) (le_of_eq (groups-answer-visits (run_modules p module_list_limit allowance)))

  pub order-visits : (space allowance : ℕ) → (order_of_project p space allowance).module_visits ≤ walk_visits allowance
  unfolding refusal
  order-visits space allowance = go (tested (ltb space (order_bytes p)))
    where
      go : Tested (ltb space (order_bytes p)) → (order_of_project p space allowance).module_visits ≤ walk_visits allowance
      go (holds e) = rw (order-short p space allowance e) (omega arith)
      go (fails e) = rw (order-long p space allowance e) (le_of_eq (after-groups-visits allowance (run_modules p module_list_limit allowance)))

  -- A grouping is given where the walk ends and the reply is long enough.
  pub groups-given : (space allowance : ℕ) {s : ModuleState} {n : ℕ} → run_modules p module_list_limit allowance ≡ finished s n → groups_bytes p ≤ space
      → Given (groups_of_project p space allowance)
  unfolding groups_answer
  groups-given space allowance e h = rw (groups-long p space allowance (le-ltb space (groups_bytes p) h), e) refl

-- Under the premise they are within the visit limit.
pub walk-visits : {p : Project} → Accepted p → CirclesMatch p → (allowance : ℕ) → visits_of (run_modules p module_list_limit allowance) ≤ visit_limit p
unfolding visits_of
walk-visits {p} a match allowance = go (bounded a match module_list_limit allowance)
  where
    go : {stop : Stop ModuleState} → Bounded p module_list_limit allowance stop → visits_of stop ≤ visit_limit p
    go (finishes h k o) = h
    go (spends h k) = omega arith
    go (fills h k) = h
