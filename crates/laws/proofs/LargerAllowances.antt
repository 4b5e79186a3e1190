-- The calls under two allowances: from the law on runs to what a call answers. Assumes nothing.
use Rattle.std.specs.Prelude.{ℕ, ◌+◌, ◌-◌, ◌≤◌, ◌<◌, ◌≡◌, true, false, eqb, ltb, length}
use native.Mathlib.Omega.{arith}
use Rattle.std.proofs.Math.Nat.{le_trans}
use Rattle.std.proofs.Math.Path.{refl}
use mathlib.Core.List.{List, [], ◌∷◌, ◌++◌}
use Rattle.rules.specs.Project.{Project, Reading, refused, accepted, read}
use Rattle.rules.specs.Walk.{Stop, finished, spent, full, run}
use Rattle.rules.specs.Modules.{ModuleState, module_walk, module_start, run_modules, groups_of, groups_in_order}
use Rattle.rules.specs.Items.{ItemState, item_walk, item_start, group_of, numbering, order_of, keeps_row_order, giving_modules, given_rows, sort_modules, sort_group}
use Rattle.rules.specs.Calls.{Answer, refusal, allowed, module_list_limit, item_list_limit, order_bytes, groups_bytes, groups_answer, groups_of_project, groups_call, continue_with, order_groups, order_answer, after_groups, order_of_project, order_call}
use Rattle.laws.specs.Lists.{Tested, holds, fails, tested}
use Rattle.laws.specs.Runs.{visits_of, Extends, same_end, same_full, goes_on, run-visits}
use Rattle.laws.proofs.Runs.{run-extends}
use Rattle.laws.proofs.Calls.{order-short, order-long, groups-short, groups-long, order-of, groups-of, groups-answer-visits, order-answer-visits, after-groups-visits}

-- Item runs: the order of a group, and of the groups in turn.
order-made : (rows : List ℕ) (stop : Stop ItemState) → visits_of (order_of rows stop) ≡ visits_of stop
unfolding visits_of order_of
order-made rows (finished s n) = refl
order-made rows (spent n) = refl
order-made rows (full n) = refl

order-extends : (rows : List ℕ) {short long : Stop ItemState} → Extends short long → Extends (order_of rows short) (order_of rows long)
unfolding order_of
order-extends rows same_end = same_end
order-extends rows same_full = same_full
order-extends rows (goes_on {n} {longer} h) = goes_on {n = n} {longer = order_of rows longer} (rw (order-made rows longer) h)

module _ (p : Project) (limit : ℕ) where
  module _ (earlier : List (List ℕ)) (group : List ℕ) (made : ℕ) where
    abbrev modules : List ℕ
    modules = giving_modules p earlier group

    unsorted : (left : ℕ) → keeps_row_order p group ≡ true → sort_group p earlier group limit left made ≡ finished (given_rows p modules) made
    unfolding sort_group
    unsorted left e = rw (e, sort_group)

    abbrev walked : ℕ → Stop ItemState
    walked left = run (item_walk (group_of p modules)) limit left made (item_start (group_of p modules))

    sorted : (left : ℕ) → keeps_row_order p group ≡ false → sort_group p earlier group limit left made ≡ order_of (numbering p modules) (walked left)
    unfolding sort_group sort_modules
    sorted left e = rw (e, sort_group)

    sort-extends : (left more : ℕ) → left ≤ more → Extends (sort_group p earlier group limit left made) (sort_group p earlier group limit more made)
    sort-extends left more h = go (tested (keeps_row_order p group))
      where
        go : Tested (keeps_row_order p group) → Extends (sort_group p earlier group limit left made) (sort_group p earlier group limit more made)
        go (holds e) = rw (unsorted left e, unsorted more e) same_end
        go (fails e) =
            rw (sorted left e, sorted more e)
            (order-extends (numbering p modules) (run-extends (item_walk (group_of p modules)) limit left more made (item_start (group_of p modules)) h))

    sort-visits : (left : ℕ)
        → (made ≤ visits_of (sort_group p earlier group limit left made)) × (visits_of (sort_group p earlier group limit left made) ≤ made + left)
    unfolding visits_of
    sort-visits left = go (tested (keeps_row_order p group))
      where
        go : Tested (keeps_row_order p group)
            → (made ≤ visits_of (sort_group p earlier group limit left made)) × (visits_of (sort_group p earlier group limit left made) ≤ made + left)
        go (holds e) = rw (unsorted left e) (omega arith, omega arith)
        go (fails e) =
            rw (sorted left e, order-made (numbering p modules) (walked left))
            (run-visits (item_walk (group_of p modules)) limit left made (item_start (group_of p modules)))

  continue-most : (most : ℕ) (stop : Stop (List ℕ)) (rest : List ℕ → ℕ → Stop (List ℕ)) → visits_of stop ≤ most
      → ((rows : List ℕ) (n : ℕ) → n ≤ most → visits_of (rest rows n) ≤ most) → visits_of (continue_with stop rest) ≤ most
  unfolding visits_of continue_with
  continue-most most (finished rows n) rest h f = f rows n h
  continue-most most (spent n) rest h f = h
  continue-most most (full n) rest h f = h

  pub groups-most : (allowance : ℕ) (earlier groups : List (List ℕ)) (rows : List ℕ) (made : ℕ) → made ≤ allowance
      → visits_of (order_groups p limit allowance earlier groups rows made) ≤ allowance
  unfolding order_groups visits_of
  groups-most allowance earlier [] rows made h = h
  groups-most allowance earlier (group ∷ groups) rows made h =
      continue-most allowance (sort_group p earlier group limit (allowance - made) made) _
      (let k = sort-visits earlier group made (allowance - made) in omega (arith, k.1))
      (λ more n j. groups-most allowance (group ∷ earlier) groups (rows ++ more) n j)

  continue-made : (stop : Stop (List ℕ)) (rest : List ℕ → ℕ → Stop (List ℕ)) → ((rows : List ℕ) (n : ℕ) → n ≤ visits_of (rest rows n))
      → visits_of stop ≤ visits_of (continue_with stop rest)
  unfolding visits_of continue_with
  continue-made (finished rows n) rest f = f rows n
  continue-made (spent n) rest f = omega arith
  continue-made (full n) rest f = omega arith

  continue-extends : {short long : Stop (List ℕ)} {rest more : List ℕ → ℕ → Stop (List ℕ)} → Extends short long
      → ((rows : List ℕ) (n : ℕ) → Extends (rest rows n) (more rows n)) → ((rows : List ℕ) (n : ℕ) → n ≤ visits_of (more rows n))
      → Extends (continue_with short rest) (continue_with long more)
  unfolding continue_with
  continue-extends same_end f g = f _ _
  continue-extends same_full f g = same_full
  continue-extends {more = more} (goes_on {longer = longer} h) f g = goes_on (le_trans h (continue-made longer more g))

  groups-made : (allowance : ℕ) (earlier groups : List (List ℕ)) (rows : List ℕ) (made : ℕ)
      → made ≤ visits_of (order_groups p limit allowance earlier groups rows made)
  unfolding order_groups visits_of
  groups-made allowance earlier [] rows made = omega arith
  groups-made allowance earlier (group ∷ groups) rows made =
      le_trans (sort-visits earlier group made (allowance - made)).0
      (continue-made (sort_group p earlier group limit (allowance - made) made) _
      (λ more n. groups-made allowance (group ∷ earlier) groups (rows ++ more) n))

  pub groups-extend : (a b : ℕ) → a ≤ b → (earlier groups : List (List ℕ)) (rows : List ℕ) (made : ℕ)
      → Extends (order_groups p limit a earlier groups rows made) (order_groups p limit b earlier groups rows made)
  unfolding order_groups
  groups-extend a b h earlier [] rows made = same_end
  groups-extend a b h earlier (group ∷ groups) rows made =
      continue-extends (sort-extends earlier group made (a - made) (b - made) (omega arith))
      (λ more n. groups-extend a b h (group ∷ earlier) groups (rows ++ more) n)
      (λ more n. groups-made b (group ∷ earlier) groups (rows ++ more) n)

-- An answer and the one under a larger allowance: the same, or 11 with no more visits of either walk.
pub data Larger (x : Answer) : Answer → Type 0 where
  same : Larger x x
  further : {y : Answer} → x.number ≡ 11 → x.module_visits ≤ y.module_visits → x.item_visits ≤ y.item_visits → Larger x y

-- What the calls answer to stops of which one extends the other.
groups-larger : {short long : Stop ModuleState} → Extends short long → Larger (groups_answer short) (groups_answer long)
unfolding groups_answer refusal
groups-larger same_end = same
groups-larger same_full = same
groups-larger (goes_on {n} {longer} h) = further {y = groups_answer longer} refl (rw (groups-answer-visits longer) h) (omega arith)

module _ (p : Project) where
  order-answer-items : (groups n : ℕ) (stop : Stop (List ℕ)) → (order_answer p groups n stop).item_visits ≡ visits_of stop
  unfolding order_answer refusal visits_of
  order-answer-items groups n (finished rows made) = refl
  order-answer-items groups n (spent made) = refl
  order-answer-items groups n (full made) = refl

  order-larger : (groups n : ℕ) {short long : Stop (List ℕ)} → Extends short long → Larger (order_answer p groups n short) (order_answer p groups n long)
  unfolding order_answer refusal
  order-larger groups n same_end = same
  order-larger groups n same_full = same
  order-larger groups n (goes_on {longer = longer} h) =
      further {y = order_answer p groups n longer} refl (rw (order-answer-visits p groups n longer) (omega arith)) (rw (order-answer-items groups n longer) h)

  after-larger : (a b : ℕ) → a ≤ b → {short long : Stop ModuleState} → Extends short long → Larger (after_groups p a short) (after_groups p b long)
  unfolding after_groups refusal
  after-larger a b h (same_end {s} {n}) =
      order-larger (length (groups_of s)) n (groups-extend p item_list_limit (a - n) (b - n) (omega arith) [] (groups_in_order s) [] 0)
  after-larger a b h same_full = same
  after-larger a b h (goes_on {n} {longer} k) = further {y = after_groups p b longer} refl (rw (after-groups-visits p b longer) k) (omega arith)

  modules-extend : (a b : ℕ) → a ≤ b → Extends (run_modules p module_list_limit a) (run_modules p module_list_limit b)
  unfolding run_modules
  modules-extend a b h = run-extends (module_walk p) module_list_limit a b 0 (module_start p) h

  groups-of-larger : (space a b : ℕ) → a ≤ b → Larger (groups_of_project p space a) (groups_of_project p space b)
  groups-of-larger space a b h = go (tested (ltb space (groups_bytes p)))
    where
      go : Tested (ltb space (groups_bytes p)) → Larger (groups_of_project p space a) (groups_of_project p space b)
      go (holds e) = rw (groups-short p space a e, groups-short p space b e) same
      go (fails e) = rw (groups-long p space a e, groups-long p space b e) (groups-larger (modules-extend a b h))

  order-of-larger : (space a b : ℕ) → a ≤ b → Larger (order_of_project p space a) (order_of_project p space b)
  order-of-larger space a b h = go (tested (ltb space (order_bytes p)))
    where
      go : Tested (ltb space (order_bytes p)) → Larger (order_of_project p space a) (order_of_project p space b)
      go (holds e) = rw (order-short p space a e, order-short p space b e) same
      go (fails e) = rw (order-long p space a e, order-long p space b e) (after-larger a b h (modules-extend a b h))

module _ (bytes : List ℕ) (space a b : ℕ) (h : allowed a ≤ allowed b) where
  pub groups-call-larger : Larger (groups_call bytes space a) (groups_call bytes space b)
  unfolding groups_call
  groups-call-larger = go (read bytes) refl
    where
      go : (r : Reading) → read bytes ≡ r → Larger (groups_call bytes space a) (groups_call bytes space b)
      go (refused n) e = rw (e, groups_call) same
      go (accepted p) e = rw (groups-of bytes p e space a, groups-of bytes p e space b) (groups-of-larger p space (allowed a) (allowed b) h)

  pub order-call-larger : Larger (order_call bytes space a) (order_call bytes space b)
  unfolding order_call
  order-call-larger = go (read bytes) refl
    where
      go : (r : Reading) → read bytes ≡ r → Larger (order_call bytes space a) (order_call bytes space b)
      go (refused n) e = rw (e, order_call) same
      go (accepted p) e = rw (order-of bytes p e space a, order-of bytes p e space b) (order-of-larger p space (allowed a) (allowed b) h)

-- No call reports more visits of either walk than it is allowed.
pub record Within (most : ℕ) (a : Answer) : Type 0 where
  pub modules-most : a.module_visits ≤ most
  pub items-most : a.item_visits ≤ most

pub within_more : {most more : ℕ} {a : Answer} → most ≤ more → Within most a → Within more a
within_more h w = record { modules-most = omega (arith, w.modules-most); items-most = omega (arith, w.items-most) }

-- An allowance of 32 bits allows no more than 32 bits.
pub allowed-small : (allowance : ℕ) → allowance < 4294967296 → allowed allowance < 4294967296
unfolding allowed
allowed-small allowance h = go (tested (eqb allowance 0))
  where
    go : Tested (eqb allowance 0) → allowed allowance < 4294967296
    go (holds e) = rw (e, allowed) (omega arith)
    go (fails e) = rw (e, allowed) h

refused-within : (most n : ℕ) → Within most (refusal n 0 0)
unfolding refusal
refused-within most n = record { modules-most = omega arith; items-most = omega arith }

groups-within : (most : ℕ) (stop : Stop ModuleState) → visits_of stop ≤ most → Within most (groups_answer stop)
unfolding groups_answer refusal visits_of
groups-within most (finished s n) h = record { modules-most = h; items-most = omega arith }
groups-within most (spent n) h = record { modules-most = h; items-most = omega arith }
groups-within most (full n) h = record { modules-most = h; items-most = omega arith }

module _ (p : Project) (allowance : ℕ) where
  after-within : (stop : Stop ModuleState) → visits_of stop ≤ allowance → Within allowance (after_groups p allowance stop)
  unfolding after_groups refusal visits_of
  after-within (finished s n) h =
      let groups = order_groups p item_list_limit (allowance - n) [] (groups_in_order s) [] 0 in
      let most = groups-most p item_list_limit (allowance - n) [] (groups_in_order s) [] 0 (omega arith) in
      record {
        modules-most = rw (order-answer-visits p (length (groups_of s)) n groups) h;
        items-most = rw (order-answer-items p (length (groups_of s)) n groups) (omega (arith, most));
      }
  after-within (spent n) h = record { modules-most = h; items-most = omega arith }
  after-within (full n) h = record { modules-most = h; items-most = omega arith }

  modules-within : visits_of (run_modules p module_list_limit allowance) ≤ allowance
  unfolding run_modules
  modules-within = let h = run-visits (module_walk p) module_list_limit allowance 0 (module_start p) in omega (arith, h.1)

  groups-of-within : (space : ℕ) → Within allowance (groups_of_project p space allowance)
  groups-of-within space = go (tested (ltb space (groups_bytes p)))
    where
      go : Tested (ltb space (groups_bytes p)) → Within allowance (groups_of_project p space allowance)
      go (holds e) = rw (groups-short p space allowance e) (refused-within allowance 10)
      go (fails e) = rw (groups-long p space allowance e) (groups-within allowance _ modules-within)

  order-of-within : (space : ℕ) → Within allowance (order_of_project p space allowance)
  order-of-within space = go (tested (ltb space (order_bytes p)))
    where
      go : Tested (ltb space (order_bytes p)) → Within allowance (order_of_project p space allowance)
      go (holds e) = rw (order-short p space allowance e) (refused-within allowance 10)
      go (fails e) = rw (order-long p space allowance e) (after-within _ modules-within)

module _ (bytes : List ℕ) (space allowance : ℕ) where
  pub groups-call-within : Within (allowed allowance) (groups_call bytes space allowance)
  unfolding groups_call
  groups-call-within = go (read bytes) refl
    where
      go : (r : Reading) → read bytes ≡ r → Within (allowed allowance) (groups_call bytes space allowance)
      go (refused n) e = rw (e, groups_call) (refused-within (allowed allowance) n)
      go (accepted p) e = rw (groups-of bytes p e space allowance) (groups-of-within p (allowed allowance) space)

  pub order-call-within : Within (allowed allowance) (order_call bytes space allowance)
  unfolding order_call
  order-call-within = go (read bytes) refl
    where
      go : (r : Reading) → read bytes ≡ r → Within (allowed allowance) (order_call bytes space allowance)
      go (refused n) e = rw (e, order_call) (refused-within (allowed allowance) n)
      go (accepted p) e = rw (order-of bytes p e space allowance) (order-of-within p (allowed allowance) space)
