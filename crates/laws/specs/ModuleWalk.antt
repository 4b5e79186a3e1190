-- The module walk of an accepted project, whatever its imports and circles, under any list limit and allowance: every module that is not done
-- stays on the list, so that each module is in a group where the walk ends; and every group holds modules below M, each once, one of them in
-- no earlier group, so that there are at most M groups and a long enough reply has room for them. Assumes nothing.
use Rattle.std.specs.Prelude.{ℕ, suc, ◌+◌, ◌≤◌, ◌<◌, ◌≡◌, refl, true, false, length}
use native.Mathlib.Omega.{arith}
use Rattle.std.proofs.Common.{le_trans, mul-le-mul_right, sym, ap, ◌∙◌, ⊎_elim}
use Rattle.std.proofs.Math.Path.{subst⁻¹}
use mathlib.Core.List.Memᴰ
use mathlib.Core.List.{List, [], ◌∷◌, ◌++◌, reverse}
use Rattle.std.proofs.lemmas.List.{length-reverse}
use Rattle.rules.specs.Lists.{is_empty}
use Rattle.rules.specs.Project.{Project}
use Rattle.rules.specs.Walk.{finished}
use Rattle.rules.specs.Modules.{ModuleState, module_state, is_done, undone_imports, circle_of, outside_imports, visit_module, module_list, groups_of, module_walk, module_start, run_modules, groups_in_order}
use Rattle.rules.specs.Calls.{groups_bytes, group_bytes}
use Rattle.laws.specs.Lists.{◌∈◌, false≢true, Tested, holds, fails, tested, ∈-self, ∈-append, ∈-right, reverse-∈, is_empty-true, Once, none, next, append_new-∈, ∈-append_new-left, once-append_new, up_from-∈, ∈-up_from}
use Rattle.laws.specs.Counting.{Below, below-nil, below-cons, below_length, flat_map-length, ∈-rest}
use Rattle.laws.specs.Runs.{Stopped, at-end, stopped}
use Rattle.laws.specs.Accepted.{Accepted}
use Rattle.laws.specs.ModuleVisit.{Visited, was-done, alone, uncircled, whole, gave-up, marked, visited, done-now, done-still, undone-cons, imports_of-∈, undone_imports-∈, outside_imports-∈}
use Rattle.laws.specs.Gathering.{circle-of, circle-self, circle-below}

-- The members of a group: each once, all below the bound.
pub record Members (bound : ℕ) (g : List ℕ) : Type 0 where
  pub once : Once g
  pub below : Below bound g

-- Groups, latest first, each with a member that no earlier group lists.
pub data Made (bound : ℕ) : List (List ℕ) → Type 0 where
  none_made : Made bound []
  then-made : {g : List ℕ} {groups : List (List ℕ)} (m : ℕ) → m ∈ g → is_done groups m ≡ false → Once g → Below bound g → Made bound groups
      → Made bound (g ∷ groups)

-- One such member of each group: different modules, all of them done.
record Picked (bound : ℕ) (groups : List (List ℕ)) (picked : List ℕ) : Type 0 where
  once : Once picked
  below : Below bound picked
  done : (x : ℕ) → x ∈ picked → is_done groups x ≡ true
  count : length picked ≡ length groups

module _ {bound : ℕ} where
  pub made-members : {groups : List (List ℕ)} → Made bound groups → (g : List ℕ) → g ∈ groups → Members bound g
  made-members none_made g h = absurd (Memᴰ.not-nil h)
  made-members (then-made m k d o b r) g h =
      ⊎_elim (λ e. subst⁻¹ (Members bound) e (record { once = o; below = b })) (made-members r g) (Memᴰ.cases_cons h)

  pick : {groups : List (List ℕ)} → Made bound groups → (picked : List ℕ) × Picked bound groups picked
  pick none_made = ([], record { once = none; below = below-nil; done = λ x h. absurd (Memᴰ.not-nil h); count = refl })
  pick (then-made {g = g} {groups = groups} m k d o b r) =
      let q = pick r in
      let i = q.1 in (
        m ∷ q.0,
        record {
          once = next (λ h. false≢true (sym d ∙ i.done m h)) i.once;
          below = below-cons (b m k) i.below;
          done = λ x h. ⊎_elim (λ e. done-now groups (subst⁻¹ (λ (z : ℕ). z ∈ g) e k)) (λ t. done-still g groups x (i.done x t)) (Memᴰ.cases_cons h);
          count = ap suc i.count;
        },
      )

  pub made-count : {groups : List (List ℕ)} → Made bound groups → length groups ≤ bound
  made-count r = let q = pick r in omega (arith, below_length q.1.once q.1.below, q.1.count)

-- What holds between two visits, of the list and the groups.
pub record Walked (bound : ℕ) (list : List ℕ) (groups : List (List ℕ)) : Type 0 where
  pub listed : (m : ℕ) → m < bound → is_done groups m ≡ false → m ∈ list
  pub list-below : Below bound list
  pub made : Made bound groups

abbrev pub WalkedIn : Project → ModuleState → Type 0
WalkedIn p (module_state list marks groups) = Walked p.modules list groups

-- The three things that a visit does: pass over a module that is done, put entries in front, make a group that holds the module.
module _ {bound : ℕ} {list : List ℕ} {groups : List (List ℕ)} where
  passed_over : {m : ℕ} → is_done groups m ≡ true → Walked bound (m ∷ list) groups → Walked bound list groups
  passed_over d w =
      record {
        listed = λ x h e. ∈-rest (λ q. false≢true (sym (rw q at e) ∙ d)) (w.listed x h e);
        list-below = λ x h. w.list-below x (Memᴰ.tail h);
        made = w.made;
      }

  put-in-front : {front : List ℕ} → Below bound front → Walked bound list groups → Walked bound (front ++ list) groups
  put-in-front {front} b w =
      record {
        listed = λ x h e. ∈-right front (w.listed x h e);
        list-below = λ x h. ⊎_elim (b x) (w.list-below x) (∈-append front h);
        made = w.made;
      }

  grouped : {g : List ℕ} {m : ℕ} → is_done groups m ≡ false → m ∈ g → Once g → Below bound g → Walked bound (m ∷ list) groups
      → Walked bound list (g ∷ groups)
  grouped {g} d k o b w =
      record {
        listed = λ x h e.
            let u = undone-cons g groups x e in
            ∈-rest (λ q. u.0 (subst⁻¹ (λ (z : ℕ). z ∈ g) q k)) (w.listed x h u.1);
        list-below = λ x h. w.list-below x (Memᴰ.tail h);
        made = then-made _ k d o b w.made;
      }

module _ {p : Project} (a : Accepted p) where
  pub undone-below : (groups : List (List ℕ)) (m : ℕ) → Below p.modules (undone_imports p groups m)
  undone-below groups m d h = (a.import-rows _ (imports_of-∈ p (undone_imports-∈ p groups m h).0)).imported-below

  pub outside_below : (groups : List (List ℕ)) (circle : List ℕ) → Below p.modules (outside_imports p groups circle)
  outside_below groups circle d h = let r = outside_imports-∈ p groups circle h in undone-below groups r.0 d r.2

  pub visit-keeps : {m : ℕ} {list marks : List ℕ} {groups : List (List ℕ)} {s : ModuleState} → Visited p m list marks groups s
      → Walked p.modules (m ∷ list) groups → WalkedIn p s
  visit-keeps (was-done d) w = passed_over d w
  visit-keeps {m} (alone d i) w = grouped d ∈-self (next Memᴰ.not-nil none) (below-cons (w.list-below m ∈-self) below-nil) w
  visit-keeps {m} {groups} (uncircled d i c) w = put-in-front (undone-below groups m) w
  visit-keeps {m} {groups} (whole d i c o) w =
      let r = circle-of a m (w.list-below m ∈-self) in
      grouped d (circle-self r c) r.once (circle-below r a.circles-below) w
  visit-keeps {m} {groups} (gave-up d i c o k) w =
      let r = circle-of a m (w.list-below m ∈-self) in
      let outside = outside_imports p groups (circle_of p m) in
      grouped d (∈-append_new-left (circle_of p m) outside (circle-self r c)) (once-append_new (circle_of p m) outside r.once)
      (λ x h. ⊎_elim (circle-below r a.circles-below x) (outside_below groups (circle_of p m) x) (append_new-∈ (circle_of p m) outside h)) w
  visit-keeps {m} {groups} (marked d i c o k) w = put-in-front (outside_below groups (circle_of p m)) w

  pub walked_start : WalkedIn p (module_start p)
  unfolding module_start
  walked_start =
      record {
        listed = λ m h e. Memᴰ.tail (∈-up_from 0 p.modules (omega arith) (omega arith));
        list-below = below-cons a.entry-below (λ x h. let r = up_from-∈ 0 p.modules h in omega arith);
        made = none_made;
      }

  pub walked_on : (n : ℕ) (s : ModuleState) → WalkedIn p s → is_empty (module_list s) ≡ false → WalkedIn p (visit_module p s)
  unfolding is_empty module_list
  walked_on n (module_state [] marks groups) w e = absurd (false≢true (sym e))
  walked_on n (module_state (m ∷ list) marks groups) w e = visit-keeps (visited p m list marks groups) w

  pub walked : (limit allowance : ℕ) → Stopped (module_walk p) limit (λ n s. WalkedIn p s) allowance (run_modules p limit allowance)
  unfolding run_modules
  walked limit allowance =
      let e : 0 + allowance ≡ allowance = omega arith in
      rw e at (stopped (module_walk p) limit (λ n s. WalkedIn p s) walked_on allowance 0 (module_start p) walked_start)

-- What holds of the groups, latest first, where the walk has ended.
pub record Grouped (p : Project) (groups : List (List ℕ)) : Type 0 where
  pub all_done : (m : ℕ) → m < p.modules → is_done groups m ≡ true
  pub made : Made p.modules groups
  pub members : (g : List ℕ) → g ∈ groups → Members p.modules g
  pub count : length groups ≤ p.modules
  pub bytes : length (group_bytes (reverse groups)) ≤ groups_bytes p

-- Each group takes a count byte and at most M members.
pub bytes_most : (p : Project) {groups : List (List ℕ)} → Made p.modules groups → length (group_bytes (reverse groups)) ≤ groups_bytes p
unfolding group_bytes groups_bytes
bytes_most p {groups} r =
    let most : length (reverse groups) ≤ p.modules = rw length-reverse (made-count r) in
    le_trans
    (flat_map-length (λ g. length g ∷ g) (p.modules + 1) (reverse groups)
    (λ g h. let i = made-members r g (reverse-∈ groups h) in omega (arith, below_length i.once i.below)))
    (mul-le-mul_right (p.modules + 1) most)

grouped-end : (p : Project) (s : ModuleState) → WalkedIn p s → is_empty (module_list s) ≡ true → Grouped p (groups_of s)
unfolding module_list groups_of
grouped-end p (module_state list marks groups) w e =
    record {
      all_done = λ m h. go m h (tested (is_done groups m));
      made = w.made;
      members = made-members w.made;
      count = made-count w.made;
      bytes = bytes_most p w.made;
    }
  where
    go : (m : ℕ) → m < p.modules → Tested (is_done groups m) → is_done groups m ≡ true
    go m h (holds d) = d
    go m h (fails d) = absurd (Memᴰ.not-nil (rw (is_empty-true list e) at (w.listed m h d)))

-- Where the walk ends, each module is in a group.
pub groups-made : {p : Project} → Accepted p → (limit allowance : ℕ) (s : ModuleState) (n : ℕ) → run_modules p limit allowance ≡ finished s n
    → Grouped p (groups_of s)
groups-made {p} a limit allowance s n e = go (rw e at (walked a limit allowance))
  where
    go : Stopped (module_walk p) limit (λ n s. WalkedIn p s) allowance (finished s n) → Grouped p (groups_of s)
    go (at-end w f h) = grouped-end p s w f

-- What a groups call writes fits the reply that it asks for.
pub groups-fit : {p : Project} → Accepted p → (limit allowance : ℕ) (s : ModuleState) (n : ℕ) → run_modules p limit allowance ≡ finished s n
    → length (group_bytes (groups_in_order s)) ≤ groups_bytes p
unfolding groups_in_order
groups-fit a limit allowance s n e = (groups-made a limit allowance s n e).bytes
