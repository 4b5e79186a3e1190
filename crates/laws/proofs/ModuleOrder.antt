-- The module walk of an accepted project whose circles tie exactly the modules that reach each other, under any list limit and allowance: its
-- visits, and the entries of its list, stay within 2 × modules + imports, and the imports of a group that do not reach back are done before it.
-- Assumes nothing.
use Rattle.std.specs.Prelude.{ℕ, suc, pred, ◌+◌, ◌≤◌, ◌<◌, ◌≡◌, refl, ◌⊎◌, Bool, true, false}
use native.Mathlib.Omega.{arith}
use Rattle.std.proofs.Math.Path.{sym, ap, subst⁻¹}
use Rattle.std.proofs.Common.{◌∙◌, inl, inr, ⊎_elim, length-append}
use Rattle.std.proofs.Math.Bool.{not}
use mathlib.Core.List.Memᴰ
use mathlib.Core.List.{List, [], ◌∷◌, ◌++◌, flat_map, append-nil}
use Rattle.std.proofs.Math.ListN.{length}
use Rattle.rules.specs.Lists.{is_empty, any, elem, up_from}
use Rattle.rules.specs.Project.{Project}
use Rattle.rules.specs.Walk.{Stop, finished, spent, full}
use Rattle.rules.specs.Modules.{imports_of, import_count, ImportsModule, ModuleState, module_state, is_done, undone_imports, outside_imports, visit_module, module_list, groups_of, module_walk, module_start, run_modules}
use Rattle.rules.specs.Calls.{module_list_limit}
use Rattle.laws.specs.Lists.{◌∈◌, false≢true, Tested, holds, fails, tested, elem-true, false-elem, mem?, ∈-self, keep-∈, once-keep, once-length, length_without, up_from-∈, ∈-up_from, length-up_from, total, total-most, total-suc, ∈-total}
use Rattle.laws.specs.Counting.{is_empty_false, empty-∈, keep_all}
use Rattle.laws.specs.ModuleOrder.{FollowsGroups}
use Rattle.laws.specs.Runs.{Stopped, at-end, at-allowance, at-limit, stopped}
use Rattle.laws.specs.Terms.{CirclesMatch, visit_limit}
use Rattle.laws.specs.Accepted.{Accepted}
use Rattle.laws.specs.ModuleVisit.{Visited, was-done, alone, uncircled, whole, gave-up, marked, visited, is_done-cons, done-now, done-still, undone-cons, imports_of-∈, undone_imports-∈, ∈-undone_imports, once-undone_imports, outside_imports-∈, ∈-outside_imports}
use Rattle.laws.specs.ModuleWalk.{WalkedIn, outside_below, visit-keeps, walked_start}
use Rattle.laws.proofs.Classes.{Leads, here, on, Together, Class, leads-trans, together-self, together-sym, together-trans, import-back, class-alone, leads-below, circle-class, alone-class}
use Rattle.laws.specs.Sums.{except, except-∈, ∈-except, total-except, flat_map-total, count_most, imports-counted}

-- Groups, latest first, each of which follows those made before it.
pub data InOrder (p : Project) : List (List ℕ) → Type 0 where
  no-group : InOrder p []
  then-group : {g : List ℕ} {earlier : List (List ℕ)} → FollowsGroups p earlier g → InOrder p earlier → InOrder p (g ∷ earlier)

-- `y` stands before the first entry that is in `C`.
data BeforeFirst (C : ℕ → Type 0) (y : ℕ) : List ℕ → Type 0 where
  first : {z : ℕ} {list : List ℕ} → y ≡ z → (C z → ⊥) → BeforeFirst C y (z ∷ list)
  later : {z : ℕ} {list : List ℕ} → (C z → ⊥) → BeforeFirst C y list → BeforeFirst C y (z ∷ list)

module _ {C : ℕ → Type 0} {y : ℕ} where
  not-before : {z : ℕ} {list : List ℕ} → C z → BeforeFirst C y (z ∷ list) → ⊥
  not-before c (first e f) = f c
  not-before c (later f b) = f c

  before-rest : {z : ℕ} {list : List ℕ} → (y ≡ z → ⊥) → BeforeFirst C y (z ∷ list) → BeforeFirst C y list
  before-rest d (first e f) = absurd (d e)
  before-rest d (later f b) = b

  before-append : (front : List ℕ) {list : List ℕ} → BeforeFirst C y (front ++ list) → (y ∈ front) ⊎ BeforeFirst C y list
  before-append [] b = inr b
  before-append (z ∷ front) (first e f) = inl (Memᴰ.head e)
  before-append (z ∷ front) (later f b) = ⊎_elim (λ m. inl (Memᴰ.tail m)) (λ k. inr k) (before-append front b)

  append-before : (front : List ℕ) {list : List ℕ} → ((z : ℕ) → z ∈ front → C z → ⊥) → BeforeFirst C y list → BeforeFirst C y (front ++ list)
  append-before [] f b = b
  append-before (z ∷ front) f b = later (f z ∈-self) (append-before front (λ x m. f x (Memᴰ.tail m)) b)

  ∈-before : {front : List ℕ} (list : List ℕ) → ((z : ℕ) → z ∈ front → C z → ⊥) → y ∈ front → BeforeFirst C y (front ++ list)
  ∈-before list f (Memᴰ.head {x = z} e) = first e (f z ∈-self)
  ∈-before list f (Memᴰ.tail {x = z} m) = later (f z ∈-self) (∈-before list (λ x k. f x (Memᴰ.tail k)) m)

-- What a class that is expanded and not done asks of the list: the entries before its first member are reached from it, and its undone imports
-- outside of it are among them.
record Ahead (p : Project) (groups : List (List ℕ)) (list : List ℕ) (x : ℕ) : Type 0 where
  reached : (y : ℕ) → BeforeFirst (Together p x) y list → Leads p x y
  waiting : (c d : ℕ) → Together p x c → ImportsModule p c d → (Together p x d → ⊥) → is_done groups d ≡ false → BeforeFirst (Together p x) d list

-- a module counts 1, and 1 for each of its imports
abbrev weight : Project → ℕ → ℕ
weight p m = suc (length (imports_of p m))

-- What holds between two visits. A class is expanded once a visit has put undone imports of it in front; `fresh` holds the modules of the other
-- classes. Visits made, entries of the list and the weight of the fresh modules, less 1, never grow in sum.
record Ordered (p : Project) (made : ℕ) (fresh list marks : List ℕ) (groups : List (List ℕ)) : Type 0 where
  done-together : (m n : ℕ) → Together p m n → is_done groups m ≡ true → is_done groups n ≡ true
  fresh-together : (m n : ℕ) → Together p m n → m ∈ fresh → n ∈ fresh
  marks-expanded : (m : ℕ) → m ∈ marks → m ∈ fresh → ⊥
  ahead : (x : ℕ) → x < p.modules → (x ∈ fresh → ⊥) → is_done groups x ≡ false → Ahead p groups list x
  visits : made + length list + pred (total (weight p) fresh) ≤ visit_limit p
  in_order : InOrder p groups

-- a test fails where one that it implies fails
not_so : {a b : Bool} → (b ≡ true → a ≡ true) → a ≡ false → b ≡ false
not_so {b = true} f e = absurd (false≢true (sym e ∙ f refl))
not_so {b = false} f e = refl

-- The front module leaves the list, being done afterwards.
ahead-rest : {p : Project} {m x : ℕ} {list : List ℕ} {groups : List (List ℕ)} (after : List (List ℕ)) → (Together p x m → ⊥) → is_done after m ≡ true
    → ((d : ℕ) → is_done after d ≡ false → is_done groups d ≡ false) → Ahead p groups (m ∷ list) x → Ahead p after list x
ahead-rest after f d u h =
    record {
      reached = λ y b. h.reached y (later f b);
      waiting = λ c n t k o e. before-rest (λ q. false≢true (sym (rw q at e) ∙ d)) (h.waiting c n t k o (u n e));
    }

-- The entries that an expansion puts in front are at most the imports of the class.
outside-length : (p : Project) (groups : List (List ℕ)) (class : List ℕ)
    → length (outside_imports p groups class) ≤ total (λ c. length (imports_of p c)) class
unfolding outside_imports
outside-length p groups class =
    rw flat_map-total (total-most (λ c.
    once-length (imports_of p c) (once-keep _ (once-undone_imports p groups c))
    (λ d h. (undone_imports-∈ p groups c (keep-∈ (λ d. not (elem d class)) (undone_imports p groups c) h).0).0)) class)

module _ {p : Project} {made m : ℕ} {fresh list marks : List ℕ} {groups : List (List ℕ)} (i : Ordered p made fresh (m ∷ list) marks groups) where
  -- The front module is done.
  skipped : is_done groups m ≡ true → Ordered p (suc made) fresh list marks groups
  skipped d =
      record {
        done-together = i.done-together;
        fresh-together = i.fresh-together;
        marks-expanded = i.marks-expanded;
        ahead = λ x h f e. ahead-rest groups (λ t. false≢true (sym e ∙ i.done-together m x (together-sym t) d)) d (λ n u. u) (i.ahead x h f e);
        visits = omega (arith, i.visits);
        in_order = i.in_order;
      }

  module _ (a : Accepted p) (below : m < p.modules) (undone : is_done groups m ≡ false) {class : List ℕ} (c : Class p m class) where
    -- A class with no undone imports outside becomes a group.
    module _ (settled : is_empty (outside_imports p groups class) ≡ true) where
      follows : FollowsGroups p groups class
      follows =
          record {
            imports-done = λ x n h k f.
                go h k (λ o. f (import-back k (leads-trans (c.together n o).back (c.together x h).there))) (tested (is_done groups n));
            new = λ x h. not_so (i.done-together x m (together-sym (c.together x h))) undone;
          }
        where
          go : {x n : ℕ} → x ∈ class → n ∈ imports_of p x → (n ∈ class → ⊥) → Tested (is_done groups n) → is_done groups n ≡ true
          go h k o (holds d) = d
          go {x} h k o (fails d) =
              absurd (empty-∈ settled (∈-outside_imports p groups h (∈-undone_imports p groups x k d) o))

      grouped : Ordered p (suc made) fresh list [] (class ∷ groups)
      grouped =
          record {
            done-together = λ x y t d.
                ⊎_elim (λ h. done-now groups (c.whole y (together-trans (c.together x h) t)))
                (λ h. done-still class groups y (i.done-together x y t h))
                (is_done-cons class groups d);
            fresh-together = i.fresh-together;
            marks-expanded = λ x h. absurd (Memᴰ.not-nil h);
            ahead = λ x h f e.
                let u = undone-cons class groups x e in
                ahead-rest (class ∷ groups) (λ t. u.0 (c.whole x (together-sym t))) (done-now groups (c.whole m together-self))
                (λ n k. (undone-cons class groups n k).1) (i.ahead x h f u.1);
            visits = omega (arith, i.visits);
            in_order = then-group follows i.in_order;
          }

    -- A class with undone imports outside is expanded.
    module _ (open-class : is_empty (outside_imports p groups class) ≡ false) where
      -- It was not expanded before: what it waits for would stand before the front module, a member.
      front-fresh : m ∈ fresh
      front-fresh =
          let d = is_empty_false (outside_imports p groups class) open-class in
          let r = outside_imports-∈ p groups class d.1 in
          let u = undone_imports-∈ p groups r.0 r.2 in
          ⊎_elim (λ h. h)
          (λ f. absurd (not-before together-self
          ((i.ahead m below f undone).waiting r.0 d.0 (c.together r.0 r.1) u.0 (λ t. r.3 (c.whole d.0 t)) u.1)))
          (mem? m fresh)

      -- An entry put in front is reached from the class, and outside of it.
      put-leads : {d : ℕ} → d ∈ outside_imports p groups class → Leads p m d
      put-leads h =
          let r = outside_imports-∈ p groups class h in
          leads-trans (c.together r.0 r.1).there (on (undone_imports-∈ p groups r.0 r.2).0 here)

      put-outside : {d : ℕ} → d ∈ outside_imports p groups class → Together p m d → ⊥
      put-outside {d} h t = (outside_imports-∈ p groups class h).3 (c.whole d t)

      -- Another class that is expanded and not done leads to the front module, so that no entry put in front is in it.
      module _ {x : ℕ} (h : x < p.modules) (f : x ∈ fresh → ⊥) (e : is_done groups x ≡ false) where
        leads-front : Leads p x m
        leads-front = (i.ahead x h f e).reached m (first refl (λ t. f (i.fresh-together m x (together-sym t) front-fresh)))

        put-apart : (d : ℕ) → d ∈ outside_imports p groups class → Together p x d → ⊥
        put-apart d k t = put-outside k (record { there = put-leads k; back = leads-trans t.back leads-front })

        ahead-other : Ahead p groups (outside_imports p groups class ++ (m ∷ list)) x
        ahead-other =
            record {
              reached = λ y b.
                  ⊎_elim (λ o. leads-trans leads-front (put-leads o)) ((i.ahead x h f e).reached y) (before-append (outside_imports p groups class) b);
              waiting = λ n d t k o u. append-before (outside_imports p groups class) put-apart ((i.ahead x h f e).waiting n d t k o u);
            }

      ahead_own : {x : ℕ} → Together p x m → Ahead p groups (outside_imports p groups class ++ (m ∷ list)) x
      ahead_own t =
          record {
            reached = λ y b.
                ⊎_elim (λ o. leads-trans t.there (put-leads o)) (λ k. absurd (not-before t k)) (before-append (outside_imports p groups class) b);
            waiting = λ n d s k o u.
                ∈-before (m ∷ list) (λ z h w. put-outside h (together-trans (together-sym t) w))
                (∈-outside_imports p groups (c.whole n (together-trans (together-sym t) s)) (∈-undone_imports p groups n k u)
                (λ h. o (together-trans t (c.together d h))));
          }

      -- It is fresh: an expanded class that holds it would not be done, and no entry put in front is in such a class.
      put-fresh : {d : ℕ} → d ∈ outside_imports p groups class → d ∈ fresh
      put-fresh {d} h =
          let r = outside_imports-∈ p groups class h in
          let u = (undone_imports-∈ p groups r.0 r.2).1 in
          ⊎_elim (λ k. k) (λ f. absurd (put-apart (outside_below a groups class d h) f u d h together-self)) (mem? d fresh)

      -- The weight of the class is at least 1 for the visit and 1 for each entry put in front; one of these entries stays fresh.
      visits-left : suc made + length (outside_imports p groups class ++ (m ∷ list)) + pred (total (weight p) (except class fresh)) ≤ visit_limit p
      visits-left =
          let d = is_empty_false (outside_imports p groups class) open-class in
          let stays : d.0 ∈ except class fresh = ∈-except class (put-fresh d.1) (λ h. put-outside d.1 (c.together d.0 h)) in
          omega (
            arith,
            i.visits,
            length-append (outside_imports p groups class) (m ∷ list),
            outside-length p groups class,
            total-suc (λ x. length (imports_of p x)) class,
            length_without (c.whole m together-self),
            total-except (weight p) fresh c.once (λ x h. i.fresh-together m x (c.together x h) front-fresh),
            ∈-total (weight p) stays,
          )

      expanded : (after : List ℕ) → ((x : ℕ) → x ∈ after → (x ≡ m) ⊎ (x ∈ marks))
          → Ordered p (suc made) (except class fresh) (outside_imports p groups class ++ (m ∷ list)) after groups
      expanded after within =
          record {
            done-together = i.done-together;
            fresh-together = λ x y t h.
                let r = except-∈ class fresh h in
                ∈-except class (i.fresh-together x y t r.0) (λ k. r.1 (c.whole x (together-trans (c.together y k) (together-sym t))));
            marks-expanded = λ x h k.
                let r = except-∈ class fresh k in
                ⊎_elim (λ e. r.1 (subst⁻¹ (λ (z : ℕ). z ∈ class) e (c.whole m together-self))) (λ n. i.marks-expanded x n r.0) (within x h);
            ahead = λ x h f e.
                ⊎_elim (λ k. ahead_own (together-sym (c.together x k))) (λ k. ahead-other h (λ n. f (∈-except class n k)) e) (mem? x class);
            visits = visits-left;
            in_order = i.in_order;
          }

-- The same of a state, for some fresh modules.
abbrev OrderedFrom : Project → ℕ → ModuleState → Type 0
OrderedFrom p made (module_state list marks groups) = (fresh : List ℕ) × Ordered p made fresh list marks groups

-- It, and what holds under no premise.
abbrev OrderedIn : Project → ℕ → ModuleState → Type 0
OrderedIn p made s = WalkedIn p s × OrderedFrom p made s

module _ {p : Project} (a : Accepted p) (q : CirclesMatch p) where
  -- No module imports itself: where a module is alone in its class, all its undone imports are outside.
  undone-outside : (groups : List (List ℕ)) (m : ℕ) → undone_imports p groups m ≡ outside_imports p groups (m ∷ [])
  unfolding outside_imports flat_map
  undone-outside groups m =
      sym (append-nil _ ∙ keep_all (λ d. not (elem d (m ∷ []))) (undone_imports p groups m)
      (λ d h. ap not (false-elem (m ∷ []) (λ k. differ d h (Memᴰ.eq_of_singleton k)))))
    where
      differ : (d : ℕ) → d ∈ undone_imports p groups m → d ≡ m → ⊥
      differ d h e = (a.import-rows _ (imports_of-∈ p (undone_imports-∈ p groups m h).0)).ends-differ (sym e)

  module _ {made m : ℕ} {fresh list marks : List ℕ} {groups : List (List ℕ)} (below : m < p.modules) (i : Ordered p made fresh (m ∷ list) marks groups) where
    -- A module with no undone imports is alone in its class: its import on the way to another member would be undone, as the module is.
    alone-together : is_done groups m ≡ false → is_empty (undone_imports p groups m) ≡ true → (x : ℕ) → Leads p m x → Leads p x m → x ≡ m
    alone-together d e x here back = refl
    alone-together d e x (on {b = n} k l) back =
        let t : Together p m n = record { there = on k here; back = leads-trans l back } in
        let u = not_so (i.done-together n m (together-sym t)) d in
        absurd (empty-∈ e (∈-undone_imports p groups m k u))

    -- A visit keeps it. The fallback of step 4 never happens.
    ordered-on : {s : ModuleState} → Visited p m list marks groups s → OrderedFrom p (suc made) s
    ordered-on (was-done d) = (fresh, skipped i d)
    ordered-on (alone d e) =
        (fresh, grouped i a below d (class-alone (λ x t. alone-together d e x t.there t.back)) (rw (undone-outside groups m) at e))
    ordered-on (uncircled d e c) =
        rw (undone-outside groups m)
        (_, expanded i a below d (alone-class a q below c) (rw (undone-outside groups m) at e) marks (λ x h. inr h))
    ordered-on (whole d e c o) = (fresh, grouped i a below d (circle-class a q below c) o)
    ordered-on (gave-up d e c o k) =
        absurd (i.marks-expanded m (elem-true marks k) (front-fresh i a below d (circle-class a q below c) o))
    ordered-on (marked d e c o k) =
        (_, expanded i a below d (circle-class a q below c) o (m ∷ marks) (λ x h. Memᴰ.cases_cons h))

  ordered-start : OrderedFrom p 0 (module_start p)
  unfolding module_start is_done any
  ordered-start = (
    up_from 0 p.modules,
    record {
      done-together = λ m n t d. absurd (false≢true d);
      fresh-together = λ m n t h. let b = up_from-∈ 0 p.modules h in fresh_start (leads-below a (omega arith) t.there);
      marks-expanded = λ m h. absurd (Memᴰ.not-nil h);
      ahead = λ x h f e. absurd (f (fresh_start h));
      visits =
          omega (
            arith,
            a.modules-least,
            length-up_from 0 p.modules,
            total-suc (λ x. length (imports_of p x)) (up_from 0 p.modules),
            imports-counted p p.modules,
          );
      in_order = no-group;
    },
  )
    where
      fresh_start : {x : ℕ} → x < p.modules → x ∈ up_from 0 p.modules
      fresh_start h = ∈-up_from 0 p.modules (omega arith) (omega arith)

  ordered-next : (made : ℕ) (s : ModuleState) → OrderedIn p made s → is_empty (module_list s) ≡ false → OrderedIn p (suc made) (visit_module p s)
  unfolding is_empty module_list
  ordered-next made (module_state [] marks groups) w e = absurd (false≢true (sym e))
  ordered-next made (module_state (m ∷ list) marks groups) w e =
      let v = visited p m list marks groups in
      (visit-keeps a v w.0, ordered-on (w.0.list-below m ∈-self) w.1.1 v)

-- How the walk stops under the premise, and after how many visits.
pub data Bounded (p : Project) (limit allowance : ℕ) : Stop ModuleState → Type 0 where
  finishes : {s : ModuleState} {n : ℕ} → n ≤ visit_limit p → n ≤ allowance → InOrder p (groups_of s) → Bounded p limit allowance (finished s n)
  spends : {n : ℕ} → n < visit_limit p → n ≡ allowance → Bounded p limit allowance (spent n)
  fills : {n : ℕ} → n ≤ visit_limit p → limit < visit_limit p → Bounded p limit allowance (full n)

-- What is read off a state.
standing : {p : Project} (made : ℕ) (s : ModuleState) → OrderedIn p made s → (made + length (module_list s) ≤ visit_limit p) × InOrder p (groups_of s)
unfolding module_list groups_of
standing made (module_state list marks groups) w = (omega (arith, w.1.1.visits), w.1.1.in_order)

module _ {p : Project} (a : Accepted p) (q : CirclesMatch p) (limit allowance : ℕ) where
  -- "module visits at most 2 × modules + imports", however the walk stops
  pub bounded : Bounded p limit allowance (run_modules p limit allowance)
  unfolding run_modules
  bounded = go (stopped (module_walk p) limit (OrderedIn p) (ordered-next a q) allowance 0 (module_start p) (walked_start a, ordered-start a q))
    where
      go : {r : Stop ModuleState} → Stopped (module_walk p) limit (OrderedIn p) (0 + allowance) r → Bounded p limit allowance r
      go (at-end {s = s} {n = n} w e h) = let t = standing n s w in finishes {n = n} (omega arith) (omega arith) t.1
      go (at-allowance {n = n} s w e h) =
          let t = standing n s w in
          spends {n = n} (omega (arith, length_without (is_empty_false (module_list s) e).1)) (omega arith)
      go (at-limit {n = n} s w e h) = let t = standing n s w in fills {n = n} (omega arith) (omega arith)

  -- Where the walk ends, its groups are in order.
  pub groups-in-order : (s : ModuleState) (n : ℕ) → run_modules p limit allowance ≡ finished s n → InOrder p (groups_of s)
  groups-in-order s n e = go (rw e at bounded)
    where
      go : Bounded p limit allowance (finished s n) → InOrder p (groups_of s)
      go (finishes h k o) = o

  -- "an allowance of 2 × M + imports": the walk ends.
  pub walk_ends : visit_limit p ≤ limit → visit_limit p ≤ allowance → (s : ModuleState) × (n : ℕ) × (run_modules p limit allowance ≡ finished s n)
  walk_ends room enough = go bounded
    where
      go : {r : Stop ModuleState} → Bounded p limit allowance r → (s : ModuleState) × (n : ℕ) × (r ≡ finished s n)
      go (finishes {s = s} {n = n} h k o) = (s, n, refl)
      go (spends h k) = absurd (omega arith)
      go (fills h k) = absurd (omega arith)

-- At most 64 modules and 512 rows, so that the visit limit is within the list limit of the calls.
pub visit-limit-most : {p : Project} → Accepted p → visit_limit p ≤ 640
unfolding import_count
visit-limit-most {p} a = omega (arith, a.modules-most, a.imports-most, count_most p.imports)

pub visit-limit-fits : {p : Project} → Accepted p → visit_limit p ≤ module_list_limit
visit-limit-fits a = omega (arith, visit-limit-most a)
