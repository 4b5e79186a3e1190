-- The walk of a group's items, for every well-formed group, allowance and list limit: an unplaced number is always in the list; where the walk
-- finishes, each number is placed once, and before one that it depends on only where it is excused. Assumes nothing.
use Prim.Native.Nat.{ℕ, ◌+◌, ◌<◌}
use Rattle.std.proofs.Common.{arith, sym, ap, ◌∙◌, eqb-true, ne_eqb}
use Rattle.std.specs.Prelude.{◌≡◌, refl, ◌⊎◌, true, false, ◌&&◌, ◌||◌, eqb}
use Rattle.std.proofs.Math.Logic.{inl, inr, ⊎_elim}
use Rattle.std.proofs.Math.Bool.{Bool, not}
use mathlib.Core.List.Memᴰ
use mathlib.Core.List.{List, [], ◌∷◌, ◌++◌, flat_map, reverse, reverse-cons, append_assoc}
use Rattle.std.proofs.Math.Seq.{append_snoc}
use Rattle.rules.specs.Lists.{is_empty, cons_if, keep, elem}
use Rattle.rules.specs.Project.{Need}
use Rattle.rules.specs.Walk.{finished, run}
use Rattle.rules.specs.Paths.{dependencies_of, dependants_of, DependsOn, ReachesItem}
use Rattle.rules.specs.Items.{is_injected, may_drop, Range, in_range, range_of, numbers_of, Group, kind_of, numbers, path_holds, weight_of, same_range, starts, first_list, ItemState, item_state, has_moved, Opened, opened, with_open, find_open, is_dropped, waiting, one_by_one, preceding, after_preceding, after_open, visit_item, item_list, placed_of, item_walk, item_start}
use Rattle.laws.specs.Lists.{◌∈◌, both, either, not-true, Tested, holds, fails, tested, ∈-left, ∈-right, ∈-self, keep-∈, ∈-keep, all_true, elem-true, elem-false, up_from-∈, ∈-up_from, none, next}
use Rattle.laws.specs.ItemWalk.{Excused, Settled, Numbers, Walked}
use Rattle.laws.specs.Runs.{Stopped, at-end, stopped}
use Rattle.laws.specs.Orders.{Before, here, later, below-append, below-reverse, ends-∈, ∈-ends, keep-empty, not-fails}
use Rattle.laws.specs.Counting.{flat_map-∈, ∈-flat_map, below-nil, below-cons}
use Rattle.laws.specs.PathLaws.{reaches-reverse, in_paths-sound}
use Rattle.laws.specs.Splits.{size, WellFormed}
use Rattle.laws.proofs.Splits.{in_range-true, numbers_of-∈, ∈-numbers_of, true-in_range, Found, found, nowhere, range_of-found, range_of-holds}

-- Neighbours are the ends of needs.
pub dependencies_of-∈ : (needs : List Need) (x : ℕ) {d : ℕ} → d ∈ dependencies_of needs x → DependsOn needs x d
unfolding dependencies_of
dependencies_of-∈ needs x m = ends-∈ (λ (n : Need). n.dependant) (λ (n : Need). n.dependency) needs x m

pub ∈-dependencies_of : {needs : List Need} {x d : ℕ} → DependsOn needs x d → d ∈ dependencies_of needs x
unfolding dependencies_of
∈-dependencies_of (n, m, e, f) = ∈-ends (λ (n : Need). n.dependant) (λ (n : Need). n.dependency) m e f

pub dependants_of-∈ : (needs : List Need) (x : ℕ) {d : ℕ} → d ∈ dependants_of needs x → DependsOn needs d x
unfolding dependants_of
dependants_of-∈ needs x m = let r = ends-∈ (λ (n : Need). n.dependency) (λ (n : Need). n.dependant) needs x m in (r.0, r.1, r.3, r.2)

one_by_one-append : (l list : List ℕ) → one_by_one l list ≡ reverse l ++ list
unfolding one_by_one
one_by_one-append [] list = refl
one_by_one-append (d ∷ l) list =
    one_by_one-append l (d ∷ list) ∙ sym (ap (λ (k : List ℕ). k ++ list) (reverse-cons d l) ∙ append_assoc (reverse l) (d ∷ []) list)

may_drop-uninjected : (kind weight : ℕ) → may_drop kind weight ≡ true → is_injected kind ≡ false
unfolding may_drop is_injected
may_drop-uninjected k w e =
    below
    (⊎_elim (λ h. ⊎_elim (λ a. let r = eqb-true k 1 a in omega arith) (λ a. let r = eqb-true k 2 a in omega arith) (either {a = eqb k 1} h))
    (λ h. let r = eqb-true k 3 (both {a = eqb k 3} h).0 in omega arith) (either {a = eqb k 1 || eqb k 2} e))
  where
    below : k < 4 → eqb k 4 ≡ false
    below h = ne_eqb k 4 (λ q. omega arith)

module _ (g : Group) where
  -- "P(d) holds x" only where d reaches x
  path_holds-sound : (d x : ℕ) → path_holds g d x ≡ true → ReachesItem g.needs d x
  unfolding path_holds
  path_holds-sound d x e = reaches-reverse g.needs (in_paths-sound _ e)

  same_range-excused : WellFormed g → (x d : ℕ) → same_range g x d ≡ true → Excused g x d
  unfolding same_range
  same_range-excused w x d e = let q = range_of-holds g.ranges x d e in ((w.holds-uninjected (range_of g.ranges x) x q.0 q.1).1, inl e)

  paths-excused : (x d : ℕ) → (not (is_injected (kind_of g x)) && path_holds g d x) ≡ true → Excused g x d
  paths-excused x d e = let b = both {a = not (is_injected (kind_of g x))} e in (not-true b.0, inr (path_holds-sound d x b.1))

  dropped-excused : (x d : ℕ) → is_dropped g x d ≡ true → Excused g x d
  unfolding is_dropped
  dropped-excused x d e =
      let b = both {a = path_holds g d x} e in
      (may_drop-uninjected (kind_of g x) (weight_of g x d) b.1, inr (path_holds-sound d x b.0))

  -- Of the dependencies l of x, those that step 2 finds open are some of l, and the others are settled.
  module _ (placed : List ℕ) (x : ℕ) where
    data Opening (l : List ℕ) : Opened → Type 0 where
      opening : {dependencies : List ℕ} {moved : List (ℕ × ℕ)} → ((d : ℕ) → d ∈ dependencies → d ∈ l)
          → ((d : ℕ) → d ∈ l → (d ∈ dependencies) ⊎ Settled g placed x d) → Opening l (opened dependencies moved)

    with-settled : {d : ℕ} {l : List ℕ} {o : Opened} → Settled g placed x d → Opening l o → Opening (d ∷ l) o
    with-settled h (opening from each) =
        opening (λ c m. Memᴰ.tail (from c m)) (λ c m. ⊎_elim (λ e. inr (rw e h)) (each c) (Memᴰ.cases_cons m))

    with-tested : (d : ℕ) {l : List ℕ} {o : Opened} → Opening l o → Opening (d ∷ l) (with_open (not (elem d placed)) d o)
    unfolding with_open cons_if
    with-tested d {l = l} (opening {dependencies = dependencies} {moved = moved} from each) = go (tested (elem d placed))
      where
        go : Tested (elem d placed) → Opening (d ∷ l) (with_open (not (elem d placed)) d (opened dependencies moved))
        go (holds e) = rw e (with-settled (inl (elem-true placed e)) (opening from each))
        go (fails e) =
            rw e
            (opening (λ c m. ⊎_elim (λ h. Memᴰ.head h) (λ h. Memᴰ.tail (from c h)) (Memᴰ.cases_cons m))
            (λ c m. ⊎_elim (λ h. inl (Memᴰ.head h)) (λ h. ⊎_elim (λ k. inl (Memᴰ.tail k)) (λ k. inr k) (each c h)) (Memᴰ.cases_cons m)))

    find_open-opening : WellFormed g → (l : List ℕ) (moved : List (ℕ × ℕ)) → Opening l (find_open g placed x l moved)
    unfolding find_open
    find_open-opening w [] moved = opening (λ d m. m) (λ d m. absurd (Memᴰ.not-nil m))
    find_open-opening w (d ∷ l) moved = go (tested (same_range g x d)) (tested paths) (tested (has_moved moved x d)) (λ k. find_open-opening w l k)
      where
        paths : Bool
        paths = not (is_injected (kind_of g x)) && path_holds g d x

        go : Tested (same_range g x d) → Tested paths → Tested (has_moved moved x d) → ((k : List (ℕ × ℕ)) → Opening l (find_open g placed x l k))
            → Opening (d ∷ l) (find_open g placed x (d ∷ l) moved)
        go (holds e) f t rest = rw (e, find_open) (with-settled (inr (same_range-excused w x d e)) (rest moved))
        go (fails e) (holds f) (holds t) rest = rw (e, f, t, find_open) (with-settled (inr (paths-excused x d f)) (rest moved))
        go (fails e) (holds f) (fails t) rest = rw (e, f, t, find_open) (with-tested d (rest ((x, d) ∷ moved)))
        go (fails e) (fails f) t rest = rw (e, f, find_open) (with-tested d (rest moved))

  -- What a visit does, by its kind. `front` is what it puts on the list.
  pub data Visited : ItemState → ItemState → Type 0 where
    list-empty : {placed : List ℕ} {moved : List (ℕ × ℕ)} → Visited (item_state [] placed moved) (item_state [] placed moved)
    passed_over : {x : ℕ} {list placed : List ℕ} {moved : List (ℕ × ℕ)} → x ∈ placed
        → Visited (item_state (x ∷ list) placed moved) (item_state list placed moved)
    put_back : {x : ℕ} {list placed : List ℕ} {moved noted : List (ℕ × ℕ)} (front : List ℕ) → Numbers g front → x ∈ front
        → Visited (item_state (x ∷ list) placed moved) (item_state (front ++ list) placed noted)
    put_in_place : {x : ℕ} {list placed : List ℕ} {moved noted : List (ℕ × ℕ)} (front : List ℕ) → Numbers g front
        → (x ∈ placed → ⊥) → ((d : ℕ) → DependsOn g.needs x d → Settled g placed x d)
        → Visited (item_state (x ∷ list) placed moved) (item_state (front ++ list) (x ∷ placed) noted)

  module _ (w : WellFormed g) where
    waiting-below : (placed : List ℕ) (x : ℕ) → Numbers g (waiting g placed x)
    unfolding waiting
    waiting-below placed x d m = (w.ends-below d x (dependants_of-∈ g.needs x (keep-∈ _ (dependants_of g.needs x) m).0)).0

    numbers-below : (x : ℕ) → Numbers g (numbers_of (range_of g.ranges x))
    numbers-below x y m =
        let e = numbers_of-∈ (range_of g.ranges x) m in
        (w.holds-uninjected (range_of g.ranges x) y (range_of-holds g.ranges x y e).0 e).0

    preceding-below : (placed : List ℕ) (moved : List (ℕ × ℕ)) (x : ℕ) → Numbers g (preceding g placed moved x)
    unfolding preceding
    preceding-below placed moved x y m = numbers-below x y (keep-∈ _ (numbers_of (range_of g.ranges x)) m).0

    module _ (x : ℕ) (list placed : List ℕ) (moved : List (ℕ × ℕ)) (below : x < size g) (new : x ∈ placed → ⊥) where
      after-preceding : (noted : List (ℕ × ℕ)) (before : List ℕ) → Numbers g before
          → ((d : ℕ) → DependsOn g.needs x d → Settled g placed x d)
          → Visited (item_state (x ∷ list) placed moved) (after_preceding g x list placed noted before)
      unfolding after_preceding
      after-preceding noted [] b settled = put_in_place [] below-nil new settled
      after-preceding noted (p ∷ before) b settled =
          rw one_by_one-append
          (put_back (p ∷ x ∷ reverse (waiting g placed x))
          (below-cons (b p ∈-self) (below-cons below (below-reverse (waiting-below placed x)))) (Memᴰ.tail ∈-self))

      visited-after_open : {o : Opened} → Opening placed x (dependencies_of g.needs x) o
          → Visited (item_state (x ∷ list) placed moved) (after_open g x list placed o)
      unfolding after_open
      visited-after_open (opening {dependencies = dependencies} {moved = noted} from each) = go (tested (is_empty staying)) (tested (is_injected (kind_of g x)))
        where
          staying : List ℕ
          staying = keep (λ d. not (is_dropped g x d)) dependencies

          staying-below : Numbers g staying
          staying-below d m = (w.ends-below x d (dependencies_of-∈ g.needs x (from d (keep-∈ _ dependencies m).0))).1

          settled : is_empty staying ≡ true → (d : ℕ) → DependsOn g.needs x d → Settled g placed x d
          settled e d s = ⊎_elim (λ m. dropped m (tested (is_dropped g x d))) (λ h. h) (each d (∈-dependencies_of s))
            where
              dropped : d ∈ dependencies → Tested (is_dropped g x d) → Settled g placed x d
              dropped m (holds t) = inr (dropped-excused x d t)
              dropped m (fails t) = absurd (keep-empty _ dependencies e m (not-fails t))

          go : Tested (is_empty staying) → Tested (is_injected (kind_of g x))
              → Visited (item_state (x ∷ list) placed moved) (after_open g x list placed (opened dependencies noted))
          go (fails e) i =
              rw (e, after_open, ← append_snoc staying x list)
              (put_back (staying ++ (x ∷ [])) (below-append staying-below (below-cons below below-nil)) (∈-right staying ∈-self))
          go (holds e) (holds i) =
              rw (e, i, after_open, one_by_one-append)
              (put_in_place (reverse (waiting g placed x)) (below-reverse (waiting-below placed x)) new (settled e))
          go (holds e) (fails i) =
              rw (e, i, after_open)
              (after-preceding noted (preceding g placed noted x) (preceding-below placed noted x) (settled e))

    -- The view: each visit of a list of numbers is one of these.
    pub visited : (s : ItemState) → Numbers g (item_list s) → Visited s (visit_item g s)
    unfolding visit_item item_list
    visited (item_state [] placed moved) b = list-empty
    visited (item_state (x ∷ list) placed moved) b = go (tested (elem x placed))
      where
        go : Tested (elem x placed) → Visited (item_state (x ∷ list) placed moved) (visit_item g (item_state (x ∷ list) placed moved))
        go (holds e) = rw (e, visit_item) (passed_over (elem-true placed e))
        go (fails e) =
            rw (e, visit_item)
            (visited-after_open x list placed moved (b x ∈-self) (elem-false e) (find_open-opening placed x w (dependencies_of g.needs x) moved))

  -- What holds at the end.
  pub record Placed (s : ItemState) : Type 0 where
    pub walked : Walked g s
    pub all_placed : (x : ℕ) → x < size g → x ∈ placed_of s

  -- a number that is placed or in the list stays so where the front of the list does
  stays : {x y : ℕ} {placed list placed' list' : List ℕ} → (x ∈ placed → x ∈ placed') → (x ∈ list → x ∈ list') → (y ∈ placed') ⊎ (y ∈ list')
      → (x ∈ placed) ⊎ (x ∈ y ∷ list) → (x ∈ placed') ⊎ (x ∈ list')
  stays f h a (inl m) = inl (f m)
  stays f h a (inr (Memᴰ.head e)) = rw e a
  stays f h a (inr (Memᴰ.tail m)) = inr (h m)

  keeps : {s t : ItemState} → Visited s t → Walked g s → Walked g t
  unfolding item_list placed_of
  keeps list-empty i = i
  keeps (passed_over m) i =
      record {
        list-below = λ x h. i.list-below x (Memᴰ.tail h);
        placed_below = i.placed_below;
        unplaced-listed = λ x h. stays (λ k. k) (λ k. k) (inl m) (i.unplaced-listed x h);
        once = i.once;
        in_order = i.in_order;
      }
  keeps (put_back front b m) i =
      record {
        list-below = below-append b (λ x h. i.list-below x (Memᴰ.tail h));
        placed_below = i.placed_below;
        unplaced-listed = λ x h. stays (λ k. k) (∈-right front) (inr (∈-left _ m)) (i.unplaced-listed x h);
        once = i.once;
        in_order = i.in_order;
      }
  keeps (put_in_place {x = y} {placed = placed} front b n settled) i =
      record {
        list-below = below-append b (λ x h. i.list-below x (Memᴰ.tail h));
        placed_below = below-cons (i.list-below y ∈-self) i.placed_below;
        unplaced-listed = λ x h. stays (λ k. Memᴰ.tail k) (∈-right front) (inl ∈-self) (i.unplaced-listed x h);
        once = next n i.once;
        in_order = λ x d m s. order x d (Memᴰ.cases_cons m) s;
      }
    where
      order : (x d : ℕ) → (x ≡ y) ⊎ (x ∈ placed) → DependsOn g.needs x d → Before x d (y ∷ placed) ⊎ Excused g x d
      order x d (inl e) s = ⊎_elim (λ k. inl (here e k)) (λ k. inr (rw e k)) (settled d (rw e at s))
      order x d (inr m) s = ⊎_elim (λ k. inl (later k)) (λ k. inr k) (i.in_order x d m s)

  module _ (w : WellFormed g) where
    -- where a range holds a number, it is the one that holds its start
    pub range_of-start : (r : Range) (x : ℕ) → r ∈ g.ranges → in_range x r ≡ true → range_of g.ranges r.start ≡ r
    range_of-start r x m e = go (range_of-found g.ranges r.start)
      where
        first : in_range r.start r ≡ true
        first = let h = in_range-true x r e in true-in_range r.start r (omega arith) (omega arith)

        go : {q : Range} → Found g.ranges r.start q → q ≡ r
        go {q} (found n t) = w.apart q r r.start n m t first
        go (nowhere n c) = absurd (n r m first)

    -- The first list holds every number, and nothing else.
    pub first_list-below : Numbers g (first_list g)
    unfolding first_list starts numbers
    first_list-below = below-append start (below-append held injected)
      where
        start : Numbers g (starts g)
        start x m =
            let r = Memᴰ.of_map (λ (r : Range). r.start) g.ranges m in
            let h = w.starts-below r.0 r.1 in
            omega (arith, r.2)

        held : Numbers g (flat_map (λ s. numbers_of (range_of g.ranges s)) (starts g))
        held x m = let r = flat_map-∈ (λ s. numbers_of (range_of g.ranges s)) (starts g) m in numbers-below w r.0 x r.2

        injected : Numbers g (keep (λ x. is_injected (kind_of g x)) (numbers g))
        injected x m = let h = up_from-∈ 0 (size g) (keep-∈ (λ x. is_injected (kind_of g x)) (numbers g) m).0 in omega arith

    pub ∈-first_list : (x : ℕ) → x < size g → x ∈ first_list g
    unfolding first_list starts numbers
    ∈-first_list x h = go (tested (is_injected (kind_of g x)))
      where
        rest : List ℕ
        rest = flat_map (λ s. numbers_of (range_of g.ranges s)) (starts g)

        go : Tested (is_injected (kind_of g x)) → x ∈ first_list g
        go (holds e) =
            ∈-right (starts g)
            (∈-right rest (∈-keep (λ x. is_injected (kind_of g x)) (∈-up_from 0 (size g) (omega arith) (omega arith)) e))
        go (fails e) =
            let r = w.ranged x h e in
            ∈-right (starts g)
            (∈-left (keep (λ x. is_injected (kind_of g x)) (numbers g))
            (∈-flat_map (λ s. numbers_of (range_of g.ranges s)) (Memᴰ.map (λ (r : Range). r.start) r.1)
            (rw (range_of-start r.0 x r.1 r.2) (∈-numbers_of r.0 x r.2))))

    pub walked_start : Walked g (item_start g)
    unfolding item_start item_list placed_of
    walked_start =
        record {
          list-below = first_list-below;
          placed_below = below-nil;
          unplaced-listed = λ x h. inr (∈-first_list x h);
          once = none;
          in_order = λ x d m s. absurd (Memᴰ.not-nil m);
        }

    pub walked-visit : (s : ItemState) → Walked g s → Walked g (visit_item g s)
    walked-visit s i = keeps (visited w s i.list-below) i

    -- Where the run of a group finishes, each number is placed once, and before one that it depends on only where it is excused.
    pub run-finished : (limit left made : ℕ) {s : ItemState} {n : ℕ} → run (item_walk g) limit left made (item_start g) ≡ finished s n → Placed s
    unfolding numbers
    run-finished limit left made {s} {n} e =
        go (rw e at (stopped (item_walk g) limit (λ k t. Walked g t) (λ k t i h. walked-visit t i) left made (item_start g) walked_start))
      where
        go : Stopped (item_walk g) limit (λ k t. Walked g t) (made + left) (finished s n) → Placed s
        go (at-end i t b) =
            record {
              walked = i;
              all_placed = λ x h. elem-true (placed_of s) (all_true (λ y. elem y (placed_of s)) (numbers g) t (∈-up_from 0 (size g) (omega arith) (omega arith)));
            }
