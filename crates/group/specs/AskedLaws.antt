-- Laws of the needs that a walk asks for: none that lie within ranges, so none of uninjected items of one module. Assumes nothing.
use Rattle.std.specs.Prelude.{ℕ, ◌<◌, ◌≡◌, true, length}
use Rattle.std.proofs.Common.{arith, sym, ◌∙◌, length-append}
use Rattle.std.proofs.Math.Path.{refl, ap, subst}
use mathlib.Core.List.Memᴰ
use mathlib.Core.List.{List, [], ◌∷◌, map, flat_map}
use Rattle.rules.specs.Lists.{is_empty, keep, elem, different, append_new}
use Rattle.rules.specs.Project.{Project}
use Rattle.rules.specs.Paths.{dependencies_of, dependants_of, DependsOn}
use Rattle.rules.specs.Items.{is_injected, uninjected_rows, Range, ranges_from, range_of, Group, group_of, kind_of, numbers, same_range, starts, first_list, ItemState, item_state, opened, find_open, waiting, preceding, after_preceding, after_open, visit_item, item_start}
use Rattle.laws.specs.Lists.{◌∈◌, false≢true, both, Tested, holds, fails, tested, ∈-self, keep-∈}
use Rattle.laws.specs.Counting.{no_member, below-nil}
use Rattle.laws.specs.Splits.{size, WellFormed, Giving}
use Rattle.laws.proofs.Splits.{true-in_range, range_of-holds, length-kinds, well_formed}
use Rattle.laws.proofs.ItemWalk.{dependencies_of-∈, dependants_of-∈}
use Rattle.split.specs.declared.Split.{Split}
use Rattle.split.specs.Splits.{Splits}
use Rattle.lists.specs.ChainedLaws.{places-none}
use Rattle.owners.specs.Owners.{need_at}
use Rattle.layout.specs.Needs.{OwnNeeds}
use Rattle.group.specs.Walking.{with_needs, asked_group, AskedNeeds, Asked, all-needs, no-need}

-- A group whose needs each lie within one range is walked as it is without needs.
module _ (g : Group) (formed : WellFormed g) (within : (x d : ℕ) → DependsOn g.needs x d → same_range g x d ≡ true) where
  -- a visit finds nothing open,
  none_open : (placed : List ℕ) (x : ℕ) (l : List ℕ) (moved : List (ℕ × ℕ)) → ((d : ℕ) → d ∈ l → same_range g x d ≡ true)
      → find_open g placed x l moved ≡ opened [] moved
  unfolding find_open
  none_open placed x [] moved h = refl
  none_open placed x (d ∷ l) moved h = rw (h d ∈-self, find_open) (none_open placed x l moved (λ c m. h c (Memᴰ.tail m)))

  -- and no injected dependant that waits,
  none-waiting : (placed : List ℕ) (x : ℕ) → waiting g placed x ≡ []
  unfolding waiting same_range
  none-waiting placed x =
      no_member (waiting g placed x)
      (λ d m.
      let k = keep-∈ _ (dependants_of g.needs x) m in
      let q = range_of-holds g.ranges d x (within d x (dependants_of-∈ g.needs x k.0)) in
      false≢true (sym (formed.holds-uninjected (range_of g.ranges d) d q.0 q.1).1 ∙ (both {a = is_injected (kind_of g d)} k.1).0))

  -- so that every visit is the same,
  preceding-same : (x : ℕ) (list placed : List ℕ) (moved : List (ℕ × ℕ)) (before : List ℕ)
      → after_preceding (with_needs g []) x list placed moved before ≡ after_preceding g x list placed moved before
  unfolding after_preceding waiting dependants_of different append_new keep
  preceding-same x list placed moved [] = refl
  preceding-same x list placed moved (p ∷ before) = rw (none-waiting placed x)

  after_same : (x : ℕ) (list placed : List ℕ) (moved : List (ℕ × ℕ))
      → after_open (with_needs g []) x list placed (opened [] moved) ≡ after_open g x list placed (opened [] moved)
  unfolding after_open preceding kind_of keep is_empty waiting dependants_of different append_new
  after_same x list placed moved = go (tested (is_injected (kind_of g x)))
    where
      go : Tested (is_injected (kind_of g x)) → after_open (with_needs g []) x list placed (opened [] moved) ≡ after_open g x list placed (opened [] moved)
      go (holds e) = rw (e, after_open, none-waiting placed x)
      go (fails e) = rw (e, after_open) (preceding-same x list placed moved (preceding g placed moved x))

  visit-same : (s : ItemState) → visit_item (with_needs g []) s ≡ visit_item g s
  unfolding visit_item dependencies_of different append_new keep find_open
  visit-same (item_state [] placed moved) = refl
  visit-same (item_state (x ∷ list) placed moved) = go (tested (elem x placed))
    where
      go : Tested (elem x placed) → visit_item (with_needs g []) (item_state (x ∷ list) placed moved) ≡ visit_item g (item_state (x ∷ list) placed moved)
      go (holds e) = rw (e, visit_item)
      go (fails e) =
          rw (e, visit_item, none_open placed x (dependencies_of g.needs x) moved (λ d m. within x d (dependencies_of-∈ g.needs x m)))
          (after_same x list placed moved)

  -- the walk begins with the same state,
  start-same : item_start (with_needs g []) ≡ item_start g
  unfolding item_start first_list starts kind_of numbers
  start-same = refl

  -- and the group without needs is well formed
  formed-same : WellFormed (with_needs g [])
  unfolding kind_of
  formed-same =
      record {
        ends-below = λ x y n. absurd (Memᴰ.not-nil n.1);
        starts-below = formed.starts-below;
        holds-uninjected = formed.holds-uninjected;
        apart = formed.apart;
        ranged = formed.ranged;
      }

-- Numbers of the items of one module, none of them injected, are in one range.
one-range : (p : Project) (modules : List ℕ) (x d : ℕ) → length modules ≡ 1 → x < length (flat_map (uninjected_rows p) modules)
    → d < length (flat_map (uninjected_rows p) modules) → same_range (group_of p modules) x d ≡ true
unfolding same_range group_of ranges_from range_of flat_map
one-range p [] x d e h k = absurd (omega arith)
one-range p (m ∷ []) x d e h k =
    let r : Range = record { start = 0; count = length (uninjected_rows p m) } in
    let all = length-append (uninjected_rows p m) [] in
    rw (true-in_range x r (omega arith) (omega arith), range_of) (true-in_range d r (omega arith) (omega arith))
one-range p (m ∷ n ∷ modules) x d e h k = absurd (omega arith)

-- The needs that a group's walk asks for, from where their chain begins.
module _ {p : Project} {modules section next : List ℕ} {entry : ℕ} {s : Split} (gives : Giving p modules) (d : Splits p modules s)
    (o : OwnNeeds p modules section next entry) where
  abbrev group : Group
  group = group_of p modules

  all_asked : asked_group p modules o.own ≡ group
  unfolding group_of
  all_asked = ap (with_needs group) o.among

  formed : WellFormed group
  formed = well_formed p modules gives

  within : s.modules ≡ 1 → s.uninjected ≡ s.count → (x d : ℕ) → DependsOn group.needs x d → same_range group x d ≡ true
  within e f x c n =
      let b = formed.ends-below x c n in
      let all : length (flat_map (uninjected_rows p) modules) ≡ length group.kinds =
      omega (arith, length-kinds p modules, d.count-is, d.uninjected-is) in
      one-range p modules x c (omega (arith, d.modules-is)) (omega arith) (omega arith)

  pub asked-needs : {first : ℕ} → Asked entry s first → AskedNeeds p modules section next first
  unfolding keep
  asked-needs all-needs =
      record {
        own = o.own;
        along = o.along;
        few = o.few;
        formed = subst WellFormed (sym all_asked) formed;
        same = record { sizes = ap size all_asked; visits = λ t. ap (λ (g : Group). visit_item g t) all_asked };
        first = ap item_start all_asked;
      }
  asked-needs (no-need e f) =
      let none = places-none next 0 refl in
      record {
        own = [];
        along = record { most = omega arith; within = rw none below-nil; along = ap (map (need_at section)) none };
        few = omega arith;
        formed = formed-same group formed (within e f);
        same = record { sizes = refl; visits = visit-same group formed (within e f) };
        first = start-same group formed (within e f);
      }
