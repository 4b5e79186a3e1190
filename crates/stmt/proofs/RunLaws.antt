-- Laws of a whole visit and of a run: when the walk has ended, the item in front, and what a visit comes to in the walk of a group. Assumes nothing.
use Rattle.std.specs.Prelude.{ℕ, zero, suc, ◌-◌, ◌≤◌, ◌<◌, ◌≡◌, true, false, eqb, length, get_or, Result, Ok, Err, MatchResult, IsErrAnd}
use Rattle.std.proofs.Common.{arith, refl, sym, ap, subst, ◌∙◌, ⊎_elim, eqb-true}
use Rattle.std.proofs.lemmas.Bool.{eqb-false}
use borrow.Author.Tests.{eq-eqb, ne_eqb}
use mathlib.Core.List.Memᴰ
use mathlib.Core.List.{List, [], ◌∷◌}
use Rattle.rules.specs.Lists.{all, elem, up_from}
use Rattle.rules.specs.Items.{Group, numbers, ItemState, item_state, item_list, placed_of, visit_item, item_walk}
use Rattle.rules.specs.Walk.{Stop as Stopped}
use Rattle.rules.specs.Calls.{item_list_limit}
use Rattle.laws.specs.Lists.{◌∈◌, false≢true, Tested, holds, fails, tested, elem-true, true-elem, mem?, all_true, true-all, next, up_from-∈, ∈-up_from, once-up_from, length-up_from, once-length}
use Rattle.laws.specs.Counting.{below_length, below-cons}
use Rattle.laws.specs.Splits.{size}
use Rattle.laws.specs.ItemWalk.{Walked}
use Rattle.laws.proofs.ItemWalk.{walked-visit}
use Rattle.lists.specs.Stacks.{stack}
use Rattle.lists.specs.StackLaws.{stack-length}
use Rattle.walks.specs.declared.Outcome.{Outcome}
use Rattle.walks.specs.declared.Outcome.TheVariants.{WentOn}
use Rattle.walks.specs.declared.Stop.{Stop}
use Rattle.walks.specs.Runs.{Came, went_on, Ran, CrowdedAt}
use Rattle.stmt.specs.declared.walk.Crowded.{Crowded}
use Rattle.walks.specs.RunLaws.{came-as}
use Rattle.stmt.specs.declared.slices.Reads.{Reads}
use Rattle.stmt.specs.declared.walk.ItemWalk.{ItemWalk}
use Rattle.stmt.specs.Walks.{moved_of, SameVisits}
use Rattle.stmt.specs.Slices.{Written, written, Shows, Walking, IsAt, Comes}
use Rattle.stmt.proofs.StateLaws.{entry-count, items-count}
use Rattle.stmt.proofs.VisitLaws.{taken}

-- The walk has ended where as many items are placed as there are: none is placed twice.
module _ {g : Group} {s : ItemState} (i : Walked g s) where
  each_placed : length (placed_of s) ≡ size g → (x : ℕ) → x < size g → x ∈ placed_of s
  each_placed e x h =
      ⊎_elim (λ m. m)
      (λ f.
      let most : suc (length (placed_of s)) ≤ size g = below_length (next f i.once) (below-cons h i.placed_below) in
      absurd (omega arith))
      (mem? x (placed_of s))

  placed-count : ((x : ℕ) → x < size g → x ∈ placed_of s) → length (placed_of s) ≡ size g
  placed-count f =
      omega (
        arith,
        below_length i.once i.placed_below,
        length-up_from 0 (size g),
        once-length (placed_of s) (once-up_from 0 (size g)) (λ x m. f x (let k = up_from-∈ 0 (size g) m in omega arith)),
      )

  all-ended : ((x : ℕ) → x < size g → x ∈ placed_of s) → (item_walk g).ended s ≡ true
  unfolding numbers
  all-ended f =
      true-all (λ x. elem x (placed_of s)) (up_from 0 (size g)) (λ x m. true-elem (f x (let k = up_from-∈ 0 (size g) m in omega arith)))

  ended-all : (item_walk g).ended s ≡ true → length (placed_of s) ≡ size g
  unfolding numbers
  ended-all e =
      placed-count
      (λ x h. elem-true (placed_of s) (all_true (λ y. elem y (placed_of s)) (up_from 0 (size g)) e (∈-up_from 0 (size g) (omega arith) (omega arith))))

  ended-count : (item_walk g).ended s ≡ eqb (length (placed_of s)) (size g)
  ended-count = go (tested (eqb (length (placed_of s)) (size g))) (tested ((item_walk g).ended s))
    where
      go : Tested (eqb (length (placed_of s)) (size g)) → Tested ((item_walk g).ended s) → (item_walk g).ended s ≡ eqb (length (placed_of s)) (size g)
      go (holds t) e = all-ended (each_placed (eqb-true (length (placed_of s)) (size g) t)) ∙ sym t
      go (fails t) (holds e) = absurd (eqb-false (length (placed_of s)) (size g) t (ended-all e))
      go (fails t) (fails e) = e ∙ sym t

  -- an item that is not placed is on the list
  none-listed : item_list s ≡ [] → (item_walk g).ended s ≡ true
  none-listed e =
      all-ended
      (λ x h. ⊎_elim (λ m. m) (λ m. absurd (Memᴰ.not-nil (subst (λ (l : List ℕ). x ∈ l) e m))) (i.unplaced-listed x h))

module _ {walked g : Group} {width : ℕ} {a : Written} {w : ItemWalk} {s : ItemState} (same : SameVisits g walked) (i : Walked g s)
    (h : Shows (size g) width a w s) where
  -- both walks end at once
  ended_same : (item_walk walked).ended s ≡ (item_walk g).ended s
  unfolding numbers
  ended_same = ap (λ (n : ℕ). all (λ x. elem x (placed_of s)) (up_from 0 n)) (sym same.sizes)

  pub ended-placed : {n : ℕ} → n ≡ size g → (item_walk walked).ended s ≡ eqb w.placed n
  ended-placed e = ended_same ∙ ended-count i ∙ ap (λ (n : ℕ). eqb n (size g)) (items-count h) ∙ ap (eqb w.placed) (sym e)

  -- while some are not placed it has not ended
  pub unended : {n : ℕ} → n ≡ size g → (w.placed ≡ n → ⊥) → (item_walk walked).ended s ≡ false
  unended {n} e f = ended-placed e ∙ ne_eqb w.placed n f

  pub ended : {n : ℕ} → n ≡ size g → w.placed ≡ n → (item_walk walked).ended s ≡ true
  ended {n} e f = ended-placed e ∙ eq-eqb w.placed n f

  pub entry-left : (item_walk walked).ended s ≡ false → 0 < w.end
  entry-left e = go (item_list s) refl
    where
      go : (l : List ℕ) → item_list s ≡ l → 0 < w.end
      go [] k = absurd (false≢true (sym e ∙ ended_same ∙ none-listed i k))
      go (x ∷ l) k = omega (arith, ap length k, entry-count h)

  -- Where the walk has ended, the array holds the items in their order.
  pub order-shown : {n : ℕ} → n ≡ size g → (item_walk walked).ended s ≡ true → stack a.order n ≡ placed_of s
  order-shown {n} k e = ap (stack a.order) (sym (eqb-true w.placed n (sym (ended-placed k) ∙ e))) ∙ h.items.shown

-- A group makes the same visits as itself.
pub same_self : (g : Group) → SameVisits g g
same_self g = record { sizes = refl; visits = λ s. refl }

-- An item that is placed is passed over.
visit-passed : (g : Group) (x : ℕ) (rest items : List ℕ) (pairs : List (ℕ × ℕ)) → elem x items ≡ true
    → visit_item g (item_state (x ∷ rest) items pairs) ≡ item_state rest items pairs
unfolding visit_item
visit-passed g x rest items pairs e = rw (e, visit_item)

-- The front of the list, of any state.
shape : (s : ItemState) {x : ℕ} {rest : List ℕ} → item_list s ≡ x ∷ rest → s ≡ item_state (x ∷ rest) (placed_of s) (moved_of s)
unfolding item_list placed_of moved_of
shape (item_state list items pairs) e = ap (λ (l : List ℕ). item_state l items pairs) e

stack-front : (list : List ℕ) (n : ℕ) → 0 < n → stack list n ≡ get_or list (n - 1) 0 ∷ stack list (n - 1)
unfolding stack
stack-front list zero h = absurd (omega arith)
stack-front list (suc n) h = let e : suc n - 1 ≡ n = omega arith in rw e

module _ {g : Group} {group : Reads} {a : Written} {w : ItemWalk} {s : ItemState}
    (h : Walking g group a w s) (some : 0 < w.end) where
  -- what stands behind it
  abbrev pub rest : List ℕ
  rest = stack a.list (w.end - 1)

  pub front-is : s ≡ item_state (get_or a.list (w.end - 1) 0 ∷ rest) (placed_of s) (moved_of s)
  front-is = shape s (sym h.shows.entries.shown ∙ stack-front a.list w.end some)

  pub at_front : Walking g group a w (item_state (get_or a.list (w.end - 1) 0 ∷ rest) (placed_of s) (moved_of s))
  at_front = subst (Walking g group a w) front-is h

  pub from_front : {a' : Written} {o : Outcome ItemWalk}
      → Comes (size g) group.width a' (placed_of s) (visit_item g (item_state (get_or a.list (w.end - 1) 0 ∷ rest) (placed_of s) (moved_of s))) o
      → Comes (size g) group.width a' (placed_of s) (visit_item g s) o
  from_front {a'} {o} c = subst (λ (t : ItemState). Comes (size g) group.width a' (placed_of s) (visit_item g t) o) (sym front-is) c

  pub comes-passed : elem (get_or a.list (w.end - 1) 0) (placed_of s) ≡ true → {r : ItemWalk} → r ≡ record { end = w.end - 1; placed = w.placed }
      → Comes (size g) group.width a (placed_of s) (visit_item g s) (WentOn r)
  unfolding placed_of
  comes-passed t e =
      from_front
      (rw (visit-passed g (get_or a.list (w.end - 1) 0) rest (placed_of s) (moved_of s) t) (went_on refl (taken at_front e)))

-- What comes of a visit of the group that is laid out comes of the same visit of the group that is walked.
pub came-walked : {g walked : Group} {group : Reads} {a a' : Written} {w : ItemWalk} {s : ItemState}
    {o : Outcome ItemWalk} → SameVisits g walked → Walking g group a w s → length a'.«open» ≡ length a.«open»
    → Comes (size g) group.width a' (placed_of s) (visit_item g s) o
    → Came item_list_limit item_list placed_of (IsAt walked group a') (placed_of s) (visit_item walked s) o
came-walked {g = g} {walked} {group} {a' = a'} {s = s} {o} same h k c =
    subst (λ (t : ItemState). Came item_list_limit item_list placed_of (IsAt walked group a') (placed_of s) t o) (same.visits s)
    (came-as (λ v q. (g, same, record { laid = h.laid; shows = q; room = rw k h.room; walked = walked-visit g h.laid.formed s h.walked })) c)

-- After it the group that is laid out is in a state that its walk can be in.
pub came-walking : {g walked : Group} {group : Reads} {a a' : Written} {w : ItemWalk} {s : ItemState} {o : Outcome ItemWalk} → SameVisits g walked
    → Walking g group a w s → length a'.«open» ≡ length a.«open» → Comes (size g) group.width a' (placed_of s) (visit_item g s) o
    → Came item_list_limit item_list placed_of (Walking g group a') (placed_of s) (visit_item walked s) o
came-walking {g} {walked} {group} {a' = a'} {s = s} {o} same h k c =
    subst (λ (t : ItemState). Came item_list_limit item_list placed_of (Walking g group a') (placed_of s) t o) (same.visits s)
    (came-as (λ v q. record { laid = h.laid; shows = q; room = rw k h.room; walked = walked-visit g h.laid.formed s h.walked }) c)

-- A list that is shown is within the limit.
pub listed-within : {n width : ℕ} {a : Written} {w : ItemWalk} {s : ItemState} → Shows n width a w s → length (item_list s) ≤ item_list_limit
listed-within {a = a} {w} h = let l = h.entries in omega (arith, ap length l.shown, stack-length a.list w.end, l.within)

-- There is room where a test for it came to no error, also once its error was mapped.
pub had-room : {U C D : Type 0} {R : Type 0} (P : C → Type 0) (Q : C → D → Type 0) (room : Result U C) (mapped : Result U D) {u : U} → MatchResult room (λ _. R) P
    → MatchResult room (λ x. mapped ≡ Ok x) (λ c. IsErrAnd mapped (Q c)) → mapped ≡ Ok u → R
had-room P Q (Ok x) mapped a b e = a
had-room P Q (Err c) mapped a b e = absurd (rw e at b)

-- A run on slices that hold the same.
pub ran-same : (walked : Group) (count : ℕ) {i : Group} {group : Reads} {stop : Stopped ItemState} {crowds : ItemWalk → Crowded → Type 0}
    {o : Result (ItemWalk × ℕ) (Stop Crowded)} {p m q r l p' m' q' r' l' : List ℕ} → p ≡ p' → m ≡ m' → q ≡ q' → r ≡ r' → l ≡ l'
    → Ran stop (λ w t. Walking i group (written p' m' q' r' l') w t × (stack r' count ≡ placed_of t))
    (CrowdedAt (λ w t. Walking i group (written p' m' q' r' l') w t × ((item_walk walked).ended t ≡ false)) crowds) o
    → Ran stop (λ w t. Walking i group (written p m q r l) w t × (stack r count ≡ placed_of t))
    (CrowdedAt (λ w t. Walking i group (written p m q r l) w t × ((item_walk walked).ended t ≡ false)) crowds) o
ran-same walked count a b c d e h = rw (a, b, c, d, e) h
