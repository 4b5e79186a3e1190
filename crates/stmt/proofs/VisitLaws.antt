-- Laws of a visit: what the definition makes of a state, step by step, and what the parts of a visit make of the arrays. Assumes nothing.
use Rattle.std.specs.Prelude.{ℕ, ◌+◌, ◌-◌, ◌≤◌, ◌<◌, ◌≡◌, Bool, true, false, not, ◌&&◌, ltb, length, take, Option, Some, None}
use Rattle.std.proofs.Common.{arith, refl, sym, ap, subst, ◌∙◌, length-take}
use mathlib.Core.List.{List, [], ◌∷◌, ◌++◌}
use Rattle.rules.specs.Lists.{is_empty, keep, elem}
use Rattle.rules.specs.Paths.{dependencies_of}
use Rattle.rules.specs.Items.{is_injected, Range, in_range, range_of, numbers_of, Group, kind_of, ItemState, item_state, has_moved, Opened, opened, find_open, is_dropped, waiting, one_by_one, preceding, after_preceding, after_open, visit_item, item_list, placed_of}
use Rattle.rules.specs.Calls.{item_list_limit}
use Rattle.laws.specs.Lists.{◌∈◌, false≢true, ∈-self, elem-false, both, keep-∈, not-true, next}
use Rattle.laws.specs.Counting.{below_length, below-cons}
use Rattle.laws.specs.Splits.{size}
use Rattle.laws.proofs.Splits.{Found as InRanges, found, nowhere, range_of-found}
use Rattle.project.specs.declared.NodeId.{NodeId}
use Rattle.stmt.specs.declared.slices.Reads.{Reads}
use Rattle.stmt.specs.declared.walk.ItemWalk.{ItemWalk}
use Rattle.stmt.specs.declared.steps.Item.{Item}
use Rattle.stmt.specs.Walks.{moved_of, with_list, with_moved, Fits, Room, ItemIs, Ranged, staying, First, none, first}
use Rattle.stmt.specs.Slices.{Written, Shows, Walking, Found, Pushed, pushed, no_room}
use Rattle.stmt.proofs.StateLaws.{Moved, was_fresh, was-moved, entry-count, some-entry, shows-passed}
use Rattle.stmt.proofs.PushLaws.{waiting-entries}

-- What pushing came to.
module _ {n width : ℕ} {a : Written} {entries : List ℕ} {s : ItemState} {o : Option ItemWalk} where
  pub pushed-shows : {w : ItemWalk} → o ≡ Some w → Pushed n width a entries s o → Shows n width a w (with_list entries s)
  pushed-shows {w} e p = go (subst (Pushed n width a entries s) e p)
    where
      go : Pushed n width a entries s (Some w) → Shows n width a w (with_list entries s)
      go (pushed h) = h

  pub pushed-over : o ≡ None → Pushed n width a entries s o → item_list_limit < length entries
  pushed-over e p = go (subst (Pushed n width a entries s) e p)
    where
      go : Pushed n width a entries s None → item_list_limit < length entries
      go (no_room h) = h

-- The item in front.
module _ {g : Group} {group : Reads} {a : Written} {w : ItemWalk} {x : ℕ}
    {rest items : List ℕ} {pairs : List (ℕ × ℕ)} (h : Walking g group a w (item_state (x ∷ rest) items pairs)) where
  pub front_below : x < size g
  unfolding item_list
  front_below = h.walked.list-below x ∈-self

  pub entry-left : 0 < w.end
  entry-left = some-entry h.shows

  pub taken : {r : ItemWalk} → r ≡ record { end = w.end - 1; placed = w.placed } → Shows (size g) group.width a r (item_state rest items pairs)
  taken e = rw e (shows-passed h.shows)

  pub taken-room : {r : ItemWalk} → r ≡ record { end = w.end - 1; placed = w.placed } → Room (size g) (length a.list) w.end → Fits (r.end + size g) (length a.list)
  taken-room e room k f m = room k f (omega (arith, ap (λ (w : ItemWalk). w.end) e))

  -- two more entries fit behind those that wait
  pub two_fit : {a' : Written} {w' : ItemWalk}
      → Shows (size g) group.width a' w' (with_list (one_by_one (waiting g items x) rest) (item_state rest items pairs))
      → Room (size g) (length a.list) w.end → w'.end + 2 ≤ item_list_limit → w'.end + 2 ≤ length a.list
  unfolding item_list
  two_fit {w' = w'} k room most =
      room (w'.end + 2) most (omega (arith, entry-count k, waiting-entries h.laid.formed items x rest, entry-count h.shows))

  -- not all are placed
  pub some-unplaced : elem x items ≡ false → length items < size g
  unfolding placed_of
  some-unplaced new =
      let most = below_length (next (elem-false new) h.walked.once) (below-cons front_below h.walked.placed_below) in
      omega arith

-- Step 5, by where the search for a preceding item ends.
module _ (g : Group) (x : ℕ) (rest items : List ℕ) (pairs : List (ℕ × ℕ)) {o : Option NodeId} (q : First x (preceding g items pairs x) o) where
  pub settled-placed : o ≡ None → after_preceding g x rest items pairs (preceding g items pairs x) ≡ item_state rest (x ∷ items) pairs
  unfolding after_preceding
  settled-placed e = go (preceding g items pairs x) (subst (First x (preceding g items pairs x)) e q)
    where
      go : (l : List ℕ) → First x l None → after_preceding g x rest items pairs l ≡ item_state rest (x ∷ items) pairs
      go l none = refl

  module _ {p : NodeId} (e : o ≡ Some p) where
    found-first : (more : List ℕ) × (preceding g items pairs x ≡ p.0 ∷ more) × (p.0 < x)
    found-first = go (preceding g items pairs x) (subst (First x (preceding g items pairs x)) e q)
      where
        go : (l : List ℕ) → First x l (Some p) → (more : List ℕ) × (l ≡ p.0 ∷ more) × (p.0 < x)
        go l (first {rest = more} h) = (more, refl, h)

    pub precedes-below : {n : ℕ} → x < n → p.0 < n
    precedes-below h = omega (arith, found-first.2)

    pub settled-waits : after_preceding g x rest items pairs (preceding g items pairs x)
        ≡ item_state (p.0 ∷ x ∷ one_by_one (waiting g items x) rest) items ((x, p.0) ∷ pairs)
    unfolding after_preceding
    settled-waits = rw found-first.1

    -- its pair had not moved
    unmoved : has_moved pairs x p.0 ≡ false
    unfolding preceding
    unmoved =
        let m : p.0 ∈ preceding g items pairs x = rw found-first.1 ∈-self in
        let k = keep-∈ (λ p. not (elem p items) && ltb p x && not (has_moved pairs x p)) (numbers_of (range_of g.ranges x)) m in
        not-true (both {a = not (elem p.0 items) && ltb p.0 x} k.1).1

    pub noted-shows : {n width : ℕ} {a : Written} {w : ItemWalk} {list : List ℕ} {b : Bool}
        → Moved n width a w (item_state list items pairs) x p.0 b → Shows n width a w (with_moved ((x, p.0) ∷ pairs) (item_state list items pairs))
    unfolding moved_of
    noted-shows (was_fresh f h) = h
    noted-shows (was-moved t h) = absurd (false≢true (sym unmoved ∙ t))

-- What steps 3 to 5 make of the open dependencies that stay.
module _ (g : Group) (x : ℕ) (list items : List ℕ) {after : List (ℕ × ℕ)} where
  after-some : (o : Opened) {d : ℕ} {l : List ℕ} → staying g x o ≡ opened (d ∷ l) after
      → after_open g x list items o ≡ item_state (d ∷ l ++ (x ∷ list)) items after
  unfolding staying after_open is_empty
  after-some (opened dependencies moved) {d} {l} e =
      let stay : keep (λ d. not (is_dropped g x d)) dependencies ≡ d ∷ l = cc in
      let some : is_empty (keep (λ d. not (is_dropped g x d)) dependencies) ≡ false = ap is_empty stay in
      let same : moved ≡ after = cc in
      rw (some, after_open, stay, same)

  after-injected : (o : Opened) → staying g x o ≡ opened [] after → is_injected (kind_of g x) ≡ true
      → after_open g x list items o ≡ item_state (one_by_one (waiting g items x) list) (x ∷ items) after
  unfolding staying after_open is_empty
  after-injected (opened dependencies moved) e i =
      let stay : keep (λ d. not (is_dropped g x d)) dependencies ≡ [] = cc in
      let empty : is_empty (keep (λ d. not (is_dropped g x d)) dependencies) ≡ true = ap is_empty stay in
      let same : moved ≡ after = cc in
      rw (empty, i, after_open, same)

  after-uninjected : (o : Opened) → staying g x o ≡ opened [] after → is_injected (kind_of g x) ≡ false
      → after_open g x list items o ≡ after_preceding g x list items after (preceding g items after x)
  unfolding staying after_open is_empty
  after-uninjected (opened dependencies moved) e i =
      let stay : keep (λ d. not (is_dropped g x d)) dependencies ≡ [] = cc in
      let empty : is_empty (keep (λ d. not (is_dropped g x d)) dependencies) ≡ true = ap is_empty stay in
      let same : moved ≡ after = cc in
      rw (empty, i, after_open, same)

-- The visit of an item that is not placed, by what stays open.
module _ {g : Group} {group : Reads} {a : Written} {w : ItemWalk} {x : ℕ}
    {rest items : List ℕ} {pairs : List (ℕ × ℕ)} (new : elem x items ≡ false) {count : ℕ}
    (f : Found g group a w (item_state (x ∷ rest) items pairs) x count) where
  abbrev visited : ItemState
  visited = visit_item g (item_state (x ∷ rest) items pairs)

  abbrev open_of : Opened
  open_of = find_open g items x (dependencies_of g.needs x) pairs

  visit-open : visited ≡ after_open g x rest items open_of
  unfolding visit_item
  visit-open = rw (new, visit_item)

  stay : staying g x open_of ≡ opened (take count a.«open») f.after
  unfolding placed_of moved_of
  stay = f.found

  pub visit-puts : 0 < count → visited ≡ item_state (take count a.«open» ++ (x ∷ rest)) items f.after
  visit-puts some = visit-open ∙ go (take count a.«open») refl
    where
      go : (l : List ℕ) → take count a.«open» ≡ l → after_open g x rest items open_of ≡ item_state (take count a.«open» ++ (x ∷ rest)) items f.after
      go [] e =
          absurd
          (omega (arith, ap length e, length-take count a.«open», f.within, f.walking.room))
      go (d ∷ l) e = rw e (after-some g x rest items open_of (stay ∙ ap (λ (k : List ℕ). opened k f.after) e))

  module _ (nothing : count ≡ 0) where
    none-stay : staying g x open_of ≡ opened [] f.after
    none-stay = stay ∙ ap (λ (n : ℕ). opened (take n a.«open») f.after) nothing

    pub visit-injected : is_injected (kind_of g x) ≡ true → visited ≡ item_state (one_by_one (waiting g items x) rest) (x ∷ items) f.after
    visit-injected i = visit-open ∙ after-injected g x rest items open_of none-stay i

    pub visit-uninjected : is_injected (kind_of g x) ≡ false → visited ≡ after_preceding g x rest items f.after (preceding g items f.after x)
    visit-uninjected i = visit-open ∙ after-uninjected g x rest items open_of none-stay i

-- An uninjected item is in a range.
pub ranged : {g : Group} {group : Reads} {a : Written} {w : ItemWalk} {s : ItemState} {x : Item}
    → Walking g group a w s → ItemIs g x → is_injected (kind_of g x.id.0) ≡ false → Ranged g x
ranged {g = g} {x = x} h i other = record { item = i; inside = inside (range_of-found g.ranges x.id.0) }
  where
    inside : {r : Range} → InRanges g.ranges x.id.0 r → in_range x.id.0 r ≡ true
    inside (found m t) = t
    inside (nowhere n c) = let r = h.laid.formed.ranged x.id.0 i.below other in absurd (n r.0 r.1 r.2)
