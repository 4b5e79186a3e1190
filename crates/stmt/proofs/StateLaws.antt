-- Laws of what arrays and numbers show: how a store changes the state that they show. Assumes nothing.
use Rattle.std.specs.Prelude.{ℕ, zero, suc, ◌+◌, ◌*◌, ◌-◌, ◌≤◌, ◌<◌, ◌≡◌, Bool, true, false, ◌&&◌, ◌||◌, List, ◌∷◌, ◌++◌, eqb, length, get_or, set}
use Rattle.std.proofs.Common.{arith, refl, sym, ap, ap₂, ◌∙◌, length-set, mul-le-mul, sub-one}
use Rattle.rules.specs.Lists.{any, elem}
use Rattle.rules.specs.Project.{item_limit}
use Rattle.rules.specs.Items.{Group, ItemState, item_state, has_moved, item_list, placed_of}
use Rattle.rules.specs.Calls.{item_list_limit}
use Rattle.laws.specs.Lists.{eqb-sym}
use Rattle.laws.specs.Splits.{size}
use Rattle.laws.specs.ItemWalk.{Walked}
use Rattle.lists.specs.Bits.{bit_at, Inserted}
use Rattle.lists.specs.BitLaws.{cell-eqb, cell_below}
use Rattle.lists.specs.Stacks.{stack}
use Rattle.lists.specs.StackLaws.{stack-length, stack_push}
use Rattle.split.specs.FirstLists.{Pushed as Prepended}
use Rattle.stmt.specs.declared.slices.Reads.{Reads}
use Rattle.stmt.specs.declared.walk.ItemWalk.{ItemWalk}
use Rattle.stmt.specs.Walks.{Table, moved_of, with_list, with_moved, Noted, noted, had-moved}
use Rattle.stmt.specs.Slices.{Written, Shows, Walking, Cell, ListOnly, MovedOnly}

-- a state with one more item placed
abbrev pub with_placed : ℕ → ItemState → ItemState
with_placed x s = item_state (item_list s) (x ∷ placed_of s) (moved_of s)

-- A cell is a bit of the words, and its place is small.
pub cell : {n width : ℕ} {rows : List ℕ} {test : ℕ → ℕ → Bool} → Table n width rows test → (a b : ℕ) → a < n → b < n → Cell width a b rows
cell {n} {width} t a b h k =
    let place : a * width + b < n * width = cell_below width n a b h (omega (arith, t.within)) in
    let within : n ≤ item_limit = omega (arith, t.within, t.most) in
    record { within = omega (arith, t.size); most = omega (arith, mul-le-mul within t.most) }

-- A pair noted as moved is one more pair.
moved_more : {n width : ℕ} {words words' : List ℕ} (pairs : List (ℕ × ℕ)) (x d : ℕ) → x < n → d < n → Table n width words (has_moved pairs)
    → Inserted (x * width + d) words words' → Table n width words' (has_moved ((x, d) ∷ pairs))
unfolding has_moved any
moved_more {n} {width} pairs x d h k t i =
    record {
      within = t.within;
      most = t.most;
      size = rw i.size t.size;
      bits =
          λ a b f g.
          i.bits (a * width + b)
          ∙ ap₂ ◌||◌ (cell-eqb width a b x d (omega (arith, t.within)) (omega (arith, t.within)) ∙ ap₂ ◌&&◌ (eqb-sym a x) (eqb-sym b d)) (t.bits a b f g);
    }

module _ {n width : ℕ} {a : Written} {w : ItemWalk} {s : ItemState} (h : Shows n width a w s) where
  pub entry-count : length (item_list s) ≡ w.end
  entry-count = sym (ap length h.entries.shown) ∙ stack-length a.list w.end

  pub items-count : length (placed_of s) ≡ w.placed
  items-count = sym (ap length h.items.shown) ∙ stack-length a.order w.placed

  -- what the tests of bits say
  pub placed-is : {r b : Bool} (x : ℕ) → x < n → r ≡ bit_at a.placed x → r ≡ b → elem x (placed_of s) ≡ b
  placed-is x f e k = sym (h.items.bits x f) ∙ sym e ∙ k

  pub moved-is : {r b : Bool} (x d : ℕ) → x < n → d < n → r ≡ bit_at a.moved (x * width + d) → r ≡ b → has_moved (moved_of s) x d ≡ b
  moved-is x d f g e k = sym (h.pairs.bits x d f g) ∙ sym e ∙ k

  -- Dependencies found open are no part of a state.
  pub shows-open : (a' : Written) → a'.placed ≡ a.placed → a'.moved ≡ a.moved → a'.order ≡ a.order → a'.list ≡ a.list → Shows n width a' w s
  shows-open a' p m o l =
      record {
        entries = rw l h.entries;
        items = record { bits = rw p h.items.bits; shown = rw o h.items.shown };
        placed-size = rw p h.placed-size;
        order-size = rw o h.order-size;
        pairs = rw m h.pairs;
      }

  pub shows-placed : {a' : Written} {r : ItemWalk} (x : ℕ) → r ≡ record { end = w.end; placed = w.placed + 1 } → Inserted x a.placed a'.placed
      → a'.order ≡ set a.order w.placed x → (a'.moved ≡ a.moved) × (a'.«open» ≡ a.«open») × (a'.list ≡ a.list) → w.placed < length a.order
      → Shows n width a' r (with_placed x s)
  unfolding item_list placed_of moved_of elem any
  shows-placed x e i o k room =
      rw e
      (record {
        entries = rw k.2 h.entries;
        items = record {
          bits = λ y f. i.bits y ∙ ap (λ (b : Bool). eqb y x || b) (h.items.bits y f);
          shown = rw o (stack_push a.order w.placed x (omega arith) ∙ ap (λ (l : List ℕ). x ∷ l) h.items.shown);
        };
        placed-size = rw i.size h.placed-size;
        order-size = rw o (simp length-set h.order-size);
        pairs = rw k.0 h.pairs;
      })

  pub shows-pushed : {a' : Written} {r : ItemWalk} (x : ℕ) → r ≡ record { end = w.end + 1; placed = w.placed } → a'.list ≡ set a.list w.end x
      → ListOnly a a' → w.end < item_list_limit → w.end < length a.list → Shows n width a' r (with_list (x ∷ item_list s) s)
  unfolding item_list placed_of moved_of
  shows-pushed x e l k most room =
      rw e
      (record {
        entries = record {
          shown = rw l (stack_push a.list w.end x (omega arith) ∙ ap (λ (k : List ℕ). x ∷ k) h.entries.shown);
          within = omega arith;
          held = rw l (simp length-set (omega arith));
        };
        items = record { bits = rw k.0 h.items.bits; shown = rw k.3 h.items.shown };
        placed-size = rw k.0 h.placed-size;
        order-size = rw k.3 h.order-size;
        pairs = rw k.1 h.pairs;
      })

  pub shows_prepended : (a' : Written) (entries : List ℕ) {end : ℕ} → a'.placed ≡ a.placed → a'.moved ≡ a.moved → a'.order ≡ a.order
      → Prepended entries a.list w.end a'.list end → end ≤ item_list_limit → end ≤ length a'.list
      → Shows n width a' (record { end = end; placed = w.placed }) (with_list (entries ++ item_list s) s)
  unfolding item_list placed_of moved_of
  shows_prepended a' entries p m o l most room =
      record {
        entries = record {
          shown = l.shown ∙ ap (λ (k : List ℕ). entries ++ k) h.entries.shown;
          within = most;
          held = room;
        };
        items = record { bits = rw p h.items.bits; shown = rw o h.items.shown };
        placed-size = rw p h.placed-size;
        order-size = rw o h.order-size;
        pairs = rw m h.pairs;
      }

-- A pair that is noted is one more that has moved, or had moved already.
pub data Moved (n width : ℕ) (a : Written) (w : ItemWalk) (s : ItemState) (x d : ℕ) : Bool → Type 0 where
  was_fresh : has_moved (moved_of s) x d ≡ false → Shows n width a w (with_moved ((x, d) ∷ moved_of s) s) → Moved n width a w s x d false
  was-moved : has_moved (moved_of s) x d ≡ true → Shows n width a w s → Moved n width a w s x d true

module _ {n width : ℕ} {a : Written} {w : ItemWalk} {s : ItemState} (h : Shows n width a w s) where
  pub shows-moved : {a' : Written} {b : Bool} (x d : ℕ) → x < n → d < n → Noted (x * width + d) a.moved a'.moved b → MovedOnly a a'
      → Moved n width a' w s x d b
  unfolding item_list placed_of moved_of
  shows-moved x d f g (noted t i) k =
      was_fresh (sym (h.pairs.bits x d f g) ∙ t)
      (record {
        entries = rw k.3 h.entries;
        items = record { bits = rw k.0 h.items.bits; shown = rw k.2 h.items.shown };
        placed-size = rw k.0 h.placed-size;
        order-size = rw k.2 h.order-size;
        pairs = moved_more (moved_of s) x d f g h.pairs i;
      })
  shows-moved x d f g (had-moved t m) k = was-moved (sym (h.pairs.bits x d f g) ∙ t) (shows-open h _ k.0 m k.2 k.3)

-- The front of the list, and the list with it taken off.
apart : (list : List ℕ) (n : ℕ) {x : ℕ} {rest : List ℕ} → stack list n ≡ x ∷ rest → (get_or list (n - 1) 0 ≡ x) × (stack list (n - 1) ≡ rest)
unfolding stack
apart list zero e = absurd (omega (arith, ap length e))
apart list (suc n) e = rw sub-one ((cc), (cc))

module _ {n width : ℕ} {a : Written} {w : ItemWalk} {x : ℕ} {rest items : List ℕ} {pairs : List (ℕ × ℕ)}
    (h : Shows n width a w (item_state (x ∷ rest) items pairs)) where
  pub some-entry : 0 < w.end
  unfolding item_list
  some-entry = omega (arith, entry-count h)

  pub front-entry : get_or a.list (w.end - 1) 0 ≡ x
  unfolding item_list
  front-entry = (apart a.list w.end h.entries.shown).0

  pub shows-passed : Shows n width a (record { end = w.end - 1; placed = w.placed }) (item_state rest items pairs)
  unfolding item_list placed_of moved_of
  shows-passed =
      record {
        entries = record {
          shown = (apart a.list w.end h.entries.shown).1;
          within = omega (arith, h.entries.within);
          held = omega (arith, h.entries.held);
        };
        items = h.items;
        placed-size = h.placed-size;
        order-size = h.order-size;
        pairs = h.pairs;
      }

-- A state with its own list, and with another list twice.
pub same_list : (s : ItemState) → with_list (item_list s) s ≡ s
unfolding item_list placed_of moved_of
same_list (item_state list items pairs) = refl

pub list-again : (k l : List ℕ) (s : ItemState) → with_list k (with_list l s) ≡ with_list k s
unfolding placed_of moved_of
list-again k l s = refl

-- What walks rely on, where other pairs have moved.
pub same_moved : (s : ItemState) → with_moved (moved_of s) s ≡ s
unfolding item_list placed_of moved_of
same_moved (item_state list items pairs) = refl

pub moved-again : (p q : List (ℕ × ℕ)) (s : ItemState) → with_moved p (with_moved q s) ≡ with_moved p s
unfolding item_list placed_of
moved-again p q s = refl

walked-moved : {g : Group} (pairs : List (ℕ × ℕ)) (s : ItemState) → Walked g s → Walked g (with_moved pairs s)
unfolding item_list placed_of
walked-moved pairs s h =
    record { list-below = h.list-below; placed_below = h.placed_below; unplaced-listed = h.unplaced-listed; once = h.once; in_order = h.in_order }

module _ {g : Group} {group : Reads} {a : Written} {w : ItemWalk} {s : ItemState}
    (h : Walking g group a w s) where
  pub walking-same : Walking g group a w (with_moved (moved_of s) s)
  walking-same = rw (same_moved s) h

  pub walking-moved : {a' : Written} (pairs : List (ℕ × ℕ)) → length a'.«open» ≡ length a.«open» → Shows (size g) group.width a' w (with_moved pairs s)
      → Walking g group a' w (with_moved pairs s)
  walking-moved pairs o k = record { laid = h.laid; shows = k; room = rw o h.room; walked = walked-moved pairs s h.walked }

  -- Dependencies found open are no part of what a walk relies on, but for the length of their array.
  pub walking-open : (a' : Written) → a'.placed ≡ a.placed → a'.moved ≡ a.moved → a'.order ≡ a.order → a'.list ≡ a.list
      → length a'.«open» ≡ length a.«open» → Walking g group a' w s
  walking-open a' p m o l k = record { laid = h.laid; shows = shows-open h.shows a' p m o l; room = rw k h.room; walked = h.walked }
