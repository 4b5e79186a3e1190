-- Laws of steps 4 and 5: the dependants that wait are pushed one by one. Assumes nothing.
use Rattle.std.specs.Prelude.{ℕ, ◌+◌, ◌≤◌, ◌<◌, ◌≡◌, Bool, true, false, not, ◌&&◌, eqb, length, get_or, Some, None}
use Rattle.std.proofs.Common.{arith, refl, sym, ap, ◌∙◌}
use mathlib.Core.List.Memᴰ
use mathlib.Core.List.{List, [], ◌∷◌, map}
use Rattle.rules.specs.Lists.{cons_if, keep, elem}
use Rattle.rules.specs.Project.{Need}
use Rattle.rules.specs.Paths.{dependants_of}
use Rattle.rules.specs.Items.{is_injected, Group, kind_of, ItemState, waiting, one_by_one, item_list, placed_of}
use Rattle.rules.specs.Calls.{item_list_limit}
use Rattle.laws.specs.Lists.{length-parts, once-different}
use Rattle.laws.specs.Splits.{size, WellFormed}
use Rattle.laws.specs.Counting.{Below, below_length}
use Rattle.laws.proofs.ItemWalk.{dependants_of-∈}
use Rattle.lists.specs.Bits.{bit_at}
use Rattle.stmt.specs.declared.slices.Reads.{Reads}
use Rattle.stmt.specs.declared.walk.ItemWalk.{ItemWalk}
use Rattle.stmt.specs.Walks.{with_list, Fits}
use Rattle.stmt.specs.Slices.{Written, Shows, Laid, Pushed, pushed, no_room}
use Rattle.stmt.proofs.StateLaws.{entry-count, same_list, list-again}

-- whether a dependant is waiting
abbrev pub is_waiting : Group → List ℕ → ℕ → Bool
is_waiting g items d = is_injected (kind_of g d) && not (elem d items)

-- What the test by its kind and the row of items placed says.
pub waiting-is : {g : Group} {group : Reads} {a : Written} {w : ItemWalk} {s : ItemState}
    → Laid g group → Shows (size g) group.width a w s → {r b : Bool} (d : ℕ) → d < size g
    → r ≡ (is_injected (get_or group.kinds.now d 0) && not (bit_at a.placed d)) → r ≡ b → is_waiting g (placed_of s) d ≡ b
waiting-is laid h d f e k = sym (rw (laid.kinds-shown.each d f, h.items.bits d f) at e) ∙ k

dependants-below : {g : Group} → WellFormed g → (x : ℕ) → Below (size g) (dependants_of g.needs x)
dependants-below {g} f x d m = (f.ends-below d x (dependants_of-∈ g.needs x m)).0

-- No more dependants wait than there are items.
waiting-most : {g : Group} → WellFormed g → (items : List ℕ) (x : ℕ) → length (waiting g items x) ≤ size g
unfolding waiting dependants_of
waiting-most {g} f items x =
    omega (
      arith,
      length-parts (is_waiting g items) (dependants_of g.needs x),
      below_length (once-different (map (λ (n : Need). n.dependant) (keep (λ (n : Need). eqb n.dependency x) g.needs))) (dependants-below f x),
    )

one_by_one-length : (l list : List ℕ) → length (one_by_one l list) ≡ length l + length list
unfolding one_by_one
one_by_one-length [] list = omega arith
one_by_one-length (d ∷ l) list = omega (arith, one_by_one-length l (d ∷ list))

pub waiting-entries : {g : Group} → WellFormed g → (items : List ℕ) (x : ℕ) (list : List ℕ) → length (one_by_one (waiting g items x) list) ≤ length list + size g
waiting-entries {g} f items x list = omega (arith, one_by_one-length (waiting g items x) list, waiting-most f items x)

-- In the midst of pushing: with those that wait of the dependants left pushed the list is as it is to be.
pub record Pushing (g : Group) (group : Reads) (a : Written) (w : ItemWalk) (s : ItemState)
    (x : ℕ) (left : List ℕ) : Type 0 where
  pub entries : List ℕ
  pub shows : Shows (size g) group.width a w (with_list entries s)
  pub below : Below (size g) left
  pub same : one_by_one (keep (is_waiting g (placed_of s)) left) entries ≡ one_by_one (waiting g (placed_of s) x) (item_list s)

module _ {g : Group} {group : Reads} {a : Written} {w : ItemWalk} {s : ItemState} {x : ℕ} where
  pub pushing-start : {left : List ℕ} → left ≡ dependants_of g.needs x → WellFormed g → Shows (size g) group.width a w s → Pushing g group a w s x left
  unfolding waiting
  pushing-start e f h =
      record {
        entries = item_list s;
        shows = rw (same_list s) h;
        below = rw e (dependants-below f x);
        same = rw e;
      }

  module _ {d : ℕ} {left rest : List ℕ} (e : left ≡ d ∷ rest) (p : Pushing g group a w s x left) where
    pub met-below : d < size g
    met-below = p.below d (rw e (Memᴰ.head refl))

    below-rest : Below (size g) rest
    below-rest y m = p.below y (rw e (Memᴰ.tail m))

    same_turn : {b : Bool} → is_waiting g (placed_of s) d ≡ b
        → one_by_one (cons_if b d (keep (is_waiting g (placed_of s)) rest)) p.entries ≡ one_by_one (waiting g (placed_of s) x) (item_list s)
    unfolding keep
    same_turn t = rw (← t) (sym (ap (λ (l : List ℕ). one_by_one (keep (is_waiting g (placed_of s)) l) p.entries) e) ∙ p.same)

    pub pushing-passed : is_waiting g (placed_of s) d ≡ false → Pushing g group a w s x rest
    unfolding cons_if
    pushing-passed t = record { entries = p.entries; shows = p.shows; below = below-rest; same = same_turn t }

    module _ (t : is_waiting g (placed_of s) d ≡ true) where
      one_more : length p.entries + 1 ≤ length (one_by_one (waiting g (placed_of s) x) (item_list s))
      unfolding cons_if
      one_more =
          let more = keep (is_waiting g (placed_of s)) rest in
          omega (arith, ap length (same_turn t), one_by_one-length (d ∷ more) p.entries)

      -- no more dependants wait than there are items
      pub pushing-room : WellFormed g → {end : ℕ} → length (item_list s) ≡ end → w.end < item_list_limit → Fits (end + size g) (length a.list) → w.end < length a.list
      unfolding item_list
      pushing-room f {end} k h fits =
          let room = fits (w.end + 1) (omega arith) (omega (arith, one_more, entry-count p.shows, waiting-entries f (placed_of s) x (item_list s))) in
          omega arith

      pub pushing-one : {a' : Written} {w' : ItemWalk}
          → Shows (size g) group.width a' w' (with_list (d ∷ item_list (with_list p.entries s)) (with_list p.entries s))
          → Pushing g group a' w' s x rest
      unfolding cons_if one_by_one item_list
      pushing-one k = record { entries = d ∷ p.entries; shows = rw (list-again (d ∷ p.entries) p.entries s) at k; below = below-rest; same = same_turn t }

      pub pushing-full : w.end ≡ item_list_limit → {a' : Written}
          → Pushed (size g) group.width a' (one_by_one (waiting g (placed_of s) x) (item_list s)) s None
      unfolding item_list
      pushing-full h = no_room (omega (arith, one_more, entry-count p.shows))

  pub pushing-end : {left : List ℕ} → left ≡ [] → Pushing g group a w s x left
      → Pushed (size g) group.width a (one_by_one (waiting g (placed_of s) x) (item_list s)) s (Some w)
  unfolding keep one_by_one
  pushing-end e p =
      let all = sym (ap (λ (l : List ℕ). one_by_one (keep (is_waiting g (placed_of s)) l) p.entries) e) ∙ p.same in
      pushed (rw all at p.shows)
