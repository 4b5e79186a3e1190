-- Laws of steps 2 and 3: which dependencies of an item are open, and stay. Assumes nothing.
use Rattle.std.specs.Prelude.{ℕ, suc, ◌+◌, ◌≤◌, ◌<◌, ◌≡◌, Bool, true, false, not, ◌&&◌, eqb, leb, ltb, length, take, set}
use Rattle.std.proofs.Common.{arith, refl, sym, ap, subst, ◌∙◌, add-one, length-append, length-set, length-take, take-suc-set}
use Rattle.std.proofs.Math.Bool.{and_assoc, and-false}
use Rattle.std.proofs.Math.Seq.{append_snoc}
use mathlib.Core.List.Memᴰ
use mathlib.Core.List.{List, [], ◌∷◌, ◌++◌, map, reverse, append-nil}
use Rattle.rules.specs.Lists.{cons_if, keep, elem}
use Rattle.rules.specs.Project.{Need, item_limit}
use Rattle.rules.specs.Paths.{dependencies_of}
use Rattle.rules.specs.Items.{is_injected, may_drop, in_range, Group, kind_of, path_holds, weight_of, same_range, ItemState, has_moved, Opened, opened, with_open, find_open, is_dropped, placed_of}
use Rattle.laws.specs.Lists.{Tested, holds, fails, tested, length-parts, once-different}
use Rattle.laws.specs.Splits.{size, WellFormed}
use Rattle.laws.specs.Counting.{Below, below_length}
use Rattle.laws.specs.Orders.{and-true}
use Rattle.laws.proofs.ItemWalk.{dependencies_of-∈}
use Rattle.graph.specs.Graph.{is_maybe}
use Rattle.split.specs.Shown.{RangeIs}
use Rattle.stmt.specs.declared.slices.Reads.{Reads}
use Rattle.stmt.specs.declared.walk.ItemWalk.{ItemWalk}
use Rattle.stmt.specs.declared.steps.Item.{Item}
use Rattle.stmt.proofs.StateLaws.{Moved, was_fresh, was-moved, same_moved, moved-again, walking-same, walking-moved, walking-open}
use Rattle.stmt.specs.Walks.{moved_of, with_moved, ItemIs, stays, staying}
use Rattle.stmt.specs.Slices.{Written, Walking, Skipped, Found}

-- Whether a dependency is in x's range.
pub range-test : {g : Group} {x low high : ℕ} (d : ℕ) → RangeIs g x low high → same_range g x d ≡ (leb low d && ltb d high)
unfolding same_range in_range
range-test d r = rw (r.start, r.end)

-- Step 2 for one dependency.
with_none : (d : ℕ) (o : Opened) → with_open false d o ≡ o
unfolding with_open cons_if
with_none d (opened dependencies moved) = refl

module _ {g : Group} {group : Reads} {a : Written} {w : ItemWalk} {s : ItemState}
    (h : Walking g group a w s) {x : Item} (i : ItemIs g x) (d : ℕ) where
  pub skipped-inside : (leb x.low d && ltb d x.high) ≡ true → Skipped g group a w s x.id.0 d true
  unfolding find_open
  skipped-inside e =
      let inside : same_range g x.id.0 d ≡ true = range-test d i.range-is ∙ e in
      record {
        after = moved_of s;
        walking = walking-same h;
        step = λ placed rest. rw (inside, find_open) (sym (with_none d (find_open g placed x.id.0 rest (moved_of s))));
      }

  module _ (e : (leb x.low d && ltb d x.high) ≡ false) where
    outside : same_range g x.id.0 d ≡ false
    outside = range-test d i.range-is ∙ e

    pub passed-injected : is_injected x.kind.0 ≡ true → Skipped g group a w s x.id.0 d false
    unfolding find_open
    passed-injected k =
        let injected : is_injected (kind_of g x.id.0) ≡ true = ap is_injected (sym i.kind-is) ∙ k in
        record { after = moved_of s; walking = walking-same h; step = λ placed rest. rw (outside, injected, find_open) }

    module _ (other : is_injected x.kind.0 ≡ false) where
      uninjected : is_injected (kind_of g x.id.0) ≡ false
      uninjected = ap is_injected (sym i.kind-is) ∙ other

      pub passed-pathless : path_holds g d x.id.0 ≡ false → Skipped g group a w s x.id.0 d false
      unfolding find_open
      passed-pathless k =
          record { after = moved_of s; walking = walking-same h; step = λ placed rest. rw (outside, uninjected, k, find_open) }

      pub skipped-noted : {a' : Written} {r : Bool} → path_holds g d x.id.0 ≡ true → a'.«open» ≡ a.«open» → Moved (size g) group.width a' w s x.id.0 d r
          → Skipped g group a' w s x.id.0 d r
      unfolding find_open
      skipped-noted k o (was_fresh fresh shows) =
          record {
            after = (x.id.0, d) ∷ moved_of s;
            walking = walking-moved h ((x.id.0, d) ∷ moved_of s) (ap length o) shows;
            step = λ placed rest. rw (outside, uninjected, k, fresh, find_open);
          }
      skipped-noted k o (was-moved old shows) =
          record {
            after = moved_of s;
            walking = walking-moved h (moved_of s) (ap length o) (rw (same_moved s) shows);
            step = λ placed rest. rw (outside, uninjected, k, old, find_open) (sym (with_none d (find_open g placed x.id.0 rest (moved_of s))));
          }

-- Whether a dependency that is not skipped stays.
module _ {g : Group} (items : List ℕ) {x : Item} (i : ItemIs g x) (d : ℕ) where
  pub stays-placed : elem d items ≡ true → stays g items x.id.0 d ≡ false
  unfolding stays
  stays-placed e = rw e

  module _ (unplaced : elem d items ≡ false) where
    pub stays-pathless : path_holds g d x.id.0 ≡ false → stays g items x.id.0 d ≡ true
    unfolding stays is_dropped
    stays-pathless e = rw (unplaced, e)

    pub stays-undropped : path_holds g d x.id.0 ≡ true → {r : Bool}
        → ((weight : ℕ) → is_maybe (reverse g.needs) x.id.0 d ≡ eqb weight 1 → r ≡ may_drop x.kind.0 weight) → stays g items x.id.0 d ≡ not r
    unfolding stays is_dropped is_maybe weight_of
    stays-undropped e {r} f = rw (unplaced, e, ← i.kind-is) (ap not (sym (f (weight_of g x.id.0 d) refl)))

-- The dependencies that stay, one after the other.
unfoldable dependencies_in : Opened → List ℕ
dependencies_in (opened dependencies moved) = dependencies

unfoldable pub joined : List ℕ → Opened → Opened
joined l (opened dependencies moved) = opened (l ++ dependencies) moved

joined-dependencies : (l : List ℕ) (o : Opened) → dependencies_in (joined l o) ≡ l ++ dependencies_in o
unfolding dependencies_in joined
joined-dependencies l (opened dependencies moved) = refl

joined-with : (l : List ℕ) (d : ℕ) (o : Opened) → joined l (with_open true d o) ≡ joined (l ++ (d ∷ [])) o
unfolding joined with_open cons_if
joined-with l d (opened dependencies moved) = rw append_snoc

joined-none : (o : Opened) → joined [] o ≡ o
unfolding joined
joined-none (opened dependencies moved) = refl

staying-with : (g : Group) (x d : ℕ) (b : Bool) (o : Opened) → staying g x (with_open b d o) ≡ with_open (b && not (is_dropped g x d)) d (staying g x o)
unfolding staying with_open cons_if keep
staying-with g x d true (opened dependencies moved) = refl
staying-with g x d false (opened dependencies moved) = refl

-- There are no more of them than dependencies.
with-length : (b : Bool) (d : ℕ) (o : Opened) → length (dependencies_in (with_open b d o)) ≤ suc (length (dependencies_in o))
unfolding with_open cons_if dependencies_in
with-length true d (opened dependencies moved) = omega arith
with-length false d (opened dependencies moved) = omega arith

find_open-length : (g : Group) (items : List ℕ) (x : ℕ) (l : List ℕ) (pairs : List (ℕ × ℕ)) → length (dependencies_in (find_open g items x l pairs)) ≤ length l
unfolding find_open dependencies_in
find_open-length g items x [] pairs = omega arith
find_open-length g items x (d ∷ l) pairs =
    go (tested (same_range g x d)) (tested (not (is_injected (kind_of g x)) && path_holds g d x)) (tested (has_moved pairs x d)) (λ q. find_open-length g items x l q)
  where
    within : (q : List (ℕ × ℕ)) → length (dependencies_in (find_open g items x l q)) ≤ length l
        → length (dependencies_in (with_open (not (elem d items)) d (find_open g items x l q))) ≤ suc (length l)
    within q h = omega (arith, with-length (not (elem d items)) d (find_open g items x l q))

    go : Tested (same_range g x d) → Tested (not (is_injected (kind_of g x)) && path_holds g d x) → Tested (has_moved pairs x d)
        → ((q : List (ℕ × ℕ)) → length (dependencies_in (find_open g items x l q)) ≤ length l)
        → length (dependencies_in (find_open g items x (d ∷ l) pairs)) ≤ suc (length l)
    go (holds a) b m f = rw (a, find_open) (omega (arith, f pairs))
    go (fails a) (holds b) (holds m) f = rw (a, b, m, find_open) (omega (arith, f pairs))
    go (fails a) (holds b) (fails m) f = rw (a, b, m, find_open) (within ((x, d) ∷ pairs) (f ((x, d) ∷ pairs)))
    go (fails a) (fails b) m f = rw (a, b, find_open) (within pairs (f pairs))

staying-length : (g : Group) (x : ℕ) (o : Opened) → length (dependencies_in (staying g x o)) ≤ length (dependencies_in o)
unfolding staying dependencies_in
staying-length g x (opened dependencies moved) = omega (arith, length-parts (λ d. not (is_dropped g x d)) dependencies)

dependencies-below : {g : Group} → WellFormed g → (x : ℕ) → Below (size g) (dependencies_of g.needs x)
dependencies-below {g} f x d m = (f.ends-below x d (dependencies_of-∈ g.needs x m)).1

dependencies-most : {g : Group} → WellFormed g → (x : ℕ) → length (dependencies_of g.needs x) ≤ size g
unfolding dependencies_of
dependencies-most {g} f x =
    below_length (once-different (map (λ (n : Need). n.dependency) (keep (λ (n : Need). eqb n.dependant x) g.needs))) (dependencies-below f x)

-- No more are found than there are items.
found-most : {g : Group} (items : List ℕ) (x : ℕ) (pairs : List (ℕ × ℕ)) (found : List ℕ) (o : Opened) → WellFormed g
    → staying g x (find_open g items x (dependencies_of g.needs x) pairs) ≡ joined found o → length found ≤ size g
found-most {g} items x pairs found o f e =
    let whole = find_open g items x (dependencies_of g.needs x) pairs in
    omega (
      arith,
      ap (λ (o : Opened). length (dependencies_in o)) e,
      ap length (joined-dependencies found o),
      length-append found (dependencies_in o),
      staying-length g x whole,
      find_open-length g items x (dependencies_of g.needs x) pairs,
      dependencies-most f x,
    )

-- In the midst of finding: those found so far, with those that the dependencies left will give, are those of the definition.
pub record Finding (g : Group) (group : Reads) (a : Written) (w : ItemWalk) (s : ItemState)
    (x count : ℕ) (left : List ℕ) : Type 0 where
  pub after : List (ℕ × ℕ)
  pub walking : Walking g group a w (with_moved after s)
  pub below : Below (size g) left
  pub within : count ≤ length a.«open»
  pub same : staying g x (find_open g (placed_of s) x (dependencies_of g.needs x) (moved_of s))
      ≡ joined (take count a.«open») (staying g x (find_open g (placed_of s) x left after))

module _ {g : Group} {group : Reads} {a : Written} {w : ItemWalk} {s : ItemState} where
  pub finding-start : (x : ℕ) {left : List ℕ} → left ≡ dependencies_of g.needs x → Walking g group a w s → Finding g group a w s x 0 left
  finding-start x {left} e h =
      record {
        after = moved_of s;
        walking = walking-same h;
        below = rw e (dependencies-below h.laid.formed x);
        within = omega arith;
        same = rw e (sym (joined-none (staying g x (find_open g (placed_of s) x (dependencies_of g.needs x) (moved_of s)))));
      }

  pub finding-rest : {x count : ℕ} {left left' : List ℕ} → left ≡ left' → Finding g group a w s x count left → Finding g group a w s x count left'
  finding-rest {x} {count} e f = subst (λ (l : List ℕ). Finding g group a w s x count l) e f

  module _ {x count d : ℕ} {rest : List ℕ} (f : Finding g group a w s x count (d ∷ rest)) {a' : Written} {r : Bool}
      (k : Skipped g group a' w (with_moved f.after s) x d r) (kept : a'.«open» ≡ a.«open») where
    abbrev left : Opened
    left = staying g x (find_open g (placed_of s) x rest k.after)

    same_next : staying g x (find_open g (placed_of s) x (dependencies_of g.needs x) (moved_of s))
        ≡ joined (take count a.«open») (with_open (not r && stays g (placed_of s) x d) d left)
    unfolding stays moved_of
    same_next =
        f.same
        ∙ ap (joined (take count a.«open»))
        (ap (staying g x) (k.step (placed_of s) rest)
        ∙ staying-with g x d (not r && not (elem d (placed_of s))) (find_open g (placed_of s) x rest k.after)
        ∙ ap (λ (b : Bool). with_open b d left) (and_assoc (not r) (not (elem d (placed_of s))) (not (is_dropped g x d))))

    walking-next : Walking g group a' w (with_moved k.after s)
    walking-next = rw (moved-again k.after f.after s) at k.walking

    below-rest : Below (size g) rest
    below-rest y m = f.below y (Memᴰ.tail m)

    finding-passed : (not r && stays g (placed_of s) x d) ≡ false → Finding g group a' w s x count rest
    finding-passed t =
        record {
          after = k.after;
          walking = walking-next;
          below = below-rest;
          within = rw kept f.within;
          same =
              rw kept
              (same_next ∙ ap (joined (take count a.«open»)) (ap (λ (b : Bool). with_open b d left) t ∙ with_none d left));
        }

    pub finding-skipped : not r ≡ false → Finding g group a' w s x count rest
    finding-skipped t = finding-passed (rw t)

    pub finding-dropped : stays g (placed_of s) x d ≡ false → Finding g group a' w s x count rest
    finding-dropped t = finding-passed (rw t (and-false (not r)))

    module _ (unskipped : not r ≡ true) (stay : stays g (placed_of s) x d ≡ true) where
      same_kept : staying g x (find_open g (placed_of s) x (dependencies_of g.needs x) (moved_of s)) ≡ joined (take count a.«open» ++ (d ∷ [])) left
      same_kept =
          same_next
          ∙ ap (λ (b : Bool). joined (take count a.«open») (with_open b d left)) (and-true unskipped stay)
          ∙ joined-with (take count a.«open») d left

      pub finding-few : count < item_limit
      finding-few =
          let t = f.walking.shows.pairs in omega (
            arith,
            found-most (placed_of s) x (moved_of s) (take count a.«open» ++ (d ∷ [])) left f.walking.laid.formed same_kept,
            length-append (take count a.«open») (d ∷ []),
            length-take count a.«open»,
            f.within,
            t.within,
            t.most,
          )

      pub finding-room : count < length a.«open»
      finding-room =
          omega (
            arith,
            found-most (placed_of s) x (moved_of s) (take count a.«open» ++ (d ∷ [])) left f.walking.laid.formed same_kept,
            length-append (take count a.«open») (d ∷ []),
            length-take count a.«open»,
            f.within,
            f.walking.room,
          )

      pub finding-kept : (a'' : Written) → a''.placed ≡ a'.placed → a''.moved ≡ a'.moved → a''.order ≡ a'.order → a''.list ≡ a'.list
          → a''.«open» ≡ set a'.«open» count d → Finding g group a'' w s x (count + 1) rest
      finding-kept a'' p m o l q =
          record {
            after = k.after;
            walking = walking-open walking-next a'' p m o l (rw q (simp length-set refl));
            below = below-rest;
            within = rw (q, kept) (simp length-set (omega (arith, finding-room)));
            same =
                rw (q, kept)
                (same_kept ∙ ap (λ (q : List ℕ). joined q left) (sym (rw add-one (take-suc-set a.«open» count d (omega (arith, finding-room))))));
          }

  pub finding-end : {x count : ℕ} → Finding g group a w s x count [] → Found g group a w s x count
  unfolding find_open staying keep joined
  finding-end {x} {count} f =
      let all = f.same ∙ ap (λ (q : List ℕ). opened q f.after) (append-nil (take count a.«open»)) in
      record {
        after = f.after;
        walking = f.walking;
        within = omega (arith, found-most (placed_of s) x (moved_of s) (take count a.«open») (opened [] f.after) f.walking.laid.formed f.same, length-take count a.«open», f.within);
        found = all;
      }
