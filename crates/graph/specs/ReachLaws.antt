-- Laws of what each item reaches and of the record of paths, as bit matrices. Assumes nothing.
use Rattle.std.specs.Prelude.{ℕ, ◌+◌, ◌*◌, ◌≤◌, ◌<◌, ◌≡◌, refl, Bool, false, length}
use Rattle.std.proofs.Common.{arith, ◌∙◌, ⊎_elim, eqb-true, eq-eqb, ne_eqb}
use Rattle.std.proofs.Math.Path.{sym, ap, ap₂}
use Rattle.std.proofs.Math.Bool.{true, not, ◌&&◌, ◌||◌, or_comm, or-false, and-true, and-false, and_comm}
use mathlib.Core.List.{List, ◌∷◌}
use Rattle.std.proofs.Math.Dec.{eqb}
use Rattle.rules.specs.Project.{Need, need_row}
use Rattle.rules.specs.Paths.{can_reach, enters, in_paths}
use Rattle.laws.specs.Lists.{both, either, eqb-sym}
use Rattle.laws.specs.PathLaws.{reaches-join, can_reach-sound, can_reach-complete, in_paths-sound}
use Rattle.lists.specs.Bits.{bit_at, Inserted, Removed}
use Rattle.graph.specs.Rows.{cell, Holds, RowJoined}
use Rattle.graph.specs.RowLaws.{column, row_within, place, rows-sized, rows_none, rows_more, row_same, row-left, row_one}
use Rattle.graph.specs.Reach.{joins, onward, enters_own, enters_others, enters_either}
use Rattle.graph.specs.Reach.{OwnRoom, RowRoom, RowEntered, RowsEntered, WayRoom, WayEntered, Transposed, AddRoom, WayAdded}

-- Tests.
or-within : (p q : Bool) → (q ≡ true → p ≡ true) → (p || q) ≡ p
or-within true q f = refl
or-within false true f = sym (f refl)
or-within false false f = refl

own-again : (e p q r : Bool) → (e || ((p || (q && (e || p))) && r)) ≡ (e || (p && r))
own-again true p q r = refl
own-again false true q r = refl
own-again false false true r = refl
own-again false false false r = refl

arrives-again : (e s t : Bool) → (e || (s || ((e || s) && t))) ≡ (e || s)
arrives-again true s t = refl
arrives-again false true t = refl
arrives-again false false t = refl

joined-own : (p r e s : Bool) → ((p || (r && s)) || (e && s)) ≡ (p || ((e || r) && s))
joined-own true r e s = refl
joined-own false true true true = refl
joined-own false true true false = refl
joined-own false true false s = or-false s
joined-own false false e s = rw (or-false e)

entered-own : (p e f r s o : Bool) → ((p || (e && f && r)) || (s && (e || o))) ≡ (p || ((s && (e || o)) || (e && f && (s || r))))
entered-own true e f r s o = refl
entered-own false false f r s o = sym (or-false (s && o))
entered-own false true f r true o = or_comm (f && r) true
entered-own false true f r false o = or-false (f && r)

pub own-set : (e f r : Bool) → (e || (not f && (e || r))) ≡ (e || (r && not f))
own-set true f r = refl
own-set false f r = and_comm (not f) r

-- Where x reaches y already, the need x to y adds nothing to what is reached.
can_reach-trans : (graph : List Need) (a b c : ℕ) → can_reach graph a b ≡ true → can_reach graph b c ≡ true → can_reach graph a c ≡ true
can_reach-trans graph a b c e f = can_reach-complete graph (reaches-join (can_reach-sound graph e) (can_reach-sound graph f))

reached-already : (graph : List Need) (x y weight : ℕ) → can_reach graph x y ≡ true
    → (a b : ℕ) → can_reach (need_row x y weight ∷ graph) a b ≡ can_reach graph a b
unfolding can_reach
reached-already graph x y weight e a b =
    or-within (can_reach graph a b) ((eqb a x || can_reach graph a x) && (eqb y b || can_reach graph y b)) through
  where
    to-y : (eqb a x || can_reach graph a x) ≡ true → can_reach graph a y ≡ true
    to-y h = ⊎_elim (λ s. rw (eqb-true a x s) e) (λ s. can_reach-trans graph a x y s e) (either {a = eqb a x} h)

    through : ((eqb a x || can_reach graph a x) && (eqb y b || can_reach graph y b)) ≡ true → can_reach graph a b ≡ true
    through h =
        let r = both {a = eqb a x || can_reach graph a x} h in
        ⊎_elim (λ s. rw (eqb-true y b s) at (to-y r.0)) (λ s. can_reach-trans graph a y b (to-y r.0) s) (either {a = eqb y b} r.1)

-- What a need x to y enters into the record is the same by what was reached before it.
own-before : (graph : List Need) (x y weight b : ℕ) → enters_own (can_reach (need_row x y weight ∷ graph)) x y b ≡ enters_own (can_reach graph) x y b
unfolding enters_own can_reach
own-before graph x y weight b = rw (eqb-sym y b) (own-again (eqb b y) (can_reach graph y b) (eqb y x || can_reach graph y x) (not (eqb b x)))

others-before : (graph : List Need) (x y weight a b : ℕ)
    → enters_others (can_reach (need_row x y weight ∷ graph)) x y a b ≡ enters_others (can_reach graph) x y a b
unfolding enters_others can_reach
others-before graph x y weight a b =
    ap (λ (t : Bool). eqb b y && not (eqb a y) && t) (arrives-again (eqb a x) (can_reach graph a x) (eqb y x || can_reach graph y x))

enters-before : (graph : List Need) (x y weight a b : ℕ) → enters (need_row x y weight ∷ graph) x y a b ≡ enters_either (can_reach graph) x y a b
unfolding enters enters_either enters_own enters_others
enters-before graph x y weight a b =
    ap₂ ◌||◌ (ap (λ (t : Bool). eqb a x && t) (own-before graph x y weight b)) (others-before graph x y weight a b)

-- y entered into the row of an item, where it is another.
pub other-there : (words a y : ℕ) {old new : List ℕ} → (a ≡ y → ⊥) → y < 64 * words → Inserted (a * (64 * words) + y) old new
    → RowJoined words a (λ b. eqb b y && not (eqb a y)) old new
other-there words a y apart column i =
    row_same (λ b. eqb b y && not (eqb a y)) (λ b h. rw (ne_eqb a y apart) (sym (and-true (eqb b y)))) (row_one words a y column i)

pub other-itself : (words a y : ℕ) (old : List ℕ) → a ≡ y → RowJoined words a (λ b. eqb b y && not (eqb a y)) old old
other-itself words a y old e = row-left words a old (λ b. rw (eq-eqb a y e, and-false))

-- The rows of an item in both matrices, where it reaches x. Here and below `t` is what a call answered.
module _ (words a x y : ℕ) (row reach paths : List ℕ) where
  pub row-there : {t : Bool} {reach' paths' : List ℕ} → t ≡ cell words reach a x → t ≡ true → RowJoined words a (bit_at row) reach reach'
      → RowJoined words a (λ b. eqb b y && not (eqb a y)) paths paths' → RowEntered words a x y (bit_at row) reach paths reach' paths'
  row-there e s j k =
      record {
        reached = row_same (λ b. cell words reach a x && bit_at row b) (λ b h. rw (sym e ∙ s)) j;
        entered =
            row_same (λ b. eqb b y && not (eqb a y) && cell words reach a x)
            (λ b h. rw (sym e ∙ s) (sym (and-true (eqb b y && not (eqb a y))))) k;
      }

  pub row-not : {t : Bool} → t ≡ cell words reach a x → t ≡ false → RowEntered words a x y (bit_at row) reach paths reach paths
  row-not e s =
      record {
        reached = row-left words a reach (λ b. rw (sym e ∙ s));
        entered = row-left words a paths (λ b. rw (sym e ∙ s, and-false));
      }

-- What one row, and the row of x, ask for.
pub row_room : {words n x y : ℕ} {reach paths : List ℕ} (now-reach now-paths row : List ℕ) (a : ℕ) → WayRoom words n x y reach paths
    → length now-reach ≡ length reach → length now-paths ≡ length paths → words ≤ length row → a < n → RowRoom words a x y row now-reach now-paths
row_room {x = x} {y} {reach} {paths} now-reach now-paths row a w e f size h =
    let reach-rows = rows-sized reach now-reach w.reach-rows e in
    let paths-rows = rows-sized paths now-paths w.paths-rows f in
    record {
      column = column reach-rows w.second;
      arrival = place reach-rows a x h (column reach-rows w.first);
      entry = place paths-rows a y h (column paths-rows w.second);
      reach-row = row_within reach-rows a h;
      row-size = size;
    }

pub own_room : {words n x y : ℕ} {reach paths now row : List ℕ} → WayRoom words n x y reach paths → length now ≡ length paths → words ≤ length row
    → OwnRoom words x y row now
own_room {x = x} {paths = paths} {now = now} w e size =
    let rows = rows-sized paths now w.paths-rows e in
    record {
      first = column rows w.first;
      second = column rows w.second;
      paths-row = row_within rows x w.first;
      row-size = size;
    }

-- One row more. Whether it is joined depends on that row alone, which is as it was.
pub rows_start : {words x y : ℕ} {set : ℕ → Bool} {reach paths : List ℕ} → RowsEntered words 0 x y set reach paths reach paths
rows_start = record { reached = rows_none; entered = rows_none }

pub rows-turn : {words i x y : ℕ} {set : ℕ → Bool} {reach paths now-reach now-paths new-reach new-paths : List ℕ} → x < 64 * words
    → RowsEntered words i x y set reach paths now-reach now-paths → RowEntered words i x y set now-reach now-paths new-reach new-paths
    → RowsEntered words (i + 1) x y set reach paths new-reach new-paths
rows-turn {words} {i} {x} {y} {set} {reach} within j k =
    let same = j.reached.rest i x (omega arith) within in
    record {
      reached = rows_more j.reached (row_same (λ b. cell words reach i x && set b) (λ b h. rw same) k.reached);
      entered = rows_more j.entered (row_same (λ b. eqb b y && not (eqb i y) && cell words reach i x) (λ b h. rw same) k.entered);
    }

-- The row of x joined with y and what a row holds except x.
pub own-joined : {words x y : ℕ} {row without with old new : List ℕ} → Removed x row without → Inserted y without with
    → RowJoined words x (bit_at with) old new → RowJoined words x (λ b. eqb b y || (not (eqb b x) && bit_at row b)) old new
own-joined {x = x} {y} {row} r i j =
    row_same (λ b. eqb b y || (not (eqb b x) && bit_at row b)) (λ b h. i.bits b ∙ ap (λ (t : Bool). eqb b y || t) (r.bits b)) j

-- Both matrices, where the rows that reach x were joined with a copy of y's row, with y, and then the rows of x.
module _ {words n x y : ℕ} {reach paths : List ℕ} (r : WayRoom words n x y reach paths) where
  pub way-entered : {copied row now-reach now reach' paths' : List ℕ} → ((b : ℕ) → b < 64 * words → bit_at copied b ≡ cell words reach y b) → Inserted y copied row
      → RowsEntered words n x y (bit_at row) reach paths now-reach now → RowJoined words x (bit_at row) now-reach reach'
      → RowJoined words x (λ b. eqb b y || (not (eqb b x) && bit_at row b)) now paths' → WayEntered words n x y reach paths reach' paths'
  unfolding joins onward enters_own enters_others enters_either
  way-entered {copied} {row} {now-reach} {now} bits i j l k =
      record {
        reached =
            record {
              rows =
                  λ a b below within.
                  l.cells a b within
                  ∙ ap₂ ◌||◌ (j.reached.rows a b below within) refl
                  ∙ rw (set b within)
                  (joined-own (cell words reach a b) (cell words reach a x) (eqb a x) (onward (cell words reach) y b));
              rest =
                  λ a b below within.
                  l.cells a b within
                  ∙ rw (ne_eqb a x (λ same. omega (arith, r.first)), or-false) (j.reached.rest a b below within);
            };
        entered =
            record {
              rows =
                  λ a b below within.
                  k.cells a b within
                  ∙ ap₂ ◌||◌ (j.entered.rows a b below within) (ap (λ (t : Bool). eqb a x && t) (own b within))
                  ∙ entered-own (cell words paths a b) (eqb b y) (not (eqb a y)) (cell words reach a x) (eqb a x)
                  (cell words reach y b && not (eqb b x));
              rest =
                  λ a b below within.
                  k.cells a b within
                  ∙ rw (ne_eqb a x (λ same. omega (arith, r.first)), or-false) (j.entered.rest a b below within);
            };
      }
    where
      set : (b : ℕ) → b < 64 * words → bit_at row b ≡ onward (cell words reach) y b
      set b h = i.bits b ∙ ap (λ (t : Bool). eqb b y || t) (bits b h)

      own : (b : ℕ) → b < 64 * words → (eqb b y || (not (eqb b x) && bit_at row b)) ≡ enters_own (cell words reach) x y b
      own b h =
          ap (λ (t : Bool). eqb b y || (not (eqb b x) && t)) (set b h) ∙ own-set (eqb b y) (eqb b x) (cell words reach y b)

-- Adding the need x to y: nothing where P(x) holds y, since x reaches it then, else the way from x to y is entered.
module _ {words n x y : ℕ} {reach into paths : List ℕ} (add : AddRoom words n x y reach into paths) where
  r : WayRoom words n x y reach paths
  r = add.way

  pub way-old : {t : Bool} → t ≡ cell words paths x y → t ≡ true → WayAdded words n x y reach paths reach into paths
  unfolding in_paths
  way-old e s =
      record {
        reached =
            λ graph weight g h a b below within.
            g a b below within ∙ sym (reached-already graph x y weight (can_reach-complete graph (in_paths-sound graph (held graph h))) a b);
        in-paths = λ graph weight g h a b below within. h a b below within ∙ sym (rw (held graph h) (or-false (in_paths graph a b)));
        transposed = add.transposed;
        reach-rest = λ a b below within. refl;
        paths-rest = λ a b below within. refl;
      }
    where
      held : (graph : List Need) → Holds words n (in_paths graph) paths → in_paths graph x y ≡ true
      held graph h = sym (e ∙ h x y r.first (column r.paths-rows r.second)) ∙ s

  pub way-new : {t : Bool} {reach' into' paths' : List ℕ} → t ≡ cell words paths x y → t ≡ false → WayEntered words n x y reach paths reach' paths'
      → (words ≡ 1 → Transposed n reach' into') → WayAdded words n x y reach paths reach' into' paths'
  unfolding in_paths can_reach joins onward enters_own enters_others enters_either
  way-new e s w turned =
      record {
        reached =
            λ graph weight g h a b below within.
            w.reached.rows a b below within
            ∙ ap₂ ◌||◌ (g a b below within)
            (ap₂ ◌&&◌ (ap (λ (t : Bool). eqb a x || t) (to-x graph g a below)) (ap₂ ◌||◌ (eqb-sym b y) (g y b r.second within)));
        in-paths =
            λ graph weight g h a b below within.
            w.entered.rows a b below within
            ∙ ap₂ ◌||◌ (h a b below within)
            (ap₂ ◌||◌ (ap (λ (t : Bool). eqb a x && (eqb b y || (t && not (eqb b x)))) (g y b r.second within))
            (ap (λ (t : Bool). eqb b y && not (eqb a y) && (eqb a x || t)) (to-x graph g a below)))
            ∙ rw (sym (e ∙ h x y r.first (column r.paths-rows r.second)) ∙ s)
            (ap (λ (t : Bool). in_paths graph a b || t) (sym (enters-before graph x y weight a b)));
        transposed = turned;
        reach-rest = w.reached.rest;
        paths-rest = w.entered.rest;
      }
    where
      to-x : (graph : List Need) → Holds words n (can_reach graph) reach → (a : ℕ) → a < n → cell words reach a x ≡ can_reach graph a x
      to-x graph g a below = g a x below (column r.reach-rows r.first)
