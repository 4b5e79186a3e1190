-- Laws of bit matrices with rows of one word. Assumes nothing.
use Rattle.std.specs.Prelude.{ℕ, ◌+◌, ◌*◌, ◌-◌, ◌/◌, ◌%◌, ◌^◌, ◌≤◌, ◌<◌, ◌≡◌, refl, Bool, true, false, Some, List, ltb, length, get_or, set, replicate}
use Rattle.std.proofs.Common.{arith, one-mul, sym, ◌∙◌, shl_exact, eqb-true, eq-eqb, ne_eqb, ltb-true, ltb-false}
use Rattle.std.proofs.Math.Path.{ap, ap₂}
use Rattle.std.proofs.Math.Bool.{not, ◌&&◌, ◌||◌, or_assoc, or_comm, or-false, and_assoc, and_comm, and-true, and-false, and-not_self}
use Rattle.std.proofs.Math.Dec.{eqb}
use Rattle.std.specs.Int.Bits.{bit_and, bit_or}
use Rattle.std.proofs.lemmas.Nat.{and_le_l}
use lib.Count.{count_trailing_zeros}
use Rattle.laws.specs.Lists.{Tested, holds, fails, tested, both, false≢true}
use Rattle.lists.specs.Bits.{bit, bit_at}
use Rattle.lists.specs.ArrayLaws.{after-set, zeros-replicate}
use Rattle.lists.specs.BitLaws.{bit-or, bit-none, bit-power, bit-trailing, bit-less, bit-with, bit-without, row-empty}
use Rattle.graph.specs.Rows.{cleared, cell, RowJoined}
use Rattle.graph.specs.RowLaws.{column, rows-cleared}
use Rattle.graph.specs.ReachLaws.{own-set}
use Rattle.graph.specs.Reach.{joins, onward, enters_own, enters_others, enters_either, WayEntered, Transposed, AddRoom}
use Rattle.graph.specs.Words.{Taken, SetRoom, SetJoined}

-- Tests.
joined-there : (o w : Bool) → (o || ((true && not true) && w) || w) ≡ (o || ((true && not (false && true)) && w))
joined-there true w = refl
joined-there false w = refl

both-entered : (p f s d e q : Bool) → ((p || ((f && s) && d)) || (e && q)) ≡ (p || ((e && q) || (d && f && s)))
both-entered p f s d e q =
    or_assoc p ((f && s) && d) (e && q)
    ∙ ap (λ (t : Bool). p || t)
    (or_comm ((f && s) && d) (e && q) ∙ ap (λ (t : Bool). (e && q) || t) (and_comm (f && s) d ∙ sym (and_assoc d f s)))

-- A word that holds one number.
pub bit-one : (i j : ℕ) → i < 64 → bit (1 * 2 ^ i % 2 ^ 64) j ≡ eqb j i
bit-one i j h = ap (λ (w : ℕ). bit w j) (shl_exact 1 i 64 (omega arith) (omega arith) ∙ one-mul (2 ^ i)) ∙ bit-power i j

-- Row a is word a.
cell-one : (matrix : List ℕ) (a b : ℕ) → b < 64 → cell 1 matrix a b ≡ bit (get_or matrix a 0) b
unfolding bit_at
cell-one matrix a b h =
    let word : (a * 64 + b) / 64 ≡ a = omega arith in
    let place : (a * 64 + b) % 64 ≡ b = omega arith in
    rw (word, place)

after_one : (P : Bool → Type 0) (matrix : List ℕ) (a w : ℕ) → a < length matrix → (c b : ℕ) → b < 64 → (c ≡ a → P (bit w b))
    → ((c ≡ a → ⊥) → P (cell 1 matrix c b)) → P (cell 1 (set matrix a w) c b)
after_one P matrix a w within c b h there elsewhere =
    rw (cell-one (set matrix a w) c b h)
    (after-set (λ v. P (bit v b)) matrix a c w 0 within there (λ d. rw (cell-one matrix c b h) at (elsewhere d)))

pub word-joined : (matrix : List ℕ) (a w : ℕ) → a < length matrix → RowJoined 1 a (bit w) matrix (set matrix a (bit_or (get_or matrix a 0) w))
word-joined matrix a w within =
    record {
      cells =
          λ c b h.
          after_one (λ t. t ≡ (cell 1 matrix c b || (eqb c a && bit w b))) matrix a (bit_or (get_or matrix a 0) w) within c b h
          (λ e. rw (e, eq-eqb a a refl, cell-one matrix a b h) (bit-or (get_or matrix a 0) w b))
          (λ d. rw (ne_eqb c a d, or-false));
    }

-- A set without a number that it holds, as the code computes it, is a lesser word.
pub set-without : (rows i : ℕ) → rows < 2 ^ 64 → i < 64 → bit rows i ≡ true
    → (bit_and rows (2 ^ 64 - 1 - 1 * 2 ^ i % 2 ^ 64) < rows)
    × ((j : ℕ) → j < 64 → bit (bit_and rows (2 ^ 64 - 1 - 1 * 2 ^ i % 2 ^ 64)) j ≡ (not (eqb j i) && bit rows j))
set-without rows i most h held =
    let rest = bit_and rows (2 ^ 64 - 1 - 1 * 2 ^ i % 2 ^ 64) in (
      bit-less 64 rest rows i (omega (arith, and_le_l rows (2 ^ 64 - 1 - 1 * 2 ^ i % 2 ^ 64))) most h held (λ j g. bit-without rows i j h g),
      λ j g. bit-without rows i j h g,
    )

-- A set that is not empty, and the word of all but its least number, as the code computes it: a lesser one.
pub least-taken : (set : ℕ) → 0 < set → set < 2 ^ 64
    → let i = count_trailing_zeros 64 set in
    let left = bit_and set (2 ^ 64 - 1 - 1 * 2 ^ i % 2 ^ 64) in
    Taken set (Some i) left × (left < set)
least-taken set h most =
    let i = count_trailing_zeros 64 set in
    let left = bit_and set (2 ^ 64 - 1 - 1 * 2 ^ i % 2 ^ 64) in
    let least = bit-trailing 64 set h most in
    let bits : (j : ℕ) → j < 64 → bit left j ≡ (not (eqb j i) && bit set j) = λ j g. bit-without set i j least.0 g in
    ((least.0, least.1, bits), bit-less 64 left set i (omega (arith, and_le_l set (2 ^ 64 - 1 - 1 * 2 ^ i % 2 ^ 64))) most least.0 least.1 bits)

-- In the midst of joining the rows of a set with a word: those in `left` are still to be joined.
pub record JoiningSet (rows left : ℕ) (set : ℕ → Bool) (old new : List ℕ) : Type 0 where
  pub within : (a : ℕ) → a < 64 → bit left a ≡ true → bit rows a ≡ true
  pub cells : (a b : ℕ) → a < 64 → b < 64 → cell 1 new a b ≡ (cell 1 old a b || ((bit rows a && not (bit left a)) && set b))
  pub rest : (a b : ℕ) → 64 ≤ a → b < 64 → cell 1 new a b ≡ cell 1 old a b

pub joining-set : {rows : ℕ} {set : ℕ → Bool} {matrix : List ℕ} → JoiningSet rows rows set matrix matrix
joining-set {rows} = record { within = λ a h e. e; cells = λ a b h g. rw (and-not_self (bit rows a), or-false); rest = λ a b h g. refl }

module _ {rows left : ℕ} {set : ℕ → Bool} {old now : List ℕ} (j : JoiningSet rows left set old now) where
  pub joined-set : left ≡ 0 → SetJoined (bit rows) set old now
  joined-set e =
      record {
        cells = λ a b h g. j.cells a b h g ∙ rw (bit-none left a e, and-true (bit rows a));
        rest = j.rest;
      }

  pub join_more : {a left' : ℕ} {new : List ℕ} → a < 64 → bit left a ≡ true
      → ((c : ℕ) → c < 64 → bit left' c ≡ (not (eqb c a) && bit left c)) → RowJoined 1 a set now new → JoiningSet rows left' set old new
  join_more {a} {left'} {new} h held bits k =
      record {
        within = λ c g e. j.within c g (both {a = not (eqb c a)} (sym (bits c g) ∙ e)).1;
        cells = λ c b g f. k.cells c b f ∙ go c b g f (tested (eqb c a));
        rest = λ c b g f. k.cells c b f ∙ rw (ne_eqb c a (λ e. omega arith), or-false) (j.rest c b g f);
      }
    where
      go : (c b : ℕ) → c < 64 → b < 64 → Tested (eqb c a)
          → (cell 1 now c b || (eqb c a && set b)) ≡ (cell 1 old c b || ((bit rows c && not (bit left' c)) && set b))
      go c b g f (holds e) =
          let there : bit left c ≡ true = rw (eqb-true c a e) held in
          rw (j.cells c b g f, bits c g, e, there, j.within c g there) (joined-there (cell 1 old c b) (set b))
      go c b g f (fails e) = rw (bits c g, e, or-false) (j.cells c b g f)

-- The rows of a set are there where it holds numbers below n alone.
below-room : {n : ℕ} (rows : ℕ) (matrix : List ℕ) → n ≤ length matrix → ((a : ℕ) → n ≤ a → a < 64 → bit rows a ≡ false) → SetRoom rows matrix
below-room {n} rows matrix size none a h e = go (tested (ltb a n))
  where
    go : Tested (ltb a n) → a < length matrix
    go (holds t) = omega (arith, ltb-true a n t)
    go (fails t) = absurd (false≢true (sym (none a (ltb-false a n t) h) ∙ e))

-- Cleared matrices are the transpose of each other.
pub transposed-cleared : (n : ℕ) (reach into : List ℕ) → n ≤ 64 → Transposed n (cleared (n * 1) reach) (cleared (n * 1) into)
transposed-cleared n reach into most =
    record {
      cells = λ a b h g. rows-cleared 1 n into b a g (omega arith) ∙ sym (rows-cleared 1 n reach a b h (omega arith));
      reach-below = λ a b h g f. rows-cleared 1 n reach a b h f;
      into-below = λ a b h g f. rows-cleared 1 n into a b h f;
    }

-- With the matrix of what reaches each item all zeros it is so too.
pub transposed-none : (n : ℕ) (reach : List ℕ) → n ≤ 64 → Transposed n (cleared (n * 1) reach) (replicate 64 0)
transposed-none n reach most =
    record {
      cells = λ a b h g. none b a ∙ sym (rows-cleared 1 n reach a b h (omega arith));
      reach-below = λ a b h g f. rows-cleared 1 n reach a b h f;
      into-below = λ a b h g f. none a b;
    }
  where
    none : (a b : ℕ) → cell 1 (replicate 64 0) a b ≡ false
    none a b = row-empty (zeros-replicate 64) (a * (64 * 1) + b)

-- The way from x to y: the words as the code computes them, and what entering them gives.
module _ {n x y : ℕ} {reach into paths : List ℕ} (r : AddRoom 1 n x y reach into paths) where
  abbrev before : ℕ
  before = bit_or (get_or into x 0) (1 * 2 ^ x % 2 ^ 64)

  abbrev beyond : ℕ
  beyond = bit_or (get_or reach y 0) (1 * 2 ^ y % 2 ^ 64)

  turned : Transposed n reach into
  turned = r.transposed refl

  column-x : x < 64
  column-x = column r.way.reach-rows r.way.first

  column-y : y < 64
  column-y = column r.way.reach-rows r.way.second

  few : n ≤ 64
  few = (r.into-rows refl).numbers

  before-bits : (a : ℕ) → a < 64 → bit before a ≡ (eqb a x || cell 1 into x a)
  before-bits a h = bit-with (get_or into x 0) x a column-x ∙ rw (cell-one into x a h)

  -- x and what reaches it
  arriving : (a : ℕ) → a < n → bit before a ≡ (eqb a x || cell 1 reach a x)
  arriving a h = before-bits a (omega (arith, few)) ∙ rw (turned.cells a x h r.way.first)

  none_before : (a : ℕ) → n ≤ a → a < 64 → bit before a ≡ false
  none_before a h g = before-bits a g ∙ rw (ne_eqb a x (λ e. omega (arith, r.way.first)), turned.into-below x a r.way.first h g)

  beyond-bits : (b : ℕ) → b < 64 → bit beyond b ≡ onward (cell 1 reach) y b
  unfolding onward
  beyond-bits b h = bit-with (get_or reach y 0) y b column-y ∙ rw (cell-one reach y b h)

  none-beyond : (b : ℕ) → n ≤ b → b < 64 → bit beyond b ≡ false
  unfolding onward
  none-beyond b h g = beyond-bits b g ∙ rw (ne_eqb b y (λ e. omega (arith, r.way.second)), turned.reach-below y b r.way.second h g)

  own_bits : (b : ℕ) → b < 64
      → bit (bit_or (bit_and beyond (2 ^ 64 - 1 - 1 * 2 ^ x % 2 ^ 64)) (1 * 2 ^ y % 2 ^ 64)) b ≡ enters_own (cell 1 reach) x y b
  unfolding onward enters_own
  own_bits b h =
      bit-with (bit_and beyond (2 ^ 64 - 1 - 1 * 2 ^ x % 2 ^ 64)) y b column-y
      ∙ ap (λ (t : Bool). eqb b y || t) (bit-without beyond x b column-x h ∙ ap (λ (t : Bool). not (eqb b x) && t) (beyond-bits b h))
      ∙ own-set (eqb b y) (eqb b x) (cell 1 reach y b)

  -- the rows that are joined are there
  pub reach-room : SetRoom before reach
  reach-room = below-room before reach (omega (arith, r.way.reach-rows.size)) none_before

  pub into-room : SetRoom beyond into
  into-room = below-room beyond into (omega (arith, (r.into-rows refl).size)) none-beyond

  pub paths-room : SetRoom (bit_and before (2 ^ 64 - 1 - 1 * 2 ^ y % 2 ^ 64)) paths
  paths-room =
      below-room (bit_and before (2 ^ 64 - 1 - 1 * 2 ^ y % 2 ^ 64)) paths (omega (arith, r.way.paths-rows.size))
      (λ a h g. bit-without before y a column-y g ∙ rw (none_before a h g, and-false (not (eqb a y))))

  module _ {reach' into' paths₁ paths' : List ℕ} (j : SetJoined (bit before) (bit beyond) reach reach')
      (k : SetJoined (bit beyond) (bit before) into into')
      (m : SetJoined (bit (bit_and before (2 ^ 64 - 1 - 1 * 2 ^ y % 2 ^ 64))) (bit (1 * 2 ^ y % 2 ^ 64)) paths paths₁)
      (o : RowJoined 1 x (bit (bit_or (bit_and beyond (2 ^ 64 - 1 - 1 * 2 ^ x % 2 ^ 64)) (1 * 2 ^ y % 2 ^ 64))) paths₁ paths') where
    pub words-transposed : Transposed n reach' into'
    words-transposed =
        record {
          cells =
              λ a b h g.
              k.cells b a (omega (arith, few)) (omega (arith, few))
              ∙ ap₂ ◌||◌ (turned.cells a b h g) (and_comm (bit beyond b) (bit before a))
              ∙ sym (j.cells a b (omega (arith, few)) (omega (arith, few)));
          reach-below =
              λ a b h g f.
              j.cells a b (omega (arith, few)) f ∙ rw (turned.reach-below a b h g f, none-beyond b g f) (and-false (bit before a));
          into-below =
              λ a b h g f.
              k.cells a b (omega (arith, few)) f ∙ rw (turned.into-below a b h g f, none_before b g f) (and-false (bit beyond a));
        }

    -- the record with y entered into the rows of what arrives at x
    others-rest : (a b : ℕ) → n ≤ a → b < 64 → cell 1 paths₁ a b ≡ cell 1 paths a b
    others-rest a b h g = go (tested (ltb a 64))
      where
        go : Tested (ltb a 64) → cell 1 paths₁ a b ≡ cell 1 paths a b
        go (holds t) =
            m.cells a b (ltb-true a 64 t) g
            ∙ rw (bit-without before y a column-y (ltb-true a 64 t), none_before a h (ltb-true a 64 t), and-false (not (eqb a y)), or-false)
        go (fails t) = m.rest a b (ltb-false a 64 t) g

    reach-rest : (a b : ℕ) → n ≤ a → b < 64 → cell 1 reach' a b ≡ cell 1 reach a b
    reach-rest a b h g = go (tested (ltb a 64))
      where
        go : Tested (ltb a 64) → cell 1 reach' a b ≡ cell 1 reach a b
        go (holds t) = j.cells a b (ltb-true a 64 t) g ∙ rw (none_before a h (ltb-true a 64 t), or-false)
        go (fails t) = j.rest a b (ltb-false a 64 t) g

    pub words-entered : WayEntered 1 n x y reach paths reach' paths'
    unfolding joins enters_others enters_either
    words-entered =
        record {
          reached =
              record {
                rows =
                    λ a b below within.
                    j.cells a b (omega (arith, few)) within
                    ∙ ap (λ (t : Bool). cell 1 reach a b || t) (ap₂ ◌&&◌ (arriving a below) (beyond-bits b within));
                rest = reach-rest;
              };
          entered =
              record {
                rows =
                    λ a b below within.
                    o.cells a b within
                    ∙ ap₂ ◌||◌
                    (m.cells a b (omega (arith, few)) within
                    ∙ ap (λ (t : Bool). cell 1 paths a b || t)
                    (ap₂ ◌&&◌
                    (bit-without before y a column-y (omega (arith, few)) ∙ ap (λ (t : Bool). not (eqb a y) && t) (arriving a below))
                    (bit-one y b column-y)))
                    (ap (λ (t : Bool). eqb a x && t) (own_bits b within))
                    ∙ both-entered (cell 1 paths a b) (not (eqb a y)) (eqb a x || cell 1 reach a x) (eqb b y) (eqb a x)
                    (enters_own (cell 1 reach) x y b);
                rest =
                    λ a b below within.
                    o.cells a b within
                    ∙ rw (ne_eqb a x (λ same. omega (arith, r.way.first)), or-false) (others-rest a b below within);
              };
        }
