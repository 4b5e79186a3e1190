-- Laws of bit matrices. Assumes nothing.
use Rattle.std.specs.Prelude.{ℕ, ◌+◌, ◌-◌, ◌*◌, ◌^◌, ◌/◌, ◌%◌, ◌≤◌, ◌<◌, ◌≡◌, Bool, true, false, ◌&&◌, ◌||◌, List, ◌++◌, eqb, length, get_or, set, take, drop, replicate}
use Rattle.std.proofs.Common.{arith, add-one, zero-add, mul-le-mul_right, mul-le-mul, sym, ap, ◌∙◌, length-take, length-drop, get_or-take, get_or-drop, eqb-true, eq-eqb, ne_eqb}
use Rattle.std.proofs.Math.Path.{refl}
use Rattle.std.proofs.Math.Bool.{and-false, or-false, or_comm}
use Rattle.std.proofs.lemmas.List.{length-replicate, get_or-replicate}
use Rattle.std.proofs.Math.ListN.{get_or-append}
use Rattle.std.proofs.Math.Seq.{paste-suc}
use Rattle.std.specs.Int.Bits.{bit_and, bit_or}
use Rattle.std.proofs.lemmas.Bool.{eqb-false}
use Rattle.laws.specs.Lists.{Tested, holds, fails, tested, both}
use Rattle.lists.specs.Bits.{bit, bit_at, Inserted, Removed}
use Rattle.lists.specs.ArrayLaws.{after-set}
use Rattle.lists.specs.BitLaws.{row-insert as word-insert, row-remove as word-remove, bit-or, bit-none, cell-eqb, cell_below}
use Rattle.graph.specs.Rows.{Rows, Place, cleared, cell, Holds, RowJoined, RowsJoined, Stored}

-- Bit b of row a is a bit of word b / 64 of that row.
module _ (words : ℕ) (matrix : List ℕ) (a b : ℕ) where
  word_at : (a * (64 * words) + b) / 64 ≡ a * words + b / 64
  word_at = omega arith

  bit_in : (a * (64 * words) + b) % 64 ≡ b % 64
  bit_in = omega arith

  pub cell-word : cell words matrix a b ≡ bit (get_or matrix (a * words + b / 64) 0) (b % 64)
  unfolding bit_at
  cell-word = rw (word_at, bit_in)

  -- the bit put into the row, and taken out of it
  pub row-insert : Place words a b matrix → Inserted (a * (64 * words) + b) matrix
      (set matrix (a * words + b / 64) (bit_or (get_or matrix (a * words + b / 64) 0) (1 * 2 ^ (b % 64) % 2 ^ 64)))
  row-insert p = rw (word_at, bit_in) at (word-insert matrix (a * (64 * words) + b) p.within)

  pub row-remove : Place words a b matrix → Removed (a * (64 * words) + b) matrix
      (set matrix (a * words + b / 64) (bit_and (get_or matrix (a * words + b / 64) 0) (2 ^ 64 - 1 - 1 * 2 ^ (b % 64) % 2 ^ 64)))
  row-remove p = rw (word_at, bit_in) at (word-remove matrix (a * (64 * words) + b) p.within)

-- Places in rows are equal only where the rows and the places in them are.
pub same_place : (width a b c d : ℕ) → b < width → d < width → a * width + b ≡ c * width + d → (a ≡ c) × (b ≡ d)
same_place width a b c d h g e =
    let t = both {a = eqb a c} (sym (cell-eqb width a b c d h g) ∙ eq-eqb (a * width + b) (c * width + d) e) in
    (eqb-true a c t.0, eqb-true b d t.1)

-- What holds of the bits of a word where it is stored, and of the bits elsewhere, holds of the bits after the store.
after-word : (words : ℕ) (matrix : List ℕ) (a i w : ℕ) → i < words → a * words + i < length matrix → (P : Bool → Type 0) (c b : ℕ)
    → b < 64 * words → (c ≡ a → b / 64 ≡ i → P (bit w (b % 64))) → ((c ≡ a → b / 64 ≡ i → ⊥) → P (cell words matrix c b))
    → P (cell words (set matrix (a * words + i) w) c b)
after-word words matrix a i w h within P c b g there elsewhere =
    rw (cell-word words (set matrix (a * words + i) w) c b)
    (after-set (λ v. P (bit v (b % 64))) matrix (a * words + i) (c * words + b / 64) w 0 within
    (λ e. let s = same_place words c (b / 64) a i (omega arith) h e in there s.0 s.1)
    (λ d. rw (cell-word words matrix c b) at (elsewhere (λ e k. d (rw (e, k))))))

-- Rows and places among the first n rows.
module _ {words n : ℕ} {matrix : List ℕ} (r : Rows words n matrix) where
  pub column : {b : ℕ} → b < n → b < 64 * words
  column h = omega (arith, r.numbers)

  pub row_within : (a : ℕ) → a < n → a * words + words ≤ length matrix
  row_within a h = omega (arith, mul-le-mul_right words h, r.size)

  pub place : (a b : ℕ) → a < n → b < 64 * words → Place words a b matrix
  place a b h g =
      let below : a * (64 * words) + b < n * (64 * words) = cell_below (64 * words) n a b h g in
      record {
        most = r.most;
        within = omega (arith, r.size);
        small = omega (arith, mul-le-mul r.numbers r.most, r.most);
      }

-- They are there as long as the matrix keeps its length.
pub rows-sized : {words n : ℕ} (old new : List ℕ) → Rows words n old → length new ≡ length old → Rows words n new
rows-sized old new r e = record { numbers = r.numbers; most = r.most; size = omega (arith, r.size) }

-- In the midst of joining row a of a matrix with a row: the first i words are joined.
pub record Joining (words i a : ℕ) (row old new : List ℕ) : Type 0 where
  pub done : (b : ℕ) → b < 64 * i → cell words new a b ≡ (cell words old a b || bit_at row b)
  pub others : (c b : ℕ) → b < 64 * words → (c ≡ a → 64 * i ≤ b) → cell words new c b ≡ cell words old c b

pub joining-start : {words a : ℕ} {row old : List ℕ} → Joining words 0 a row old old
joining-start = record { done = λ b h. absurd (omega arith); others = λ c b h f. refl }

module _ {words i a : ℕ} {row old now : List ℕ} (j : Joining words i a row old now) where
  pub joining-end : i ≡ words → RowJoined words a (bit_at row) old now
  joining-end e = record { cells = λ c b h. go c b h (tested (eqb c a)) }
    where
      go : (c b : ℕ) → b < 64 * words → Tested (eqb c a) → cell words now c b ≡ (cell words old c b || (eqb c a && bit_at row b))
      go c b h (holds t) = rw (t, eqb-true c a t) (j.done b (omega arith))
      go c b h (fails t) = rw (t, or-false) (j.others c b h (λ same. absurd (eqb-false c a t same)))

  pub joining-more : i < words → a * words + i < length now
      → Joining words (i + 1) a row old (set now (a * words + i) (bit_or (get_or now (a * words + i) 0) (get_or row i 0)))
  unfolding bit_at
  joining-more h within =
      record {
        done =
            λ b g.
            after-word words now a i (bit_or (get_or now (a * words + i) 0) (get_or row i 0)) h within
            (λ t. t ≡ (cell words old a b || bit_at row b)) a b (omega arith) (λ _ k. joined b k (omega arith))
            (λ apart. j.done b (let d = apart refl in omega arith));
        others =
            λ c b g f.
            after-word words now a i (bit_or (get_or now (a * words + i) 0) (get_or row i 0)) h within (λ t. t ≡ cell words old c b) c b g
            (λ e k. absurd (let d = f e in omega arith))
            (λ _. j.others c b g (λ e. let d = f e in omega arith));
      }
    where
      -- a bit of the word that is stored
      joined : (b : ℕ) → b / 64 ≡ i → b < 64 * words
          → bit (bit_or (get_or now (a * words + i) 0) (get_or row i 0)) (b % 64) ≡ (cell words old a b || bit (get_or row (b / 64) 0) (b % 64))
      joined b k below =
          bit-or (get_or now (a * words + i) 0) (get_or row i 0) (b % 64)
          ∙ rw (← k)
          (ap (λ (t : Bool). t || bit (get_or row (b / 64) 0) (b % 64)) (sym (cell-word words now a b) ∙ j.others a b below (λ _. omega arith)))

-- Rows joined one after the other, each with its set.
pub rows_none : {words : ℕ} {sets : ℕ → ℕ → Bool} {old : List ℕ} → RowsJoined words 0 sets old old
rows_none = record { rows = λ a b h g. absurd (omega arith); rest = λ a b h g. refl }

pub rows_more : {words i : ℕ} {sets : ℕ → ℕ → Bool} {old now new : List ℕ} → RowsJoined words i sets old now → RowJoined words i (sets i) now new
    → RowsJoined words (i + 1) sets old new
rows_more {words} {i} {sets} {old} {now} {new} j k =
    record {
      rows = λ a b h g. go a b h g (tested (eqb a i));
      rest = λ a b h g. k.cells a b g ∙ rw (ne_eqb a i (λ e. omega arith), or-false) (j.rest a b (omega arith) g);
    }
  where
    go : (a b : ℕ) → a < i + 1 → b < 64 * words → Tested (eqb a i) → cell words new a b ≡ (cell words old a b || sets a b)
    go a b h g (holds e) = k.cells a b g ∙ rw (e, eqb-true a i e, j.rest i b (omega arith) g)
    go a b h g (fails e) = let d = eqb-false a i e in k.cells a b g ∙ rw (e, or-false) (j.rows a b (omega arith) g)

-- Rows joined with the same sets.
pub rows_same : {words n : ℕ} {sets : ℕ → ℕ → Bool} {old new : List ℕ} (sets' : ℕ → ℕ → Bool)
    → ((a b : ℕ) → b < 64 * words → sets a b ≡ sets' a b) → RowsJoined words n sets old new → RowsJoined words n sets' old new
rows_same sets' same j = record { rows = λ a b h g. rw (← same a b g) (j.rows a b h g); rest = j.rest }

-- A row joined with the same set, with nothing, and with one number.
pub row_same : {words a : ℕ} {set : ℕ → Bool} {old new : List ℕ} (set' : ℕ → Bool) → ((b : ℕ) → b < 64 * words → set b ≡ set' b)
    → RowJoined words a set old new → RowJoined words a set' old new
row_same set' same j = record { cells = λ c b h. rw (← same b h) (j.cells c b h) }

pub row-left : (words a : ℕ) (matrix : List ℕ) {set : ℕ → Bool} → ((b : ℕ) → set b ≡ false) → RowJoined words a set matrix matrix
row-left words a matrix none = record { cells = λ c b h. rw (none b, and-false, or-false) }

pub row_one : (words a y : ℕ) {old new : List ℕ} → y < 64 * words → Inserted (a * (64 * words) + y) old new → RowJoined words a (λ b. eqb b y) old new
row_one words a y {old} {new} column k =
    record {
      cells =
          λ c b h.
          rw (k.bits (c * (64 * words) + b), cell-eqb (64 * words) c b a y h column) (or_comm (eqb c a && eqb b y) (cell words old c b));
    }

-- A copied row: one word more, and its bits.
pub copied_more : (matrix row : List ℕ) (k i : ℕ) → k + i < length matrix → i < length row
    → set (take i (drop k matrix) ++ drop i row) i (get_or matrix (k + i) 0) ≡ take (i + 1) (drop k matrix) ++ drop (i + 1) row
copied_more matrix row k i h g =
    rw (add-one, ← get_or-drop k matrix i 0) (simp zero-add at (paste-suc row 0 (drop k matrix) i 0 (rw zero-add g) (simp length-drop (omega arith))))

pub row_copied : {row' : List ℕ} (words : ℕ) (matrix row : List ℕ) (a : ℕ) → a * words + words ≤ length matrix
    → row' ≡ take words (drop (a * words) matrix) ++ drop words row → (b : ℕ) → b < 64 * words → bit_at row' b ≡ cell words matrix a b
unfolding bit_at
row_copied {row'} words matrix row a within copied b h =
    let size : length (take words (drop (a * words) matrix)) ≡ words = simp (length-take, length-drop) (omega arith) in
    let word : get_or row' (b / 64) 0 ≡ get_or matrix (a * words + b / 64) 0 =
    ap (λ (l : List ℕ). get_or l (b / 64) 0) copied
    ∙ get_or-append (take words (drop (a * words) matrix)) (drop words row) 0 (b / 64) (omega arith)
    ∙ get_or-take words (drop (a * words) matrix) (b / 64) 0 (omega arith)
    ∙ get_or-drop (a * words) matrix (b / 64) 0 in
    ap (λ (w : ℕ). bit w (b % 64)) word ∙ sym (cell-word words matrix a b)

-- Rows whose words were cleared hold nothing.
pub rows-cleared : (words n : ℕ) (matrix : List ℕ) → Holds words n (λ _ _. false) (cleared (n * words) matrix)
unfolding bit_at
rows-cleared words n matrix a b row column =
    cell-word words (cleared (n * words) matrix) a b
    ∙ bit-none (get_or (cleared (n * words) matrix) (a * words + b / 64) 0) (b % 64)
    (get_or-append (replicate (n * words) 0) (drop (n * words) matrix) 0 (a * words + b / 64) (rw length-replicate below)
    ∙ get_or-replicate (n * words) (a * words + b / 64) 0 0 below)
  where
    below : a * words + b / 64 < n * words
    below = cell_below words n a (b / 64) row (omega arith)

-- One bit set to a value.
pub stored-true : {k : ℕ} {old new : List ℕ} → Inserted k old new → Stored k true old new
stored-true {k} {old} i =
    record { there = i.bits k ∙ rw (eq-eqb k k refl); others = λ j d. i.bits j ∙ rw (ne_eqb j k d) }

pub stored-false : {k : ℕ} {old new : List ℕ} → Removed k old new → Stored k false old new
stored-false {k} {old} r =
    record { there = r.bits k ∙ rw (eq-eqb k k refl); others = λ j d. r.bits j ∙ rw (ne_eqb j k d) }
