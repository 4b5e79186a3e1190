-- Laws of bits: of the operations on words, and of rows of words. Assumes nothing.
use Prim.Native.Nat.{ℕ, zero, suc, ◌+◌, ◌*◌, ◌-◌, ◌/◌, ◌%◌, ◌^◌, ◌<◌, min, max}
use Rattle.std.proofs.Common.{arith, one-mul, mod-eq_of_lt, suc-mul, mul-le-mul_right, sym, ◌∙◌, length-set, get_or-set_other, pow_pos, shl_exact}
use Rattle.std.proofs.Math.Nat.{pow-succ', div-div-eq-div-mul, mul-add-div_right, mul-add-mod_self_right, div-eq_of_lt}
use Rattle.std.specs.Prelude.{◌≡◌, refl, Bool, true, not, ◌&&◌, ◌||◌, List, length, get_or, set}
use Rattle.std.proofs.Math.Path.{ap}
use Rattle.std.proofs.Math.Bool.{false, and_comm, or_comm}
use Rattle.std.proofs.Math.Dec.{eqb, eqb-suc-suc, eqb-zero-suc, eqb-suc-zero}
use Rattle.std.proofs.Math.Seq.{get_or-set_same}
use Rattle.std.proofs.Math.Pow.{pow-lt}
use Rattle.std.specs.Int.Bits.{bit_and, bit_or, and_step, or_step}
use Rattle.std.specs.Int.Count.{count_trailing_zeros, under}
use borrow.Author.Tests.{eqb-true, eqb-false, eq-eqb, ne_eqb}
use Rattle.laws.specs.Lists.{Tested, holds, fails, tested}
use Rattle.lists.specs.Bits.{bit, bit_at, Inserted, Removed}
use Rattle.lists.specs.Arrays.{Zeros}

-- a digit is 0 or 1
data Digit : ℕ → Type 0 where
  zero-digit : {n : ℕ} → n ≡ 0 → Digit n
  one-digit : {n : ℕ} → n ≡ 1 → Digit n

digit : (n : ℕ) → n < 2 → Digit n
digit zero h = zero-digit refl
digit (suc zero) h = one-digit refl
digit (suc (suc n)) h = absurd (omega arith)

last-digit : (w : ℕ) → Digit (w % 2)
last-digit w = digit (w % 2) (omega arith)

-- Bit i is the last one of the word shifted by i.
pub bit-shift : (w i : ℕ) → eqb (w / 2 ^ i % 2) 1 ≡ bit w i
unfolding bit
bit-shift w zero = let e : w / 1 ≡ w = omega arith in ap (λ (x : ℕ). eqb (x % 2) 1) e
bit-shift w (suc i) =
    let e : w / 2 ^ suc i ≡ w / 2 / 2 ^ i = ap (λ (x : ℕ). w / x) (pow-succ' 2 i) ∙ sym (div-div-eq-div-mul w 2 (2 ^ i)) in
    ap (λ (x : ℕ). eqb (x % 2) 1) e ∙ bit-shift (w / 2) i

-- A word by its last digit and the rest.
module _ (w rest digit : ℕ) (below : digit < 2) (e : w ≡ rest * 2 + digit) where
  last_of : w % 2 ≡ digit
  last_of = omega arith

  rest_of : w / 2 ≡ rest
  rest_of = omega arith

-- An operation that goes digit by digit does so on bits: a test on digits that says what it does there is the one on bits.
module _ (op f : ℕ → ℕ → ℕ) (test : Bool → Bool → Bool) (step : (a b : ℕ) → op a b ≡ op (a / 2) (b / 2) * 2 + f (a % 2) (b % 2))
    (digits : (x y : ℕ) → Digit x → Digit y → (f x y < 2) × (eqb (f x y) 1 ≡ test (eqb x 1) (eqb y 1))) where
  bit-wise : (a b j : ℕ) → bit (op a b) j ≡ test (bit a j) (bit b j)
  unfolding bit
  bit-wise a b zero =
      let d = digits (a % 2) (b % 2) (last-digit a) (last-digit b) in
      ap (λ (x : ℕ). eqb x 1) (last_of (op a b) (op (a / 2) (b / 2)) (f (a % 2) (b % 2)) d.0 (step a b)) ∙ d.1
  bit-wise a b (suc j) =
      let d = digits (a % 2) (b % 2) (last-digit a) (last-digit b) in
      ap (λ (x : ℕ). bit x j) (rest_of (op a b) (op (a / 2) (b / 2)) (f (a % 2) (b % 2)) d.0 (step a b)) ∙ bit-wise (a / 2) (b / 2) j

both-digits : (P : ℕ → ℕ → Type 0) → P 0 0 → P 0 1 → P 1 0 → P 1 1 → (x y : ℕ) → Digit x → Digit y → P x y
both-digits P a b c d x y (zero-digit e) (zero-digit f) = rw (e, f) a
both-digits P a b c d x y (zero-digit e) (one-digit f) = rw (e, f) b
both-digits P a b c d x y (one-digit e) (zero-digit f) = rw (e, f) c
both-digits P a b c d x y (one-digit e) (one-digit f) = rw (e, f) d

pub bit-or : (a b j : ℕ) → bit (bit_or a b) j ≡ (bit a j || bit b j)
bit-or =
    bit-wise bit_or max ◌||◌ or_step
    (both-digits (λ x y. (max x y < 2) × (eqb (max x y) 1 ≡ (eqb x 1 || eqb y 1))) (omega arith, refl) (omega arith, refl) (omega arith, refl) (omega arith, refl))

pub bit-and : (a b j : ℕ) → bit (bit_and a b) j ≡ (bit a j && bit b j)
bit-and =
    bit-wise bit_and min ◌&&◌ and_step
    (both-digits (λ x y. (min x y < 2) × (eqb (min x y) 1 ≡ (eqb x 1 && eqb y 1))) (omega arith, refl) (omega arith, refl) (omega arith, refl) (omega arith, refl))

pub bit-zero : (j : ℕ) → bit 0 j ≡ false
unfolding bit
bit-zero zero = refl
bit-zero (suc j) = bit-zero j

pub bit-power : (i j : ℕ) → bit (2 ^ i) j ≡ eqb j i
unfolding bit
bit-power zero zero = refl
bit-power zero (suc j) = bit-zero j ∙ sym (eqb-suc-zero j)
bit-power (suc i) zero =
    let e : 2 ^ suc i % 2 ≡ 0 = omega (arith, pow-succ' 2 i) in
    ap (λ (x : ℕ). eqb x 1) e ∙ sym (eqb-zero-suc i)
bit-power (suc i) (suc j) =
    let e : 2 ^ suc i / 2 ≡ 2 ^ i = omega (arith, pow-succ' 2 i) in
    ap (λ (x : ℕ). bit x j) e ∙ bit-power i j ∙ sym (eqb-suc-suc j i)

-- the word of k bits that holds what another does not
pub bit_not : (k a j : ℕ) → a < 2 ^ k → j < k → bit (2 ^ k - 1 - a) j ≡ not (bit a j)
unfolding bit
bit_not zero a j h g = absurd (omega arith)
bit_not (suc k) a zero h g = go (last-digit a)
  where
    go : Digit (a % 2) → eqb ((2 ^ suc k - 1 - a) % 2) 1 ≡ not (eqb (a % 2) 1)
    go (zero-digit e) = let f : (2 ^ suc k - 1 - a) % 2 ≡ 1 = omega (arith, pow-succ' 2 k, pow_pos k) in rw (e, f)
    go (one-digit e) = let f : (2 ^ suc k - 1 - a) % 2 ≡ 0 = omega (arith, pow-succ' 2 k, pow_pos k) in rw (e, f)
bit_not (suc k) a (suc j) h g =
    let e : (2 ^ suc k - 1 - a) / 2 ≡ 2 ^ k - 1 - a / 2 = omega (arith, pow-succ' 2 k, pow_pos k) in
    let f : a / 2 < 2 ^ k = omega (arith, pow-succ' 2 k) in
    ap (λ (x : ℕ). bit x j) e ∙ bit_not k (a / 2) j f (omega arith)

-- A word that is 0 holds nothing.
pub bit-none : (w j : ℕ) → w ≡ 0 → bit w j ≡ false
bit-none w j e = ap (λ (x : ℕ). bit x j) e ∙ bit-zero j

-- The place of its lowest digit that is set is a number that it holds.
pub bit-trailing : (k w : ℕ) → 0 < w → w < 2 ^ k → (count_trailing_zeros k w < k) × (bit w (count_trailing_zeros k w) ≡ true)
unfolding bit count_trailing_zeros
bit-trailing zero w h g = absurd (omega arith)
bit-trailing (suc k) w h g = go (last-digit w) (λ e. bit-trailing k (w / 2) (omega arith) (omega (arith, pow-succ' 2 k)))
  where
    go : Digit (w % 2) → (w % 2 ≡ 0 → (count_trailing_zeros k (w / 2) < k) × (bit (w / 2) (count_trailing_zeros k (w / 2)) ≡ true))
        → (under (w % 2) (count_trailing_zeros k (w / 2)) < suc k) × (bit w (under (w % 2) (count_trailing_zeros k (w / 2))) ≡ true)
    go (one-digit e) f = rw e (omega arith, rw e refl)
    go (zero-digit e) f = let r = f e in rw e (omega (arith, r.0), r.1)

-- Digits whose tests agree are equal.
same-digit : (x y : ℕ) → x < 2 → y < 2 → eqb x 1 ≡ eqb y 1 → x ≡ y
same-digit x y h g s = go (tested (eqb x 1))
  where
    go : Tested (eqb x 1) → x ≡ y
    go (holds e) = eqb-true x 1 e ∙ sym (eqb-true y 1 (sym s ∙ e))
    go (fails e) = let no-x = eqb-false x 1 e in let no-y = eqb-false y 1 (sym s ∙ e) in omega arith

-- Words with the same bits are equal.
bit-same : (k v w : ℕ) → v < 2 ^ k → w < 2 ^ k → ((j : ℕ) → j < k → bit v j ≡ bit w j) → v ≡ w
unfolding bit
bit-same zero v w h g same = omega arith
bit-same (suc k) v w h g same =
    let digits : v % 2 ≡ w % 2 = same-digit (v % 2) (w % 2) (omega arith) (omega arith) (same 0 (omega arith)) in
    let halves : v / 2 ≡ w / 2 =
    bit-same k (v / 2) (w / 2) (omega (arith, pow-succ' 2 k)) (omega (arith, pow-succ' 2 k)) (λ j l. same (suc j) (omega arith)) in
    omega arith

-- A word is less without a number that it holds.
pub bit-less : (k v w i : ℕ) → v < 2 ^ k → w < 2 ^ k → i < k → bit w i ≡ true → ((j : ℕ) → j < k → bit v j ≡ (not (eqb j i) && bit w j)) → v < w
unfolding bit
bit-less zero v w i h g l held bits = absurd (omega arith)
bit-less (suc k) v w zero h g l held bits =
    let last : w % 2 ≡ 1 = eqb-true (w % 2) 1 held in
    let none = eqb-false (v % 2) 1 (bits 0 (omega arith)) in
    let halves : v / 2 ≡ w / 2 =
    bit-same k (v / 2) (w / 2) (omega (arith, pow-succ' 2 k)) (omega (arith, pow-succ' 2 k))
    (λ j m. bits (suc j) (omega arith) ∙ ap (λ (t : Bool). not t && bit (w / 2) j) (eqb-suc-zero j)) in
    omega arith
bit-less (suc k) v w (suc i) h g l held bits =
    let digits : v % 2 ≡ w % 2 =
    same-digit (v % 2) (w % 2) (omega arith) (omega arith) (bits 0 (omega arith) ∙ ap (λ (t : Bool). not t && eqb (w % 2) 1) (eqb-zero-suc i)) in
    let halves : v / 2 < w / 2 =
    bit-less k (v / 2) (w / 2) i (omega (arith, pow-succ' 2 k)) (omega (arith, pow-succ' 2 k)) (omega arith) held
    (λ j m. bits (suc j) (omega arith) ∙ ap (λ (t : Bool). not t && bit (w / 2) j) (eqb-suc-suc j i)) in
    omega arith

-- A word with one bit set, and with one bit cleared, as the code computes them.
one_shifted : (i : ℕ) → i < 64 → 1 * 2 ^ i % 2 ^ 64 ≡ 2 ^ i
one_shifted i h = shl_exact 1 i 64 (omega arith) (omega arith) ∙ one-mul (2 ^ i)

pub bit-with : (w i j : ℕ) → i < 64 → bit (bit_or w (1 * 2 ^ i % 2 ^ 64)) j ≡ (eqb j i || bit w j)
bit-with w i j h = rw (one_shifted i h, bit-or, bit-power) (or_comm (bit w j) (eqb j i))

pub bit-without : (w i j : ℕ) → i < 64 → j < 64 → bit (bit_and w (2 ^ 64 - 1 - 1 * 2 ^ i % 2 ^ 64)) j ≡ (not (eqb j i) && bit w j)
bit-without w i j h g =
    rw (one_shifted i h, bit-and, bit_not 64 (2 ^ i) j (pow-lt h) g, bit-power) (and_comm (bit w j) (not (eqb j i)))

-- Two equations that follow from each other have the same test.
eqb_same : (a b c d : ℕ) → (a ≡ b → c ≡ d) → (c ≡ d → a ≡ b) → eqb a b ≡ eqb c d
eqb_same a b c d f g = go (tested (eqb a b))
  where
    go : Tested (eqb a b) → eqb a b ≡ eqb c d
    go (holds e) = e ∙ sym (eq-eqb c d (f (eqb-true a b e)))
    go (fails e) = e ∙ sym (ne_eqb c d (λ h. eqb-false a b e (g h)))

-- Rows. Bit k is the last one of its word shifted.
pub row-shift : (words : List ℕ) (k : ℕ) → eqb (get_or words (k / 64) 0 / 2 ^ (k % 64) % 2) 1 ≡ bit_at words k
unfolding bit_at
row-shift words k = bit-shift (get_or words (k / 64) 0) (k % 64)

-- What a change of one bit of one word makes of the row. `change` gives the new bit from whether it is the one changed, and the old bit.
module _ (change : Bool → Bool → Bool) (stays : (b : Bool) → change false b ≡ b) (words : List ℕ) (k w : ℕ) (within : k / 64 < length words)
    (word : (i : ℕ) → i < 64 → bit w i ≡ change (eqb i (k % 64)) (bit (get_or words (k / 64) 0) i)) where
  row-change : (j : ℕ) → bit_at (set words (k / 64) w) j ≡ change (eqb j k) (bit_at words j)
  unfolding bit_at
  row-change j = go (tested (eqb (j / 64) (k / 64)))
    where
      go : Tested (eqb (j / 64) (k / 64)) → bit (get_or (set words (k / 64) w) (j / 64) 0) (j % 64) ≡ change (eqb j k) (bit (get_or words (j / 64) 0) (j % 64))
      go (holds e) =
          let q : j / 64 ≡ k / 64 = eqb-true (j / 64) (k / 64) e in
          let same : eqb (j % 64) (k % 64) ≡ eqb j k = eqb_same (j % 64) (k % 64) j k (λ h. omega arith) (λ h. omega arith) in
          rw (q, get_or-set_same words (k / 64) w 0 within, ← same) (word (j % 64) (omega arith))
      go (fails e) =
          let apart : eqb j k ≡ false = ne_eqb j k (λ h. eqb-false (j / 64) (k / 64) e (omega arith)) in
          rw (get_or-set_other words (k / 64) (j / 64) w 0 (eqb-false (j / 64) (k / 64) e), apart, stays)

-- Bit k put into a row and taken out of it, as the code computes its word.
module _ (words : List ℕ) (k : ℕ) (within : k < length words * 64) where
  pub row-insert : Inserted k words (set words (k / 64) (bit_or (get_or words (k / 64) 0) (1 * 2 ^ (k % 64) % 2 ^ 64)))
  row-insert =
      record {
        bits =
            row-change ◌||◌ (λ b. refl) words k (bit_or (get_or words (k / 64) 0) (1 * 2 ^ (k % 64) % 2 ^ 64)) (omega arith)
            (λ i h. bit-with (get_or words (k / 64) 0) (k % 64) i (omega arith));
        size = simp length-set;
      }

  pub row-remove : Removed k words (set words (k / 64) (bit_and (get_or words (k / 64) 0) (2 ^ 64 - 1 - 1 * 2 ^ (k % 64) % 2 ^ 64)))
  row-remove =
      record {
        bits =
            row-change (λ a b. not a && b) (λ b. refl) words k (bit_and (get_or words (k / 64) 0) (2 ^ 64 - 1 - 1 * 2 ^ (k % 64) % 2 ^ 64)) (omega arith)
            (λ i h. bit-without (get_or words (k / 64) 0) (k % 64) i (omega arith) h);
        size = simp length-set;
      }

-- A bit that is set may be set again.
pub row-held : (words : List ℕ) (k j : ℕ) → bit_at words k ≡ true → bit_at words j ≡ (eqb j k || bit_at words j)
row-held words k j e = go (tested (eqb j k))
  where
    go : Tested (eqb j k) → bit_at words j ≡ (eqb j k || bit_at words j)
    go (holds t) = rw t (ap (bit_at words) (eqb-true j k t) ∙ e)
    go (fails t) = rw t

-- A row of words that are all 0 holds nothing.
pub row-empty : {n : ℕ} {words : List ℕ} → Zeros n words → (k : ℕ) → bit_at words k ≡ false
unfolding bit_at
row-empty {n} {words} z k = bit-none (get_or words (k / 64) 0) (k % 64) (z.zeros (k / 64))

-- Rows of `width` bits, one behind the other: bit b of row a is bit a * width + b of the whole.
cell_row : (width a b : ℕ) → b < width → (a * width + b) / width ≡ a
cell_row width a b h = mul-add-div_right (omega arith) a b ∙ omega (arith, div-eq_of_lt h)

cell-column : (width a b : ℕ) → b < width → (a * width + b) % width ≡ b
cell-column width a b h = mul-add-mod_self_right a width b ∙ mod-eq_of_lt h

-- Different bits have different places.
pub cell-eqb : (width a b c d : ℕ) → b < width → d < width → eqb (a * width + b) (c * width + d) ≡ (eqb a c && eqb b d)
cell-eqb width a b c d h g = go (tested (eqb a c)) (tested (eqb b d))
  where
    apart : (a * width + b ≡ c * width + d → ⊥) → eqb (a * width + b) (c * width + d) ≡ false
    apart f = ne_eqb (a * width + b) (c * width + d) f

    go : Tested (eqb a c) → Tested (eqb b d) → eqb (a * width + b) (c * width + d) ≡ (eqb a c && eqb b d)
    go (holds e) (holds f) = rw (e, f) (eq-eqb (a * width + b) (c * width + d) (rw (eqb-true a c e, eqb-true b d f)))
    go (holds e) (fails f) =
        rw (e, f) (apart (λ same. eqb-false b d f (sym (cell-column width a b h) ∙ ap (λ (x : ℕ). x % width) same ∙ cell-column width c d g)))
    go (fails e) t = rw e (apart (λ same. eqb-false a c e (sym (cell_row width a b h) ∙ ap (λ (x : ℕ). x / width) same ∙ cell_row width c d g)))

-- The bits of the first rows stand below those of the next.
pub cell_below : (width rows a b : ℕ) → a < rows → b < width → a * width + b < rows * width
cell_below width rows a b h g = omega (arith, suc-mul a width, mul-le-mul_right width h)
