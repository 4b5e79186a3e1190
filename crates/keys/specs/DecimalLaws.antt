-- Laws of decimal digits. Assumes nothing.
use Rattle.std.specs.Prelude.{ℕ, zero, suc, ◌+◌, ◌*◌, ◌/◌, ◌%◌, ◌^◌, ◌≤◌, ◌<◌, ◌≡◌, refl, true, false, List, [], ◌∷◌, ◌++◌, ltb, length}
use Rattle.std.proofs.Common.{arith, pow-suc, sym, ap, ◌∙◌, length-append, lt-ltb, le-ltb, ltb-true, ltb-false}
use Rattle.std.specs.Fmt.{decimal as written}
use Rattle.std.proofs.lemmas.Fmt.{decimal_by_steps}
use Rattle.laws.specs.Lists.{Tested, holds, fails, tested}
use Rattle.rules.specs.Keys.{digit, digits_within, decimal}

within-small : (depth n : ℕ) → ltb n 10 ≡ true → digits_within (suc depth) n ≡ digit n ∷ []
unfolding digits_within
within-small depth n e = rw (e, digits_within)

within-large : (depth n : ℕ) → ltb n 10 ≡ false → digits_within (suc depth) n ≡ digits_within depth (n / 10) ++ (digit (n % 10) ∷ [])
unfolding digits_within
within-large depth n e = rw (e, digits_within)

-- Any depth above the number is enough.
enough : (one other n : ℕ) → n < one → n < other → digits_within one n ≡ digits_within other n
enough zero other n h k = absurd (omega arith)
enough (suc one) zero n h k = absurd (omega arith)
enough (suc one) (suc other) n h k = go (tested (ltb n 10)) (enough one other (n / 10))
  where
    go : Tested (ltb n 10) → (n / 10 < one → n / 10 < other → digits_within one (n / 10) ≡ digits_within other (n / 10))
        → digits_within (suc one) n ≡ digits_within (suc other) n
    go (holds e) more = within-small one n e ∙ sym (within-small other n e)
    go (fails e) more =
        let large = ltb-false n 10 e in
        rw (within-large one n e, within-large other n e, more (omega arith) (omega arith)) refl

pub decimal-small : (n : ℕ) → n < 10 → decimal n ≡ digit n ∷ []
unfolding decimal
decimal-small n h = within-small n n (lt-ltb n 10 h)

pub decimal-large : (n : ℕ) → 10 ≤ n → decimal n ≡ decimal (n / 10) ++ (digit (n % 10) ∷ [])
unfolding decimal
decimal-large n h =
    within-large n n (le-ltb n 10 h)
    ∙ ap (λ (l : List ℕ). l ++ (digit (n % 10) ∷ [])) (enough n (suc (n / 10)) (n / 10) (omega arith) (omega arith))

pub length-small : (n : ℕ) → n < 10 → length (decimal n) ≡ 1
length-small n h = ap length (decimal-small n h)

pub length-large : (n : ℕ) → 10 ≤ n → length (decimal n) ≡ length (decimal (n / 10)) + 1
length-large n h = ap length (decimal-large n h) ∙ simp length-append

-- A number below a power of 10 has no more digits than the power says.
pub decimal-most : (k n : ℕ) → n < 10 ^ suc k → length (decimal n) ≤ suc k
decimal-most zero n h = omega (arith, length-small n h)
decimal-most (suc k) n h = go (tested (ltb n 10)) (decimal-most k (n / 10))
  where
    go : Tested (ltb n 10) → (n / 10 < 10 ^ suc k → length (decimal (n / 10)) ≤ suc k) → length (decimal n) ≤ suc (suc k)
    go (holds e) more = omega (arith, length-small n (ltb-true n 10 e))
    go (fails e) more =
        let large = ltb-false n 10 e in
        let below : n < 10 ^ suc k * 10 = rw pow-suc at h in
        omega (arith, length-large n large, more (omega arith))

-- The digits that the library writes of a number of 64 bits are the paper's.
pub decimal-written : (n : ℕ) → n < 2 ^ 64 → written n ≡ decimal n
decimal-written =
    decimal_by_steps (λ n ds. ds ≡ decimal n) (λ n h. sym (decimal-small n h))
    (λ n ds h e. ap (λ (l : List ℕ). l ++ (digit (n % 10) ∷ [])) e ∙ sym (decimal-large n h))
