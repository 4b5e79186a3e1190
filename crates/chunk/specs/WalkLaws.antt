-- Laws for the proofs of src/walk.rt. Assumes nothing.
use Rattle.std.specs.Prelude.{ℕ, suc, ◌+◌, ◌<◌, ◌≡◌, refl, true, false, eqb, List, [], ◌∷◌, ◌++◌, length, take, set}
use Rattle.std.proofs.Common.{arith, add-one, sym, take-suc-set}
use Rattle.std.proofs.lemmas.Bool.{ne_eqb}
use Rattle.std.proofs.Math.Seq.{append_snoc}
use Rattle.rules.specs.Lists.{is_empty, up_from}
use Rattle.lists.specs.Stacks.{stack}
use Rattle.lists.specs.StackLaws.{stack_push}

-- A list is empty by its length.
pub empty-none : (l : List ℕ) → length l ≡ 0 → is_empty l ≡ true
unfolding is_empty
empty-none [] h = refl
empty-none (x ∷ l) h = absurd (omega arith)

pub empty-some : (l : List ℕ) → 0 < length l → is_empty l ≡ false
unfolding is_empty
empty-some [] h = absurd (omega arith)
empty-some (x ∷ l) h = refl

pub empty-length : (l : List ℕ) → is_empty l ≡ eqb (length l) 0
unfolding is_empty
empty-length [] = refl
empty-length (x ∷ l) = sym (ne_eqb (suc (length l)) 0 (λ e. omega (arith, e)))

-- The list is filled from below, the largest number first.
pub fill_more : (a : List ℕ) (n m : ℕ) → n < length a → stack a n ≡ up_from (m + 1) n → stack (set a n m) (n + 1) ≡ up_from m (n + 1)
unfolding up_from
fill_more a n m g e = rw (stack_push a n m g, e, add-one m, add-one n)

-- A group: its count behind the groups before it, then its members.
pub group-written : (a after members : List ℕ) (used : ℕ) → used < length a → take (used + 1 + length members) after ≡ take (used + 1) (set a used (length members)) ++ members
    → take (used + 1 + length members) after ≡ take used a ++ (length members ∷ members)
group-written a after members used h e = rw (e, add-one, take-suc-set a used (length members) h) (append_snoc (take used a) (length members) members)
