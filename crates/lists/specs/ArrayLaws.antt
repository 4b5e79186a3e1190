-- Laws of arrays, whose contents are lists. Assumes nothing.
use Rattle.std.specs.Prelude.{ℕ, zero, suc, ◌<◌, ◌≡◌, refl, List, eqb, length, get_or, set, replicate}
use Rattle.std.proofs.lemmas.List.{length-replicate, ext_get_or}
use Rattle.std.proofs.Common.{sym, ◌∙◌, get_or-set_same, get_or-set_other, eqb-true}
use Rattle.std.proofs.lemmas.Bool.{eqb-false}
use Rattle.laws.specs.Lists.{Tested, holds, fails, tested}
use Rattle.lists.specs.Arrays.{Zeros}

get_or-zeros : (n i : ℕ) → get_or {A = ℕ} (replicate n 0) i 0 ≡ 0
get_or-zeros zero i = refl
get_or-zeros (suc n) zero = refl
get_or-zeros (suc n) (suc i) = get_or-zeros n i

pub zeros-replicate : (n : ℕ) → Zeros n (replicate n 0)
zeros-replicate n = record { size = length-replicate n 0; zeros = get_or-zeros n }

pub zeros-whole : (n : ℕ) (l : List ℕ) → Zeros n l → l ≡ replicate n 0
zeros-whole n l z = ext_get_or 0 l (replicate n 0) (z.size ∙ sym (length-replicate n 0)) (λ i _. z.zeros i ∙ sym (get_or-zeros n i))

-- What stands at j after a store at i: what was stored, where j is i, else what was there.
pub after-set : {A : Type 0} (P : A → Type 0) (l : List A) (i j : ℕ) (x d : A) → i < length l → (j ≡ i → P x) → ((j ≡ i → ⊥) → P (get_or l j d)) → P (get_or (set l i x) j d)
after-set P l i j x d h f g = go (tested (eqb j i))
  where
    go : Tested (eqb j i) → P (get_or (set l i x) j d)
    go (holds e) = rw (eqb-true j i e, get_or-set_same l i x d h) (f (eqb-true j i e))
    go (fails e) = rw (get_or-set_other l i j x d (eqb-false j i e)) (g (eqb-false j i e))
