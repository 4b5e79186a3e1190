-- Laws of entries that pass a test, the last first. Assumes nothing.
use Rattle.std.specs.Prelude.{ℕ, ◌≤◌, ◌≡◌, Bool, true, false, length}
use Rattle.std.proofs.Common.{arith, refl, ap, ◌∙◌}
use mathlib.Core.List.{List, [], ◌∷◌, reverse, reverse-append}
use Rattle.std.proofs.lemmas.List.{length-reverse}
use Rattle.std.specs.List.{push}
use Rattle.rules.specs.Lists.{cons_if, keep}
use Rattle.laws.specs.Lists.{length-parts}

module _ (test : ℕ → Bool) where
  pub kept-taken : {rest : List ℕ} (l : List ℕ) (x : ℕ) → rest ≡ push l x → test x ≡ true → keep test (reverse rest) ≡ x ∷ keep test (reverse l)
  unfolding keep cons_if
  kept-taken l x e t =
      ap (λ (k : List ℕ). keep test (reverse k)) e ∙ ap (keep test) (reverse-append l (x ∷ [])) ∙ ap (λ (b : Bool). cons_if b x (keep test (reverse l))) t

  pub kept-passed : {rest : List ℕ} (l : List ℕ) (x : ℕ) → rest ≡ push l x → test x ≡ false → keep test (reverse rest) ≡ keep test (reverse l)
  unfolding keep cons_if
  kept-passed l x e t =
      ap (λ (k : List ℕ). keep test (reverse k)) e ∙ ap (keep test) (reverse-append l (x ∷ [])) ∙ ap (λ (b : Bool). cons_if b x (keep test (reverse l))) t

  pub kept-none : (rest : List ℕ) → length rest ≡ 0 → keep test (reverse rest) ≡ []
  unfolding keep
  kept-none [] e = refl
  kept-none (x ∷ rest) e = absurd (omega arith)

  pub kept-most : (l : List ℕ) → length (keep test (reverse l)) ≤ length l
  kept-most l = omega (arith, length-parts test (reverse l), length-reverse l)
