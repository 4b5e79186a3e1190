-- Further laws on tests and lists: single members, joined lists and their length, lists whose members are below a bound. Assumes nothing.
use Rattle.std.specs.Prelude.{ℕ, ◌*◌, ◌≤◌, ◌<◌, ◌≡◌, Bool, true, false, ◌||◌, length}
use native.Mathlib.Omega.{arith}
use Rattle.std.proofs.Math.Nat.{suc-mul}
use Rattle.std.proofs.Math.Path.{refl, subst⁻¹}
use Rattle.std.proofs.Common.{sym, subst, ◌∙◌}
use Rattle.std.proofs.Math.Logic.{⊎_elim}
use mathlib.Core.List.Memᴰ
use mathlib.Core.List.{List, [], ◌∷◌, tail, flat_map, flatten}
use Rattle.std.proofs.Math.ListN.{length-append}
use Rattle.rules.specs.Lists.{is_empty, any, up_from, keep, cons_if}
use Rattle.laws.specs.Lists.{◌∈◌, false≢true, Tested, holds, fails, tested, any_false, ∈-append, ∈-left, ∈-right, ∈-self, Once, once-length, ∈-up_from, length-up_from}

pub neither : {a b : Bool} → (a || b) ≡ false → (a ≡ false) × (b ≡ false)
neither {a = true} e = absurd (false≢true (sym e))
neither {a = false} e = (refl, e)

module _ {A : Type 0} where
  pub none_passes : (test : A → Bool) {l : List A} {x : A} → any test l ≡ false → x ∈ l → test x ≡ false
  none_passes test {l} {x} e m = go (tested (test x))
    where
      go : Tested (test x) → test x ≡ false
      go (holds t) = absurd (any_false test e m t)
      go (fails t) = t

  pub is_empty_false : (l : List A) → is_empty l ≡ false → (x : A) × (x ∈ l)
  unfolding is_empty
  is_empty_false [] e = absurd (false≢true (sym e))
  is_empty_false (x ∷ l) e = (x, ∈-self)

  pub ∈-is_empty : {l : List A} {x : A} → x ∈ l → is_empty l ≡ false
  unfolding is_empty
  ∈-is_empty (Memᴰ.head e) = refl
  ∈-is_empty (Memᴰ.tail m) = refl

  pub no_member : (l : List A) → ((x : A) → x ∈ l → ⊥) → l ≡ []
  no_member [] f = refl
  no_member (x ∷ l) f = absurd (f x ∈-self)

  pub ∈-rest : {x y : A} {l : List A} → (x ≡ y → ⊥) → x ∈ y ∷ l → x ∈ l
  ∈-rest f m = ⊎_elim (λ e. absurd (f e)) (λ h. h) (Memᴰ.cases_cons m)

  pub tail-∈ : (l : List A) {x : A} → x ∈ tail l → x ∈ l
  tail-∈ [] m = m
  tail-∈ (y ∷ l) m = Memᴰ.tail m

-- Membership in lists that are joined.
module _ {A B : Type 0} (f : A → List B) where
  pub flat_map-∈ : (l : List A) {y : B} → y ∈ flat_map f l → (x : A) × (x ∈ l) × (y ∈ f x)
  unfolding flat_map
  flat_map-∈ [] m = absurd (Memᴰ.not-nil m)
  flat_map-∈ (x ∷ l) m =
      ⊎_elim (λ h. (x, ∈-self, h)) (λ h. let r = flat_map-∈ l h in (r.0, Memᴰ.tail r.1, r.2)) (∈-append (f x) m)

  pub ∈-flat_map : {x : A} {l : List A} {y : B} → x ∈ l → y ∈ f x → y ∈ flat_map f l
  unfolding flat_map
  ∈-flat_map {y = y} (Memᴰ.head {xs = l} e) m = ∈-left (flat_map f l) (subst (λ (x : A). y ∈ f x) e m)
  ∈-flat_map (Memᴰ.tail {x = x} h) m = ∈-right (f x) (∈-flat_map h m)

  pub flat_map-length : (k : ℕ) (l : List A) → ((x : A) → x ∈ l → length (f x) ≤ k) → length (flat_map f l) ≤ length l * k
  unfolding flat_map
  flat_map-length k [] h = omega arith
  flat_map-length k (x ∷ l) h =
      omega (arith, length-append (f x) (flat_map f l), suc-mul (length l) k, h x ∈-self, flat_map-length k l (λ y m. h y (Memᴰ.tail m)))

pub flatten-flat_map : {A : Type 0} (ls : List (List A)) → flatten ls ≡ flat_map (λ l. l) ls
unfolding flatten flat_map
flatten-flat_map [] = refl
flatten-flat_map (l ∷ ls) = rw (flatten-flat_map ls)

-- The members of a list, and of each list, are below a bound.
abbrev pub Below : ℕ → List ℕ → Type 0
Below bound l = (x : ℕ) → x ∈ l → x < bound

abbrev pub EachBelow : ℕ → List (List ℕ) → Type 0
EachBelow bound ls = (l : List ℕ) → l ∈ ls → Below bound l

pub below-nil : {bound : ℕ} → Below bound []
below-nil x m = absurd (Memᴰ.not-nil m)

pub below-cons : {bound y : ℕ} {l : List ℕ} → y < bound → Below bound l → Below bound (y ∷ l)
below-cons {bound} h b x m = ⊎_elim (λ e. subst⁻¹ (λ (z : ℕ). z < bound) e h) (b x) (Memᴰ.cases_cons m)

pub each-cons : {bound : ℕ} {l : List ℕ} {ls : List (List ℕ)} → Below bound l → EachBelow bound ls → EachBelow bound (l ∷ ls)
each-cons {bound} b bs k m = ⊎_elim (λ e. subst⁻¹ (Below bound) e b) (bs k) (Memᴰ.cases_cons m)

-- A list whose members are below a bound and stand once is no longer than the bound.
pub below_length : {bound : ℕ} {l : List ℕ} → Once l → Below bound l → length l ≤ bound
below_length {bound} {l} o b =
    let r : length l ≤ length (up_from 0 bound) = once-length (up_from 0 bound) o (λ x m. ∈-up_from 0 bound (omega arith) (omega (arith, b x m))) in
    omega (arith, length-up_from 0 bound)

module _ {A : Type 0} where
  pub empty-∈ : {l : List A} {x : A} → is_empty l ≡ true → x ∈ l → ⊥
  empty-∈ e m = false≢true (sym (∈-is_empty m) ∙ e)

  pub keep_all : (test : A → Bool) (l : List A) → ((x : A) → x ∈ l → test x ≡ true) → keep test l ≡ l
  unfolding keep cons_if
  keep_all test [] f = refl
  keep_all test (x ∷ l) f = rw (f x ∈-self, keep_all test l (λ y m. f y (Memᴰ.tail m)))

  pub keep_same : (f g : A → Bool) (l : List A) → ((x : A) → x ∈ l → f x ≡ g x) → keep f l ≡ keep g l
  unfolding keep
  keep_same f g [] same = refl
  keep_same f g (x ∷ l) same = rw (same x ∈-self, keep_same f g l (λ y m. same y (Memᴰ.tail m)))
