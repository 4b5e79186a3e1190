-- Laws on lists: membership, entries that stand once, counting. What the proofs of both walks share. Assumes nothing.
use Prim.Native.Nat.{ℕ, zero, suc, ◌+◌, ◌≤◌, ◌<◌}
use native.Mathlib.Omega.{arith}
use Rattle.std.specs.Prelude.{◌≡◌, ◌⊎◌, Bool, ◌&&◌, ◌||◌, eqb, length}
use Rattle.std.proofs.Math.Path.{refl, sym, ap, subst⁻¹}
use Rattle.std.proofs.Common.{subst, ◌∙◌, eqb-true, eq-eqb, ne_eqb}
use Rattle.std.proofs.Math.Logic.{inl, inr, ⊎_elim}
use Rattle.std.proofs.Math.Bool.{true, false, not}
use mathlib.Core.List.Memᴰ
use mathlib.Core.List.{List, [], ◌∷◌, ◌++◌, reverse, reverse-cons, Memᴰ}
use Rattle.std.proofs.lemmas.Bool.{eqb-false}
use Rattle.rules.specs.Lists.{is_empty, cons_if, keep, any, all, up_from, elem, append_new, different}

-- `x ∈ l`: the list holds x
infix 40 ◌∈◌
abbrev pub ◌∈◌ : {A : Type 0} → A → List A → Type 0
x ∈ l = Memᴰ x l

-- Tests.
pub false≢true : false ≡ true → ⊥
false≢true e = let z : ◌≡◌ {A = ℕ} 0 1 = cc in omega arith

pub both : {a b : Bool} → (a && b) ≡ true → (a ≡ true) × (b ≡ true)
both {a = true} e = (refl, e)
both {a = false} e = absurd (false≢true e)

pub either : {a b : Bool} → (a || b) ≡ true → (a ≡ true) ⊎ (b ≡ true)
either {a = true} e = inl refl
either {a = false} e = inr e

pub not-true : {a : Bool} → not a ≡ true → a ≡ false
not-true {a = true} e = absurd (false≢true e)
not-true {a = false} e = refl

pub or_right : (a : Bool) {b : Bool} → b ≡ true → (a || b) ≡ true
or_right true e = refl
or_right false e = e

-- A test with the equation of its outcome.
pub data Tested (b : Bool) : Type 0 where
  holds : b ≡ true → Tested b
  fails : b ≡ false → Tested b

pub tested : (b : Bool) → Tested b
tested true = holds refl
tested false = fails refl

pub eqb-sym : (a b : ℕ) → eqb a b ≡ eqb b a
eqb-sym a b = go (tested (eqb a b))
  where
    go : Tested (eqb a b) → eqb a b ≡ eqb b a
    go (holds e) = e ∙ sym (eq-eqb b a (sym (eqb-true a b e)))
    go (fails e) = e ∙ sym (ne_eqb b a (λ h. eqb-false a b e (sym h)))

-- Membership, as a type and as a test.
pub elem-true : {x : ℕ} (l : List ℕ) → elem x l ≡ true → x ∈ l
unfolding elem
elem-true [] e = absurd (false≢true e)
elem-true {x} (y ∷ l) e = ⊎_elim (λ h. Memᴰ.head (eqb-true x y h)) (λ h. Memᴰ.tail (elem-true l h)) (either {a = eqb x y} e)

pub true-elem : {x : ℕ} {l : List ℕ} → x ∈ l → elem x l ≡ true
unfolding elem
true-elem {x} (Memᴰ.head {x = y} e) = rw (eq-eqb x y e)
true-elem {x} (Memᴰ.tail {x = y} m) = or_right (eqb x y) (true-elem m)

pub elem-false : {x : ℕ} {l : List ℕ} → elem x l ≡ false → x ∈ l → ⊥
elem-false e m = false≢true (sym e ∙ true-elem m)

pub false-elem : {x : ℕ} (l : List ℕ) → (x ∈ l → ⊥) → elem x l ≡ false
false-elem {x} l f = go (tested (elem x l))
  where
    go : Tested (elem x l) → elem x l ≡ false
    go (holds e) = absurd (f (elem-true l e))
    go (fails e) = e

-- a list holds x, or it does not
pub mem? : (x : ℕ) (l : List ℕ) → (x ∈ l) ⊎ (x ∈ l → ⊥)
mem? x l = go (tested (elem x l))
  where
    go : Tested (elem x l) → (x ∈ l) ⊎ (x ∈ l → ⊥)
    go (holds e) = inl (elem-true l e)
    go (fails e) = inr (elem-false e)

module _ {A : Type 0} where
  -- What stands in front or behind.
  pub ∈-append : (s : List A) {t : List A} {x : A} → x ∈ s ++ t → (x ∈ s) ⊎ (x ∈ t)
  ∈-append s m = Memᴰ.append_cases s m

  pub ∈-left : {s : List A} (t : List A) {x : A} → x ∈ s → x ∈ s ++ t
  ∈-left t m = Memᴰ.append_left t m

  pub ∈-right : (s : List A) {t : List A} {x : A} → x ∈ t → x ∈ s ++ t
  ∈-right s m = Memᴰ.append_right s m

  pub ∈-self : {x : A} {l : List A} → x ∈ x ∷ l
  ∈-self = Memᴰ.head refl

  -- Reversed.
  pub reverse-∈ : (l : List A) {x : A} → x ∈ reverse l → x ∈ l
  reverse-∈ [] m = m
  reverse-∈ (y ∷ l) {x} m =
      ⊎_elim (λ h. Memᴰ.tail (reverse-∈ l h))
      (λ h. ⊎_elim (λ e. Memᴰ.head e) (λ n. absurd (Memᴰ.not-nil n)) (Memᴰ.cases_cons h))
      (∈-append (reverse l) (subst (λ (k : List A). x ∈ k) (reverse-cons y l) m))

  pub ∈-reverse : {x : A} {l : List A} → x ∈ l → x ∈ reverse l
  ∈-reverse {x = x} (Memᴰ.head {x = y} {xs = l} e) = subst⁻¹ (λ (k : List A). x ∈ k) (reverse-cons y l) (∈-right (reverse l) (Memᴰ.head e))
  ∈-reverse {x = x} (Memᴰ.tail {x = y} {xs = l} m) = subst⁻¹ (λ (k : List A). x ∈ k) (reverse-cons y l) (∈-left (y ∷ []) (∈-reverse m))

  -- Kept by a test.
  pub cons_if-∈ : (b : Bool) {y x : A} {l : List A} → x ∈ cons_if b y l → ((b ≡ true) × (x ≡ y)) ⊎ (x ∈ l)
  unfolding cons_if
  cons_if-∈ true m = ⊎_elim (λ e. inl (refl, e)) (λ h. inr h) (Memᴰ.cases_cons m)
  cons_if-∈ false m = inr m

  pub ∈-cons_if : (b : Bool) (y : A) {x : A} {l : List A} → x ∈ l → x ∈ cons_if b y l
  unfolding cons_if
  ∈-cons_if true y m = Memᴰ.tail m
  ∈-cons_if false y m = m

  pub keep-∈ : (test : A → Bool) (l : List A) {x : A} → x ∈ keep test l → (x ∈ l) × (test x ≡ true)
  unfolding keep
  keep-∈ test [] m = absurd (Memᴰ.not-nil m)
  keep-∈ test (y ∷ l) {x} m =
      ⊎_elim (λ h. (Memᴰ.head h.1, ap test h.1 ∙ h.0))
      (λ h. let r = keep-∈ test l h in (Memᴰ.tail r.0, r.1))
      (cons_if-∈ (test y) m)

  pub ∈-keep : (test : A → Bool) {x : A} {l : List A} → x ∈ l → test x ≡ true → x ∈ keep test l
  unfolding keep cons_if
  ∈-keep test {x = x} (Memᴰ.head {x = y} {xs = l} e) t = rw (sym (ap test e) ∙ t) (Memᴰ.head e)
  ∈-keep test {x = x} (Memᴰ.tail {x = y} {xs = l} m) t = ∈-cons_if (test y) y (∈-keep test m t)

  -- Some, all, none.
  pub any-true : (test : A → Bool) (l : List A) → any test l ≡ true → (x : A) × (x ∈ l) × (test x ≡ true)
  unfolding any
  any-true test [] e = absurd (false≢true e)
  any-true test (y ∷ l) e =
      ⊎_elim (λ h. (y, ∈-self, h)) (λ h. let r = any-true test l h in (r.0, Memᴰ.tail r.1, r.2)) (either {a = test y} e)

  pub true-any : (test : A → Bool) {x : A} {l : List A} → x ∈ l → test x ≡ true → any test l ≡ true
  unfolding any
  true-any test (Memᴰ.head {x = y} e) t = rw (sym (ap test e) ∙ t)
  true-any test (Memᴰ.tail {x = y} m) t = or_right (test y) (true-any test m t)

  pub any_false : (test : A → Bool) {l : List A} {x : A} → any test l ≡ false → x ∈ l → test x ≡ true → ⊥
  any_false test e m t = false≢true (sym e ∙ true-any test m t)

  pub all_true : (test : A → Bool) (l : List A) {x : A} → all test l ≡ true → x ∈ l → test x ≡ true
  unfolding all
  all_true test [] e m = absurd (Memᴰ.not-nil m)
  all_true test (y ∷ l) {x} e m =
      ⊎_elim (λ h. ap test h ∙ (both {a = test y} e).0) (λ h. all_true test l (both {a = test y} e).1 h) (Memᴰ.cases_cons m)

  pub true-all : (test : A → Bool) (l : List A) → ((x : A) → x ∈ l → test x ≡ true) → all test l ≡ true
  unfolding all
  true-all test [] f = refl
  true-all test (y ∷ l) f = rw (f y ∈-self) (true-all test l (λ x m. f x (Memᴰ.tail m)))

  pub is_empty-true : (l : List A) → is_empty l ≡ true → l ≡ []
  unfolding is_empty
  is_empty-true [] e = refl
  is_empty-true (x ∷ l) e = absurd (false≢true e)

  -- Each entry stands once.
  pub data Once : List A → Type 0 where
    none : Once []
    next : {x : A} {l : List A} → (x ∈ l → ⊥) → Once l → Once (x ∷ l)

  pub once-append : {s : List A} {t : List A} → Once s → Once t → ((x : A) → x ∈ s → x ∈ t → ⊥) → Once (s ++ t)
  once-append none o apart = o
  once-append {t = t} (next {x = x} {l = l} f p) o apart =
      next (λ m. ⊎_elim f (apart x ∈-self) (∈-append l m)) (once-append p o (λ y m. apart y (Memᴰ.tail m)))

  pub once-snoc : {l : List A} {x : A} → Once l → (x ∈ l → ⊥) → Once (l ++ (x ∷ []))
  once-snoc {l} {x} o f =
      once-append o (next Memᴰ.not-nil none)
      (λ y m n. ⊎_elim (λ e. f (subst (λ (z : A). z ∈ l) e m)) Memᴰ.not-nil (Memᴰ.cases_cons n))

  pub once-reverse : {l : List A} → Once l → Once (reverse l)
  once-reverse none = none
  once-reverse (next {x = x} {l = l} f o) = rw reverse-cons (once-snoc (once-reverse o) (λ m. f (reverse-∈ l m)))

  pub once-cons_if : (b : Bool) {x : A} {l : List A} → (x ∈ l → ⊥) → Once l → Once (cons_if b x l)
  unfolding cons_if
  once-cons_if true f o = next f o
  once-cons_if false f o = o

  pub once-keep : (test : A → Bool) {l : List A} → Once l → Once (keep test l)
  unfolding keep
  once-keep test none = none
  once-keep test (next {x = x} {l = l} f o) = once-cons_if (test x) (λ m. f (keep-∈ test l m).0) (once-keep test o)

-- Appending what is new: the two cases of an entry.
pub append_new-old : (l : List ℕ) (x : ℕ) (more : List ℕ) → elem x l ≡ true → append_new l (x ∷ more) ≡ append_new l more
unfolding append_new
append_new-old l x more e = rw (e, append_new)

pub append_new-new : (l : List ℕ) (x : ℕ) (more : List ℕ) → elem x l ≡ false → append_new l (x ∷ more) ≡ append_new (l ++ (x ∷ [])) more
unfolding append_new
append_new-new l x more e = rw (e, append_new)

pub ∈-append_new-left : (l more : List ℕ) {x : ℕ} → x ∈ l → x ∈ append_new l more
unfolding append_new
∈-append_new-left l [] m = m
∈-append_new-left l (y ∷ more) {x} m = go (tested (elem y l)) (∈-append_new-left l more m) (∈-append_new-left (l ++ (y ∷ [])) more (∈-left (y ∷ []) m))
  where
    go : Tested (elem y l) → x ∈ append_new l more → x ∈ append_new (l ++ (y ∷ [])) more → x ∈ append_new l (y ∷ more)
    go (holds e) a b = rw (append_new-old l y more e) a
    go (fails e) a b = rw (append_new-new l y more e) b

pub ∈-append_new-right : (l more : List ℕ) {x : ℕ} → x ∈ more → x ∈ append_new l more
∈-append_new-right l [] m = absurd (Memᴰ.not-nil m)
∈-append_new-right l (y ∷ more) {x} m =
    go (tested (elem y l)) (Memᴰ.cases_cons m) (λ k h. ∈-append_new-right k more h)
  where
    go : Tested (elem y l) → (x ≡ y) ⊎ (x ∈ more) → ((k : List ℕ) → x ∈ more → x ∈ append_new k more) → x ∈ append_new l (y ∷ more)
    go (holds e) (inl h) f = rw (append_new-old l y more e) (∈-append_new-left l more (subst⁻¹ (λ (z : ℕ). z ∈ l) h (elem-true l e)))
    go (holds e) (inr h) f = rw (append_new-old l y more e) (f l h)
    go (fails e) (inl h) f = rw (append_new-new l y more e) (∈-append_new-left (l ++ (y ∷ [])) more (∈-right l (Memᴰ.head h)))
    go (fails e) (inr h) f = rw (append_new-new l y more e) (f (l ++ (y ∷ [])) h)

pub append_new-∈ : (l more : List ℕ) {x : ℕ} → x ∈ append_new l more → (x ∈ l) ⊎ (x ∈ more)
unfolding append_new
append_new-∈ l [] m = inl m
append_new-∈ l (y ∷ more) {x} m = go (tested (elem y l)) (λ k h. append_new-∈ k more h)
  where
    go : Tested (elem y l) → ((k : List ℕ) → x ∈ append_new k more → (x ∈ k) ⊎ (x ∈ more)) → (x ∈ l) ⊎ (x ∈ y ∷ more)
    go (holds e) f = ⊎_elim (λ h. inl h) (λ h. inr (Memᴰ.tail h)) (f l (rw (append_new-old l y more e) at m))
    go (fails e) f =
        ⊎_elim (λ h. ⊎_elim (λ a. inl a) (λ b. inr (⊎_elim (λ z. Memᴰ.head z) (λ z. absurd (Memᴰ.not-nil z)) (Memᴰ.cases_cons b))) (∈-append l h)) (λ h. inr (Memᴰ.tail h))
        (f (l ++ (y ∷ [])) (rw (append_new-new l y more e) at m))

pub once-append_new : (l more : List ℕ) → Once l → Once (append_new l more)
unfolding append_new
once-append_new l [] o = o
once-append_new l (y ∷ more) o = go (tested (elem y l)) (λ k p. once-append_new k more p)
  where
    go : Tested (elem y l) → ((k : List ℕ) → Once k → Once (append_new k more)) → Once (append_new l (y ∷ more))
    go (holds e) f = rw (append_new-old l y more e) (f l o)
    go (fails e) f = rw (append_new-new l y more e) (f (l ++ (y ∷ [])) (once-snoc o (elem-false e)))

pub different-∈ : (l : List ℕ) {x : ℕ} → x ∈ different l → x ∈ l
unfolding different
different-∈ l m = ⊎_elim (λ n. absurd (Memᴰ.not-nil n)) (λ h. h) (append_new-∈ [] l m)

pub ∈-different : {l : List ℕ} {x : ℕ} → x ∈ l → x ∈ different l
unfolding different
∈-different {l} m = ∈-append_new-right [] l m

pub once-different : (l : List ℕ) → Once (different l)
unfolding different
once-different l = once-append_new [] l none

-- Counted up.
pub up_from-∈ : (a n : ℕ) {x : ℕ} → x ∈ up_from a n → (a ≤ x) × (x < a + n)
unfolding up_from
up_from-∈ a zero m = absurd (Memᴰ.not-nil m)
up_from-∈ a (suc n) {x} m =
    ⊎_elim (λ e. omega arith) (λ h. let r = up_from-∈ (suc a) n h in omega arith) (Memᴰ.cases_cons m)

pub ∈-up_from : (a n : ℕ) {x : ℕ} → a ≤ x → x < a + n → x ∈ up_from a n
unfolding up_from
∈-up_from a zero h k = absurd (omega arith)
∈-up_from a (suc n) {x} h k = go (tested (eqb x a)) (λ g. ∈-up_from (suc a) n g (omega arith))
  where
    go : Tested (eqb x a) → (suc a ≤ x → x ∈ up_from (suc a) n) → x ∈ a ∷ up_from (suc a) n
    go (holds e) f = Memᴰ.head (eqb-true x a e)
    go (fails e) f = Memᴰ.tail (f (let d = eqb-false x a e in omega arith))

pub once-up_from : (a n : ℕ) → Once (up_from a n)
unfolding up_from
once-up_from a zero = none
once-up_from a (suc n) = next (λ (m : a ∈ up_from (suc a) n). let r : (suc a ≤ a) × (a < suc a + n) = up_from-∈ (suc a) n m in omega arith) (once-up_from (suc a) n)

pub length-up_from : (a n : ℕ) → length (up_from a n) ≡ n
unfolding up_from
length-up_from a zero = refl
length-up_from a (suc n) = ap suc (length-up_from (suc a) n)

-- Sums: of a number for each entry, and with 1 for each entry their count.
-- a list without the first place of an entry
unfoldable pub without : {A : Type 0} {x : A} {l : List A} → x ∈ l → List A
without (Memᴰ.head {xs = l} e) = l
without (Memᴰ.tail {x = y} m) = y ∷ without m

module _ {A : Type 0} where
  pub length_without : {x : A} {l : List A} (m : x ∈ l) → length l ≡ suc (length (without m))
  unfolding without
  length_without (Memᴰ.head e) = refl
  length_without (Memᴰ.tail m) = ap suc (length_without m)

  pub ∈-without : {x y : A} {l : List A} (m : x ∈ l) → y ∈ l → (y ≡ x → ⊥) → y ∈ without m
  unfolding without
  ∈-without (Memᴰ.head e) n d = ⊎_elim (λ h. absurd (d (h ∙ sym e))) (λ h. h) (Memᴰ.cases_cons n)
  ∈-without (Memᴰ.tail m) n d = ⊎_elim (λ h. Memᴰ.head h) (λ h. Memᴰ.tail (∈-without m h d)) (Memᴰ.cases_cons n)

  -- the sum of a number for each entry
  unfoldable pub total : (A → ℕ) → List A → ℕ
  total f [] = 0
  total f (x ∷ l) = f x + total f l

  pub total-most : {f g : A → ℕ} → ((x : A) → f x ≤ g x) → (l : List A) → total f l ≤ total g l
  unfolding total
  total-most h [] = omega arith
  total-most h (x ∷ l) = omega (arith, h x, total-most h l)

  module _ (f : A → ℕ) where
    pub ∈-total : {x : A} {l : List A} → x ∈ l → f x ≤ total f l
    unfolding total
    ∈-total (Memᴰ.head e) = omega (arith, ap f e)
    ∈-total (Memᴰ.tail m) = omega (arith, ∈-total m)

    pub total-suc : (l : List A) → total (λ x. suc (f x)) l ≡ length l + total f l
    unfolding total
    total-suc [] = refl
    total-suc (x ∷ l) = omega (arith, total-suc l)

    total-without : {x : A} {l : List A} (m : x ∈ l) → total f l ≡ f x + total f (without m)
    unfolding total without
    total-without (Memᴰ.head e) = omega (arith, ap f e)
    total-without (Memᴰ.tail m) = omega (arith, total-without m)

    -- The sum over entries that stand once is at most the sum over a list that holds them all.
    pub once-total : {l : List A} (k : List A) → Once l → ((x : A) → x ∈ l → x ∈ k) → total f l ≤ total f k
    unfolding total
    once-total k none h = omega arith
    once-total k (next {x = x} {l = l} n o) h =
        let m : x ∈ k = h x ∈-self in
        let r : total f l ≤ total f (without m) =
        once-total (without m) o (λ y i. ∈-without m (h y (Memᴰ.tail i)) (λ e. n (subst (λ (z : A). z ∈ l) e i))) in
        omega (arith, total-without m)

    -- The entries that pass a test and those that fail it.
    total-cons_if : (b : Bool) (x : A) (s t : List A) → total f (cons_if b x s) + total f (cons_if (not b) x t) ≡ f x + (total f s + total f t)
    unfolding total cons_if
    total-cons_if true x s t = omega arith
    total-cons_if false x s t = omega arith

    pub total-keep : (test : A → Bool) (l : List A) → total f (keep test l) + total f (keep (λ x. not (test x)) l) ≡ total f l
    unfolding total keep
    total-keep test [] = refl
    total-keep test (x ∷ l) =
        omega (arith, total-cons_if (test x) x (keep test l) (keep (λ y. not (test y)) l), total-keep test l)

  ones : (l : List A) → total (λ x. 1) l ≡ length l
  unfolding total
  ones [] = refl
  ones (x ∷ l) = omega (arith, ones l)

  -- Counting: a list whose entries stand once is no longer than one that holds them all.
  pub once-length : {l : List A} (k : List A) → Once l → ((x : A) → x ∈ l → x ∈ k) → length l ≤ length k
  once-length {l} k o f = omega (arith, once-total (λ x. 1) k o f, ones l, ones k)

  -- An entry passes a test or fails it.
  pub length-parts : (test : A → Bool) (l : List A) → length (keep (λ x. not (test x)) l) + length (keep test l) ≡ length l
  length-parts test l =
      omega (arith, total-keep (λ x. 1) test l, ones l, ones (keep test l), ones (keep (λ x. not (test x)) l))
