-- Further laws on tests and lists: lengths, images, positions, and which of two entries stands before the other. Assumes nothing.
use Prim.Native.Nat.{ℕ, zero, suc, ◌+◌, ◌≤◌, ◌<◌}
use native.Mathlib.Omega.{arith}
use Rattle.std.specs.Prelude.{◌≡◌, refl, ◌⊎◌, Bool, true, false, not, ◌&&◌, ◌||◌, eqb, length, get_or}
use Rattle.std.proofs.Common.{sym, inl, inr, length-append, eqb-true, eq-eqb}
use Rattle.std.proofs.Math.Logic.{⊎_elim}
use mathlib.Core.List.Memᴰ
use mathlib.Core.List.{List, [], ◌∷◌, ◌++◌, map, flat_map, reverse, reverse-cons, reverse-reverse, append-nil}
use Rattle.std.proofs.Math.ListN.{get_or-append}
use Rattle.rules.specs.Lists.{is_empty, cons_if, keep, different, positions_from}
use Rattle.laws.specs.Counting.{flat_map-∈, Below, empty-∈}
use Rattle.laws.specs.Lists.{◌∈◌, ∈-append, ∈-left, ∈-right, ∈-self, ∈-reverse, reverse-∈, cons_if-∈, ∈-cons_if, keep-∈, ∈-keep, different-∈, ∈-different, once-cons_if, Once, none, next, once-append}

-- Tests.
pub or_left : {a : Bool} → a ≡ true → (b : Bool) → (a || b) ≡ true
or_left e b = rw e

pub not-fails : {a : Bool} → a ≡ false → not a ≡ true
not-fails e = rw e

pub and-true : {a b : Bool} → a ≡ true → b ≡ true → (a && b) ≡ true
and-true e f = rw e f

-- Lengths.
module _ {A : Type 0} where
  pub keep-empty : (test : A → Bool) (l : List A) {x : A} → is_empty (keep test l) ≡ true → x ∈ l → test x ≡ true → ⊥
  keep-empty test l e m t = empty-∈ e (∈-keep test m t)

-- Images.
module _ {A B : Type 0} where
  pub once-map : (f : A → B) {l : List A} → ((a b : A) → a ∈ l → b ∈ l → f a ≡ f b → a ≡ b) → Once l → Once (map f l)
  once-map f apart none = none
  once-map f apart (next {x = x} {l = l} n o) =
      next (λ m. let r = Memᴰ.of_map f l m in n (Memᴰ.cast (apart x r.0 ∈-self (Memᴰ.tail r.1) (sym r.2)) r.1))
      (once-map f (λ a b h k. apart a b (Memᴰ.tail h) (Memᴰ.tail k)) o)

  pub once-flat_map : (f : A → List B) {l : List A} → ((a : A) → Once (f a)) → ((a b : A) (x : B) → x ∈ f a → x ∈ f b → a ≡ b) → Once l
      → Once (flat_map f l)
  unfolding flat_map
  once-flat_map f each apart none = none
  once-flat_map f each apart (next {x = y} {l = l} n o) =
      once-append (each y) (once-flat_map f each apart o)
      (λ x h k. let r = flat_map-∈ f l k in n (Memᴰ.cast (apart y r.0 x h r.2) r.1))

-- The different ends of the entries that have a given key.
module _ {A : Type 0} (key end : A → ℕ) where
  pub ends-∈ : (l : List A) (x : ℕ) {y : ℕ} → y ∈ different (map end (keep (λ a. eqb (key a) x) l)) → (a : A) × (a ∈ l) × (key a ≡ x) × (end a ≡ y)
  ends-∈ l x m =
      let r = Memᴰ.of_map end (keep (λ a. eqb (key a) x) l) (different-∈ (map end (keep (λ a. eqb (key a) x) l)) m) in
      let k = keep-∈ (λ a. eqb (key a) x) l r.1 in
      (r.0, k.0, eqb-true (key r.0) x k.1, r.2)

  pub ∈-ends : {l : List A} {a : A} {x y : ℕ} → a ∈ l → key a ≡ x → end a ≡ y → y ∈ different (map end (keep (λ b. eqb (key b) x) l))
  ∈-ends {a = a} {x = x} m e f = ∈-different (Memᴰ.cast (sym f) (Memᴰ.map end (∈-keep (λ b. eqb (key b) x) m (eq-eqb (key a) x e))))

-- Members below a bound.
pub below-append : {bound : ℕ} {l k : List ℕ} → Below bound l → Below bound k → Below bound (l ++ k)
below-append {l = l} a b x m = ⊎_elim (a x) (b x) (∈-append l m)

pub below-reverse : {bound : ℕ} {l : List ℕ} → Below bound l → Below bound (reverse l)
below-reverse {l = l} b x m = b x (reverse-∈ l m)

-- Positions.
module _ {A : Type 0} where
  pub get_or-∈ : (l : List A) (i : ℕ) (d : A) → i < length l → get_or l i d ∈ l
  get_or-∈ [] i d h = absurd (omega arith)
  get_or-∈ (x ∷ l) zero d h = ∈-self
  get_or-∈ (x ∷ l) (suc i) d h = Memᴰ.tail (get_or-∈ l i d (omega arith))

  pub get_or-middle : (front mid back : List A) (i : ℕ) (d : A) → length front ≤ i → i < length front + length mid → get_or (front ++ (mid ++ back)) i d ∈ mid
  get_or-middle [] mid back i d h k = let b : i < length mid = omega arith in rw (get_or-append mid back d i b) (get_or-∈ mid i d b)
  get_or-middle (x ∷ front) mid back zero d h k = absurd (omega arith)
  get_or-middle (x ∷ front) mid back (suc i) d h k = get_or-middle front mid back i d (omega arith) (omega arith)

  pub get_or-behind : (l k : List A) (i : ℕ) (d : A) → length l ≤ i → i < length (l ++ k) → get_or (l ++ k) i d ∈ k
  get_or-behind l k i d h b = rw append-nil at (get_or-middle l k [] i d h (rw length-append at b))

  pub get_d_map : {B : Type 0} (f : A → B) (l : List A) (i : ℕ) (d : A) (e : B) → i < length l → get_or (map f l) i e ≡ f (get_or l i d)
  get_d_map f [] i d e h = absurd (omega arith)
  get_d_map f (x ∷ l) zero d e h = refl
  get_d_map f (x ∷ l) (suc i) d e h = get_d_map f l i d e (omega arith)

  -- the positions of the entries that pass a test, each once
  pub positions-∈ : (test : A → Bool) (d : A) (n : ℕ) (l : List A) {x : ℕ} → x ∈ positions_from n test l
      → (i : ℕ) × (x ≡ n + i) × (i < length l) × (test (get_or l i d) ≡ true)
  unfolding positions_from
  positions-∈ test d n [] m = absurd (Memᴰ.not-nil m)
  positions-∈ test d n (y ∷ l) {x} m =
      ⊎_elim (λ h. (0, omega (arith, h.1), omega arith, h.0))
      (λ h. let r = positions-∈ test d (suc n) l h in (suc r.0, omega (arith, r.1), omega (arith, r.2), r.3))
      (cons_if-∈ (test y) m)

  pub ∈-positions : (test : A → Bool) (d : A) (n : ℕ) (l : List A) (i : ℕ) {x : ℕ} → x ≡ n + i → i < length l → test (get_or l i d) ≡ true
      → x ∈ positions_from n test l
  unfolding positions_from cons_if
  ∈-positions test d n [] i e h t = absurd (omega arith)
  ∈-positions test d n (y ∷ l) zero e h t = rw t (Memᴰ.head {x = n} (omega arith))
  ∈-positions test d n (y ∷ l) (suc i) e h t = ∈-cons_if (test y) n (∈-positions test d (suc n) l i (omega arith) (omega arith) t)

  pub once-positions : (test : A → Bool) (n : ℕ) (l : List A) → Once (positions_from n test l)
  unfolding positions_from
  once-positions test n [] = none
  once-positions test n (y ∷ l) = once-cons_if (test y) (λ m. let r = positions-∈ test y (suc n) l m in omega (arith, r.1)) (once-positions test (suc n) l)

-- Which of two entries stands before the other.
module _ {A : Type 0} where
  -- a stands before b in the list
  pub data Before (a b : A) : List A → Type 0 where
    here : {x : A} {l : List A} → a ≡ x → b ∈ l → Before a b (x ∷ l)
    later : {x : A} {l : List A} → Before a b l → Before a b (x ∷ l)

  pub before-first : {a b : A} {l : List A} → Before a b l → a ∈ l
  before-first (here e m) = Memᴰ.head e
  before-first (later h) = Memᴰ.tail (before-first h)

  pub before-second : {a b : A} {l : List A} → Before a b l → b ∈ l
  before-second (here e m) = Memᴰ.tail m
  before-second (later h) = Memᴰ.tail (before-second h)

  -- In two lists: in the first, in the second, or across.
  pub before-append : {a b : A} (l : List A) {k : List A} → Before a b (l ++ k) → Before a b l ⊎ (Before a b k ⊎ ((a ∈ l) × (b ∈ k)))
  before-append [] h = inr (inl h)
  before-append (x ∷ l) (here e m) = ⊎_elim (λ n. inl (here e n)) (λ n. inr (inr (Memᴰ.head e, n))) (∈-append l m)
  before-append (x ∷ l) (later h) =
      ⊎_elim (λ n. inl (later n)) (λ n. inr (⊎_elim (λ q. inl q) (λ q. inr (Memᴰ.tail q.0, q.1)) n)) (before-append l h)

  pub before-left : {a b : A} {l : List A} (k : List A) → Before a b l → Before a b (l ++ k)
  before-left k (here e m) = here e (∈-left k m)
  before-left k (later h) = later (before-left k h)

  pub before-right : {a b : A} (l : List A) {k : List A} → Before a b k → Before a b (l ++ k)
  before-right [] h = h
  before-right (x ∷ l) h = later (before-right l h)

  pub before-across : {a b : A} {l k : List A} → a ∈ l → b ∈ k → Before a b (l ++ k)
  before-across (Memᴰ.head {xs = l} e) m = here e (∈-right l m)
  before-across (Memᴰ.tail n) m = later (before-across n m)

  -- Reversed.
  pub before-reverse : {a b : A} {l : List A} → Before a b l → Before b a (reverse l)
  before-reverse (here {x = x} {l = l} e m) = rw reverse-cons (before-across (∈-reverse m) (Memᴰ.head e))
  before-reverse (later {x = x} {l = l} h) = rw reverse-cons (before-left (x ∷ []) (before-reverse h))

  pub reverse-before : {a b : A} (l : List A) → Before a b (reverse l) → Before b a l
  reverse-before l h = rw reverse-reverse at (before-reverse h)

  -- Where each entry stands once, no two stand before each other.
  pub before-once : {a b : A} {l : List A} → Once l → Before a b l → Before b a l → ⊥
  before-once none x5 _ = elim x5 [ ]
  before-once (next n o) (here e m) (here f k) = n (Memᴰ.cast (sym e) k)
  before-once (next n o) (here e m) (later k) = n (Memᴰ.cast (sym e) (before-second k))
  before-once (next n o) (later h) (here f k) = n (Memᴰ.cast (sym f) (before-second h))
  before-once (next n o) (later h) (later k) = before-once o h k

module _ {A B : Type 0} where
  pub before-map : (f : A → B) (l : List A) {c d : B} → Before c d (map f l) → (a : A) × (b : A) × Before a b l × (f a ≡ c) × (f b ≡ d)
  before-map f [] x' = elim x' [ ]
  before-map f (x ∷ l) (here e m) = let r = Memᴰ.of_map f l m in (x, r.0, here refl r.1, sym e, r.2)
  before-map f (x ∷ l) (later h) = let r = before-map f l h in (r.0, r.1, later r.2, r.3, r.4)
