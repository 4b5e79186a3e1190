-- Words on lists that the definitions of the paper share. Assumes nothing.
use Rattle.std.specs.Prelude.{ℕ, zero, suc, Bool, true, false, ◌&&◌, ◌||◌, List, [], ◌∷◌, ◌++◌, eqb}

module _ {A : Type 0} where
  unfoldable pub is_empty : List A → Bool
  is_empty [] = true
  is_empty (x ∷ l) = false

  -- `x` in front of `l` where the test holds
  unfoldable pub cons_if : Bool → A → List A → List A
  cons_if true x l = x ∷ l
  cons_if false x l = l

  -- the entries that pass a test, in their order
  unfoldable pub keep : (A → Bool) → List A → List A
  keep test [] = []
  keep test (x ∷ l) = cons_if (test x) x (keep test l)

  unfoldable pub any : (A → Bool) → List A → Bool
  any test [] = false
  any test (x ∷ l) = test x || any test l

  unfoldable pub all : (A → Bool) → List A → Bool
  all test [] = true
  all test (x ∷ l) = test x && all test l

module _ {A : Type 0} where
  -- the positions of the entries that pass a test, the first entry standing at `n`
  unfoldable pub positions_from : ℕ → (A → Bool) → List A → List ℕ
  positions_from n test [] = []
  positions_from n test (x ∷ l) = cons_if (test x) n (positions_from (suc n) test l)

-- `n` numbers, counted up from `a`
unfoldable pub up_from : ℕ → ℕ → List ℕ
up_from a zero = []
up_from a (suc n) = a ∷ up_from (suc a) n

-- whether a list of numbers holds `x`
unfoldable pub elem : ℕ → List ℕ → Bool
elem x [] = false
elem x (y ∷ l) = eqb x y || elem x l

-- `l` with the entries of a second list appended that it does not hold yet, each once
unfoldable pub append_new : List ℕ → List ℕ → List ℕ
append_new l [] = l
append_new l (x ∷ more) = elim (elem x l) [ true ↦ append_new l more | false ↦ append_new (l ++ (x ∷ [])) more ]

-- the different entries of a list, in the order of their first places
unfoldable pub different : List ℕ → List ℕ
different l = append_new [] l

-- One or more steps of a relation: the second number is reached from the first.
pub data Reaches (step : ℕ → ℕ → Type 0) : ℕ → ℕ → Type 0 where
  one : {a b : ℕ} → step a b → Reaches step a b
  more : {a b c : ℕ} → step a b → Reaches step b c → Reaches step a c
