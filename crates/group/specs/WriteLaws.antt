-- Laws of rows given in the order of a walk. Assumes nothing.
use Prim.Native.Nat.{ℕ, suc, ◌+◌, ◌≤◌, ◌<◌}
use Rattle.std.proofs.Common.{arith, add-one, ◌∙◌, length-take-le, drop-cons, get_or-take}
use Rattle.std.specs.Prelude.{◌≡◌, take, drop, set}
use Rattle.std.proofs.Math.Path.{refl, sym, ap, subst}
use mathlib.Core.List.Memᴰ
use mathlib.Core.List.{List, [], ◌∷◌, map, reverse, reverse-reverse}
use Rattle.std.proofs.Math.ListN.{length, length-map, length-reverse, get_or}
use Rattle.std.proofs.lemmas.List.Edits.{sets}
use Rattle.laws.specs.Lists.{◌∈◌, ∈-self, reverse-∈}
use Rattle.laws.specs.Counting.{Below}
use Rattle.laws.specs.Orders.{get_or-∈}
use Rattle.lists.specs.Stacks.{stack}
use Rattle.lists.specs.StackLaws.{stack-length, stack-reverse}
use Rattle.group.specs.Sorts.{rows_of}

module _ (rows order out : List ℕ) (n «at» j : ℕ) where
  -- with one row more
  pub written-more : j < n → n ≤ length order
      → sets out («at» + j) (rows_of rows (drop j (take n order)))
      ≡ sets (set out («at» + j) (get_or rows (get_or (take n order) j 0) 0)) («at» + (j + 1)) (rows_of rows (drop (j + 1) (take n order)))
  written-more h g =
      let size : length (take n order) ≡ n = length-take-le n order g in
      let next : «at» + (j + 1) ≡ suc («at» + j) = omega arith in
      rw (next, add-one, drop-cons (take n order) j 0 (omega arith))

-- Two functions that agree on the members of a list make one list of it.
map-members : (f g : ℕ → ℕ) (l : List ℕ) → ((x : ℕ) → x ∈ l → f x ≡ g x) → map f l ≡ map g l
map-members f g [] h = refl
map-members f g (x ∷ l) h = rw (h x ∈-self, map-members f g l (λ y m. h y (Memᴰ.tail m)))

-- Numbers below n on an array, as a stack of them shows them, latest first.
module _ {n : ℕ} (order placed : List ℕ) (order-size : n ≤ length order) (shown : stack order n ≡ placed) (below : Below n placed) where
  pub taken : take n order ≡ reverse placed
  taken = sym (reverse-reverse (take n order)) ∙ ap reverse (sym (stack-reverse order n order-size) ∙ shown)

  number : (x : ℕ) → x ∈ take n order → x < n
  number x m = below x (reverse-∈ placed (subst (λ (l : List ℕ). x ∈ l) taken m))

  pub at-number : (j : ℕ) → j < n → get_or order j 0 < n
  at-number j g =
      subst (λ (x : ℕ). x < n) (get_or-take n order j 0 g)
      (number (get_or (take n order) j 0) (get_or-∈ (take n order) j 0 (omega (arith, length-take-le n order order-size))))

  -- as many rows
  pub many-rows : (rows : List ℕ) → length (rows_of rows (reverse placed)) ≡ n
  many-rows rows =
      length-map (reverse placed) (λ x. get_or rows x 0) ∙ length-reverse placed ∙ sym (ap (λ (l : List ℕ). length l) shown) ∙ stack-length order n

  -- the rows of all numbers are those of the first n rows
  pub same-rows : (rows : List ℕ) → rows_of rows (take n order) ≡ rows_of (take n rows) (reverse placed)
  same-rows rows =
      map-members (λ x. get_or rows x 0) (λ x. get_or (take n rows) x 0) (take n order) (λ x m. sym (get_or-take n rows x 0 (number x m)))
      ∙ ap (rows_of (take n rows)) taken
