-- Laws of open imports along a chain of places. Assumes nothing.
use Rattle.std.specs.Prelude.{ℕ, ◌<◌, ◌≡◌, true, false, Option, Some, None, get_or}
use Rattle.std.specs.Iterator.{YieldsFirst}
use Rattle.std.proofs.Common.{arith, ap}
use mathlib.Core.List.Memᴰ
use mathlib.Core.List.{List, [], ◌∷◌, map}
use Rattle.rules.specs.Lists.{cons_if, keep}
use Rattle.laws.specs.Lists.{keep-∈}
use Rattle.laws.specs.Counting.{Below, below-nil}
use Rattle.lists.specs.Chained.{places}
use Rattle.chunk.specs.Open.{is_open, open_from}

-- What a call leaves is below a bound if what was left before it was.
pub below-left : {S : Type 0} (rest : S → List ℕ) {bound : ℕ} (s t : S) (r : Option ℕ) → YieldsFirst rest s r t → Below bound (rest s) → Below bound (rest t)
below-left rest s t None h below = rw h.1 below-nil
below-left rest {bound} s t (Some x) h below = λ y m. below y (rw h (Memᴰ.tail m))

-- The first place of a chain, whose import counts or does not; and no place.
module _ (to : List ℕ) (done circle : ℕ) (next next' : List ℕ) (entry entry' : ℕ) {place : ℕ} (e : places next entry ≡ place ∷ places next' entry') where
  step : open_from to next done circle entry
      ≡ cons_if (is_open done circle (get_or to place 0)) (get_or to place 0) (open_from to next' done circle entry')
  unfolding open_from keep
  step = ap (λ (l : List ℕ). keep (is_open done circle) (map (λ i. get_or to i 0) l)) e

  pub open-met : is_open done circle (get_or to place 0) ≡ true → open_from to next done circle entry ≡ get_or to place 0 ∷ open_from to next' done circle entry'
  unfolding cons_if
  open-met t = rw (step, t)

  pub open-passed : is_open done circle (get_or to place 0) ≡ false → open_from to next done circle entry ≡ open_from to next' done circle entry'
  unfolding cons_if
  open-passed t = rw (step, t)

pub open-none : (to next : List ℕ) (done circle entry : ℕ) → places next entry ≡ [] → open_from to next done circle entry ≡ []
unfolding open_from keep
open-none to next done circle entry e = ap (λ (l : List ℕ). keep (is_open done circle) (map (λ i. get_or to i 0) l)) e

-- Where all numbers are below a bound, so are those of the open imports.
pub open-below : (to next : List ℕ) (done circle entry bound : ℕ) → ((i : ℕ) → get_or to i 0 < bound) → Below bound (open_from to next done circle entry)
unfolding open_from
open-below to next done circle entry bound below x m =
    let k = Memᴰ.of_map (λ i. get_or to i 0) (places next entry) (keep-∈ (is_open done circle) (map (λ i. get_or to i 0) (places next entry)) m).0 in
    omega (arith, below k.0, k.2)
