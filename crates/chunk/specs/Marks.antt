-- Sets of modules as bits, and lists in which each stands once. Assumes nothing.
use Rattle.std.specs.Prelude.{ℕ, ◌≡◌, refl, List, [], ◌∷◌}
use Rattle.std.proofs.Math.Path.{ap₂}
use Rattle.rules.specs.Lists.{elem}
use Rattle.laws.specs.Lists.{Once, none, next}
use Rattle.lists.specs.Bits.{bit}

-- A word holds exactly the members of a list.
abbrev pub Marks : ℕ → List ℕ → Type 0
Marks word list = (j : ℕ) → bit word j ≡ elem j list

no-prop : (x y : ⊥) → x ≡ y
no-prop x y = absurd x

-- That each entry stands once has one proof at most.
pub once-prop : {A : Type 0} (l : List A) → IsProp (Once l)
once-prop [] none none = refl
once-prop (x ∷ l) (next f o) (next g p) = ap₂ next (λ i m. no-prop (f m) (g m) i) (once-prop l o p)
