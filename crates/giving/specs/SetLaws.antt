-- Laws of loops that gather modules into a set of bits. Assumes nothing.
use Rattle.std.specs.Prelude.{ℕ, suc, ◌+◌, ◌≤◌, ◌<◌, ◌≡◌, refl, Bool, true, false, not, ◌&&◌, ◌||◌, eqb, length, get_or, drop}
use Rattle.std.proofs.Common.{arith, add-one, ◌∙◌, drop_of_length-le, drop-cons}
use Rattle.std.proofs.Math.Path.{sym, ap}
use mathlib.Core.List.Memᴰ
use mathlib.Core.List.{List, [], ◌∷◌}
use Rattle.rules.specs.Lists.{is_empty, any, elem}
use Rattle.rules.specs.Project.{Project, module_limit}
use Rattle.rules.specs.Modules.{imports_of}
use Rattle.rules.specs.Items.{keeps_row_order}
use Rattle.laws.specs.Lists.{◌∈◌, ∈-self}
use Rattle.laws.specs.Orders.{get_or-∈}
use Rattle.lists.specs.Bits.{bit}
use Rattle.lists.specs.BitLaws.{bit-zero}
use Rattle.giving.specs.Giving.{Members, ImportersShown}

or_assoc : (a b c : Bool) → (a || (b || c)) ≡ ((b || a) || c)
or_assoc true true c = refl
or_assoc true false c = refl
or_assoc false true c = refl
or_assoc false false c = refl

or-false : (a : Bool) → (a || false) ≡ a
or-false true = refl
or-false false = refl

-- Rows are gone through: the set and the rows left show what all rows do. `key` is the module that a row names.
pub record Gathering {A : Type 0} (key : A → ℕ) (test : ℕ → A → Bool) (rows rest : List A) (set : ℕ) : Type 0 where
  pub below : (x : A) → x ∈ rest → key x < module_limit
  pub same : (m : ℕ) → (bit set m || any (test m) rest) ≡ any (test m) rows

module _ {A : Type 0} (key : A → ℕ) (test : ℕ → A → Bool) where
  pub gathering-start : (rows : List A) → ((x : A) → x ∈ rows → key x < module_limit) → Gathering key test rows rows 0
  gathering-start rows h = record { below = h; same = λ m. ap (λ (b : Bool). b || any (test m) rows) (bit-zero m) }

  module _ {rows rest l : List A} {x : A} {set : ℕ} (s : Gathering key test rows rest set) (first : rest ≡ x ∷ l) where
    pub gathering-below : key x < module_limit
    gathering-below = s.below x (rw first ∈-self)

    pub gathering-next : (set' : ℕ) → ((m : ℕ) → bit set' m ≡ (test m x || bit set m)) → Gathering key test rows l set'
    unfolding any
    gathering-next set' h =
        record {
          below = λ y k. s.below y (rw first (Memᴰ.tail k));
          same = λ m.
              ap (λ (b : Bool). b || any (test m) l) (h m)
              ∙ sym (or_assoc (bit set m) (test m x) (any (test m) l))
              ∙ sym (ap (λ (k : List A). bit set m || any (test m) k) first)
              ∙ s.same m;
        }

  pub gathering-end : {rows rest : List A} {set : ℕ} → Gathering key test rows rest set → rest ≡ [] → (m : ℕ) → bit set m ≡ any (test m) rows
  unfolding any
  gathering-end {set = set} s e m = sym (or-false (bit set m)) ∙ sym (ap (λ (k : List A). bit set m || any (test m) k) e) ∙ s.same m

-- A row that does not pass, and one that does.
pub not-gathered : (a b c : Bool) → b ≡ false → c ≡ ((a && b) || c)
not-gathered true b c e = rw e
not-gathered false b c e = refl

pub gathered : (a b c : Bool) → b ≡ true → (a || c) ≡ ((a && b) || c)
gathered true b c e = rw e
gathered false b c e = refl

-- Members are gone through: the set and the members left show what the first set and all members do.
abbrev pub Joining : List ℕ → ℕ → List ℕ → ℕ → Type 0
Joining members set rest all = (m : ℕ) → (elem m rest || bit all m) ≡ (elem m members || bit set m)

swap-front : (a b c : Bool) → (b || (a || c)) ≡ ((a || b) || c)
swap-front true true c = refl
swap-front true false c = refl
swap-front false true c = refl
swap-front false false c = refl

module _ (members : List ℕ) (set i all : ℕ) (s : Joining members set (drop i members) all) where
  pub joining-next : (all' : ℕ) → i < length members → ((m : ℕ) → bit all' m ≡ (eqb m (get_or members i 0) || bit all m))
      → Joining members set (drop (i + 1) members) all'
  unfolding elem
  joining-next all' h e m =
      rw (add-one, e m)
      (swap-front (eqb m (get_or members i 0)) (elem m (drop (suc i) members)) (bit all m)
      ∙ sym (ap (λ (l : List ℕ). elem m l || bit all m) (drop-cons members i 0 h))
      ∙ s m)

  pub joining-end : length members ≤ i → (m : ℕ) → bit all m ≡ (elem m members || bit set m)
  unfolding elem
  joining-end h m = sym (ap (λ (l : List ℕ). elem m l || bit all m) (drop_of_length-le members h)) ∙ s m

pub member_below : {members : List ℕ} → Members members → (i : ℕ) → i < length members → get_or members i 0 < module_limit
member_below {members} f i h = f.below (get_or members i 0) (get_or-∈ members i 0 h)

-- Whether a group keeps its row order.
pub keeps-other : (p : Project) (members : List ℕ) → (length members ≡ 1 → ⊥) → keeps_row_order p members ≡ false
unfolding keeps_row_order
keeps-other p [] h = refl
keeps-other p (m ∷ []) h = absurd (h refl)
keeps-other p (m ∷ n ∷ members) h = refl

not-not : (b : Bool) → not (not b) ≡ b
not-not true = refl
not-not false = refl

pub keeps-one : (p : Project) (members : List ℕ) (importers : ℕ) {r : Bool} → length members ≡ 1 → ImportersShown p importers
    → r ≡ bit importers (get_or members 0 0) → not r ≡ keeps_row_order p members
unfolding keeps_row_order
keeps-one p [] importers h s e = absurd (omega arith)
keeps-one p (m ∷ []) importers h s e = ap not (e ∙ s m) ∙ not-not (is_empty (imports_of p m))
keeps-one p (m ∷ n ∷ members) importers h s e = absurd (omega arith)
