-- Laws of owners: of noting them group by group, and of the needs of one owner. Assumes nothing.
use Rattle.std.specs.Prelude.{ℕ, zero, suc, ◌+◌, ◌-◌, ◌≤◌, ◌<◌, ◌≡◌, refl, Bool, ◌||◌, Option, Some, None, drop, set, replicate}
use Rattle.std.specs.Option.{option_eq, option_or}
use Rattle.std.proofs.Common.{arith, add-one, ◌∙◌, drop_of_length-le, drop-cons}
use Rattle.std.proofs.Math.Path.{sym, ap}
use Rattle.std.proofs.lemmas.Option.{none-some, same_Some}
use Rattle.std.proofs.Math.Bool.{true, false}
use mathlib.Core.List.Memᴰ
use mathlib.Core.List.{List, [], ◌∷◌, ◌++◌, reverse, reverse-cons, append_assoc}
use Rattle.std.proofs.Math.Dec.{eqb}
use Rattle.std.proofs.Math.ListN.{length, get_or}
use borrow.Author.Tests.{eq-eqb, ne_eqb}
use Rattle.rules.specs.Lists.{cons_if, keep, any, elem}
use Rattle.rules.specs.Project.{Need, Project, module_limit}
use Rattle.rules.specs.Modules.{is_done}
use Rattle.rules.specs.Items.{is_among}
use Rattle.laws.specs.Lists.{◌∈◌, ∈-self, false≢true, both, Tested, holds, fails, tested, elem-true, length-parts}
use Rattle.laws.specs.Counting.{neither, Below, EachBelow}
use Rattle.lists.specs.ArrayLaws.{after-set}
use Rattle.owners.specs.Owners.{owner_in, owner_of, both_own, key_of, needs_of, owner_among, Noted, Notable, OwnersShown}

-- The first of two owners.
or-none : (a : Option ℕ) → option_or a None ≡ a
or-none None = refl
or-none (Some x) = refl

or_assoc : (a b c : Option ℕ) → option_or (option_or a b) c ≡ option_or a (option_or b c)
or_assoc None b c = refl
or_assoc (Some x) b c = refl

-- The members of one group.
module _ (owner m : ℕ) where
  among-true : (members : List ℕ) → elem m members ≡ true → owner_among members owner m ≡ Some owner
  unfolding owner_among
  among-true members e = rw (e, owner_among)

  among-false : (members : List ℕ) → elem m members ≡ false → owner_among members owner m ≡ None
  unfolding owner_among
  among-false members e = rw (e, owner_among)

  among-here : (members : List ℕ) (x : ℕ) → m ≡ x → owner_among (x ∷ members) owner m ≡ Some owner
  unfolding elem
  among-here members x e = among-true (x ∷ members) (rw (eq-eqb m x e))

  among-past : (members : List ℕ) (x : ℕ) → (m ≡ x → ⊥) → owner_among (x ∷ members) owner m ≡ owner_among members owner m
  unfolding owner_among elem
  among-past members x f = ap (λ (b : Bool). elim (b || elem m members) [ true ↦ Some owner | false ↦ None ]) (ne_eqb m x f)

-- Noting them one after the other: with the members from i on noted the array shows what it is to show.
abbrev pub NotingMembers : List ℕ → ℕ → List (Option ℕ) → ℕ → List (Option ℕ) → Type 0
NotingMembers members owner owners₀ i owners =
    (m : ℕ) → option_or (get_or owners m None) (owner_among (drop i members) owner m) ≡ option_or (get_or owners₀ m None) (owner_among members owner m)

module _ (members : List ℕ) (owner : ℕ) (owners₀ owners : List (Option ℕ)) (i : ℕ) (s : NotingMembers members owner owners₀ i owners) where
  pub noting-next : {x : ℕ} {y : Option ℕ} → i < length members → x ≡ get_or members i 0 → x < length owners → y ≡ option_or (get_or owners x None) (Some owner)
      → NotingMembers members owner owners₀ (i + 1) (set owners x y)
  noting-next {x} {y} h is within stored m =
      let rest : List ℕ = drop (suc i) members in
      let first : drop i members ≡ x ∷ rest = rw is (drop-cons members i 0 h) in
      rw add-one
      (after-set (λ z. option_or z (owner_among rest owner m) ≡ option_or (get_or owners₀ m None) (owner_among members owner m)) owners x m y None within
      (λ e.
      ap (λ (z : Option ℕ). option_or z (owner_among rest owner m)) stored
      ∙ or_assoc (get_or owners x None) (Some owner) (owner_among rest owner m)
      ∙ sym (ap (λ (k : ℕ). option_or (get_or owners k None) (Some owner)) e)
      ∙ sym (ap (option_or (get_or owners m None)) (ap (λ (l : List ℕ). owner_among l owner m) first ∙ among-here owner m rest x e))
      ∙ s m)
      (λ f. sym (ap (option_or (get_or owners m None)) (ap (λ (l : List ℕ). owner_among l owner m) first ∙ among-past owner m rest x f)) ∙ s m))

  pub noting-end : length members ≤ i → Noted members owner owners₀ owners
  unfolding owner_among elem
  noting-end h m =
      sym (ap (λ (l : List ℕ). option_or (get_or owners m None) (owner_among l owner m)) (drop_of_length-le members h) ∙ or-none (get_or owners m None)) ∙ s m

-- A module's owner is the first of its groups.
owner-cons : (members : List ℕ) (groups : List (List ℕ)) (m : ℕ) → owner_in (members ∷ groups) m ≡ option_or (owner_among members (length groups) m) (owner_in groups m)
unfolding owner_in
owner-cons members groups m = go (tested (elem m members))
  where
    go : Tested (elem m members) → owner_in (members ∷ groups) m ≡ option_or (owner_among members (length groups) m) (owner_in groups m)
    go (holds e) = rw (among-true (length groups) m members e, e, owner_in)
    go (fails e) = rw (among-false (length groups) m members e, e, owner_in)

pub owner_below : (groups : List (List ℕ)) (m k : ℕ) → owner_in groups m ≡ Some k → k < length groups
unfolding owner_in
owner_below [] m k h = absurd (none-some k h)
owner_below (g ∷ groups) m k h = go (tested (elem m g)) (owner_below groups m k)
  where
    go : Tested (elem m g) → (owner_in groups m ≡ Some k → k < length groups) → k < suc (length groups)
    go (holds e) _ = let here : length groups ≡ k = same_Some (length groups) k (rw (e, owner_in) at h) in omega arith
    go (fails e) below = omega (arith, below (rw (e, owner_in) at h))

-- Noting the owners group by group: what the groups left own and what is noted is what all groups own.
pub record Noting (groups rest : List (List ℕ)) (behind : ℕ) (owners : List (Option ℕ)) : Type 0 where
  pub behind-is : behind ≡ length rest
  pub behind-most : behind ≤ module_limit
  pub members-below : EachBelow module_limit rest
  pub same : (m : ℕ) → option_or (get_or owners m None) (owner_in rest m) ≡ owner_in groups m

pub none-owned : (n m : ℕ) → get_or {A = Option ℕ} (replicate n None) m None ≡ None
none-owned zero m = refl
none-owned (suc n) zero = refl
none-owned (suc n) (suc m) = none-owned n m

pub noting-start : {groups : List (List ℕ)} {bytes : List ℕ} {count : ℕ} {owners : List (Option ℕ)} → Notable groups bytes count → ((m : ℕ) → get_or owners m None ≡ None)
    → Noting groups groups count owners
noting-start {groups} n none =
    record {
      behind-is = n.count-is;
      behind-most = n.count_most;
      members-below = n.members-below;
      same = λ m. ap (λ (x : Option ℕ). option_or x (owner_in groups m)) (none m);
    }

-- The first of the groups left.
module _ {groups left-groups rest : List (List ℕ)} {members : List ℕ} {behind : ℕ} {owners : List (Option ℕ)} (s : Noting groups left-groups behind owners)
    (first : left-groups ≡ members ∷ rest) where
  pub noting-below : Below module_limit members
  noting-below = (rw first at s.members-below) members ∈-self

  first-size : behind ≡ suc (length rest)
  first-size = omega (arith, s.behind-is, ap length first)

  pub noting-first : {owners' : List (Option ℕ)} → Noted members (behind - 1) owners owners' → Noting groups rest (behind - 1) owners'
  noting-first {owners'} noted =
      let is : behind - 1 ≡ length rest = omega (arith, first-size) in
      record {
        behind-is = is;
        behind-most = omega (arith, s.behind-most);
        members-below = λ g k. (rw first at s.members-below) g (Memᴰ.tail k);
        same = λ m.
            ap (λ (x : Option ℕ). option_or x (owner_in rest m)) (noted m ∙ ap (λ (k : ℕ). option_or (get_or owners m None) (owner_among members k m)) is)
            ∙ or_assoc (get_or owners m None) (owner_among members (length rest) m) (owner_in rest m)
            ∙ sym (ap (option_or (get_or owners m None)) (owner-cons members rest m))
            ∙ (rw first at s.same) m;
      }

pub noting-done : {groups rest : List (List ℕ)} {behind : ℕ} {owners : List (Option ℕ)} → Noting groups rest behind owners → rest ≡ [] → length owners ≡ module_limit
    → OwnersShown groups owners
unfolding owner_in
noting-done {owners = owners} s e size = record { size = size; shown = λ m _. sym (or-none (get_or owners m None)) ∙ (rw e at s.same) m }

-- A group's modules that no earlier group lists are its own.
owner_here : (members : List ℕ) (rest : List (List ℕ)) (m : ℕ) → elem m members ≡ true → owner_in (members ∷ rest) m ≡ Some (length rest)
unfolding owner_in
owner_here members rest m e = rw (e, owner_in)

owner-past : (g : List ℕ) (groups : List (List ℕ)) (m : ℕ) → elem m g ≡ false → owner_in (g ∷ groups) m ≡ owner_in groups m
unfolding owner_in
owner-past g groups m e = rw (e, owner_in)

owner-undone : (earlier rest : List (List ℕ)) (m : ℕ) → is_done earlier m ≡ false → owner_in (reverse earlier ++ rest) m ≡ owner_in rest m
unfolding is_done any
owner-undone [] rest m e = refl
owner-undone (g ∷ earlier) rest m e =
    let r = neither {a = elem m g} e in
    rw (reverse-cons, append_assoc) (owner-undone earlier (g ∷ rest) m r.1 ∙ owner-past g rest m r.0)

pub owner-first : {groups : List (List ℕ)} (earlier : List (List ℕ)) (members : List ℕ) (rest : List (List ℕ)) (m : ℕ)
    → groups ≡ reverse earlier ++ (members ∷ rest) → elem m members ≡ true → is_done earlier m ≡ false → owner_in groups m ≡ Some (length rest)
owner-first earlier members rest m e h undone = rw e (owner-undone earlier (members ∷ rest) m undone ∙ owner_here members rest m h)

-- The needs among rows of one owner are among those with its key.
keep-within : {A : Type 0} (few many : A → Bool) → ((x : A) → few x ≡ true → many x ≡ true) → (l : List A) → keep few (keep many l) ≡ keep few l
unfolding keep cons_if
keep-within few many h [] = refl
keep-within few many h (x ∷ l) = go (tested (many x)) (tested (few x)) (keep-within few many h l)
  where
    go : Tested (many x) → Tested (few x) → keep few (keep many l) ≡ keep few l → keep few (cons_if (many x) x (keep many l)) ≡ cons_if (few x) x (keep few l)
    go (holds e) f same = rw e (ap (cons_if (few x) x) same)
    go (fails e) (holds f) same = absurd (false≢true (sym e ∙ h x f))
    go (fails e) (fails f) same = rw (e, f) same

module _ (p : Project) (groups : List (List ℕ)) where
  pub needs-few : (k : ℕ) → length (needs_of p groups k) ≤ length p.needs
  needs-few k = omega (arith, length-parts (λ (n : Need). option_eq eqb (key_of p groups n) (Some k)) p.needs)

  same_key : (n : Need) (k : ℕ) → owner_of p groups n.dependant ≡ Some k → owner_of p groups n.dependency ≡ Some k → option_eq eqb (key_of p groups n) (Some k) ≡ true
  unfolding key_of
  same_key n k a b = let same : eqb k k ≡ true = eq-eqb k k refl in rw (a, b, both_own, same, a) same

  pub among-kept : (rows : List ℕ) (k : ℕ) → ((row : ℕ) → row ∈ rows → owner_of p groups row ≡ Some k) → (needs : List Need)
      → keep (is_among rows) (keep (λ (n : Need). option_eq eqb (key_of p groups n) (Some k)) needs) ≡ keep (is_among rows) needs
  unfolding is_among
  among-kept rows k h needs =
      keep-within (is_among rows) (λ (n : Need). option_eq eqb (key_of p groups n) (Some k))
      (λ n e. let ends = both {a = elem n.dependant rows} e in same_key n k (h n.dependant (elem-true rows ends.0)) (h n.dependency (elem-true rows ends.1)))
      needs
