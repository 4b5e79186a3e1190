-- Modules that reach each other by imports. A class is a module with those that reach it and that it reaches. For an accepted project whose
-- circles tie exactly such modules, the circle of a module is its class; where the circle is empty, the class is the module alone. Assumes
-- nothing.
use Rattle.std.specs.Prelude.{ℕ, ◌<◌, ◌≡◌, refl, ◌⊎◌, true, false, List, [], ◌∷◌, eqb}
use Rattle.std.proofs.Common.{sym, inl, inr, ⊎_elim, eqb-true}
use Rattle.std.proofs.Math.Path.{subst⁻¹}
use mathlib.Core.List.Memᴰ
use Rattle.std.proofs.lemmas.Bool.{eqb-false}
use Rattle.rules.specs.Lists.{is_empty, one, more}
use Rattle.rules.specs.Project.{Project}
use Rattle.rules.specs.Circles.{Tied}
use Rattle.rules.specs.Modules.{ImportsModule, ReachesModule, circle_of}
use Rattle.laws.specs.Lists.{◌∈◌, Tested, holds, fails, tested, Once, none, next}
use Rattle.laws.specs.Terms.{CirclesMatch}
use Rattle.laws.specs.Accepted.{Accepted}
use Rattle.laws.specs.ModuleVisit.{imports_of-∈}
use Rattle.laws.specs.Gathering.{circle-of, circle-self, circle-tied, tied-circle, circle-below}
use Rattle.laws.specs.Counting.{empty-∈}

-- Zero or more imports lead from a module to another.
pub data Leads (p : Project) : ℕ → ℕ → Type 0 where
  here : {m : ℕ} → Leads p m m
  on : {a b c : ℕ} → ImportsModule p a b → Leads p b c → Leads p a c

-- Two modules of one class: each leads to the other.
pub record Together (p : Project) (m n : ℕ) : Type 0 where
  pub there : Leads p m n
  pub back : Leads p n m

-- A list that holds exactly the class of a module, each member once.
pub record Class (p : Project) (m : ℕ) (class : List ℕ) : Type 0 where
  pub together : (x : ℕ) → x ∈ class → Together p m x
  pub whole : (x : ℕ) → Together p m x → x ∈ class
  pub once : Once class

module _ {p : Project} where
  pub leads-trans : {a b c : ℕ} → Leads p a b → Leads p b c → Leads p a c
  leads-trans here k = k
  leads-trans (on i l) k = on i (leads-trans l k)

  pub together-self : {m : ℕ} → Together p m m
  together-self = record { there = here; back = here }

  pub together-sym : {m n : ℕ} → Together p m n → Together p n m
  together-sym t = record { there = t.back; back = t.there }

  pub together-trans : {a b c : ℕ} → Together p a b → Together p b c → Together p a c
  together-trans s t = record { there = leads-trans s.there t.there; back = leads-trans t.back s.back }

  -- "a module another over one or more imports"
  pub step-leads : {a b c : ℕ} → ImportsModule p a b → Leads p b c → ReachesModule p a c
  step-leads i here = one i
  step-leads i (on j l) = more i (step-leads j l)

  pub reaches-leads : {a b : ℕ} → ReachesModule p a b → Leads p a b
  reaches-leads (one i) = on i here
  reaches-leads (more i r) = on i (reaches-leads r)

  pub leads_reaches : {a b : ℕ} → (a ≡ b → ⊥) → Leads p a b → ReachesModule p a b
  leads_reaches f here = absurd (f refl)
  leads_reaches f (on i l) = step-leads i l

  -- A module reaches each of its importers that it leads to.
  pub import-back : {a b : ℕ} → ImportsModule p a b → Leads p b a → ReachesModule p b a
  import-back i here = one i
  import-back i (on j l) = step-leads j l

  -- A class that holds no other module.
  pub class-alone : {m : ℕ} → ((x : ℕ) → Together p m x → x ≡ m) → Class p m (m ∷ [])
  class-alone {m} f =
      record {
        together = λ x h. subst⁻¹ (Together p m) (Memᴰ.eq_of_singleton h) together-self;
        whole = λ x t. Memᴰ.head (f x t);
        once = next Memᴰ.not-nil none;
      }

module _ {p : Project} (a : Accepted p) where
  pub leads-below : {m n : ℕ} → m < p.modules → Leads p m n → n < p.modules
  leads-below h here = h
  leads-below h (on i l) = leads-below (a.import-rows _ (imports_of-∈ p i)).imported-below l

  module _ (q : CirclesMatch p) {m : ℕ} (below : m < p.modules) where
    -- Under the premise a class is a module with those tied to it.
    pub together-tied : {n : ℕ} → Together p m n → (n ≡ m) ⊎ Tied p.circles m n
    together-tied {n} t = go (tested (eqb n m))
      where
        go : Tested (eqb n m) → (n ≡ m) ⊎ Tied p.circles m n
        go (holds e) = inl (eqb-true n m e)
        go (fails e) =
            let differ = eqb-false n m e in
            inr (q.reach-tied m n below (leads-below below t.there) (λ d. differ (sym d)) (leads_reaches (λ d. differ (sym d)) t.there)
            (leads_reaches differ t.back))

    pub tied-together : {n : ℕ} → n < p.modules → (n ≡ m) ⊎ Tied p.circles m n → Together p m n
    tied-together h (inl e) = subst⁻¹ (Together p m) e together-self
    tied-together {n} h (inr t) =
        let r = q.tied-reach m n below h t in
        record { there = reaches-leads r.0; back = reaches-leads r.1 }

    pub circle-class : is_empty (circle_of p m) ≡ false → Class p m (circle_of p m)
    circle-class e =
        let c = circle-of a m below in
        record {
          together = λ x h. tied-together (circle-below c a.circles-below x h) (circle-tied c h);
          whole = λ x t. ⊎_elim (λ d. subst⁻¹ (λ (z : ℕ). z ∈ circle_of p m) d (circle-self c e)) (tied-circle c) (together-tied t);
          once = c.once;
        }

    pub alone-class : is_empty (circle_of p m) ≡ true → Class p m (m ∷ [])
    alone-class e =
        class-alone
        (λ x t. ⊎_elim (λ d. d) (λ k. absurd (empty-∈ e (tied-circle (circle-of a m below) k))) (together-tied t))
