-- What `can_reach` tests is what an item reaches, and the record of paths holds only what is reached. Assumes nothing.
use Rattle.std.specs.Prelude.{ℕ, ◌≡◌, refl, ◌⊎◌, Bool, true, not, ◌&&◌, ◌||◌, List, [], ◌∷◌, reverse, eqb}
use Rattle.std.proofs.Common.{sym, inl, inr, ⊎_elim, eqb-true, eq-eqb}
use mathlib.Core.List.Memᴰ
use Rattle.rules.specs.Lists.{Reaches, one, more}
use Rattle.rules.specs.Project.{Need}
use Rattle.rules.specs.Paths.{DependsOn, ReachesItem, can_reach, enters, in_paths}
use Rattle.laws.specs.Lists.{◌∈◌, false≢true, both, either, or_right, ∈-self, reverse-∈}
use Rattle.laws.specs.Orders.{or_left, and-true}

-- Reaching, over any relation.
pub reaches-join : {R : ℕ → ℕ → Type 0} {a b c : ℕ} → Reaches R a b → Reaches R b c → Reaches R a c
reaches-join (one s) q = more s q
reaches-join (more s p) q = more s (reaches-join p q)

pub reaches-map : {R S : ℕ → ℕ → Type 0} (f : ℕ → ℕ) → ((a b : ℕ) → R a b → S (f a) (f b))
    → {a b : ℕ} → Reaches R a b → Reaches S (f a) (f b)
reaches-map f h {a} {b} (one s) = one (h a b s)
reaches-map f h {a} (more {b = b} s p) = more (h a b s) (reaches-map f h p)

-- What an item reaches depends on which needs there are, not on their order.
pub reaches-within : {graph larger : List Need} → ((n : Need) → n ∈ graph → n ∈ larger) → {a b : ℕ} → ReachesItem graph a b → ReachesItem larger a b
reaches-within h r = reaches-map (λ x. x) (λ a b s. (s.0, h s.0 s.1, s.2, s.3)) r

pub reaches-reverse : (graph : List Need) {a b : ℕ} → ReachesItem (reverse graph) a b → ReachesItem graph a b
reaches-reverse graph r = reaches-within (λ n m. reverse-∈ graph m) r

-- `Arrives graph a b`: b is a, or a reaches it. As a test, given that the test for reaching is right.
abbrev Arrives : List Need → ℕ → ℕ → Type 0
Arrives graph a b = (a ≡ b) ⊎ ReachesItem graph a b

arrives-true : (graph : List Need) {a b : ℕ} → (can_reach graph a b ≡ true → ReachesItem graph a b)
    → (eqb a b || can_reach graph a b) ≡ true → Arrives graph a b
arrives-true graph {a} {b} f e = ⊎_elim (λ h. inl (eqb-true a b h)) (λ h. inr (f h)) (either {a = eqb a b} e)

true-arrives : (graph : List Need) {a b : ℕ} → (ReachesItem graph a b → can_reach graph a b ≡ true)
    → Arrives graph a b → (eqb a b || can_reach graph a b) ≡ true
true-arrives graph {a} {b} f (inl e) = rw (eq-eqb a b e)
true-arrives graph {a} {b} f (inr r) = or_right (eqb a b) (f r)

-- With one need more.
module _ (n : Need) (graph : List Need) where
  reaches_more : {a b : ℕ} → ReachesItem graph a b → ReachesItem (n ∷ graph) a b
  reaches_more r = reaches-within (λ k m. Memᴰ.tail m) r

  arrives_more : {a b : ℕ} → Arrives graph a b → Arrives (n ∷ graph) a b
  arrives_more (inl e) = inl e
  arrives_more (inr r) = inr (reaches_more r)

  -- a way to where the need starts and a way from where it leads make one way
  through : {a b : ℕ} → Arrives (n ∷ graph) a n.dependant → Arrives (n ∷ graph) n.dependency b → ReachesItem (n ∷ graph) a b
  through (inl e) (inl f) = one (n, ∈-self, sym e, f)
  through (inl e) (inr q) = more (n, ∈-self, sym e, refl) q
  through (inr p) (inl f) = reaches-join p (one (n, ∈-self, refl, f))
  through (inr p) (inr q) = reaches-join p (more (n, ∈-self, refl, refl) q)

  -- and each way with the need does without it, or goes to where it is taken first and on from where it is taken last
  abbrev Parted : ℕ → ℕ → Type 0
  Parted a b = ReachesItem graph a b ⊎ (Arrives graph a n.dependant × Arrives graph n.dependency b)

  after-old : {a b c : ℕ} → DependsOn graph a b → Parted b c → Parted a c
  after-old s (inl r) = inl (more s r)
  after-old s (inr (inl e, q)) = inr (inr (one (rw e at s)), q)
  after-old s (inr (inr p, q)) = inr (inr (more s p), q)

  after-new : {a b c : ℕ} → a ≡ n.dependant → n.dependency ≡ b → Parted b c → Parted a c
  after-new e f (inl r) = inr (inl e, inr (rw f r))
  after-new e f (inr (p, q)) = inr (inl e, q)

  parted : {a b : ℕ} → ReachesItem (n ∷ graph) a b → Parted a b
  parted (one (k, Memᴰ.head h, e, f)) = inr (inl (cc), inl (cc))
  parted (one (k, Memᴰ.tail m, e, f)) = inl (one (k, m, e, f))
  parted (more (k, Memᴰ.head h, e, f) r) = after-new (cc) (cc) (parted r)
  parted (more (k, Memᴰ.tail m, e, f) r) = after-old (k, m, e, f) (parted r)

-- What the test answers is what an item reaches, "over one or more of these".
pub can_reach-sound : (graph : List Need) {a b : ℕ} → can_reach graph a b ≡ true → ReachesItem graph a b
unfolding can_reach
can_reach-sound [] e = absurd (false≢true e)
can_reach-sound (n ∷ graph) {a} {b} e =
    ⊎_elim (λ h. reaches_more n graph (can_reach-sound graph h))
    (λ h.
    let r = both {a = eqb a n.dependant || can_reach graph a n.dependant} h in
    through n graph (arrives_more n graph (arrives-true graph (λ t. can_reach-sound graph t) r.0))
    (arrives_more n graph (arrives-true graph (λ t. can_reach-sound graph t) r.1)))
    (either {a = can_reach graph a b} e)

pub can_reach-complete : (graph : List Need) {a b : ℕ} → ReachesItem graph a b → can_reach graph a b ≡ true
unfolding can_reach
can_reach-complete [] (one s) = absurd (Memᴰ.not-nil s.1)
can_reach-complete [] (more s r) = absurd (Memᴰ.not-nil s.1)
can_reach-complete (n ∷ graph) {a} {b} r =
    ⊎_elim (λ h. or_left (can_reach-complete graph h) _)
    (λ h.
    or_right (can_reach graph a b)
    (and-true (true-arrives graph (λ t. can_reach-complete graph t) h.0) (true-arrives graph (λ t. can_reach-complete graph t) h.1)))
    (parted n graph r)

-- The record of paths holds b for a only where a reaches b.
enters-sound : (n : Need) (graph : List Need) {a b : ℕ}
    → enters (n ∷ graph) n.dependant n.dependency a b ≡ true → ReachesItem (n ∷ graph) a b
unfolding enters
enters-sound n graph {a} {b} e = ⊎_elim from to (either {a = eqb a n.dependant && end} e)
  where
    larger : List Need
    larger = n ∷ graph

    end : Bool
    end = eqb b n.dependency || (can_reach larger n.dependency b && not (eqb b n.dependant))

    from : (eqb a n.dependant && end) ≡ true → ReachesItem larger a b
    from h =
        let r = both {a = eqb a n.dependant} h in
        through n graph (inl (eqb-true a n.dependant r.0))
        (⊎_elim (λ t. inl (sym (eqb-true b n.dependency t)))
        (λ t. inr (can_reach-sound larger (both {a = can_reach larger n.dependency b} t).0))
        (either {a = eqb b n.dependency} r.1))

    apart : Bool
    apart = eqb b n.dependency && not (eqb a n.dependency)

    to : (apart && (eqb a n.dependant || can_reach larger a n.dependant)) ≡ true → ReachesItem larger a b
    to h =
        let r = both {a = apart} h in
        through n graph (arrives-true larger (λ t. can_reach-sound larger t) r.1)
        (inl (sym (eqb-true b n.dependency (both {a = eqb b n.dependency} r.0).0)))

pub in_paths-sound : (graph : List Need) {a b : ℕ} → in_paths graph a b ≡ true → ReachesItem graph a b
unfolding in_paths
in_paths-sound [] e = absurd (false≢true e)
in_paths-sound (n ∷ graph) {a} {b} e =
    ⊎_elim (λ h. reaches_more n graph (in_paths-sound graph h))
    (λ h. enters-sound n graph (both {a = not (in_paths graph n.dependant n.dependency)} h).1) (either {a = in_paths graph a b} e)
