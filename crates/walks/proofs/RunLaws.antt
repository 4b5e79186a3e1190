-- Laws for the proof of `run`: one turn of its loop is one visit of the definition's run. Assumes nothing.
use Rattle.std.specs.Prelude.{ℕ, suc, ◌-◌, ◌+◌, ◌≤◌, ◌<◌, ◌≡◌, refl, true, false, List, length, Result, Ok, Err, MatchResult, IfErr, IsErrAnd}
use Rattle.std.proofs.Common.{arith, add-one, sym, ap, ◌∙◌, ◌⊎◌, ⊎_elim, lt-ltb, le-ltb}
use Rattle.rules.specs.Walk.{Walk, Stop, full, run}
use Rattle.laws.specs.Runs.{run-ended, run-spent, run-full, run_on}
use Rattle.walks.specs.declared.Outcome.{Outcome}
use Rattle.walks.specs.declared.Outcome.TheVariants.{WentOn, Placed}
use Rattle.walks.specs.declared.Stop.{Stop as Stopped}
use Rattle.walks.specs.declared.Stop.TheVariants.{Spent, Full, Crowded}
use Rattle.walks.specs.Runs.{Came, went_on, placed_one, was_full, Ran, has_finished, was_spent, list_was_full, was_crowded, CrowdedAt, Running}

-- What a visit comes to, by its outcome.
module _ {Spec Piece State : Type 0} {limit : ℕ} {list : Spec → List ℕ} {placed : Spec → List Piece} {shows : State → Spec → Type 0}
    {before : List Piece} {t : Spec} where
  shown-on : {w : State} → Came limit list placed shows before t (WentOn w) → shows w t
  shown-on (went_on e h) = h

  shown-placed : {w : State} → Came limit list placed shows before t (Placed w) → shows w t
  shown-placed (placed_one e h) = h

  shown-after : {o : Outcome State} {w : State} → Came limit list placed shows before t o → (o ≡ WentOn w) ⊎ (o ≡ Placed w) → shows w t
  shown-after h = ⊎_elim (λ e. shown-on (rw e at h)) (λ e. shown-placed (rw e at h))

  -- an outcome that neither went on nor placed a piece is a full list
  pub only-full : {o : Outcome State} → Came limit list placed shows before t o → ((w : State) → o ≡ WentOn w → ⊥) → ((w : State) → o ≡ Placed w → ⊥)
      → limit < length (list t)
  only-full (went_on {w} e h) a b = absurd (a w refl)
  only-full (placed_one {w} e h) a b = absurd (b w refl)
  only-full (was_full f) a b = f

-- One turn of the loop.
module _ {Spec State : Type 0} {walk : Walk Spec} {limit : ℕ} {shows : State → Spec → Type 0} {allowance already : ℕ} {first : Spec} {w : State} {made : ℕ}
    (r : Running walk limit shows allowance already first w made) where
  abbrev stop : Stop Spec
  stop = run walk limit (allowance - already) already first

  pub ends : {C : Type 0} {crowds : C → Type 0} → walk.ended r.state ≡ true
      → Ran stop (λ v t. shows v t × (walk.ended t ≡ true)) crowds (Ok (w, made))
  ends e = has_finished r.state (r.same ∙ run-ended walk limit (allowance - made) made r.state e) (r.shown, e)

  module _ (more : walk.ended r.state ≡ false) where
    pub spends : {C : Type 0} {ending : State → Spec → Type 0} {crowds : C → Type 0} → made ≡ allowance
        → Ran stop ending crowds (Err (Spent made))
    spends f =
        let none : allowance - made ≡ 0 = omega arith in
        was_spent (r.same ∙ ap (λ (n : ℕ). run walk limit n made r.state) none ∙ run-spent walk limit made r.state more)

    -- one more visit
    module _ (left : made < allowance) where
      one_more : run walk limit (allowance - made) made r.state ≡ run walk limit (suc (allowance - (made + 1))) made r.state
      one_more =
          let f : allowance - made ≡ suc (allowance - (made + 1)) = omega arith in
          ap (λ (n : ℕ). run walk limit n made r.state) f

      pub fills : {C : Type 0} {ending : State → Spec → Type 0} {crowds : C → Type 0} → limit < length (walk.list (walk.visit r.state))
          → Ran stop ending crowds (Err (Full (made + 1)))
      fills f =
          list_was_full
          (r.same ∙ one_more
          ∙ run-full walk limit (allowance - (made + 1)) made r.state more (lt-ltb limit (length (walk.list (walk.visit r.state))) f)
          ∙ ap full (sym (add-one made)))

      goes_on : {later : State → Spec → Type 0} {v : State} → length (walk.list (walk.visit r.state)) ≤ limit → later v (walk.visit r.state)
          → Running walk limit later allowance already first v (made + 1)
      goes_on f h =
          record {
            state = walk.visit r.state;
            shown = h;
            same =
                r.same ∙ one_more
                ∙ run_on walk limit (allowance - (made + 1)) made r.state more (le-ltb limit (length (walk.list (walk.visit r.state))) f)
                ∙ ap (λ (n : ℕ). run walk limit (allowance - (made + 1)) n (walk.visit r.state)) (sym (add-one made));
          }

      pub turned : {Piece : Type 0} {placed : Spec → List Piece} {before : List Piece} {later : State → Spec → Type 0} {o : Outcome State} {v : State}
          → ((t : Spec) → later v t → length (walk.list t) ≤ limit) → Came limit walk.list placed later before (walk.visit r.state) o
          → (o ≡ WentOn v) ⊎ (o ≡ Placed v) → Running walk limit later allowance already first v (made + 1)
      turned within c o = let h = shown-after c o in goes_on (within (walk.visit r.state) h) h

-- What there was no room for is handed on.
module _ {Spec State C : Type 0} {stop : Stop Spec} {ending shows : State → Spec → Type 0} {crowds : State → C → Type 0} {d : Stopped C}
    (w : State) (s : Spec) (h : shows w s) where
  pub crowds-on : {U : Type 0} (Room : U → Type 0) (room : Result U C) (mapped : Result U (Stopped C)) → MatchResult room Room (crowds w)
      → MatchResult room (λ x. mapped ≡ Ok x) (λ c. IsErrAnd mapped (λ d. d ≡ Crowded c)) → mapped ≡ Err d
      → Ran stop ending (CrowdedAt shows crowds) (Err d)
  crowds-on Room (Ok x) mapped a b e = absurd (let f : Ok x ≡ Err d = sym b ∙ e in cc)
  crowds-on Room (Err c) mapped a b e =
      let f : d ≡ Crowded c = rw e at b in
      rw f (was_crowded (record { numbers = w; state = s; shown = h; crowded = a }))

  -- So is what else is said where there is none.
  pub crowded-on : {U : Type 0} (Room : U → Type 0) (said : C → Type 0) (room : Result U C) (mapped : Result U (Stopped C)) → MatchResult room Room said
      → IfErr room (crowds w) → MatchResult room (λ x. mapped ≡ Ok x) (λ c. IsErrAnd mapped (λ d. d ≡ Crowded c)) → mapped ≡ Err d
      → Ran stop ending (λ c. said c × CrowdedAt shows crowds c) (Err d)
  crowded-on Room said (Ok x) mapped a k b e = absurd (let f : Ok x ≡ Err d = sym b ∙ e in cc)
  crowded-on Room said (Err c) mapped a k b e =
      let f : d ≡ Crowded c = rw e at b in
      rw f (was_crowded (a, record { numbers = w; state = s; shown = h; crowded = k }))
