-- Laws of `run`, over any walk: an invariant that each visit keeps holds where the run stops, and the visits stay within the allowance.
-- Both walks cite them. Assumes nothing.
use Prim.Native.Nat.{ℕ, zero, suc, ◌+◌, ◌≤◌, ◌<◌}
use Rattle.std.proofs.Common.{arith, ltb-true}
use Rattle.std.specs.Prelude.{◌≡◌, true, false, ltb, length}
use Rattle.rules.specs.Walk.{Walk, Stop, finished, spent, full, run}
use Rattle.laws.specs.Lists.{Tested, holds, fails, tested}

module _ {State : Type 0} (w : Walk State) (limit : ℕ) where
  -- The clauses of `run`, by its tests.
  pub run-ended : (left made : ℕ) (s : State) → w.ended s ≡ true → run w limit left made s ≡ finished s made
  unfolding run
  run-ended zero made s e = rw (e, run)
  run-ended (suc left) made s e = rw (e, run)

  pub run-spent : (made : ℕ) (s : State) → w.ended s ≡ false → run w limit 0 made s ≡ spent made
  unfolding run
  run-spent made s e = rw (e, run)

  pub run-full : (left made : ℕ) (s : State) → w.ended s ≡ false → ltb limit (length (w.list (w.visit s))) ≡ true
      → run w limit (suc left) made s ≡ full (suc made)
  unfolding run
  run-full left made s e f = rw (e, run, f)

  pub run_on : (left made : ℕ) (s : State) → w.ended s ≡ false → ltb limit (length (w.list (w.visit s))) ≡ false
      → run w limit (suc left) made s ≡ run w limit left (suc made) (w.visit s)
  unfolding run
  run_on left made s e f = rw (e, run, f)

  -- Where a run stops whose visits keep `Inv`, an invariant of the visits made and the state. `most` is the number of visits that it may have made
  -- in the end.
  pub data Stopped (Inv : ℕ → State → Type 0) (most : ℕ) : Stop State → Type 0 where
    at-end : {s : State} {n : ℕ} → Inv n s → w.ended s ≡ true → n ≤ most → Stopped Inv most (finished s n)
    at-allowance : {n : ℕ} (s : State) → Inv n s → w.ended s ≡ false → n ≡ most → Stopped Inv most (spent n)
    at-limit : {n : ℕ} (s : State) → Inv n s → limit < length (w.list s) → n ≤ most → Stopped Inv most (full n)

  module _ (Inv : ℕ → State → Type 0) (keeps : (n : ℕ) (s : State) → Inv n s → w.ended s ≡ false → Inv (suc n) (w.visit s)) where
    pub stopped : (left made : ℕ) (s : State) → Inv made s → Stopped Inv (made + left) (run w limit left made s)
    stopped zero made s i = go (tested (w.ended s))
      where
        go : Tested (w.ended s) → Stopped Inv (made + 0) (run w limit 0 made s)
        go (holds e) = rw (run-ended 0 made s e) (at-end i e (omega arith))
        go (fails e) = rw (run-spent made s e) (at-allowance s i e (omega arith))
    stopped (suc left) made s i = go (tested (w.ended s)) (λ j. stopped left (suc made) (w.visit s) j)
      where
        more : Stopped Inv (suc made + left) (run w limit left (suc made) (w.visit s)) → Stopped Inv (made + suc left) (run w limit left (suc made) (w.visit s))
        more r = let e : suc made + left ≡ made + suc left = omega arith in rw e at r

        after : (e : w.ended s ≡ false) → Tested (ltb limit (length (w.list (w.visit s))))
            → (Inv (suc made) (w.visit s) → Stopped Inv (suc made + left) (run w limit left (suc made) (w.visit s)))
            → Stopped Inv (made + suc left) (run w limit (suc left) made s)
        after e (holds f) rest =
            rw (run-full left made s e f)
            (at-limit (w.visit s) (keeps made s i e) (ltb-true limit (length (w.list (w.visit s))) f) (omega arith))
        after e (fails f) rest = rw (run_on left made s e f) (more (rest (keeps made s i e)))

        go : Tested (w.ended s) → (Inv (suc made) (w.visit s) → Stopped Inv (suc made + left) (run w limit left (suc made) (w.visit s)))
            → Stopped Inv (made + suc left) (run w limit (suc left) made s)
        go (holds e) rest = rw (run-ended (suc left) made s e) (at-end i e (omega arith))
        go (fails e) rest = after e (tested (ltb limit (length (w.list (w.visit s))))) rest

-- The visits made where a run stops.
unfoldable pub visits_of : {A : Type 0} → Stop A → ℕ
visits_of (finished s n) = n
visits_of (spent n) = n
visits_of (full n) = n

-- What a stop under an allowance says of the stop under a larger one: an end and a full list are the same there, and after a spent allowance no
-- fewer visits are made.
pub data Extends {A : Type 0} : Stop A → Stop A → Type 0 where
  same_end : {s : A} {n : ℕ} → Extends (finished s n) (finished s n)
  same_full : {n : ℕ} → Extends (full n) (full n)
  goes_on : {n : ℕ} {longer : Stop A} → n ≤ visits_of longer → Extends (spent n) longer

module _ {State : Type 0} (w : Walk State) (limit : ℕ) where
  -- The visits made before, and at most those left beside them.
  pub run-visits : (left made : ℕ) (s : State) → (made ≤ visits_of (run w limit left made s)) × (visits_of (run w limit left made s) ≤ made + left)
  unfolding visits_of
  run-visits left made s = go (stopped w limit (λ n t. made ≤ n) (λ n t h e. omega arith) left made s (omega arith))
    where
      go : {stop : Stop State} → Stopped w limit (λ n t. made ≤ n) (made + left) stop → (made ≤ visits_of stop) × (visits_of stop ≤ made + left)
      go (at-end h e k) = (h, k)
      go (at-allowance t h e k) = (h, omega arith)
      go (at-limit t h f k) = (h, k)
