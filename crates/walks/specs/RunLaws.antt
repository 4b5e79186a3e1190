-- What is known of a visit or a run holds with less known of what the numbers show. Assumes nothing.
use Rattle.std.specs.Prelude.{ℕ, List, Result, Ok, Err, MatchResult}
use Rattle.std.specs.declared.convert.Infallible.{Infallible}
use Rattle.rules.specs.Walk.{Stop}
use Rattle.walks.specs.declared.Outcome.{Outcome}
use Rattle.walks.specs.declared.Stop.{Stop as Stopped}
use Rattle.walks.specs.Runs.{crowded_of, Came, went_on, placed_one, was_full, Ran, has_finished, was_spent, list_was_full, was_crowded}

pub came-as : {Spec Piece State : Type 0} {limit : ℕ} {list : Spec → List ℕ} {placed : Spec → List Piece} {shows shown : State → Spec → Type 0}
    {before : List Piece} {t : Spec} {o : Outcome State} → ((w : State) → shows w t → shown w t) → Came limit list placed shows before t o
    → Came limit list placed shown before t o
came-as f (went_on {w} e h) = went_on e (f w h)
came-as f (placed_one {w} e h) = placed_one e (f w h)
came-as f (was_full h) = was_full h

pub ran-as : {Spec State C : Type 0} {stop : Stop Spec} {shows shown : State → Spec → Type 0} {crowds crowded : C → Type 0}
    {r : Result (State × ℕ) (Stopped C)} → ((w : State) (s : Spec) → shows w s → shown w s) → ((c : C) → crowds c → crowded c)
    → Ran stop shows crowds r → Ran stop shown crowded r
ran-as f k (has_finished {w} s e h) = has_finished s e (f w s h)
ran-as f k (was_spent e) = was_spent e
ran-as f k (list_was_full e) = list_was_full e
ran-as f k (was_crowded {c} h) = was_crowded (k c h)

-- What a run came to, where it is known not to need a longer array.
module _ {Spec State C D : Type 0} {stop : Stop Spec} {shows : State → Spec → Type 0} {crowds : C → Type 0} {crowded : D → Type 0} where
  pub ran-finished : {w : State} {n : ℕ} → Ran stop shows crowds (Ok (w, n)) → Ran stop shows crowded (Ok (w, n))
  ran-finished (has_finished s e h) = has_finished s e h

module _ {Spec State C : Type 0} {stop : Stop Spec} {shows : State → Spec → Type 0} {crowds : C → Type 0} where
  pub ran-stopped : {d : Stopped C} → Ran stop shows crowds (Err d)
      → MatchResult (crowded_of d) crowds (λ e. Ran stop shows (λ (c : Infallible). ⊥) (Err e))
  unfolding crowded_of
  ran-stopped (was_spent e) = was_spent e
  ran-stopped (list_was_full e) = list_was_full e
  ran-stopped (was_crowded h) = h
