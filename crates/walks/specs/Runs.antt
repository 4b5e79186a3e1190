-- What a visit and a run of visits come to, by the definition's visit and run. Assumes nothing.
use Rattle.std.specs.Prelude.{ℕ, ◌-◌, ◌≡◌, ◌<◌, List, ◌∷◌, length, Result, Ok, Err}
use Rattle.std.specs.declared.convert.Infallible.{Infallible}
use Rattle.rules.specs.Walk.{Walk, Stop as Stopped, finished, spent, full, run}
use Rattle.walks.specs.declared.Outcome.{Outcome}
use Rattle.walks.specs.declared.Outcome.TheVariants.{WentOn, Placed, ListFull}
use Rattle.walks.specs.declared.Stop.{Stop}
use Rattle.walks.specs.declared.Stop.TheVariants.{Spent, Full, Crowded}

-- What a visit comes to, t being the state after it and `before` the pieces placed before it: whether it placed one, and what the numbers show of t.
-- Where the list would be too long, it is `ListFull`, and nothing is said of the arrays.
pub data Came {Spec Piece State : Type 0} (limit : ℕ) (list : Spec → List ℕ) (placed : Spec → List Piece) (shows : State → Spec → Type 0)
    (before : List Piece) (t : Spec) : Outcome State → Type 0 where
  went_on : {w : State} → placed t ≡ before → shows w t → Came limit list placed shows before t (WentOn w)
  placed_one : {w : State} {x : Piece} → placed t ≡ x ∷ before → shows w t → Came limit list placed shows before t (Placed w)
  was_full : limit < length (list t) → Came limit list placed shows before t ListFull

-- How a run stops, as the definition's run does; `shows` says what the numbers show of the state where it ended. Or the next visit may need a longer
-- array, where `crowds` holds.
pub data Ran {Spec State C : Type 0} (stop : Stopped Spec) (shows : State → Spec → Type 0) (crowds : C → Type 0)
    : Result (State × ℕ) (Stop C) → Type 0 where
  has_finished : {w : State} {n : ℕ} (s : Spec) → stop ≡ finished s n → shows w s → Ran stop shows crowds (Ok (w, n))
  was_spent : {n : ℕ} → stop ≡ spent n → Ran stop shows crowds (Err (Spent n))
  list_was_full : {n : ℕ} → stop ≡ full n → Ran stop shows crowds (Err (Full n))
  was_crowded : {c : C} → crowds c → Ran stop shows crowds (Err (Crowded c))

-- Numbers that show a state where the next visit may need a longer array.
pub record CrowdedAt {Spec State C : Type 0} (shows : State → Spec → Type 0) (crowds : State → C → Type 0) (c : C) : Type 0 where
  pub numbers : State
  pub state : Spec
  pub shown : shows numbers state
  pub crowded : crowds numbers c

-- What a stop says where the next visit may need a longer array; else the stop.
unfoldable pub crowded_of : {C : Type 0} → Stop C → Result C (Stop Infallible)
crowded_of (Spent made) = Err (Spent made)
crowded_of (Full made) = Err (Full made)
crowded_of (Crowded c) = Ok c

-- Between two visits of a run: `first` is the state that the run began with, `already` the visits made before it.
pub record Running {Spec State : Type 0} (walk : Walk Spec) (limit : ℕ) (shows : State → Spec → Type 0) (allowance already : ℕ) (first : Spec)
    (w : State) (made : ℕ) : Type 0 where
  pub state : Spec
  pub shown : shows w state
  pub same : run walk limit (allowance - already) already first ≡ run walk limit (allowance - made) made state
