-- What the module walk and the item walk share: visits against an allowance, and numbers 11 and 12 of the table. Assumes nothing.
use Rattle.std.specs.Prelude.{ℕ, zero, suc, Bool, true, false, List, ltb, length}

-- A walk over states: when it has ended, what a visit makes of a state, and the list of entries to visit, its front first.
-- "Visit" is the paper's term for taking the front entry off the list and doing what it asks.
pub record Walk (State : Type 0) : Type 0 where
  pub ended : State → Bool
  pub visit : State → State
  pub list : State → List ℕ

-- How a run of visits stops, with the visits made. `spent` is 11, `full` is 12.
pub data Stop (State : Type 0) : Type 0 where
  finished : State → ℕ → Stop State
  spent : ℕ → Stop State
  full : ℕ → Stop State

-- The run of a walk under a list limit, `left` being what is left of the allowance and `made` the visits made, "the number of entries taken off".
-- 11: "visits made equal the allowance and another is due", tested "before the next" visit.
-- 12: "a visit leaves over" the limit, tested "right after a visit", and it counts "with the last one".
unfoldable pub run : {State : Type 0} → Walk State → ℕ → ℕ → ℕ → State → Stop State
run w limit zero made s = elim (w.ended s) [ true ↦ finished s made | false ↦ spent made ]
run w limit (suc left) made s =
    elim (w.ended s) [
      | true ↦ finished s made
      | false ↦
          let next = w.visit s in
          elim (ltb limit (length (w.list next))) [ true ↦ full (suc made) | false ↦ run w limit left (suc made) next ]
    ]
