-- What a run under an allowance says of the run under a larger one, over any walk and list limit. Assumes nothing.
use Prim.Native.Nat.{ℕ, zero, suc, ◌≤◌}
use Rattle.std.proofs.Common.{arith}
use Rattle.std.specs.Prelude.{ltb, length}
use Rattle.rules.specs.Walk.{Walk, run}
use Rattle.laws.specs.Lists.{holds, fails, tested}
use Rattle.laws.specs.Runs.{run-ended, run-spent, run-full, run_on, Extends, same_end, same_full, goes_on, run-visits}

module _ {State : Type 0} (w : Walk State) (limit : ℕ) where
  -- One allowance and a larger one, from the same state on.
  abbrev Both : (left more made : ℕ) → State → Type 0
  Both left more made s = Extends (run w limit left made s) (run w limit more made s)

  pub run-extends : (left more made : ℕ) (s : State) → left ≤ more → Both left more made s
  run-extends zero more made s h =
      elim (tested (w.ended s)) as (λ _. Both 0 more made s) [
        | holds e ↦ rw (run-ended w limit 0 made s e, run-ended w limit more made s e) same_end
        | fails e ↦ rw (run-spent w limit made s e) (goes_on (run-visits w limit more made s).0)
      ]
  run-extends (suc left) zero made s h = absurd (omega arith)
  run-extends (suc left) (suc more) made s h =
      elim (tested (w.ended s)) as (λ _. Both (suc left) (suc more) made s) [
        | holds e ↦ rw (run-ended w limit (suc left) made s e, run-ended w limit (suc more) made s e) same_end
        | fails e ↦
            elim (tested (ltb limit (length (w.list (w.visit s))))) as (λ _. Both (suc left) (suc more) made s) [
              | holds f ↦ rw (run-full w limit left made s e f, run-full w limit more made s e f) same_full
              | fails f ↦
                  rw (run_on w limit left made s e f, run_on w limit more made s e f) (run-extends left more (suc made) (w.visit s) (omega arith))
            ]
      ]
