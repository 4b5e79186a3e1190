-- `Turns::keep_groups` meets its contract. The loop's invariant: the groups so far had their turns, and the others are left. Assumes nothing.
use Rattle.std.proofs.Common.{ℕ, List, length, ◌≡◌}
use Rattle.rules.specs.Project.{Project}
use Rattle.rules.specs.Calls.{group_bytes}
use Rattle.order.specs.Turns.{Ready, TurningAt}
use Rattle.order.proofs.turns.Turns.keep_groups.Given as goal

abbrev pub invariant-loop-members : goal.invariant-loop-members
invariant-loop-members l =
    (length l.out ≡ length l.initial.out)
    × ((p : Project) (groups : List (List ℕ)) (allowance : ℕ) → Ready p groups l.self → l.bytes ≡ group_bytes groups → l.count ≡ length groups
    → TurningAt p groups allowance l.initial.out l.out l.t l.members-iterator)
