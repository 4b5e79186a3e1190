-- `sort_turns` meets its contract. The loop's invariant: the groups so far had their turns, and the others are left. Assumes nothing.
use Rattle.std.proofs.Common.{ℕ, List, length, ◌≡◌}
use Rattle.rules.specs.Project.{Project}
use Rattle.order.specs.Turns.{TurningAt}
use Rattle.order.specs.Stops.{Sorting}
use Rattle.order.proofs.tables.sort_turns.Given as goal

abbrev pub invariant-loop-members : goal.invariant-loop-members
invariant-loop-members g l =
    (length l.out ≡ length l.initial.out)
    × ((p : Project) (groups : List (List ℕ)) (before : List ℕ)
    → Sorting g.row.WORDS g.row.NEEDS p groups l.turns l.needs l.allowance before l.initial.out l.first
    → TurningAt p groups l.allowance before l.out l.t l.members-iterator)
