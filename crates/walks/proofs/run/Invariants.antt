-- `walks::run` meets its contract. The loop's invariant: whatever state the arrays showed at first, they now show one from which the run of the
-- definition goes on, with the visits made. The measure is what is left of the allowance. Assumes nothing.
use Rattle.std.proofs.Common.{◌-◌, ◌≤◌}
use Rattle.walks.specs.Runs.{Running}
use Rattle.walks.proofs.run.Given as goal

abbrev pub invariant-loop-allowance : goal.invariant-loop-allowance
invariant-loop-allowance g l =
    (l.made ≤ l.allowance.visits)
    × ((x : g.V.Visits.Input) (first : g.V.Visits.SpecState) → g.V.Visits.IsAt x l.walk l.initial.arrays l.initial.w first
    → Running (g.V.Visits.walk x) g.V.Visits.limit (g.V.Visits.IsAt x l.walk l.arrays) l.allowance.visits l.allowance.made first l.w l.made)

abbrev pub decreases-loop-allowance : goal.decreases-loop-allowance
decreases-loop-allowance g l = l.allowance.visits - l.made
