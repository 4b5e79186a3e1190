-- `Writes::run` meets its contract. The loop's invariant: whatever state the slices showed at first, they now show one from which the run of the
-- definition goes on, with the visits made. The measure is what is left of the allowance. Assumes nothing.
use Rattle.std.proofs.Common.{◌-◌, ◌≤◌, ◌≡◌}
use Rattle.rules.specs.Items.{Group, ItemState, item_walk}
use Rattle.rules.specs.Calls.{item_list_limit}
use Rattle.laws.specs.Splits.{size}
use Rattle.walks.specs.Runs.{Running}
use Rattle.stmt.specs.Walks.{SameVisits}
use Rattle.stmt.specs.Slices.{held, SameSizes, SameLent, Walking}
use Rattle.stmt.proofs.slices.Writes.run.Given as goal

abbrev pub invariant-loop-w : goal.invariant-loop-w
invariant-loop-w l =
    (l.made ≤ l.allowance.visits) × SameSizes (held l.initial.self) (held l.self) × SameLent l.initial.self l.self
    × ((i walked : Group) (first : ItemState) → l.count ≡ size i → SameVisits i walked → Walking i l.group (held l.initial.self) l.initial.w first
    → Running (item_walk walked) item_list_limit (Walking i l.group (held l.self)) l.allowance.visits l.allowance.made first l.w l.made)

abbrev pub decreases-loop-w : goal.decreases-loop-w
decreases-loop-w l = l.allowance.visits - l.made
