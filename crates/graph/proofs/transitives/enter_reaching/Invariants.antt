-- `graph::transitives::enter_reaching` meets its contract. The loop's invariant: the first a rows of both matrices are joined where they are to be.
-- The measure is what is left. Assumes nothing.
use Prim.Native.Nat.{◌-◌, ◌≤◌}
use Rattle.std.proofs.Common.{◌≡◌}
use Rattle.lists.specs.Bits.{bit_at}
use Rattle.graph.specs.Reach.{RowsEntered}
use Rattle.graph.proofs.transitives.enter_reaching.Given as goal

abbrev pub invariant-loop-a : goal.invariant-loop-a
invariant-loop-a g l =
    let reach = l.initial.reach in
    let paths = l.initial.paths in
    (l.a ≤ l.n) × (l.paths.words ≡ paths.words) × (l.reach.words ≡ reach.words)
    × RowsEntered reach.words l.a l.x l.y (bit_at l.row) reach.cells paths.cells l.reach.cells l.paths.cells

abbrev pub decreases-loop-a : goal.decreases-loop-a
decreases-loop-a g l = l.n - l.a
