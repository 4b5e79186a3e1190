-- `chunk::circles::listed_with` meets its contract. The loop's invariant: what the lists left still add makes what is gathered whole. Assumes nothing.
use Rattle.chunk.specs.CircleLaws.{Listing}
use Rattle.chunk.proofs.circles.listed_with.Given as goal

abbrev pub invariant-loop-list : goal.invariant-loop-list
invariant-loop-list l =
    (goal.iterator-loop-list).can_next l.list-iterator
    × (goal.iterator-loop-list).is_finite l.list-iterator
    × Listing l.section l.m.0 l.list-iterator l.r
