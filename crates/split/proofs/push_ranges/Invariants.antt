-- `push_ranges` meets its contract. The loop's invariant: the ranges holding the starts passed are in front of the list. Assumes nothing.
use Rattle.rules.specs.Items.{Group}
use Rattle.split.specs.FirstSlices.{held_by, StartsWithin}
use Rattle.split.specs.PushLaws.{Pushing}
use Rattle.split.proofs.push_ranges.Given as goal

abbrev pub invariant-loop-start : goal.invariant-loop-start
invariant-loop-start l =
    (goal.iterator-loop-start).can_next l.start-iterator
    × (goal.iterator-loop-start).is_finite l.start-iterator
    × ((g : Group) → StartsWithin g l.low l.high l.starts
    → Pushing (held_by g) l.starts l.start-iterator.iter.rest.now l.initial.list l.end l.list l.n)
