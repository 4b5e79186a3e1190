-- `split::push_entries` meets its contract. The loop's invariant: the entries passed are in front of the list. Assumes nothing.
use Rattle.std.proofs.Common.{◌+◌}
use Rattle.split.specs.PushLaws.{PushingEntries}
use Rattle.split.proofs.push_entries.Given as goal

abbrev pub invariant-loop-i : goal.invariant-loop-i
invariant-loop-i l =
    PushingEntries l.entries l.i-iterator.iter.iter.rest.now l.initial.list l.end l.list (l.end + l.i-iterator.count)
