-- `split::push_numbers` meets its contract. The loop's invariant: the numbers passed are in front of the list. Assumes nothing.
use Rattle.std.proofs.Common.{◌≡◌, ◌≤◌, ◌+◌, ◌-◌}
use Rattle.rules.specs.Lists.{up_from}
use Rattle.split.specs.PushLaws.{PushingEntries}
use Rattle.split.proofs.push_numbers.Given as goal

abbrev pub invariant-loop-i : goal.invariant-loop-i
invariant-loop-i l =
    let numbers = l.i-iterator.iter.iter in
    (numbers.start ≡ l.low)
    × (numbers.end ≤ l.high)
    × PushingEntries (up_from l.low (l.high - l.low)) (up_from l.low (numbers.end - l.low)) l.initial.list l.end l.list (l.end + l.i-iterator.count)
