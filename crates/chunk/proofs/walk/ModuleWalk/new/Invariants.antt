-- `ModuleWalk::new` meets its contract. The loop's invariant: the list's first entries are the largest modules, the largest undermost, and those
-- below `end` are left. Assumes nothing.
use Rattle.std.proofs.Common.{◌+◌, ◌≡◌}
use Rattle.rules.specs.Lists.{up_from}
use Rattle.lists.specs.Stacks.{stack}
use Rattle.chunk.proofs.walk.ModuleWalk.new.Given as goal

abbrev pub invariant-loop-i : goal.invariant-loop-i
invariant-loop-i l =
    let it = l.i-iterator in
    let left = it.iter.iter in
    (goal.iterator-loop-i).can_next it × (goal.iterator-loop-i).is_finite it
    × (left.start ≡ 0) × (it.count + left.end ≡ l.n)
    × (stack l.list it.count ≡ up_from left.end it.count)
