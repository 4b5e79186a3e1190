-- `lists::pairs::link` meets its contract. The loop's invariant: the places behind the keys that are left are chained. Assumes nothing.
use Rattle.std.proofs.Common.{◌≡◌, length, take}
use Rattle.lists.specs.Pairs.{Linked}
use Rattle.lists.proofs.pairs.link.Given as goal

abbrev pub invariant-loop-place : goal.invariant-loop-place
invariant-loop-place l =
    let keys = l.place-iterator.iter in
    let left = keys.iter.rest.now in
    (keys.count ≡ 0) × (left ≡ take (length left) l.keys) × Linked (length left) l.keys (length l.keys) l.initial.heads l.initial.next l.heads l.next
