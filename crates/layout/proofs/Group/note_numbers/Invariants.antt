-- `Group::note_numbers` meets its contract. The loop's invariant: with the rows from x on noted the entries are as they are to be. Assumes nothing.
use Rattle.std.proofs.Common.{◌≡◌, take, drop, length}
use Rattle.rules.specs.Project.{item_limit}
use Rattle.layout.specs.Numbers.{note_from}
use Rattle.layout.proofs.Group.note_numbers.Given as goal

abbrev pub invariant-loop-x : goal.invariant-loop-x
invariant-loop-x g l =
    let old = l.fn.self in
    let rows = take old.split.count old.split.rows in
    let numbers = l.self.1.1.0 in
    (length numbers ≡ item_limit) × (note_from l.x (drop l.x rows) numbers ≡ note_from 0 rows old.numbers)
