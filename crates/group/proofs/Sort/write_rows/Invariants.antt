-- `Sort::write_rows` meets its contract. The loop's invariant: with the rows from the index on stored `out` is as it is to be. Assumes nothing.
use Rattle.std.proofs.Common.{◌+◌, ◌≡◌, take, drop}
use Rattle.std.proofs.lemmas.List.Edits.{sets}
use Rattle.group.specs.Sorts.{rows_of}
use Rattle.group.proofs.Sort.write_rows.Given as goal

abbrev pub invariant-loop-i : goal.invariant-loop-i
invariant-loop-i g l =
    let split = l.self.group.split in
    let order = take split.count l.self.arrays.order in
    sets l.out (l.at + l.i) (rows_of split.rows (drop l.i order)) ≡ sets l.initial.out l.at (rows_of split.rows order)
