-- `lines::bytes_of` meets its contract. The loop's invariant: as many bytes are written as places are passed. Assumes nothing.
use Rattle.std.proofs.Common.{◌+◌, ◌≤◌, length}
use Rattle.std.specs.Slice.Iter.{iter_mut_rest}
use Rattle.lines.proofs.bytes_of.Given as goal

abbrev pub invariant-loop-place : goal.invariant-loop-place
invariant-loop-place l = l.n + length (iter_mut_rest l.place-iterator.a) ≤ length l.fn.out
