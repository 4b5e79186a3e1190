-- `next` of the iterator over open imports meets its contract. The loop's invariant: as many are left as at first, since none was met. The measure is
-- the number of places left. Assumes nothing.
use Rattle.std.proofs.Common.{◌≡◌, length}
use Rattle.lists.specs.Chained.{places}
use Rattle.chunk.specs.Imports.{open_left}
use Rattle.chunk.proofs.open.OpenIterator.next.Given as goal

abbrev pub invariant-loop-place : goal.invariant-loop-place
invariant-loop-place l = open_left l.self ≡ open_left l.initial.self

abbrev pub decreases-loop-place : goal.decreases-loop-place
decreases-loop-place l = length (places l.self.chain.next.now l.self.chain.entry)
