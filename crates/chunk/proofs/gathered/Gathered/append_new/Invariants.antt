-- `Gathered::append_new` meets its contract. The loop's invariant: array, count and set are those of what is gathered once the modules passed are
-- appended; what was gathered before stands in front. Assumes nothing.
use Rattle.std.proofs.Common.{◌≡◌, take}
use Rattle.chunk.specs.CircleLaws.{Holding}
use Rattle.chunk.proofs.gathered.Gathered.append_new.Given as goal

abbrev pub invariant-loop-m : goal.invariant-loop-m
invariant-loop-m l =
    (l.self.count ≡ l.initial.self.count) × Holding l.initial.self l.self.array l.count l.have (take l.m-index l.list)
