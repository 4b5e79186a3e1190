-- `giving::with_members` meets its contract. The loop's invariant: the set and the members left show what the first set and all members do.
-- Assumes nothing.
use Rattle.std.proofs.Common.{drop}
use Rattle.giving.specs.SetLaws.{Joining}
use Rattle.giving.proofs.with_members.Given as goal

abbrev pub invariant-loop-m : goal.invariant-loop-m
invariant-loop-m l =
    Joining l.members l.set (drop l.m-index l.members) l.all
