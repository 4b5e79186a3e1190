-- `Owners::note_members` meets its contract. The loop's invariant: with the members left noted the array shows what it is to show. Assumes nothing.
use Rattle.owners.specs.OwnerLaws.{NotingMembers}
use Rattle.owners.proofs.Owners.note_members.Given as goal

abbrev pub invariant-loop-m : goal.invariant-loop-m
invariant-loop-m l =
    NotingMembers l.members l.owner l.initial.self.array l.m-index l.self.array
