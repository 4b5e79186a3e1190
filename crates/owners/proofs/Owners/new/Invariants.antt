-- `Owners::new` meets its contract. The loop's invariant: what is noted and what the groups left own is what all groups own. Assumes nothing.
use Rattle.std.proofs.Common.{ℕ, List}
use Rattle.owners.specs.Owners.{Notable}
use Rattle.owners.specs.OwnerLaws.{Noting}
use Rattle.owners.proofs.Owners.new.Given as goal

abbrev pub invariant-loop-members : goal.invariant-loop-members
invariant-loop-members l =
    (goal.iterator-loop-members).can_next l.members-iterator
    × (goal.iterator-loop-members).is_finite l.members-iterator
    × ((groups : List (List ℕ)) → Notable groups l.bytes l.count → Noting groups l.members-iterator l.behind l.owners.array)
