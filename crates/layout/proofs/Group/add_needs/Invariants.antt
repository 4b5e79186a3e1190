-- `Group::add_needs` meets its contract. The loop's invariant: the rows at the places that are left stand in the section, and their needs are not added.
-- Assumes nothing.
use Rattle.std.proofs.Common.{ℕ, ◌+◌, ◌*◌, ◌≡◌, ◌≤◌, List, [], take, length}
use Rattle.rules.specs.Project.{Need}
use Rattle.laws.specs.Lists.{◌∈◌}
use Rattle.lists.specs.Chained.{places}
use Rattle.owners.specs.Owners.{NeedsAlong}
use Rattle.layout.specs.Needs.{Shows, Adding}
use Rattle.layout.proofs.Group.add_needs.Given as goal

abbrev pub invariant-loop-row : goal.invariant-loop-row
invariant-loop-row g l =
    let old = l.initial.self in
    let own = l.fn.own in
    let left = places l.row-iterator.next.now l.row-iterator.entry in
    (l.self.split ≡ old.split) × (l.self.numbers ≡ old.numbers) × ((i : ℕ) → i ∈ left → 3 * i + 3 ≤ length l.needs)
    × ((all : List Need) → NeedsAlong l.needs own.next.now own.entry all → Shows [] old.split old.graph → length all ≤ g.row.NEEDS
    → Adding (take old.split.count old.split.rows) l.needs left all old.split l.self.graph)
