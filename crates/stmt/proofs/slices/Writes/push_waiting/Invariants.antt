-- `Writes::push_waiting` meets its contract. The loop's invariant: with those that wait of the dependants left pushed the list is as it is to be.
-- Assumes nothing.
use Rattle.std.proofs.Common.{◌<◌, ◌≡◌, length}
use Rattle.rules.specs.Items.{Group, ItemState}
use Rattle.laws.specs.Splits.{size}
use Rattle.stmt.specs.Alongs.{nodes_from}
use Rattle.stmt.specs.Slices.{SameLent, held, Shows, Laid, ListOnly}
use Rattle.stmt.proofs.PushLaws.{Pushing}
use Rattle.stmt.proofs.slices.Writes.push_waiting.Given as goal

abbrev pub invariant-loop-d : goal.invariant-loop-d
invariant-loop-d l =
    goal.iterator-loop-d.can_next l.d-iterator × goal.iterator-loop-d.is_finite l.d-iterator
    × ListOnly (held l.initial.self) (held l.self)
    × ((length l.self.list.now ≡ length l.initial.self.list.now) × SameLent l.initial.self l.self)
    × ((i : Group) (s : ItemState) → Laid i l.fn.group → Shows (size i) l.fn.group.width (held l.initial.self) l.fn.w s → l.fn.x.0 < size i
    → Pushing i l.fn.group (held l.self) l.after s l.fn.x.0 (nodes_from l.d-iterator.ends.now l.d-iterator.next.now l.d-iterator.entry))
