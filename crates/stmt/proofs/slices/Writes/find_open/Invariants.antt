-- `Writes::find_open` meets its contract. The loop's invariant: the dependencies found, with those that the rest will give, are those of the
-- definition. Assumes nothing.
use Rattle.std.proofs.Common.{◌≡◌}
use Rattle.rules.specs.Items.{Group, ItemState}
use Rattle.stmt.specs.declared.walk.ItemWalk.{ItemWalk}
use Rattle.stmt.specs.Walks.{ItemIs}
use Rattle.stmt.specs.Alongs.{nodes_from}
use Rattle.stmt.specs.Slices.{SameSizes, SameLent, held, Walking}
use Rattle.stmt.proofs.FindLaws.{Finding}
use Rattle.stmt.proofs.slices.Writes.find_open.Given as goal

abbrev pub invariant-loop-d : goal.invariant-loop-d
invariant-loop-d l =
    goal.iterator-loop-d.can_next l.d-iterator × goal.iterator-loop-d.is_finite l.d-iterator
    × ((l.self.placed.now ≡ l.initial.self.placed.now) × (l.self.order.now ≡ l.initial.self.order.now) × (l.self.list.now ≡ l.initial.self.list.now))
    × SameSizes (held l.initial.self) (held l.self) × SameLent l.initial.self l.self
    × ((i : Group) (w : ItemWalk) (s : ItemState) → Walking i l.fn.group (held l.initial.self) w s → ItemIs i l.fn.x
    → Finding i l.fn.group (held l.self) w s l.fn.x.id.0 l.n (nodes_from l.d-iterator.ends.now l.d-iterator.next.now l.d-iterator.entry))
