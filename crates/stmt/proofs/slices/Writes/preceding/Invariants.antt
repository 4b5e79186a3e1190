-- `Writes::preceding` meets its contract. The loop's invariant: the items that precede x are those from i on. Assumes nothing.
use Rattle.std.proofs.Common.{◌≡◌}
use Rattle.rules.specs.Items.{Group, ItemState, placed_of, preceding}
use Rattle.laws.specs.Splits.{size}
use Rattle.stmt.specs.declared.walk.ItemWalk.{ItemWalk}
use Rattle.stmt.specs.Walks.{moved_of, Ranged}
use Rattle.stmt.specs.Slices.{held, Shows}
use Rattle.stmt.proofs.PrecedingLaws.{preceding_from}
use Rattle.stmt.proofs.slices.Writes.preceding.Given as goal

abbrev pub invariant-loop-i : goal.invariant-loop-i
invariant-loop-i l =
    (i : Group) (w : ItemWalk) (s : ItemState) → Shows (size i) l.width (held l.self) w s → (r : Ranged i l.x)
    → preceding i (placed_of s) (moved_of s) l.x.id.0 ≡ preceding_from (placed_of s) (moved_of s) r l.i
