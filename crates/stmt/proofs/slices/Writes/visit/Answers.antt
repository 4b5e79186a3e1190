-- A visit of a group's walk meets its contract: whichever state the slices show, it has the item read in front. Assumes nothing.
use Rattle.std.proofs.Common.{arith, refl}
use Rattle.rules.specs.Items.{placed_of}
use Rattle.stmt.specs.Walks.{moved_of}
use Rattle.stmt.proofs.StateLaws.{placed-is}
use Rattle.stmt.proofs.VisitLaws.{front_below}
use Rattle.stmt.proofs.RunLaws.{rest, at_front, from_front, comes-passed, came-walked}
use Rattle.stmt.proofs.slices.Writes.visit.Goals as goal

pub bounds-self-w : goal.bounds-self-w
bounds-self-w c = omega (arith, c.requires.some, c.requires.walking.2.shows.entries.held)

pub has_placed-requires : goal.has_placed-requires
has_placed-requires c =
    let h = c.requires.walking.2 in
    omega (arith, front_below (at_front h c.requires.some), h.shows.placed-size)

pub returns-then-has_placed-clause-comes : goal.returns-then-has_placed-clause-comes
returns-then-has_placed-clause-comes c i s h =
    let placed = placed-is h.shows _ (front_below (at_front h c.requires.some)) c.has_placed.ensures c.if-has_placed.true in
    comes-passed h c.requires.some placed c.passed.ensures

pub returns-then-has_placed-clause-came : goal.returns-then-has_placed-clause-came
returns-then-has_placed-clause-came c i walked s same h =
    let placed = placed-is h.shows _ (front_below (at_front h c.requires.some)) c.has_placed.ensures c.if-has_placed.true in
    came-walked same h refl (comes-passed h c.requires.some placed c.passed.ensures)

pub item-requires : goal.item-requires
item-requires c =
    let r = c.requires.walking in
    (r.0, r.2.laid, front_below (at_front r.2 c.requires.some))

pub visit_unplaced-requires : goal.visit_unplaced-requires
visit_unplaced-requires c =
    let r = c.requires.walking in
    let h = r.2 in
    let some = c.requires.some in
    let front = at_front h some in
    let new = placed-is h.shows _ (front_below front) c.has_placed.ensures c.if-has_placed.false in
    let x = c.item.ensures.item r.0 h.laid (front_below front) in (
      r.0,
      rest h some,
      placed_of r.1,
      moved_of r.1,
      rw c.item.ensures.id new,
      rw c.item.ensures.id front,
      x,
      r.3,
    )

pub returns-clause-comes : goal.returns-clause-comes
returns-clause-comes c i s h =
    let some = c.requires.some in
    let front = at_front h some in
    let new = placed-is h.shows _ (front_below front) c.has_placed.ensures c.if-has_placed.false in
    let x = c.item.ensures.item i h.laid (front_below front) in
    from_front h some
    (rw c.item.ensures.id at
    (c.visit_unplaced.ensures.comes i (rest h some) (placed_of s) (moved_of s) (rw c.item.ensures.id new) (rw c.item.ensures.id front) x))

pub returns-clause-came : goal.returns-clause-came
returns-clause-came c i walked s same h =
    came-walked same h c.visit_unplaced.ensures.sizes.0 (returns-clause-comes c i s h)
