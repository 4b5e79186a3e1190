use Rattle.std.proofs.Common.{arith, ◌∙◌, ◌<◌}
use Rattle.rules.specs.Items.{placed_of}
use Rattle.laws.specs.Splits.{size}
use Rattle.stmt.specs.Walks.{moved_of}
use Rattle.stmt.proofs.StateLaws.{cell, placed-is, moved-is}
use Rattle.stmt.proofs.PrecedingLaws.{preceding-start, preceding-placed, preceding-moved, preceding-found, preceding-none}
use Rattle.stmt.proofs.slices.Writes.preceding.Goals as goal
use Rattle.stmt.proofs.slices.Writes.preceding.Goals.{else-not-has_placed-via-then-not-has_placed+else-not-has_moved, else-not-has_placed-via-else-not-has_placed}

pub loop-i-init : goal.loop-i-init
loop-i-init c i w s h r = preceding-start (placed_of s) (moved_of s) r

pub returns-then-not-has_moved : goal.returns-then-not-has_moved
returns-then-not-has_moved c i w s h r =
    let below : c.loop-i.i < size i = omega (arith, r.item.below) in
    preceding-found (placed_of s) (moved_of s) r c.loop-i.i c.loop-i-test.true
    (placed-is h c.loop-i.i below c.has_placed.ensures c.if-not-has_placed.true)
    (moved-is h c.args.x.id.0 c.loop-i.i r.item.below below c.has_moved.ensures c.if-not-has_moved.true) (c.loop-i.invariant i w s h r)

pub loop-i-preserved : goal.loop-i-preserved
loop-i-preserved c i w s h r =
    let below : c.loop-i.i < size i = omega (arith, r.item.below) in
    c.loop-i.invariant i w s h r
    ∙ elim c.else-not-has_placed.branch [
      | else-not-has_placed-via-then-not-has_placed+else-not-has_moved v ↦
          preceding-moved (placed_of s) (moved_of s) r c.loop-i.i c.loop-i-test.true
          (placed-is h c.loop-i.i below c.has_placed.ensures v.if-not-has_placed.true)
          (moved-is h c.args.x.id.0 c.loop-i.i r.item.below below v.has_moved.ensures v.if-not-has_moved.false)
      | else-not-has_placed-via-else-not-has_placed v ↦
          preceding-placed (placed_of s) (moved_of s) r c.loop-i.i c.loop-i-test.true
          (placed-is h c.loop-i.i below c.has_placed.ensures v.if-not-has_placed.false)
    ]

pub returns : goal.returns
returns c i w s h r = preceding-none (placed_of s) (moved_of s) r (omega arith) (c.loop-i.invariant i w s h r)

pub has_moved-requires : goal.has_moved-requires
has_moved-requires c =
    let r = c.requires in
    cell r.3.pairs c.args.x.id.0 c.loop-i.i r.4.item.below (omega (arith, r.4.item.below))

pub has_placed-requires : goal.has_placed-requires
has_placed-requires c = let r = c.requires in omega (arith, r.4.item.below, r.3.placed-size)
