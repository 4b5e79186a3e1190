use Rattle.std.proofs.Common.{arith, rules, refl, ◌<◌}
use mathlib.Core.List.{flat_map}
use Rattle.laws.specs.Splits.{size}
use Rattle.split.specs.FirstSlices.{held_by}
use Rattle.split.specs.FirstListLaws.{push-below, push-room, push-turn}
use Rattle.split.specs.PushLaws.{pushing-start}
use Rattle.split.proofs.push_ranges.Goals as goal
use Rattle.split.proofs.push_ranges.Goals.{In-Some}

pub loop-start-init : goal.loop-start-init
unfolding flat_map
loop-start-init c =
    rw (c.into_iter-start-iterator.ensures.into_iter_gives, c.rev-start-items.ensures.source, c.iter.ensures.rest)
    (tt, tt, λ g h. pushing-start (held_by g) c.args.starts.now c.args.list.now c.args.end refl)

-- the start is a number of the group
within : (c : In-Some) → c.in-Some.field-0.now < size c.requires.0
within c =
    let h = c.requires.1 in
    push-below h (c.loop-start.invariant.2 c.requires.0 h) _ _ c.in-Some.ensures.steps

pub bounds-low-x : goal.bounds-low-x
bounds-low-x c = omega (arith, c.from-x.ensures, within (goal.at.bounds-low-x c).In-Some, c.requires.1.ranges-shown.low-size)

pub push_numbers-n-requires : goal.push_numbers-n-requires
push_numbers-n-requires c =
    let h = c.requires.1 in (
      search rules,
      rw (c.from-in-loop-start.ensures, c.from.ensures, c.from-x.ensures) (push-room h (c.loop-start.invariant.2 c.requires.0 h) _ _ c.in-Some.ensures.steps c.requires.2),
    )

pub loop-start-preserved : goal.loop-start-preserved
loop-start-preserved c = (
  tt,
  tt,
  λ g h. push-turn h (c.loop-start.invariant.2 g h) _ _ c.in-Some.ensures.steps
      (rw (c.from-in-loop-start.ensures, c.from.ensures, c.from-x.ensures) at c.push_numbers-n.ensures) c.push_numbers-n.auto.list,
)
