use Rattle.std.proofs.Common.{rules, arith, ◌+◌, ◌≡◌, refl}
use Rattle.rules.specs.Lists.{up_from}
use Rattle.lists.specs.Stacks.{stack}
use Rattle.lists.specs.StackLaws.{stack_push}
use Rattle.chunk.specs.WalkLaws.{fill_more}
use Rattle.chunk.specs.StartLaws.{walk-started}
use Rattle.chunk.proofs.walk.ModuleWalk.new.Goals as goal

pub loop-i-init : goal.loop-i-init
unfolding stack up_from
loop-i-init c =
    rw (c.into_iter-i-iterator.ensures.into_iter_gives, c.enumerate-i-items.ensures.count, c.enumerate-i-items.ensures.source, c.rev.ensures.source)
    (search rules, search rules, refl, omega arith, refl)

pub bounds-list-i : goal.bounds-list-i
bounds-list-i c = omega (arith, c.in-Some.ensures.steps, c.loop-i.invariant)

pub loop-i-preserved : goal.loop-i-preserved
loop-i-preserved c =
    let it = c.loop-i.i-iterator in
    let step = c.in-Some.ensures.steps in
    let filled = c.loop-i.invariant.4 in
    let next : it.iter.iter.end ≡ c.in-Some.m + 1 = omega (arith, step) in (
      search rules,
      search rules,
      omega (arith, step, c.loop-i.invariant),
      omega (arith, step, c.loop-i.invariant),
      rw (step.1, step.2, ← step.0.1.1) (fill_more c.loop-i.list it.count c.in-Some.m (omega (arith, step, c.loop-i.invariant)) (rw next at filled)),
    )

pub returns : goal.returns
returns c =
    let it = c.loop-i.i-iterator in
    let steps = c.in-None.ensures.steps in
    let n = c.args.modules in
    let filled = c.loop-i.invariant.4 in
    let end : it.iter.iter.end ≡ 0 = omega (arith, steps, c.loop-i.invariant) in
    let count : it.count ≡ n = omega (arith, steps, c.loop-i.invariant) in
    let none = c.default.ensures in
    rw (c.from-n.ensures, none.1.0, none.1.1.0, none.1.1.1.0, none.1.1.1.1)
    (walk-started n c.args.entry.0 (omega arith) (rw (stack_push c.loop-i.list n c.args.entry.0 (omega arith), rw (end, count) at filled)))
