-- `Imports::lay_out` meets its contract. Assumes nothing.
use Rattle.std.proofs.Common.{arith}
use Rattle.chunk.specs.LayoutLaws.{laying-start, laying-room, laying-next, laying-end}
use Rattle.chunk.proofs.imports.Imports.lay_out.Goals as goal

pub loop-row-init : goal.loop-row-init
loop-row-init c =
    let n = c.requires.fresh in
    let started = laying-start c.args.self.now.rows c.requires.fit_rows n.none n.seen n.from n.to in
    (tt, tt, rw (c.into_iter-row-iterator.ensures.into_iter_gives, c.new-row-items.ensures) started, n.heads)

pub add-requires : goal.add-requires
add-requires c = (omega arith, rw (c.from.ensures, c.from-in-loop-row.ensures) (laying-room c.loop-row.self.rows c.in-Some.ensures.steps c.loop-row.invariant.2))

pub invariant_of-self : goal.invariant_of-self
invariant_of-self c =
    let next = laying-next c.loop-row.self.rows c.in-Some.ensures.steps c.loop-row.invariant.2 c.add.new.self (rw (c.from.ensures, c.from-in-loop-row.ensures) at c.add.ensures) in
    record { below = next.to_below }

pub loop-row-preserved : goal.loop-row-preserved
loop-row-preserved c =
    (tt, tt, laying-next c.loop-row.self.rows c.in-Some.ensures.steps c.loop-row.invariant.2 c.add.new.self (rw (c.from.ensures, c.from-in-loop-row.ensures) at c.add.ensures), c.loop-row.invariant.3)

pub returns : goal.returns
returns c =
    let at_head = c.loop-row.self in
    laying-end at_head.rows c.in-None.ensures.steps.0 c.loop-row.invariant.2
    at_head.chains.heads at_head.chains.next c.link.new.self c.loop-row.invariant.3 c.link.ensures
