use Rattle.std.proofs.Common.{sym, ◌∙◌}
use Rattle.project.specs.CountedLaws.{circles_whole}
use Rattle.chunk.specs.CircleLaws.{listing_start, listing-below, listing-held, listing-other, listing-end}
use Rattle.chunk.proofs.circles.listed_with.Goals as goal

pub new-list-items-requires : goal.new-list-items-requires
new-list-items-requires c = circles_whole _ _ c.requires

pub loop-list-init : goal.loop-list-init
loop-list-init c =
    let started = listing_start c.args.section.now c.args.m.0 c.new-r.result c.new-r.ensures c.requires in
    (tt, tt, rw (c.into_iter-list-iterator.ensures.into_iter_gives, c.new-list-items.ensures) started)

pub append_new-requires : goal.append_new-requires
append_new-requires c = listing-below _ _ c.loop-list.invariant.2 c.in-Some.ensures.steps

pub loop-list-preserved-then-holds : goal.loop-list-preserved-then-holds
loop-list-preserved-then-holds c =
    (tt, tt, listing-held _ _ c.loop-list.invariant.2 c.in-Some.ensures.steps (sym c.holds.ensures ∙ c.if-holds.true) c.append_new.ensures)

pub loop-list-preserved : goal.loop-list-preserved
loop-list-preserved c =
    (tt, tt, listing-other _ _ c.loop-list.invariant.2 c.in-Some.ensures.steps (sym c.holds.ensures ∙ c.if-holds.false))

pub returns : goal.returns
returns c = listing-end _ _ c.in-None.ensures.steps.0 c.loop-list.invariant.2
