-- `chunk::circles::circle_of` meets its contract: nothing for a module in no list, and else what following m from nothing gathers, reversed.
-- Assumes nothing.
use Rattle.std.proofs.Common.{refl, sym, ◌∙◌}
use Rattle.chunk.specs.CircleLaws.{circle-nothing, module-ready, circle-gathered}
use Rattle.chunk.proofs.circles.circle_of.Goals as goal

pub returns-then-not-is_listed : goal.returns-then-not-is_listed
returns-then-not-is_listed c =
    circle-nothing c.args.section.now c.args.m.0 c.new.result (sym c.is_listed.ensures ∙ c.if-not-is_listed.true) c.new.ensures

pub follow_module-requires : goal.follow_module-requires
follow_module-requires c = module-ready c.args.section.now c.args.m.0 _ c.requires c.new-2.ensures refl

pub returns : goal.returns
returns c =
    circle-gathered c.args.section.now c.args.m.0 _ c.requires c.new-2.ensures refl c.reverse.new.self c.follow_module.ensures c.reverse.ensures
