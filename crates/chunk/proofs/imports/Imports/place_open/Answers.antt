use Rattle.lists.specs.StackLaws.{placing-rest, placing-one, placing-end}
use Rattle.chunk.proofs.imports.Imports.place_open.Goals as goal

pub loop-d-preserved : goal.loop-d-preserved
loop-d-preserved c = (tt, tt, placing-one (placing-rest c.in-Some.ensures.steps c.loop-d.invariant.2))

pub returns : goal.returns
returns c = placing-end (placing-rest c.in-None.ensures.steps.0 c.loop-d.invariant.2)
