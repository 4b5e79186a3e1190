use Rattle.graph.specs.WordLaws.{joined-set}
use Rattle.graph.proofs.word.join_set.Goals as goal

pub returns : goal.returns
returns c = joined-set c.loop-a.invariant c.in-None.ensures.steps.0
