-- `graph::transitives::enter_other` meets its contract. Assumes nothing.
use borrow.Author.Rules.{rules}
use Rattle.graph.specs.ReachLaws.{other-there}
use Rattle.graph.proofs.transitives.enter_other.Goals as goal

pub returns-then-a-y-clause-joined : goal.returns-then-a-y-clause-joined
returns-then-a-y-clause-joined g c =
    let a = c.args in
    other-there a.paths.now.words a.a a.y c.if-a-y.true (search rules) c.insert.ensures.inserted
