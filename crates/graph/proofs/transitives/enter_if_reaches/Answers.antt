-- `graph::transitives::enter_if_reaches` meets its contract. Assumes nothing.
use Rattle.graph.specs.ReachLaws.{row-there, row-not}
use Rattle.graph.proofs.transitives.enter_if_reaches.Goals as goal

pub returns-then-holds-clause-entered : goal.returns-then-holds-clause-entered
returns-then-holds-clause-entered g c =
    let a = c.args in
    row-there a.reach.now.words a.a a.x a.y a.row.now a.reach.now.cells a.paths.now.cells c.holds.ensures c.if-holds.true
    c.join_row.ensures.joined (rw c.requires.same at c.enter_other.ensures.joined)

pub returns-else-holds-clause-entered : goal.returns-else-holds-clause-entered
returns-else-holds-clause-entered g c =
    let a = c.args in
    row-not a.reach.now.words a.a a.x a.y a.row.now a.reach.now.cells a.paths.now.cells c.holds.ensures c.if-holds.false
