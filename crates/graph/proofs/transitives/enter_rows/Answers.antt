-- `graph::transitives::enter_rows` meets its contract. Assumes nothing.
use Rattle.graph.specs.RowLaws.{row_within, row_copied}
use Rattle.graph.specs.ReachLaws.{way-entered}
use Rattle.graph.proofs.transitives.enter_rows.Goals as goal

pub returns-clause-entered : goal.returns-clause-entered
returns-clause-entered g c =
    let room = c.requires.room in
    let reach = c.args.reach.now in
    let there = row_within room.reach-rows c.args.y room.second in
    let bits = row_copied reach.words reach.cells _ c.args.y there c.copy_row.ensures in
    way-entered room bits c.row_insert.ensures c.enter_reaching.ensures.entered (rw c.enter_reaching.ensures.words.1 at c.join_row.ensures.joined)
    (rw (c.enter_reaching.ensures.words.0, c.requires.same) at c.enter_own.ensures.joined)
