use borrow.Author.Rules.{rules}
use Rattle.std.proofs.Common.{◌∙◌}
use Rattle.graph.specs.RowLaws.{column}
use Rattle.graph.specs.ReachLaws.{rows-turn}
use Rattle.graph.proofs.transitives.enter_reaching.Goals as goal

pub loop-a-preserved : goal.loop-a-preserved
loop-a-preserved g c =
    let head = c.loop-a.invariant in
    let call = c.enter_if_reaches.ensures in (
      search rules,
      call.words.0 ∙ head.1,
      call.words.1 ∙ head.2,
      rows-turn (column c.requires.way_room.reach-rows c.requires.way_room.first) head.3 (rw head.2 at call.entered),
    )
