-- The walk of a group has ended where all its items are placed. Assumes nothing.
use Rattle.stmt.proofs.LendLaws.{lent-shows}
use Rattle.stmt.proofs.RunLaws.{ended-placed}
use Rattle.stmt.proofs.walk.LayoutGroupVisitsArrays.has_ended.Goals as goal

pub returns : goal.returns
returns g c x s h = ended-placed h.1 h.2.walked (lent-shows h.2.shows) h.2.laid.count-is
