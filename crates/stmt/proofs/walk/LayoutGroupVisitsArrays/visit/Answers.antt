-- A visit of a group's walk meets its contract: there is an entry on the list. Assumes nothing.
use Rattle.std.proofs.Common.{rules}
use Rattle.stmt.proofs.LendLaws.{lent-shows}
use Rattle.stmt.proofs.RunLaws.{entry-left}
use Rattle.stmt.proofs.walk.LayoutGroupVisitsArrays.visit.Goals as goal

pub visit-requires : goal.visit-requires
visit-requires g c =
    let r = c.requires.walking in
    let h = r.2 in
    (search rules, (search rules, (entry-left h.1 h.2.walked (lent-shows h.2.shows) r.3, (h.0, r.1, h.2, rw h.2.laid.count-is at c.requires.room))))

pub returns : goal.returns
returns g c x s h e = c.visit.ensures.came h.0 x s h.1 h.2
