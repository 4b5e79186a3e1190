-- `escarpim_groups` meets its contract. Assumes nothing.
use Rattle.rules.specs.Calls.{groups_entry}
use Rattle.sort.specs.Guarantees.{groups-entry-guaranteed}
use Rattle.sort.proofs.groups_entry.escarpim_groups.Goals as goal

-- The entry answers as `enter` does over a groups call:
-- 13 where the report is short, and else as the call.
pub returns-clause-answer : goal.returns-clause-answer
unfolding groups_entry
returns-clause-answer c = c.enter.ensures

-- What it guarantees follows from its answer,
-- as it does of the order entry.
pub returns-clause-guarantees : goal.returns-clause-guarantees
unfolding groups_entry
returns-clause-guarantees c =
    let a = c.args in
    (groups-entry-guaranteed a.project.now a.reply.now a.report.now a.allowance c.enter.ensures).1
