-- `Sort::asked` meets its contract. Assumes nothing.
use Rattle.group.specs.Walking.{all-needs, no-need}
use Rattle.group.proofs.Sort.asked.Goals as goal

pub returns-then-split-clause-entry : goal.returns-then-split-clause-entry
returns-then-split-clause-entry g c = rw c.emptied.ensures.entry (no-need c.if-split-eq1.true c.if-split.true)

pub returns-clause-entry : goal.returns-clause-entry
returns-clause-entry g c = all-needs
