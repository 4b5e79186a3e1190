-- `stopped` meets its contract. Assumes nothing.
use Rattle.order.specs.Stops.{stopped_as}
use Rattle.order.proofs.tables.stopped.Goals as goal

pub returns-in-Spent : goal.returns-in-Spent
unfolding stopped_as
returns-in-Spent c = rw c.in-Spent.is

pub returns-in-Full : goal.returns-in-Full
unfolding stopped_as
returns-in-Full c = rw c.in-Full.is

pub returns-in-Crowded : goal.returns-in-Crowded
unfolding stopped_as
returns-in-Crowded c = rw c.in-Crowded.is
