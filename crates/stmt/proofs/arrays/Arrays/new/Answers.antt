-- `Arrays::new` meets its contract. Assumes nothing.
use Rattle.rules.specs.Project.{item_limit}
use Rattle.lists.specs.ArrayLaws.{zeros-replicate}
use Rattle.stmt.proofs.arrays.Arrays.new.Goals as goal

pub returns-clause-open : goal.returns-clause-open
returns-clause-open g c = zeros-replicate item_limit

pub returns-clause-order : goal.returns-clause-order
returns-clause-order g c = zeros-replicate item_limit
