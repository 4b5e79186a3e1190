-- `Split::new` meets its contract. Assumes nothing.
use Rattle.rules.specs.Project.{module_limit, item_limit}
use Rattle.lists.specs.ArrayLaws.{zeros-replicate}
use Rattle.split.proofs.Split.new.Goals as goal

pub returns-clause-zeros : goal.returns-clause-zeros
returns-clause-zeros c =
    (zeros-replicate item_limit, zeros-replicate item_limit, zeros-replicate item_limit, zeros-replicate item_limit, zeros-replicate module_limit)
