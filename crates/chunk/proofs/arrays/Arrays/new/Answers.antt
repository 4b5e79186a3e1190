use Rattle.rules.specs.Calls.{module_list_limit}
use Rattle.rules.specs.Project.{module_limit}
use Rattle.std.proofs.Common.{◌+◌, ◌*◌}
use Rattle.lists.specs.ArrayLaws.{zeros-replicate}
use Rattle.chunk.proofs.arrays.Arrays.new.Goals as goal

pub returns-clause-list : goal.returns-clause-list
returns-clause-list c = zeros-replicate module_list_limit

pub returns-clause-groups : goal.returns-clause-groups
returns-clause-groups c = zeros-replicate (module_limit * (module_limit + 1))
