use Rattle.rules.specs.Calls.{overwrite}
use Rattle.sort.proofs.copy_front.Goals as goal

pub returns : goal.returns
unfolding overwrite
returns c = rw c.copy_from_slice.ensures.after
