use Rattle.laws.specs.Counting.{below-nil, below-cons}
use Rattle.chunk.proofs.gathered.Gathered.append_one.Goals as goal

pub append_new-requires : goal.append_new-requires
append_new-requires c = below-cons c.requires below-nil
