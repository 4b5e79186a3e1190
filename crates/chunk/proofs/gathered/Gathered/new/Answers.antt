use Rattle.std.proofs.Common.{arith, refl}
use Rattle.rules.specs.Lists.{elem}
use Rattle.laws.specs.Lists.{none}
use Rattle.laws.specs.Counting.{below-nil}
use Rattle.lists.specs.BitLaws.{bit-zero}
use Rattle.chunk.proofs.gathered.Gathered.new.Goals as goal

pub invariant_of-result : goal.invariant_of-result
unfolding elem
invariant_of-result c = record { sizes = (refl, omega arith); once = none; below = below-nil; marks = bit-zero }
