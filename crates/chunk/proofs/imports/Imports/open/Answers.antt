use Rattle.std.proofs.Common.{arith, ap, length}
use Rattle.lists.specs.ChainedLaws.{places-below}
use Rattle.chunk.proofs.imports.Imports.open.Goals as goal

pub invariant_of-result : goal.invariant_of-result
invariant_of-result c =
    record {
      within = λ x m. omega (arith, places-below c.chain.result.next.now c.chain.result.entry c.chain.result.leads x m, ap length c.chain.ensures.next, c.args.self.now.chains.sizes);
      below = c.args.self.now.below;
    }
