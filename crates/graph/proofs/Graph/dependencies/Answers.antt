-- `Graph::dependencies` meets its contract. Assumes nothing.
use Rattle.std.proofs.Common.{arith, ap, length}
use Rattle.lists.specs.ChainedLaws.{places-below}
use Rattle.graph.proofs.Graph.dependencies.Goals as goal

pub invariant_of-result : goal.invariant_of-result
invariant_of-result g c =
    let chain = c.chain.result in
    record {
      within = λ x m. omega (arith, places-below chain.next.now chain.entry chain.leads x m, ap length c.chain.ensures.next, c.args.self.now.outgoing.sizes, c.args.self.now.pairs.sizes);
    }
