-- `Graph::add_edge` meets its contract. Assumes nothing.
use Rattle.std.proofs.Common.{◌∙◌}
use Rattle.graph.specs.GraphLaws.{space, edge-added}
use Rattle.graph.proofs.Graph.add_edge.Goals as goal

pub returns-clause-added : goal.returns-clause-added
returns-clause-added g c =
    let old = c.args.self.now in
    let call = c.insert_transitives.new in
    edge-added c.args.weight.0 c.requires
    (space old.fits old.bounds c.add.new.self.sizes.0 c.set_weight.new.weak.size call.reach.size (c.insert_transitives.auto.into ∙ old.size) call.paths.size)
    c.add.ensures (rw (c.from-a.ensures, c.from-b.ensures) at c.set_weight.ensures.stored)
    (rw (c.from-a.ensures, c.from-b.ensures, old.same.0) at c.insert_transitives.ensures.added)
