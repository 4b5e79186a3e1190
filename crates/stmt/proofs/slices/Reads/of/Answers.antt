-- `Reads::of` meets its contract. Assumes nothing.
use Rattle.std.proofs.Common.{arith, refl, ◌≤◌}
use Rattle.rules.specs.Project.{item_limit}
use Rattle.rules.specs.Items.{path_holds}
use Rattle.laws.specs.Splits.{size}
use Rattle.stmt.proofs.LendLaws.{links-chained, rows-table}
use Rattle.stmt.proofs.slices.Reads.of.Goals as goal

pub returns-clause-laid : goal.returns-clause-laid
unfolding path_holds
returns-clause-laid g c i h =
    let graph = c.args.group.now.graph in
    let most : size i ≤ item_limit = omega (arith, h.nodes-is, graph.fits.numbers, graph.fits.most) in
    record {
      formed = h.formed;
      dependencies = links-chained graph.pairs.to graph.outgoing refl refl refl graph.pairs.sizes.2 most (rw h.nodes-is at h.needs-laid.neighbours.dependencies);
      dependants = links-chained graph.pairs.from graph.incoming refl refl refl graph.pairs.sizes.1 most (rw h.nodes-is at h.needs-laid.neighbours.dependants);
      paths-shown = rows-table graph.paths.cells h.nodes-is graph.paths.size graph.fits h.needs-laid.paths-shown;
      weak-shown = rows-table graph.weak.cells h.nodes-is graph.weak.size graph.fits h.needs-laid.weak-shown;
      kinds-shown = h.kinds-shown;
      ranges-shown = h.ranges-shown;
    }
