-- The test of one need meets what `add_edge` and `link` ask for. Assumes nothing.
use Rattle.std.proofs.Common.{rules, arith, [], ◌∷◌}
use Rattle.rules.specs.Project.{need_row}
use Rattle.graph.specs.GraphLaws.{edge-room}
use Rattle.graph.specs.NeighbourLaws.{shown-room16}
use Rattle.graph.proofs.tests.one_need.Goals as goal

pub add_edge-requires : goal.add_edge-requires
add_edge-requires c =
    let e = c.clear.ensures in
    let sizes = c.clear.new.self.pairs.sizes in (
      search rules,
      edge-room {graph = []} (rw (e.words, e.nodes, e.none) (e.cleared.shows _ _)) 0 1 (omega (arith, e.nodes)) (omega (arith, e.nodes)) (omega (arith, sizes)) (omega (arith, sizes)),
    )

pub link-requires : goal.link-requires
link-requires c =
    let e = c.clear.ensures in
    let f = c.add_edge.ensures in (
      search rules,
      shown-room16 {graph = need_row 0 1 1 ∷ []} c.add_edge.new.self (rw (f.words, f.nodes) (f.added.shows [] (rw (e.words, e.nodes, e.none) (e.cleared.shows _ _)))) (omega arith),
    )
