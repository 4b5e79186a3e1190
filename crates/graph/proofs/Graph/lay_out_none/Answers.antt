-- `Graph::lay_out_none` meets its contract. Assumes nothing.
use Rattle.graph.specs.RowLaws.{rows-cleared}
use Rattle.std.proofs.Common.{arith, refl}
use mathlib.Core.List.{[]}
use Rattle.graph.specs.NeighbourLaws.{none-linked, none-chained}
use Rattle.rules.specs.Lists.{keep, append_new, different}
use Rattle.rules.specs.Paths.{dependencies_of, dependants_of, in_paths, weight_in}
use Rattle.graph.specs.Graph.{is_maybe}
use Rattle.graph.proofs.Graph.lay_out_none.Goals as goal

pub returns-clause-laid : goal.returns-clause-laid
unfolding dependencies_of dependants_of in_paths is_maybe weight_in different append_new keep
returns-clause-laid g c =
    let old = c.args.self.now in
    record {
      neighbours =
          record {
            dependencies = none-linked old.pairs.to old.outgoing c.clear-3.new.self c.clear-3.ensures.heads;
            dependants = none-linked old.pairs.from old.incoming c.clear-4.new.self c.clear-4.ensures.heads;
          };
      paths-shown = rw (c.clear.ensures.words, c.clear-2.ensures.cells) (rows-cleared _ c.args.nodes old.paths.cells);
      weak-shown = rw (c.clear.ensures.words, c.clear.ensures.cells) (rows-cleared _ c.args.nodes old.weak.cells);
    }

pub returns-clause-chained : goal.returns-clause-chained
unfolding dependencies_of dependants_of different append_new keep
returns-clause-chained g c =
    let old = c.args.self.now in
    record {
      out-chained =
          none-chained (dependencies_of []) old.pairs.to old.outgoing c.clear-3.new.self (omega (arith, c.requires.numbers, c.requires.most))
          c.clear-3.ensures.heads (λ x. refl);
      in-chained =
          none-chained (dependants_of []) old.pairs.from old.incoming c.clear-4.new.self (omega (arith, c.requires.numbers, c.requires.most))
          c.clear-4.ensures.heads (λ x. refl);
    }
