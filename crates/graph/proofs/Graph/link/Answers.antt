-- `Graph::link` meets its contract. Assumes nothing.
use Rattle.std.proofs.Common.{arith, refl}
use Rattle.graph.specs.NeighbourLaws.{ascends-relinked, neighbours-laid, neighbours-chained}
use Rattle.graph.proofs.Graph.link.Goals as goal

pub invariant_of-outgoing-clause-ascends : goal.invariant_of-outgoing-clause-ascends
invariant_of-outgoing-clause-ascends g c =
    let old = c.args.self.now in
    ascends-relinked c.links.ensures.outgoing old.outgoing.ascends c.links.auto.next_out (omega (arith, c.links.auto.next_out, old.outgoing.sizes, old.pairs.within))

pub invariant_of-incoming-clause-ascends : goal.invariant_of-incoming-clause-ascends
invariant_of-incoming-clause-ascends g c =
    let old = c.args.self.now in
    ascends-relinked c.links.ensures.incoming old.incoming.ascends c.links.auto.next_in (omega (arith, c.links.auto.next_in, old.incoming.sizes, old.pairs.within))

pub returns-clause-linked : goal.returns-clause-linked
returns-clause-linked g c =
    record {
      matrices-kept = refl;
      words-kept = refl;
      from-kept = refl;
      to_kept = refl;
      count-kept = refl;
      out-rest = c.links.ensures.outgoing.next-rest;
      in_rest = c.links.ensures.incoming.next-rest;
    }

pub returns-clause-rechained : goal.returns-clause-rechained
returns-clause-rechained g c = record { outgoing-made = c.links.ensures.outgoing; incoming-made = c.links.ensures.incoming }

pub returns-clause-neighbours : goal.returns-clause-neighbours
returns-clause-neighbours g c = λ needs same. neighbours-laid needs c.args.self.now _ same (c.links.ensures.neighbours needs same)

pub returns-clause-chained : goal.returns-clause-chained
returns-clause-chained g c = λ needs same. neighbours-chained needs c.args.self.now _ same (c.links.ensures.neighbours needs same)
