-- `graph::neighbours::links` meets its contract. Assumes nothing.
use Rattle.std.proofs.Common.{rules, ◌≡◌, replicate}
use Rattle.lists.specs.ChainedLaws.{linked-first}
use Rattle.graph.specs.NeighbourLaws.{links-made}
use Rattle.graph.proofs.neighbours.links.Goals as goal

pub returns : goal.returns
returns c =
    let n = c.args.n in
    let cleared-out : c.fill.new.self ≡ replicate n 0 = search rules in
    let cleared-in : c.fill-2.new.self ≡ replicate n 0 = search rules in
    links-made c.requires
    (rw cleared-out at (linked-first c.requires.from-size c.link.ensures)) (search rules) c.link.auto.next
    (rw cleared-in at (linked-first c.requires.to-size c.link-2.ensures)) (search rules) c.link-2.auto.next
