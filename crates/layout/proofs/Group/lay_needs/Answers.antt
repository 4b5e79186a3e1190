-- `Group::lay_needs` meets its contract. Assumes nothing.
use Rattle.std.proofs.Common.{rules, arith, sym, ◌∙◌, eqb-true, take}
use Rattle.rules.specs.Lists.{keep}
use Rattle.graph.specs.NeighbourLaws.{shown-pairs, shown-room16, shown-laid}
use Rattle.layout.specs.NeedLaws.{none-along, shows_none, among-few}
use Rattle.layout.proofs.Group.lay_needs.Goals as goal

pub returns-then-is_empty-clause-laid : goal.returns-then-is_empty-clause-laid
unfolding keep
returns-then-is_empty-clause-laid g c =
    λ all a r. rw (none-along a (eqb-true c.args.own.entry 0 (sym c.is_empty.ensures ∙ c.if-is_empty.true))) c.lay_out_none.ensures.laid

pub returns-then-is_empty-clause-chained : goal.returns-then-is_empty-clause-chained
unfolding keep
returns-then-is_empty-clause-chained g c =
    λ all a r. rw (none-along a (eqb-true c.args.own.entry 0 (sym c.is_empty.ensures ∙ c.if-is_empty.true))) c.lay_out_none.ensures.chained

pub add_needs-requires : goal.add_needs-requires
add_needs-requires g c =
    let known = c.requires.along in
    let new = c.clear.ensures in
    (search rules, (c.requires.noted, (known.0, known.1, shows_none new.nodes new.words new.none (new.cleared.shows _ _), known.2.places)))

pub link-requires : goal.link-requires
link-requires g c =
    let known = c.requires.along in
    let new = c.clear.ensures in
    let shows = c.add_needs.ensures.added known.0 known.1 (shows_none new.nodes new.words new.none (new.cleared.shows _ _)) known.2.places in
    let rows = take c.args.self.now.split.count c.args.self.now.split.rows in
    (search rules, shown-room16 c.add_needs.new.self.graph shows.shown (omega (arith, among-few rows known.0, known.1.most)))

pub returns-clause-laid : goal.returns-clause-laid
returns-clause-laid g c =
    λ all a r.
    let new = c.clear.ensures in
    let shows = c.add_needs.ensures.added all a (shows_none new.nodes new.words new.none (new.cleared.shows _ _)) r.places in
    let link = c.link.ensures in
    shown-laid _ c.add_needs.new.self.graph shows.shown (link.neighbours _) link.nodes link.linked

pub returns-clause-chained : goal.returns-clause-chained
returns-clause-chained g c =
    λ all a r.
    let new = c.clear.ensures in
    let shows = c.add_needs.ensures.added all a (shows_none new.nodes new.words new.none (new.cleared.shows _ _)) r.places in
    c.link.ensures.chained _ (shown-pairs _ c.add_needs.new.self.graph shows.shown)
