-- `graph::transitives::insert_transitives` meets its contract. Assumes nothing.
use Rattle.std.proofs.Common.{sym, ◌∙◌}
use Rattle.graph.specs.ReachLaws.{way-old, way-new}
use Rattle.graph.proofs.transitives.insert_transitives.Goals as goal

pub returns-then-holds-clause-added : goal.returns-then-holds-clause-added
returns-then-holds-clause-added g c = way-old c.requires.room (rw c.requires.same at c.holds.ensures) c.if-holds.true

pub returns-then-paths-eq1-clause-added : goal.returns-then-paths-eq1-clause-added
returns-then-paths-eq1-clause-added g c =
    let one = sym c.requires.same ∙ c.if-paths-eq1.true in
    let both = c.enter_words.ensures c.args.n (rw one at c.requires.room) in
    way-new c.requires.room (rw c.requires.same at c.holds.ensures) c.if-holds.false (rw one both.0) (λ e. both.1)

pub returns-else-paths-eq1-clause-added : goal.returns-else-paths-eq1-clause-added
returns-else-paths-eq1-clause-added g c =
    way-new c.requires.room (rw c.requires.same at c.holds.ensures) c.if-holds.false c.enter_rows.ensures.entered
    (λ e. absurd (c.if-paths-eq1.false (c.requires.same ∙ e)))
