-- `Graph::clear` meets its contract. Assumes nothing.
use Rattle.std.proofs.Common.{refl, replicate}
use Rattle.graph.specs.Graph.{matrices_of}
use Rattle.graph.specs.GraphLaws.{space, all-cleared}
use Rattle.graph.proofs.Graph.clear.Goals as goal

pub returns-then-words-eq1-clause-cleared : goal.returns-then-words-eq1-clause-cleared
returns-then-words-eq1-clause-cleared g c =
    let old = c.args.self.now in
    let same = c.words_of-words.ensures in
    let rows =
    space {into = replicate 64 0} c.requires old.bounds c.clear.new.self.sizes.0 c.clear-2.new.self.size c.clear-3.new.self.size refl
    c.clear-4.new.self.size in
    all-cleared {m = matrices_of old} rows (rw same at c.clear.ensures.seen) (rw same at c.clear-2.ensures.cells) (rw same at c.clear-3.ensures.cells)
    (rw same at c.clear-4.ensures.cells) (λ e. refl) (λ more. absurd (more (rw same at c.if-words-eq1.true)))

pub returns-else-words-eq1-clause-cleared : goal.returns-else-words-eq1-clause-cleared
returns-else-words-eq1-clause-cleared g c =
    let old = c.args.self.now in
    let same = c.words_of-words.ensures in
    let rows =
    space c.requires old.bounds c.clear.new.self.sizes.0 c.clear-2.new.self.size c.clear-3.new.self.size old.size c.clear-4.new.self.size in
    all-cleared {m = matrices_of old} rows (rw same at c.clear.ensures.seen) (rw same at c.clear-2.ensures.cells) (rw same at c.clear-3.ensures.cells)
    (rw same at c.clear-4.ensures.cells) (λ e. absurd ((rw same at c.if-words-eq1.false) e)) (λ more. refl)
