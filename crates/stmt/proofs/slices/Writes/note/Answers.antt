-- `Writes::note` meets its contract. Assumes nothing.
use Rattle.std.proofs.Common.{refl, sym, ◌∙◌}
use Rattle.stmt.specs.Walks.{noted, had-moved}
use Rattle.stmt.proofs.slices.Writes.note.Goals as goal

pub returns-then-has_moved-clause-noted : goal.returns-then-has_moved-clause-noted
returns-then-has_moved-clause-noted c = had-moved (sym c.has_moved.ensures ∙ c.if-has_moved.true) refl

pub returns-clause-noted : goal.returns-clause-noted
returns-clause-noted c = noted (sym c.has_moved.ensures ∙ c.if-has_moved.false) (rw (c.from.ensures, c.from-2.ensures) at c.row_insert.ensures)
