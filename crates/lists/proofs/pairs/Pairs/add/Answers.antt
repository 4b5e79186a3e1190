-- `Pairs::add` meets its contract: its bit says whether the pair stands there. Assumes nothing.
use Rattle.std.proofs.Common.{sym, ◌∙◌}
use Rattle.lists.specs.PairLaws.{add-old, add-new}
use Rattle.lists.proofs.pairs.Pairs.add.Goals as goal

pub returns-then-row_has : goal.returns-then-row_has
returns-then-row_has g c = add-old c.requires (rw (c.from.ensures, c.from-2.ensures) at (sym c.row_has.ensures ∙ c.if-row_has.true))

pub returns : goal.returns
returns g c =
    add-new c.requires (rw (c.from.ensures, c.from-2.ensures) at (sym c.row_has.ensures ∙ c.if-row_has.false)) c.row_insert.new.words
    (rw (c.from.ensures, c.from-2.ensures) at c.row_insert.ensures)
