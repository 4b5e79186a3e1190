-- `project::check_rows` meets its contract: by the law `read_rows` the four checks decide what `read` gives. Assumes nothing.
use mathlib.Core.Path.{sym, ◌∙◌}
use Rattle.project.specs.ReadLaws.{read_rows}
use Rattle.project.proofs.check_rows.Goals as goal

pub returns-then-bad_items : goal.returns-then-bad_items
returns-then-bad_items c = rw (read_rows c.requires, sym c.bad_items.ensures ∙ c.if-bad_items.true)

pub returns-then-bad_imports : goal.returns-then-bad_imports
returns-then-bad_imports c =
    rw (
      read_rows c.requires,
      sym c.bad_items.ensures ∙ c.if-bad_items.false,
      sym c.bad_imports.ensures ∙ c.if-bad_imports.true,
    )

pub returns-then-bad_circles : goal.returns-then-bad_circles
returns-then-bad_circles c =
    rw (
      read_rows c.requires,
      sym c.bad_items.ensures ∙ c.if-bad_items.false,
      sym c.bad_imports.ensures ∙ c.if-bad_imports.false,
      sym c.bad_circles.ensures ∙ c.if-bad_circles.true,
    )

pub returns-then-bad_needs : goal.returns-then-bad_needs
returns-then-bad_needs c =
    rw (
      read_rows c.requires,
      sym c.bad_items.ensures ∙ c.if-bad_items.false,
      sym c.bad_imports.ensures ∙ c.if-bad_imports.false,
      sym c.bad_circles.ensures ∙ c.if-bad_circles.false,
      sym c.bad_needs.ensures ∙ c.if-bad_needs.true,
    )

pub returns : goal.returns
returns c =
    rw (
      read_rows c.requires,
      sym c.bad_items.ensures ∙ c.if-bad_items.false,
      sym c.bad_imports.ensures ∙ c.if-bad_imports.false,
      sym c.bad_circles.ensures ∙ c.if-bad_circles.false,
      sym c.bad_needs.ensures ∙ c.if-bad_needs.false,
    )
