-- `project::rows::bad_items` meets its contract: the reader yields the section's rows. Assumes nothing.
use mathlib.Core.Path.{◌∙◌}
use Rattle.std.proofs.Common.{ap, rules, tests}
use Rattle.std.proofs.lemmas.Iterator.Consumers.{YieldsList-from_first}
use Rattle.std.proofs.lemmas.Iterator.Search.{any_from_yields_List}
use Rattle.rules.specs.Project.{item_row, pair_rows, bad_item}
use Rattle.project.specs.Decoded.{item_in}
use Rattle.project.specs.RowLaws.{any-of}
use Rattle.project.proofs.rows.bad_items.Goals as goal

pub returns : goal.returns
returns c =
    any_from_yields_List (bad_item c.args.modules) _ _ _ c.any.ensures.ran (YieldsList-from_first item_in (pair_rows item_row) _ (ap (pair_rows item_row) c.new.ensures)) (λ x b q k. search (rules, tests))
    ∙ any-of (bad_item c.args.modules) _
