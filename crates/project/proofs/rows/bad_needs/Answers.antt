-- `project::rows::bad_needs` meets its contract: the reader yields the section's rows. Assumes nothing.
use mathlib.Core.Path.{◌∙◌}
use Rattle.std.proofs.Common.{ap, rules, tests}
use Rattle.std.proofs.lemmas.Iterator.Consumers.{YieldsList-from_first}
use Rattle.std.proofs.lemmas.Iterator.Search.{any_from_yields_List}
use Rattle.rules.specs.Project.{need_rows, bad_need}
use Rattle.project.specs.Decoded.{need_in}
use Rattle.project.specs.RowLaws.{any-of}
use Rattle.project.proofs.rows.bad_needs.Goals as goal

pub returns : goal.returns
returns c =
    any_from_yields_List (bad_need c.args.items) _ _ _ c.any.ensures.ran (YieldsList-from_first need_in need_rows _ (ap need_rows c.new.ensures)) (λ x b q k. search (rules, tests))
    ∙ any-of (bad_need c.args.items) _
