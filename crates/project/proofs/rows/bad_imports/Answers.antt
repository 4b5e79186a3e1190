-- `project::rows::bad_imports` meets its contract: the reader yields the section's rows. Assumes nothing.
use mathlib.Core.Path.{◌∙◌}
use Rattle.std.proofs.Common.{ap, rules, tests}
use Rattle.std.proofs.lemmas.Iterator.Consumers.{YieldsList-from_first}
use Rattle.std.proofs.lemmas.Iterator.Search.{any_from_yields_List}
use Rattle.rules.specs.Project.{import_row, pair_rows, bad_import}
use Rattle.project.specs.Decoded.{import_in}
use Rattle.project.specs.RowLaws.{any-of}
use Rattle.project.proofs.rows.bad_imports.Goals as goal

pub returns : goal.returns
returns c =
    any_from_yields_List (bad_import c.args.modules) _ _ _ c.any.ensures.ran (YieldsList-from_first import_in (pair_rows import_row) _ (ap (pair_rows import_row) c.new.ensures)) (λ x b q k. search (rules, tests))
    ∙ any-of (bad_import c.args.modules) _
