-- `chunk::circles::is_listed` meets its contract. Assumes nothing.
use Rattle.std.proofs.Common.{rules, tests, ◌∙◌}
use Rattle.std.proofs.lemmas.Iterator.Consumers.{YieldsList-from_first}
use Rattle.std.proofs.lemmas.Iterator.Search.{any_from_yields_List}
use Rattle.rules.specs.Lists.{elem}
use Rattle.project.specs.CountedLaws.{circles_whole}
use Rattle.project.specs.RowLaws.{any-of}
use Rattle.chunk.proofs.circles.is_listed.Goals as goal

pub new-requires : goal.new-requires
new-requires c = circles_whole _ _ c.requires

pub returns : goal.returns
returns c =
    any_from_yields_List (elem c.args.m.0) _ _ _ c.any.ensures.ran (YieldsList-from_first (λ l. l.now) (λ lists. lists) _ c.new.ensures) (λ x b q k. search (rules, tests))
    ∙ any-of (elem c.args.m.0) _
