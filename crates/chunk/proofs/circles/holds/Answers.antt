use Rattle.std.proofs.Common.{rules, tests, eqb, ◌∙◌}
use Rattle.std.proofs.lemmas.Iterator.{YieldsList-from_slice}
use Rattle.std.proofs.lemmas.Iterator.Search.{any_from_yields_List}
use Rattle.chunk.specs.CircleLaws.{elem-contains}
use Rattle.chunk.proofs.circles.holds.Goals as goal

pub returns : goal.returns
returns c =
    let a = c.args in
    any_from_yields_List (λ y. eqb y a.m.0) _ _ c.any.result c.any.ensures.ran (YieldsList-from_slice a.list.now c.iter.ensures.rest) (λ x b q k. search (rules, tests))
    ∙ elem-contains a.m.0 a.list.now
