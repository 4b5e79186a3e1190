-- `project::kinds::KindByte::may_drop` meets its contract: by the kind, or where there is none. Assumes nothing.
use Rattle.std.proofs.Common.{rules, tests, refl, sym, ◌∙◌}
use Rattle.project.specs.Kinds.{may_drop_by}
use Rattle.project.specs.KindLaws.{some_and}
use Rattle.project.proofs.kinds.KindByte.may_drop.Goals as goal

pub returns : goal.returns
unfolding may_drop_by
returns c weight e = some_and (λ k. may_drop_by k weight) c.kind.result refl (λ x p. search (rules, tests)) c.is_some_and.ensures ∙ sym (c.kind.ensures.drops weight)
