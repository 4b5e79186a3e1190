-- `project::kinds::KindByte::is_kept` meets its contract: by the kind, or where there is none. Assumes nothing.
use Rattle.std.proofs.Common.{rules, tests, refl, sym, ◌∙◌}
use Rattle.project.specs.Kinds.{kept_by}
use Rattle.project.specs.KindLaws.{none_or}
use Rattle.project.proofs.kinds.KindByte.is_kept.Goals as goal

pub returns : goal.returns
unfolding kept_by
returns c = none_or kept_by c.kind.result refl (λ x p. search (rules, tests)) c.is_none_or.ensures ∙ sym c.kind.ensures.kept
