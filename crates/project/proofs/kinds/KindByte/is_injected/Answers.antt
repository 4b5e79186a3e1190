-- `project::kinds::KindByte::is_injected` meets its contract: by the kind, or where there is none. Assumes nothing.
use Rattle.std.proofs.Common.{rules, tests, refl, sym, ◌∙◌}
use Rattle.project.specs.Kinds.{injected_by}
use Rattle.project.specs.KindLaws.{some_and}
use Rattle.project.proofs.kinds.KindByte.is_injected.Goals as goal

pub returns : goal.returns
unfolding injected_by
returns c = some_and injected_by c.kind.result refl (λ x p. search (rules, tests)) c.is_some_and.ensures ∙ sym c.kind.ensures.injected
