-- `project::kinds::Kind::may_drop` meets its contract. Assumes nothing.
use Rattle.std.specs.Prelude.{ℕ, ◌≡◌, refl, false, Some}
use Rattle.project.specs.Kinds.{may_drop_by}
use Rattle.project.specs.declared.kinds.Kind.{Kind}
use Rattle.project.specs.declared.kinds.Kind.TheVariants.{Plain, MayDropAll, MayDropWeak, Injected, Dropped}
use Rattle.project.proofs.kinds.Kind.may_drop.Goals as goal

pub returns-in-MayDropAll : goal.returns-in-MayDropAll
unfolding may_drop_by
returns-in-MayDropAll c weight e = rw c.in-MayDropAll.is

pub returns-in-MayDropWeak : goal.returns-in-MayDropWeak
unfolding may_drop_by
returns-in-MayDropWeak c weight e = rw c.in-MayDropWeak.is e

-- the other kinds drop nothing
others : (k : Kind) (weight : ℕ) → (k ≡ MayDropAll → ⊥) → (k ≡ MayDropWeak → ⊥) → false ≡ may_drop_by (Some k) weight
unfolding may_drop_by
others Plain weight f h = refl
others MayDropAll weight f h = absurd (f refl)
others MayDropWeak weight f h = absurd (h refl)
others Injected weight f h = refl
others Dropped weight f h = refl

pub returns-in_default : goal.returns-in_default
returns-in_default c weight e = others c.args.self weight c.in_default.not-MayDropAll c.in_default.not-MayDropWeak
