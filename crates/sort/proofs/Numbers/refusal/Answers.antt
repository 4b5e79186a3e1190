use mathlib.Core.Path.{refl}
use Rattle.rules.specs.Calls.{refusal}
use Rattle.sort.proofs.Numbers.refusal.Goals as goal

pub returns : goal.returns
unfolding refusal
returns c = let none = c.default.ensures in rw (none.1.0, none.1.1.0) refl
