use borrow.Author.Tests.{eq-eqb, ne_eqb}
use Rattle.rules.specs.Calls.{allowed}
use Rattle.sort.proofs.allowed.Goals as goal

pub returns-then-allowance-eq0 : goal.returns-then-allowance-eq0
unfolding allowed
returns-then-allowance-eq0 c =
    rw (eq-eqb c.args.allowance 0 c.if-allowance-eq0.true)

pub returns-else-allowance-eq0 : goal.returns-else-allowance-eq0
unfolding allowed
returns-else-allowance-eq0 c =
    rw (ne_eqb c.args.allowance 0 c.if-allowance-eq0.false)
