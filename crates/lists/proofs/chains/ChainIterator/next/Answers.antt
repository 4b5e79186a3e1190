-- `next` of the iterator over a chain meets its contract. Assumes nothing.
use Rattle.std.proofs.Common.{arith, ap, length, rules}
use Rattle.lists.specs.ChainedLaws.{places-none, places-first}
use Rattle.lists.proofs.chains.ChainIterator.next.Goals as goal

pub returns-then-self-eq0-clause-steps : goal.returns-then-self-eq0-clause-steps
returns-then-self-eq0-clause-steps c =
    let none = places-none c.args.self.now.next.now c.args.self.now.entry c.if-self-eq0.true in (none, none)

pub returns-clause-steps : goal.returns-clause-steps
returns-clause-steps c =
    rw c.from-place.ensures (places-first c.args.self.now.next.now c.args.self.now.entry c.args.self.now.leads (omega (arith, c.from-place.ensures)))

pub returns-clause-goes : goal.returns-clause-goes
returns-clause-goes c =
    let first = places-first c.args.self.now.next.now c.args.self.now.entry c.args.self.now.leads (omega (arith, c.from-place.ensures)) in
    let fewer = ap length first in search rules
