-- `next` of the iterator over neighbours meets its contract. Assumes nothing.
use Rattle.std.proofs.Common.{arith, ap, length, rules}
use Rattle.stmt.proofs.AlongLaws.{along-none, along-first, along-ends, along-next, along-left}
use Rattle.stmt.proofs.slices.AlongIterator.next.Goals as goal

pub returns-then-self-eq0-clause-steps : goal.returns-then-self-eq0-clause-steps
returns-then-self-eq0-clause-steps c =
    let s = c.args.self.now in
    let none = along-none s.ends.now s.next.now s.entry c.if-self-eq0.true in (none, none)

pub bounds-self-place : goal.bounds-self-place
bounds-self-place c = rw c.from-place.ensures (along-next c.args.self.now.entry c.args.self.now.leads (omega (arith, c.from-place.ensures)))

pub invariant_of-self : goal.invariant_of-self
invariant_of-self c =
    rw c.from-place.ensures (record { leads = along-left c.args.self.now.entry c.args.self.now.leads (omega (arith, c.from-place.ensures)) })

pub bounds-self-place-2 : goal.bounds-self-place-2
bounds-self-place-2 c = rw c.from-place.ensures (along-ends c.args.self.now.entry c.args.self.now.leads (omega (arith, c.from-place.ensures)))

pub returns-clause-steps : goal.returns-clause-steps
returns-clause-steps c = rw c.from-place.ensures (along-first c.args.self.now.entry c.args.self.now.leads (omega (arith, c.from-place.ensures)))

pub returns-clause-goes : goal.returns-clause-goes
returns-clause-goes c =
    let first = along-first c.args.self.now.entry c.args.self.now.leads (omega (arith, c.from-place.ensures)) in
    let fewer = ap length first in search rules
