-- `Chains::link` meets its contract. Assumes nothing.
use Rattle.std.proofs.Common.{arith, length}
use Rattle.lists.specs.ChainedLaws.{ascends-linked}
use Rattle.lists.proofs.chains.Chains.link.Goals as goal

pub invariant_of-self-clause-ascends : goal.invariant_of-self-clause-ascends
invariant_of-self-clause-ascends g c =
    let old = c.args.self.now in
    ascends-linked c.args.keys.now old.heads old.next c.link.new.heads c.link.new.next (length c.args.keys.now) c.link.ensures
    (omega (arith, c.requires.next-size, c.link.auto.next)) c.link.auto.next old.ascends
