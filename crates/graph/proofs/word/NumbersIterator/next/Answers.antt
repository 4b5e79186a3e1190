-- `next` of the iterator over a set's numbers meets its contract. Assumes nothing.
use Rattle.std.proofs.Common.{arith, rules}
use Rattle.graph.specs.WordLaws.{least-taken}
use Rattle.graph.proofs.word.NumbersIterator.next.Goals as goal

pub returns-clause-steps : goal.returns-clause-steps
returns-clause-steps c = (least-taken c.args.self.now.0 (omega arith) (omega arith)).0

pub returns-clause-goes : goal.returns-clause-goes
returns-clause-goes c = let fewer = (least-taken c.args.self.now.0 (omega arith) (omega arith)).1 in search rules
