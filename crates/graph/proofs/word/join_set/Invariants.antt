-- `graph::word::join_set` meets its contract. The loop's invariant: the rows that are not left are joined. Assumes nothing.
use Rattle.lists.specs.Bits.{bit}
use Rattle.graph.specs.WordLaws.{JoiningSet}
use Rattle.graph.proofs.word.join_set.Given as goal

abbrev pub invariant-loop-a : goal.invariant-loop-a
invariant-loop-a l = JoiningSet l.set l.a-iterator.0 (bit l.word) l.initial.matrix l.matrix
