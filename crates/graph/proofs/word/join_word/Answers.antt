-- `graph::word::join_word` meets its contract. Assumes nothing.
use borrow.Author.Rules.{rules}
use Rattle.graph.specs.WordLaws.{word-joined}
use Rattle.graph.proofs.word.join_word.Goals as goal

pub returns : goal.returns
returns c = let a = c.args in word-joined a.matrix.now a.a a.word (search rules)
