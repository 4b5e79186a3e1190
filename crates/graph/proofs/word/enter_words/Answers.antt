-- `graph::word::enter_words` meets its contract: its parts in turn. Assumes nothing.
use Rattle.graph.specs.WordLaws.{reach-room, into-room, paths-room, words-transposed, words-entered}
use Rattle.graph.proofs.word.enter_words.Goals as goal

pub join_set-requires : goal.join_set-requires
join_set-requires c = reach-room c.requires.1

pub join_set-requires-2 : goal.join_set-requires-2
join_set-requires-2 c = into-room c.requires.1

pub join_set-requires-3 : goal.join_set-requires-3
join_set-requires-3 c = paths-room c.requires.1

pub returns : goal.returns
returns c =
    λ n r. (
      words-entered r c.join_set.ensures c.join_set-2.ensures c.join_set-3.ensures c.join_word.ensures,
      words-transposed r c.join_set.ensures c.join_set-2.ensures c.join_set-3.ensures c.join_word.ensures,
    )
