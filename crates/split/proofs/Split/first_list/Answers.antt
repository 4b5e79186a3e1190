-- `Split::first_list` meets its contract. Assumes nothing.
use Rattle.split.specs.FirstListLaws.{listable-on}
use Rattle.split.proofs.Split.first_list.Goals as goal

pub first_list-requires : goal.first_list-requires
first_list-requires c = rw c.starts.ensures (c.requires.0, listable-on c.requires.1, c.requires.2)

pub returns : goal.returns
returns c = λ g h. (rw c.starts.ensures at c.first_list.ensures) g (listable-on h)
