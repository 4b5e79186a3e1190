-- `project::rows::bad_item` meets its contract: the byte stands for no kind where it is above 5. Assumes nothing.
use Rattle.rules.specs.Project.{bad_item}
use Rattle.project.specs.KindLaws.{none_shown}
use Rattle.project.proofs.rows.bad_item.Goals as goal

pub returns : goal.returns
unfolding bad_item
returns c = rw (c.kind.ensures.above, none_shown c.kind.result c.is_none.result c.is_none.ensures)
