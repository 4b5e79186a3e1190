-- `Modules::expanded` meets its contract. Assumes nothing.
use Rattle.std.proofs.Common.{arith, refl}
use Rattle.chunk.specs.Walks.{no_room}
use Rattle.chunk.proofs.VisitLaws.{expanded-put}
use Rattle.chunk.proofs.walk.Modules.expanded.Goals as goal

pub returns-then-end-gt-LIST : goal.returns-then-end-gt-LIST
returns-then-end-gt-LIST c = no_room (omega (arith, c.requires.expandable.counted)) refl

pub returns : goal.returns
returns c = expanded-put c.requires.expandable.counted (omega (arith, c.if-end-gt-LIST.false)) c.place_all.ensures
