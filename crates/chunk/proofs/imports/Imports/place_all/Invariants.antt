-- `Imports::place_all` meets its contract. The loop's invariant: with the open imports of the members still to come placed below `at` the list is as it
-- is to be. Assumes nothing.
use Rattle.std.proofs.Common.{drop}
use Rattle.lists.specs.StackLaws.{Placing}
use Rattle.chunk.specs.Imports.{open_imports}
use Rattle.chunk.proofs.imports.Imports.place_all.Given as goal

abbrev pub invariant-loop-member : goal.invariant-loop-member
invariant-loop-member l =
    Placing l.top (open_imports l.self l.done l.circle l.members) l.initial.list l.at (open_imports l.self l.done l.circle (drop l.member-index l.members)) l.list
