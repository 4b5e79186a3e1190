-- `Imports::place_open` meets its contract. The loop's invariant: with the open imports still to come placed below `at` the list is as it is to be.
-- Assumes nothing.
use Rattle.lists.specs.StackLaws.{Placing}
use Rattle.chunk.specs.Imports.{open_left, open_of}
use Rattle.chunk.proofs.imports.Imports.place_open.Given as goal

abbrev pub invariant-loop-d : goal.invariant-loop-d
invariant-loop-d l =
    (goal.iterator-loop-d).can_next l.d-iterator × (goal.iterator-loop-d).is_finite l.d-iterator
    × Placing l.top (open_of l.self l.done l.circle l.fn.m.0) l.initial.list l.at (open_left l.d-iterator) l.list
