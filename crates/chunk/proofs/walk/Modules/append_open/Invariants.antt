-- `Modules::append_open` meets its contract. The loop's invariant: the open imports before are appended, and those left are modules. Assumes nothing.
use Rattle.rules.specs.Project.{module_limit}
use Rattle.laws.specs.Counting.{Below}
use Rattle.chunk.specs.Imports.{open_left, open_of}
use Rattle.chunk.specs.AppendLaws.{Appending}
use Rattle.chunk.proofs.walk.Modules.append_open.Given as goal

abbrev pub invariant-loop-d : goal.invariant-loop-d
invariant-loop-d l =
    (goal.iterator-loop-d).can_next l.d-iterator × (goal.iterator-loop-d).is_finite l.d-iterator × Below module_limit (open_left l.d-iterator)
    × Appending l.initial.circle l.circle (open_of l.fn.self.imports.now l.fn.done l.fn.set l.fn.m.0) (open_left l.d-iterator)
