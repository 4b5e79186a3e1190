-- `Modules::append_all` meets its contract. The loop's invariant: the open imports of the members before are appended, and those of the members from
-- member-index on are left. Assumes nothing.
use Rattle.std.proofs.Common.{drop}
use Rattle.chunk.specs.Circles.{gathered_on}
use Rattle.chunk.specs.Imports.{open_imports}
use Rattle.chunk.specs.AppendLaws.{Appending}
use Rattle.chunk.proofs.walk.Modules.append_all.Given as goal

abbrev pub invariant-loop-member : goal.invariant-loop-member
invariant-loop-member l =
    Appending l.initial.circle l.circle (open_imports l.self.imports.now l.done l.set (gathered_on l.initial.circle))
    (open_imports l.self.imports.now l.done l.set (drop l.member-index (gathered_on l.initial.circle)))
