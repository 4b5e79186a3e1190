-- `project::rows::bad_circles` meets its contract. The loop's invariant: what is left from byte i on is bad where the whole section is, with a list at
-- its front that still lacks `left` members. Assumes nothing.
use Rattle.std.proofs.Common.{◌≡◌, drop}
use Rattle.rules.specs.Project.{bad_circles}
use Rattle.project.proofs.rows.bad_circles.Given as goal

abbrev pub invariant-loop-b : goal.invariant-loop-b
invariant-loop-b l = bad_circles l.modules 0 l.section ≡ bad_circles l.modules l.left (drop l.b-index l.section)
