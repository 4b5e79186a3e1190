-- `ItemRows::new` meets its contract. The loop's invariant: the rows from `row` on are chained. Assumes nothing.
use Rattle.std.proofs.Common.{◌/◌, length}
use Rattle.lists.specs.Pairs.{Linked}
use Rattle.split.specs.Rows.{modules_in}
use Rattle.split.proofs.rows.ItemRows.new.Given as goal

abbrev pub invariant-loop-row : goal.invariant-loop-row
invariant-loop-row l =
    Linked l.row (modules_in l.section) (length l.section / 2) l.initial.chains.heads l.initial.chains.next l.chains.heads l.chains.next
