-- `Imports::lay_out` meets its contract. The loop's invariant: the rows before those that are left are laid out, and no chain is begun. Assumes nothing.
use Rattle.std.proofs.Common.{ℕ, ◌≡◌, get_or}
use Rattle.rules.specs.Project.{import_row, pair_rows}
use Rattle.chunk.specs.LayoutLaws.{Laying}
use Rattle.chunk.proofs.imports.Imports.lay_out.Given as goal

abbrev pub invariant-loop-row : goal.invariant-loop-row
invariant-loop-row l =
    (goal.iterator-loop-row).can_next l.row-iterator
    × (goal.iterator-loop-row).is_finite l.row-iterator
    × Laying (pair_rows import_row l.section) (pair_rows import_row l.row-iterator) l.self.rows
    × ((m : ℕ) → get_or l.self.chains.heads m 0 ≡ 0)
