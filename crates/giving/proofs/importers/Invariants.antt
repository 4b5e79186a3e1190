-- `giving::importers` meets its contract. The loop's invariant: the set and the rows that are left show what all rows do. Assumes nothing.
use Rattle.rules.specs.Project.{Import, import_row, pair_rows}
use Rattle.giving.specs.Giving.{is_importer}
use Rattle.giving.specs.SetLaws.{Gathering}
use Rattle.giving.proofs.importers.Given as goal

abbrev pub invariant-loop-row : goal.invariant-loop-row
invariant-loop-row l =
    (goal.iterator-loop-row).can_next l.row-iterator
    × (goal.iterator-loop-row).is_finite l.row-iterator
    × Gathering (λ (r : Import). r.importer) is_importer (pair_rows import_row l.imports) (pair_rows import_row l.row-iterator) l.set
