-- The rows and lists of a section, as the code has them, and the paper's rows that they are. Assumes nothing.
use Rattle.std.specs.Prelude.{ℕ, ◌+◌, List, get_or, take, drop}
use Rattle.rules.specs.Project.{Item, Import, Need, item_row, import_row, need_row}
use Rattle.project.specs.declared.sections.ItemRow.{ItemRow}
use Rattle.project.specs.declared.sections.ImportRow.{ImportRow}
use Rattle.project.specs.declared.sections.NeedRow.{NeedRow}

-- a row of these bytes
abbrev pub item_of : ℕ → ℕ → ItemRow
item_of a b = record { in_module = record { 0 = a }; kind = record { 0 = b } }

abbrev pub import_of : ℕ → ℕ → ImportRow
import_of a b = record { importer = record { 0 = a }; imported = record { 0 = b } }

abbrev pub need_of : ℕ → ℕ → ℕ → NeedRow
need_of a b c = record { dependant = record { 0 = a }; dependency = record { 0 = b }; weight = record { 0 = c } }

-- the row at a position
abbrev pub item_row_at : List ℕ → ℕ → ItemRow
item_row_at bytes at = item_of (get_or bytes at 0) (get_or bytes (at + 1) 0)

abbrev pub import_row_at : List ℕ → ℕ → ImportRow
import_row_at bytes at = import_of (get_or bytes at 0) (get_or bytes (at + 1) 0)

abbrev pub need_row_at : List ℕ → ℕ → NeedRow
need_row_at bytes at = need_of (get_or bytes at 0) (get_or bytes (at + 1) 0) (get_or bytes (at + 2) 0)

-- the members of a list, whose count stands before them
abbrev pub list_at : List ℕ → ℕ → List ℕ
list_at bytes at = take (get_or bytes at 0) (drop (at + 1) bytes)

-- the paper's row that a row of the code is
abbrev pub item_in : ItemRow → Item
item_in row = item_row row.in_module.0 row.kind.0

abbrev pub import_in : ImportRow → Import
import_in row = import_row row.importer.0 row.imported.0

abbrev pub need_in : NeedRow → Need
need_in row = need_row row.dependant.0 row.dependency.0 row.weight.0
