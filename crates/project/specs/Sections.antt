-- Where the sections of a project stand, by the layout that the code hands on. Assumes nothing.
use Rattle.std.specs.Prelude.{ℕ, ◌-◌, ◌*◌, ◌/◌, ◌%◌, ◌≤◌, ◌≡◌, List, length, take, drop}
use Rattle.rules.specs.Project.{accepted, item_limit, import_limit, circle_bytes_limit, need_limit, need_bytes, section, item_row, pair_rows, project_of, read}
use Rattle.project.specs.declared.Layout.{Layout}

-- the bytes from one position to another, as the code takes them
abbrev pub part : ℕ → ℕ → List ℕ → List ℕ
part from to bytes = take (to - from) (drop from bytes)

pub record Sections (bytes : List ℕ) (l : Layout) : Type 0 where
  -- The bounds of each part.
  pub items-bounds : 36 ≤ l.items_end
  pub imports-bounds : l.items_end ≤ l.imports_end
  pub circles-bounds : l.imports_end ≤ l.circles_end
  pub needs-bounds : l.circles_end ≤ length bytes
  -- The sections.
  pub items : section bytes 0 ≡ part 36 l.items_end bytes
  pub imports : section bytes 1 ≡ part l.items_end l.imports_end bytes
  pub circles : section bytes 2 ≡ part l.imports_end l.circles_end bytes
  pub needs : section bytes 3 ≡ part l.circles_end (length bytes) bytes
  -- Whole rows.
  pub items-even : (l.items_end - 36) % 2 ≡ 0
  pub imports-even : (l.imports_end - l.items_end) % 2 ≡ 0
  pub needs-whole : (length bytes - l.circles_end) % need_bytes ≡ 0
  pub items-count : length (pair_rows item_row (section bytes 0)) ≡ (l.items_end - 36) / 2
  -- The limits.
  pub items-most : l.items_end - 36 ≤ 2 * item_limit
  pub imports-most : l.imports_end - l.items_end ≤ 2 * import_limit
  pub circles-most : l.circles_end - l.imports_end ≤ circle_bytes_limit
  pub needs-most : length bytes - l.circles_end ≤ need_bytes * need_limit

-- The bytes are a project, and the layout is its.
pub record Accepts (bytes : List ℕ) (l : Layout) : Type 0 where
  pub reads : read bytes ≡ accepted (project_of bytes)
  pub modules : l.modules ≡ (project_of bytes).modules
  pub entry : l.entry.0 ≡ (project_of bytes).entry
  pub sections : Sections bytes l
