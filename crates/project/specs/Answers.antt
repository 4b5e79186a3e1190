-- What the code answers for a project's bytes, by the paper's `read`. Assumes nothing.
use Rattle.std.specs.Prelude.{ℕ, List, Result, Ok, Err}
use Rattle.rules.specs.Project.{Reading, refused, accepted, byte_at, end_of}
use Rattle.project.specs.declared.Layout.{Layout}
use Rattle.project.specs.declared.Refusal.{Refusal}
use Rattle.project.specs.declared.Refusal.TheVariants.{Stub, Foreign, Misplaced, Ragged, Outsize, BadItem, BadImport, BadCircle, BadNeed}
use Rattle.project.specs.declared.header.Section.{Section}
use Rattle.project.specs.declared.header.Section.TheVariants.{Items, Imports, Circles, Needs}

-- the place of a section: "items, imports, circles, needs"
abbrev pub place_of : Section → ℕ
place_of Items = 0
place_of Imports = 1
place_of Circles = 2
place_of Needs = 3

-- what the header says
unfoldable pub layout_of : List ℕ → Layout
layout_of bytes =
    record {
      modules = byte_at bytes 1;
      entry = record { 0 = byte_at bytes 2 };
      items_end = end_of bytes 0;
      imports_end = end_of bytes 1;
      circles_end = end_of bytes 2;
    }

-- the number that the paper's table gives each refusal
abbrev pub number_of : Refusal → ℕ
number_of Stub = 1
number_of Foreign = 2
number_of Misplaced = 3
number_of Ragged = 4
number_of Outsize = 5
number_of BadItem = 6
number_of BadImport = 7
number_of BadCircle = 8
number_of BadNeed = 9

-- a result with the number in place of its refusal
unfoldable pub numbered : Result Layout Refusal → Result Layout ℕ
numbered (Ok l) = Ok l
numbered (Err r) = Err (number_of r)

-- a number of the table, or where the sections of the project stand
unfoldable pub answer_of : List ℕ → Reading → Result Layout ℕ
answer_of bytes (refused n) = Err n
answer_of bytes (accepted p) = Ok (layout_of bytes)
