-- What is known of the bytes between the tests of the table. Assumes nothing.
use Rattle.std.specs.Prelude.{ℕ, ◌≤◌, ◌≡◌, false, List, length}
use Rattle.rules.specs.Project.{foreign, misplaced, ragged, outsize}
use Rattle.project.specs.declared.Layout.{Layout}
use Rattle.project.specs.Answers.{layout_of}
use Rattle.project.specs.Sections.{Sections}

-- None of 1 to 5 turns the bytes down.
pub record PassesHeader (bytes : List ℕ) : Type 0 where
  pub header : 36 ≤ length bytes
  pub not-foreign : foreign bytes ≡ false
  pub not-misplaced : misplaced bytes ≡ false
  pub not-ragged : ragged bytes ≡ false
  pub not-outsize : outsize bytes ≡ false

-- None of 1 to 5 does, and the layout is theirs.
pub record Measured (bytes : List ℕ) (l : Layout) : Type 0 where
  pub passes : PassesHeader bytes
  pub layout : l ≡ layout_of bytes
  pub sections : Sections bytes l
