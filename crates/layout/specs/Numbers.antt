-- The numbers of a group's rows, found by row. Assumes nothing.
use Rattle.std.specs.Prelude.{ℕ, suc, ◌<◌, ◌≡◌, true, false, Option, Some, None, List, [], ◌∷◌, length, get_or, take, set}
use Rattle.rules.specs.Lists.{elem}
use Rattle.rules.specs.Project.{Project}
use Rattle.rules.specs.Items.{number_of}
use Rattle.laws.specs.Lists.{Once}
use Rattle.laws.specs.Accepted.{Accepted}
use Rattle.laws.specs.Splits.{Giving}
use Rattle.project.specs.declared.NodeId.{NodeId}
use Rattle.split.specs.declared.Split.{Split}
use Rattle.split.specs.declared.rows.ItemRows.{ItemRows}
use Rattle.split.specs.Rows.{RowsAmong}
use Rattle.split.specs.Splits.{Splits}
use Rattle.layout.specs.declared.Group.{Group}

-- The entries after rows were noted, of which the first has the number k: at each row its number.
unfoldable pub note_from : ℕ → List ℕ → List ℕ → List ℕ
note_from k [] numbers = numbers
note_from k (row ∷ rows) numbers = note_from (suc k) rows (set numbers row k)

-- The number of a row, where it is among the rows.
pub data NumberedAs (rows : List ℕ) (row : ℕ) : Option NodeId → Type 0 where
  is-in : {x : NodeId} → elem row rows ≡ true → number_of rows row ≡ x.0 → x.0 < length rows → NumberedAs rows row (Some x)
  is-out : elem row rows ≡ false → NumberedAs rows row None

-- The numbers of a split's rows, each of which stands once, are noted. At other rows anything may stand.
pub record Noted (s : Split) (numbers : List ℕ) : Type 0 where
  pub once : Once (take s.count s.rows)
  pub noted : (x : ℕ) → x < s.count → get_or numbers (get_or s.rows x 0) 0 ≡ x

-- What numbering the items of modules asks for: modules of an accepted project that give items, and the rows of each along its chain.
pub record Numberable (p : Project) (modules : List ℕ) (items : ItemRows) : Type 0 where
  pub accepted : Accepted p
  pub giving : Giving p modules
  pub rows_shown : RowsAmong p modules items

-- What numbering them gives: the split, and the numbers of its rows.
pub record ItemsNumbered {WORDS NEEDS : ℕ} (p : Project) (modules : List ℕ) (g : Group WORDS NEEDS) : Type 0 where
  pub splits : Splits p modules g.split
  pub noted : Noted g.split g.numbers
