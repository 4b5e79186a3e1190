-- What the sort of one group relies on and what it comes to. Assumes nothing.
use Rattle.std.specs.Prelude.{ℕ, ◌*◌, ◌≤◌, ◌<◌, ◌≡◌, List, map, length, get_or, take, Result}
use Rattle.rules.specs.Project.{Project, item_limit}
use Rattle.rules.specs.Walk.{Stop}
use Rattle.rules.specs.Items.{numbering}
use Rattle.rules.specs.Calls.{item_list_limit}
use Rattle.split.specs.declared.rows.ItemRows.{ItemRows}
use Rattle.graph.specs.Rows.{words_for}
use Rattle.layout.specs.Numbers.{Numberable}
use Rattle.layout.specs.Needs.{OwnNeeds}
use Rattle.walks.specs.declared.Stop.{Stop as Stopped}
use Rattle.walks.specs.Runs.{Ran}
use Rattle.stmt.specs.declared.walk.Crowded.{Crowded}
use Rattle.group.specs.declared.Sort.{Sort}

-- Modules that give items can be sorted: their rows and their needs are chained, and there is room for as many rows of bits as the project has items,
-- and for its needs.
pub record Sortable (WORDS NEEDS : ℕ) (p : Project) (modules : List ℕ) (items : ItemRows) (needs next : List ℕ) (entry : ℕ) : Type 0 where
  pub numberable : Numberable p modules items
  pub needs-own : OwnNeeds p modules needs next entry
  pub rows-room : length p.items * words_for (length p.items) ≤ WORDS
  pub needs-room : length p.needs ≤ NEEDS

-- the rows of some numbers
abbrev pub rows_of : List ℕ → List ℕ → List ℕ
rows_of rows numbers = map (λ x. get_or rows x 0) numbers

-- The rows of the group's items, in the order of its walk; each fits a byte.
pub record Given {WORDS NEEDS ENTRIES : ℕ} (rows : List ℕ) (s : Sort WORDS NEEDS ENTRIES) : Type 0 where
  pub rows-are : rows ≡ rows_of s.group.split.rows (take s.group.split.count s.arrays.order)
  pub numbers-below : (j : ℕ) → j < s.group.split.count → get_or s.arrays.order j 0 < s.group.split.count
  pub rows-below : (x : ℕ) → x < s.group.split.count → get_or s.group.split.rows x 0 < item_limit

-- How a sort of modules' items stops: as the definition does, or where its list has fewer entries than the limit, since the next visit may need more.
-- Where it has finished, the rows are given, and counted.
abbrev pub Sorted : {WORDS NEEDS ENTRIES : ℕ} → Project → List ℕ → Stop (List ℕ) → Sort WORDS NEEDS ENTRIES → Result (ℕ × ℕ) (Stopped Crowded) → Type 0
Sorted {ENTRIES = ENTRIES} p modules stop s result =
    Ran stop (λ n rows. Given rows s × (n ≡ length rows) × (n ≡ length (numbering p modules))) (λ c. ENTRIES < item_list_limit) result
