-- What the turns of an order call's groups rely on and come to. Assumes nothing.
use Rattle.std.specs.Prelude.{ℕ, ◌+◌, ◌-◌, ◌≤◌, ◌<◌, ◌≡◌, true, not, ◌||◌, List, [], ◌++◌, reverse, length, drop}
use Rattle.rules.specs.Lists.{is_empty, elem}
use Rattle.rules.specs.Project.{Project, module_limit}
use Rattle.rules.specs.Modules.{is_done}
use Rattle.rules.specs.Items.{kept_rows_of, giving_modules, given_rows}
use Rattle.rules.specs.Calls.{item_list_limit, group_bytes, order_groups}
use Rattle.laws.specs.Lists.{◌∈◌, Once}
use Rattle.laws.specs.Counting.{Below}
use Rattle.laws.specs.Terms.{Kept, module_of}
use Rattle.laws.specs.Accepted.{Accepted}
use Rattle.laws.specs.OrderCalls.{EachOnce}
use Rattle.lists.specs.Bits.{bit}
use Rattle.split.specs.Rows.{RowsShown}
use Rattle.giving.specs.Giving.{Members, ImportersShown, Stored}
use Rattle.order.specs.declared.turns.Turn.{Turn}
use Rattle.order.specs.declared.turns.Turns.{Turns}

-- What every turn relies on: the groups of an accepted project, its item rows, and the sets of the modules that import and of those that give items.
pub record Ready (p : Project) (groups : List (List ℕ)) (turns : Turns) : Type 0 where
  pub accepted : Accepted p
  pub rows_shown : RowsShown p turns.items
  pub groups-most : length groups ≤ module_limit
  pub each-once : EachOnce groups
  pub members-below : (g : List ℕ) → g ∈ groups → Below p.modules g
  pub imports-shown : ImportersShown p turns.importers
  pub gives-shown : (m : ℕ) → bit turns.givers m ≡ not (is_empty (kept_rows_of p m))

-- What a group's turn relies on: `earlier` are the groups before it, latest first.
pub record Taking (p : Project) (earlier : List (List ℕ)) (members : List ℕ) (turns : Turns) (t : Turn) (out : List ℕ) : Type 0 where
  pub formed : Members members
  pub rows_shown : RowsShown p turns.items
  pub used-shown : (m : ℕ) → bit t.used m ≡ is_done earlier m
  pub gives-shown : (m : ℕ) → bit turns.givers m ≡ not (is_empty (kept_rows_of p m))
  pub below : Below module_limit (giving_modules p earlier members)
  pub room : t.kept + length (given_rows p (giving_modules p earlier members)) ≤ length out
  pub some_left : 0 < t.left
  pub within : 1 + length members ≤ length t.rest.now

-- The turn after that of a group.
pub record Advanced (members : List ℕ) (t : Turn) (kept made : ℕ) (r : Turn) : Type 0 where
  pub rest-is : r.rest.now ≡ drop (1 + length members) t.rest.now
  pub left_is : r.left ≡ t.left - 1
  pub used-is : (m : ℕ) → bit r.used m ≡ (elem m members || bit t.used m)
  pub kept-is : r.kept ≡ kept
  pub made-is : r.made ≡ made

-- The turn of a group that keeps its row order: the rows of its modules are written, and no visit is made.
pub record Took (p : Project) (earlier : List (List ℕ)) (members : List ℕ) (t : Turn) (before after : List ℕ) (r : Turn) : Type 0 where
  pub written : Stored (given_rows p (giving_modules p earlier members)) t.kept before after r.kept
  pub advanced : Advanced members t r.kept t.made r

-- The rows of the groups that had their turn.
pub record Gave (p : Project) (earlier : List (List ℕ)) (rows : List ℕ) : Type 0 where
  pub once : Once rows
  pub kept : (row : ℕ) → row ∈ rows → Kept p row
  pub done : (row : ℕ) → row ∈ rows → is_done earlier (module_of p row) ≡ true

-- Between two turns: `earlier` are the groups that had theirs, latest first, `rest` those that have not, and `rows` what was given.
pub record TurningAt (p : Project) (groups : List (List ℕ)) (allowance : ℕ) (before after : List ℕ) (t : Turn) (rest : List (List ℕ)) : Type 0 where
  pub earlier : List (List ℕ)
  pub rows : List ℕ
  pub parts : groups ≡ reverse earlier ++ rest
  pub bytes_left : t.rest.now ≡ group_bytes rest
  pub left_is : t.left ≡ length rest
  pub used-shown : (m : ℕ) → bit t.used m ≡ is_done earlier m
  pub gave : Gave p earlier rows
  pub out-is : Stored rows 0 before after t.kept
  pub made-most : t.made ≤ allowance
  pub same : order_groups p item_list_limit allowance [] groups [] 0 ≡ order_groups p item_list_limit allowance earlier rest rows t.made

pub record Turning (p : Project) (groups : List (List ℕ)) (allowance : ℕ) (before after : List ℕ) (t : Turn) : Type 0 where
  pub rest : List (List ℕ)
  pub place : TurningAt p groups allowance before after t rest
