-- What the functions over slices require and guarantee: how lent slices stand for a group and for a state of its walk. Nothing is asked of what stands
-- beyond the parts in use. Assumes nothing.
use Rattle.std.specs.Prelude.{ℕ, suc, ◌+◌, ◌*◌, ◌≤◌, ◌<◌, ◌≡◌, Bool, not, ◌&&◌, List, ◌∷◌, reverse, length, get_or, take, Option, Some, None}
use Rattle.rules.specs.Lists.{elem}
use Rattle.rules.specs.Project.{item_limit}
use Rattle.rules.specs.Paths.{dependencies_of, dependants_of}
use Rattle.rules.specs.Items.{Group, path_holds, ItemState, has_moved, opened, with_open, find_open, item_list, placed_of}
use Rattle.rules.specs.Calls.{item_list_limit}
use Rattle.laws.specs.Splits.{size, WellFormed}
use Rattle.laws.specs.ItemWalk.{Walked}
use Rattle.lists.specs.Pairs.{targets, Onward}
use Rattle.graph.specs.Graph.{is_maybe}
use Rattle.split.specs.Shown.{Kinds, Ranges}
use Rattle.walks.specs.declared.Outcome.{Outcome}
use Rattle.walks.specs.Runs.{Came}
use Rattle.stmt.specs.declared.slices.Links.{Links}
use Rattle.stmt.specs.declared.slices.Reads.{Reads}
use Rattle.stmt.specs.declared.slices.Writes.{Writes}
use Rattle.stmt.specs.declared.walk.ItemWalk.{ItemWalk}
use Rattle.stmt.specs.Walks.{Table, Listed, Ordered, moved_of, with_list, with_moved, SameVisits, staying}

-- What is read.
-- The neighbours of the numbers below n, in their order, along chains of places: an entry is one more than a place, 0 stands for none, and each place
-- leads only to places behind it. `count` places are in use.
pub record Chained (neighbours : ℕ → List ℕ) (n : ℕ) (links : Links) : Type 0 where
  pub count : ℕ
  pub ends-size : count ≤ length links.ends.now
  pub next-size : count ≤ length links.next.now
  pub heads-size : n ≤ length links.heads.now
  pub heads-most : (x : ℕ) → x < n → get_or links.heads.now x 0 ≤ count
  pub next-onward : (i : ℕ) → i < count → Onward (suc i) count (get_or links.next.now i 0)
  pub along : (x : ℕ) → x < n → targets links.ends.now links.next.now count (get_or links.heads.now x 0) ≡ neighbours x

-- What no visit changes: the group's needs as chains of dependencies and of dependants, its paths and weights, kinds and ranges.
pub record Laid (g : Group) (group : Reads) : Type 0 where
  pub formed : WellFormed g
  pub dependencies : Chained (dependencies_of g.needs) (size g) group.dependencies
  pub dependants : Chained (dependants_of g.needs) (size g) group.dependants
  pub paths-shown : Table (size g) group.width group.paths.now (path_holds g)
  pub weak-shown : Table (size g) group.width group.weak.now (is_maybe (reverse g.needs))
  pub kinds-shown : Kinds g group.kinds.now
  pub ranges-shown : Ranges g group.low.now group.high.now

-- What is written.
pub record Written : Type 0 where
  pub placed : List ℕ
  pub moved : List ℕ
  pub «open» : List ℕ
  pub order : List ℕ
  pub list : List ℕ

abbrev pub written : List ℕ → List ℕ → List ℕ → List ℕ → List ℕ → Written
written placed moved o order list = record { placed = placed; moved = moved; «open» = o; order = order; list = list }

-- what lent slices hold
abbrev pub held : Writes → Written
held a = written a.placed.now a.moved.now a.«open».now a.order.now a.list.now

-- The same slices are lent.
abbrev pub SameLent : Writes → Writes → Type 0
SameLent old new = (new.placed.ghost_name ≡ old.placed.ghost_name) × (new.moved.ghost_name ≡ old.moved.ghost_name)
    × (new.«open».ghost_name ≡ old.«open».ghost_name) × (new.order.ghost_name ≡ old.order.ghost_name) × (new.list.ghost_name ≡ old.list.ghost_name)

-- The array of open dependencies and that of the list keep their lengths.
abbrev pub SameSizes : Written → Written → Type 0
SameSizes old new = (length new.«open» ≡ length old.«open») × (length new.list ≡ length old.list)

-- They show a state of the walk of n items.
pub record Shows (n width : ℕ) (a : Written) (w : ItemWalk) (s : ItemState) : Type 0 where
  pub entries : Listed a.list w.end (item_list s)
  pub items : Ordered n a.placed a.order w.placed (placed_of s)
  pub placed-size : n ≤ length a.placed * 64
  pub order-size : n ≤ length a.order
  pub pairs : Table n width a.moved (has_moved (moved_of s))

-- What visits rely on: the group laid out, room for its open dependencies, and a state that its walk can be in.
pub record Walking (g : Group) (group : Reads) (a : Written) (w : ItemWalk) (s : ItemState) : Type 0 where
  pub laid : Laid g group
  pub shows : Shows (size g) group.width a w s
  pub room : size g ≤ length a.«open»
  pub walked : Walked g s

-- What is read lays out a group of which every visit is the same as of the group that is walked, and what is written shows a state of its walk.
abbrev pub IsAt : Group → Reads → Written → ItemWalk → ItemState → Type 0
IsAt walked group a w s = (g : Group) × SameVisits g walked × Walking g group a w s

-- What a visit comes to, t being the state after it.
abbrev pub Comes : ℕ → ℕ → Written → List ℕ → ItemState → Outcome ItemWalk → Type 0
Comes n width a before t o = Came item_list_limit item_list placed_of (Shows n width a) before t o

-- The parts of a visit.
-- Bit b of row a is within the words, and its place does not wrap.
pub record Cell (width a b : ℕ) (words : List ℕ) : Type 0 where
  pub within : a * width + b < length words * 64
  pub most : a * width + b < item_limit * item_limit

-- All but the list is as it was, or all but the pairs that have moved.
abbrev pub ListOnly : Written → Written → Type 0
ListOnly old new = (new.placed ≡ old.placed) × (new.moved ≡ old.moved) × (new.«open» ≡ old.«open») × (new.order ≡ old.order)

abbrev pub MovedOnly : Written → Written → Type 0
MovedOnly old new = (new.placed ≡ old.placed) × (new.«open» ≡ old.«open») × (new.order ≡ old.order) × (new.list ≡ old.list)

-- Step 2 for a dependency d of x: the state after it, and one step of the definition.
pub record Skipped (g : Group) (group : Reads) (a : Written) (w : ItemWalk) (s : ItemState) (x d : ℕ) (r : Bool) : Type 0 where
  pub after : List (ℕ × ℕ)
  pub walking : Walking g group a w (with_moved after s)
  pub step : (placed rest : List ℕ) → find_open g placed x (d ∷ rest) (moved_of s) ≡ with_open (not r && not (elem d placed)) d (find_open g placed x rest after)

-- Steps 2 and 3 for all dependencies of x: the state after them, and those that stay.
pub record Found (g : Group) (group : Reads) (a : Written) (w : ItemWalk) (s : ItemState) (x count : ℕ) : Type 0 where
  pub after : List (ℕ × ℕ)
  pub walking : Walking g group a w (with_moved after s)
  pub within : count ≤ size g
  pub found : staying g x (find_open g (placed_of s) x (dependencies_of g.needs x) (moved_of s)) ≡ opened (take count a.«open») after

-- Entries pushed on the list, or more than a list may have.
pub data Pushed (n width : ℕ) (a : Written) (entries : List ℕ) (s : ItemState) : Option ItemWalk → Type 0 where
  pushed : {w : ItemWalk} → Shows n width a w (with_list entries s) → Pushed n width a entries s (Some w)
  no_room : item_list_limit < length entries → Pushed n width a entries s None
