-- What the functions of src/walk.rt require and guarantee: how arrays and numbers stand for a group and for a state of its walk. Assumes nothing.
use Rattle.std.specs.Prelude.{ℕ, ◌+◌, ◌*◌, ◌≤◌, ◌<◌, ◌≡◌, Bool, true, false, not, ◌&&◌, List, [], ◌∷◌, length, take, Option, Some, None}
use Rattle.rules.specs.Lists.{elem, keep}
use Rattle.rules.specs.Project.{item_limit}
use Rattle.rules.specs.Paths.{dependencies_of}
use Rattle.rules.specs.Items.{in_range, range_of, Group, first_list, ItemState, item_state, has_moved, Opened, opened, with_open, find_open, is_dropped, kind_of, visit_item, item_list, placed_of, item_start}
use Rattle.rules.specs.Calls.{item_list_limit}
use Rattle.laws.specs.Splits.{size, WellFormed}
use Rattle.laws.specs.ItemWalk.{Walked}
use Rattle.project.specs.declared.NodeId.{NodeId}
use Rattle.lists.specs.Bits.{bit_at, Inserted}
use Rattle.lists.specs.Stacks.{stack}
use Rattle.graph.specs.Rows.{row_words}
use Rattle.graph.specs.Graph.{Laid as NeedsLaid}
use Rattle.split.specs.Shown.{Kinds, RangeIs, Ranges}
use Rattle.split.specs.FirstLists.{Listable}
use Rattle.layout.specs.declared.Group.{Group as GroupArrays}
use Rattle.walks.specs.declared.Outcome.{Outcome}
use Rattle.walks.specs.Runs.{Came}
use Rattle.stmt.specs.declared.arrays.Arrays.{Arrays}
use Rattle.stmt.specs.declared.walk.ItemWalk.{ItemWalk}
use Rattle.stmt.specs.declared.steps.Item.{Item}

-- What arrays show.
-- Rows of `width` bits show a test on pairs of numbers below n.
pub record Table (n width : ℕ) (words : List ℕ) (test : ℕ → ℕ → Bool) : Type 0 where
  pub within : n ≤ width
  pub most : width ≤ item_limit
  pub size : n * width ≤ length words * 64
  pub bits : (a b : ℕ) → a < n → b < n → bit_at words (a * width + b) ≡ test a b

-- A list of entries, its front at the end index, held by an array.
pub record Listed (list : List ℕ) (end : ℕ) (entries : List ℕ) : Type 0 where
  pub shown : stack list end ≡ entries
  pub within : end ≤ item_list_limit
  pub held : end ≤ length list

-- The items placed, latest first: a row of bits, and the items in their order.
pub record Ordered (n : ℕ) (placed order : List ℕ) (count : ℕ) (items : List ℕ) : Type 0 where
  pub bits : (x : ℕ) → x < n → bit_at placed x ≡ elem x items
  pub shown : stack order count ≡ items

-- The pairs that have moved, and a state with another list, or with other pairs moved.
unfoldable pub moved_of : ItemState → List (ℕ × ℕ)
moved_of (item_state list placed moved) = moved

abbrev pub with_list : List ℕ → ItemState → ItemState
with_list list s = item_state list (placed_of s) (moved_of s)

abbrev pub with_moved : List (ℕ × ℕ) → ItemState → ItemState
with_moved moved s = item_state (item_list s) (placed_of s) moved

-- The arrays and numbers of the code show a state of the walk of n items.
pub record Shows {WORDS ENTRIES : ℕ} (n width : ℕ) (a : Arrays WORDS ENTRIES) (w : ItemWalk) (s : ItemState) : Type 0 where
  pub most : n ≤ item_limit
  pub entries : Listed a.list w.end (item_list s)
  pub items : Ordered n a.placed a.order w.placed (placed_of s)
  pub pairs : Table n width a.moved (has_moved (moved_of s))

-- What no visit changes: the group's needs, kinds and ranges.
pub record Laid {WORDS NEEDS : ℕ} (g : Group) (group : GroupArrays WORDS NEEDS) : Type 0 where
  pub formed : WellFormed g
  pub nodes-is : group.graph.nodes ≡ size g
  pub count-is : group.split.count ≡ size g
  pub needs-laid : NeedsLaid g.needs group.graph
  pub kinds-shown : Kinds g group.split.kinds
  pub ranges-shown : Ranges g group.split.low group.split.high

-- the bits of a row
abbrev pub width : {WORDS NEEDS : ℕ} → GroupArrays WORDS NEEDS → ℕ
width group = 64 * group.graph.weak.words

-- the words of the rows of pairs
abbrev pub pair_words : {WORDS NEEDS : ℕ} → GroupArrays WORDS NEEDS → ℕ
pair_words group = group.split.count * group.graph.weak.words

-- What visits rely on: the group laid out, and a state that its walk can be in.
pub record Walking {WORDS NEEDS ENTRIES : ℕ} (g : Group) (group : GroupArrays WORDS NEEDS) (a : Arrays WORDS ENTRIES) (w : ItemWalk) (s : ItemState) : Type 0 where
  pub laid : Laid g group
  pub shows : Shows (size g) (width group) a w s
  pub walked : Walked g s

-- What the rows of bits of the first state ask for: a row of `words` words has a bit for each of so many items; there is one, and one for each item.
pub record Clearable (g : Group) (count words : ℕ) (placed moved : List ℕ) : Type 0 where
  pub count-is : count ≡ size g
  pub within : size g ≤ 64 * words
  pub most : 64 * words ≤ item_limit
  pub placed-size : words ≤ length placed
  pub moved-size : size g * words ≤ length moved

-- The first state: slices and numbers show it, whatever the order's array holds.
pub record Started (g : Group) (width : ℕ) (placed moved list : List ℕ) (w : ItemWalk) : Type 0 where
  pub entries : Listed list w.end (item_list (item_start g))
  pub row-size : size g ≤ length placed * 64
  pub items : (order : List ℕ) → Ordered (size g) placed order w.placed (placed_of (item_start g))
  pub pairs : Table (size g) width moved (has_moved (moved_of (item_start g)))

-- What making the first state asks for: the group's first list and room for it, and rows of bits for its items.
pub record Startable {WORDS NEEDS : ℕ} (g : Group) (group : GroupArrays WORDS NEEDS) (entries : ℕ) : Type 0 where
  pub listable : Listable g group.split
  pub count-is : group.split.count ≡ size g
  pub within : size g ≤ width group
  pub rows-room : size g * group.graph.weak.words ≤ WORDS
  pub first-most : length (first_list g) ≤ item_list_limit
  pub room : length (first_list g) ≤ entries

-- Two groups with as many items, of which every visit makes the same state. A group may be walked by another that is laid out in its place.
pub record SameVisits (g walked : Group) : Type 0 where
  pub sizes : size g ≡ size walked
  pub visits : (s : ItemState) → visit_item g s ≡ visit_item walked s

-- What is read lays out a group of which every visit is the same as of the group that is walked, and the arrays and numbers show a state of its walk.
abbrev pub IsAt : {WORDS NEEDS ENTRIES : ℕ} → Group → GroupArrays WORDS NEEDS → Arrays WORDS ENTRIES → ItemWalk → ItemState → Type 0
IsAt walked group a w s = (g : Group) × SameVisits g walked × Walking g group a w s

-- There is room for as many entries as a list may have, or for `most` of them.
abbrev pub Fits : ℕ → ℕ → Type 0
Fits most room = (k : ℕ) → k ≤ item_list_limit → k ≤ most → k ≤ room

-- There is room for whatever one visit may leave of n items: from `end` entries it takes one off and puts at most n dependants, x and p there, or at most
-- n dependencies.
abbrev pub Room : ℕ → ℕ → ℕ → Type 0
Room n room end = Fits (end + n + 1) room

-- One more visit may leave more entries than there is room for, and a list may have more.
abbrev pub Short : ℕ → ℕ → ℕ → Type 0
Short n room end = (room < item_list_limit) × (room < end + n + 1)

-- What a visit comes to, t being the state after it.
abbrev pub Comes : {WORDS ENTRIES : ℕ} → ℕ → ℕ → Arrays WORDS ENTRIES → List ℕ → ItemState → Outcome ItemWalk → Type 0
Comes n width a before t o = Came item_list_limit item_list placed_of (Shows n width a) before t o

-- The parts of a visit.
-- Bit b of row a is within the rows of `words` words, and its place does not wrap.
pub record Cell (words a b : ℕ) (rows : List ℕ) : Type 0 where
  pub most : words ≤ row_words
  pub within : a * (64 * words) + b < length rows * 64

-- A pair noted as moved, or one that had moved already.
pub data Noted (k : ℕ) (old new : List ℕ) : Bool → Type 0 where
  noted : bit_at old k ≡ false → Inserted k old new → Noted k old new false
  had-moved : bit_at old k ≡ true → new ≡ old → Noted k old new true

-- All but the list is as it was, or all but the pairs that have moved.
abbrev pub ListOnly : {WORDS ENTRIES : ℕ} → Arrays WORDS ENTRIES → Arrays WORDS ENTRIES → Type 0
ListOnly old new = (new.placed ≡ old.placed) × (new.moved ≡ old.moved) × (new.«open» ≡ old.«open») × (new.order ≡ old.order)

abbrev pub MovedOnly : {WORDS ENTRIES : ℕ} → Arrays WORDS ENTRIES → Arrays WORDS ENTRIES → Type 0
MovedOnly old new = (new.placed ≡ old.placed) × (new.«open» ≡ old.«open») × (new.order ≡ old.order) × (new.list ≡ old.list)

-- An item of the group, with its kind and its range.
pub record ItemIs (g : Group) (x : Item) : Type 0 where
  pub below : x.id.0 < size g
  pub kind-is : x.kind.0 ≡ kind_of g x.id.0
  pub range-is : RangeIs g x.id.0 x.low x.high

-- One that is in a range.
pub record Ranged (g : Group) (x : Item) : Type 0 where
  pub item : ItemIs g x
  pub inside : in_range x.id.0 (range_of g.ranges x.id.0) ≡ true

-- Step 2 for a dependency d of x: the state after it, and one step of the definition.
pub record Skipped {WORDS NEEDS ENTRIES : ℕ} (g : Group) (group : GroupArrays WORDS NEEDS) (a : Arrays WORDS ENTRIES) (w : ItemWalk) (s : ItemState)
    (x d : ℕ) (r : Bool) : Type 0 where
  pub after : List (ℕ × ℕ)
  pub walking : Walking g group a w (with_moved after s)
  pub step : (placed rest : List ℕ) → find_open g placed x (d ∷ rest) (moved_of s) ≡ with_open (not r && not (elem d placed)) d (find_open g placed x rest after)

-- whether a dependency d of x that is not skipped stays
unfoldable pub stays : Group → List ℕ → ℕ → ℕ → Bool
stays g items x d = not (elem d items) && not (is_dropped g x d)

-- The open dependencies that step 3 does not drop.
unfoldable pub staying : Group → ℕ → Opened → Opened
staying g x (opened dependencies moved) = opened (keep (λ d. not (is_dropped g x d)) dependencies) moved

-- Steps 2 and 3 for all dependencies of x: the state after them, and those that stay.
pub record Found {WORDS NEEDS ENTRIES : ℕ} (g : Group) (group : GroupArrays WORDS NEEDS) (a : Arrays WORDS ENTRIES) (w : ItemWalk) (s : ItemState)
    (x count : ℕ) : Type 0 where
  pub after : List (ℕ × ℕ)
  pub walking : Walking g group a w (with_moved after s)
  pub within : count ≤ size g
  pub found : staying g x (find_open g (placed_of s) x (dependencies_of g.needs x) (moved_of s)) ≡ opened (take count a.«open») after

-- Entries pushed on the list, or more than a list may have.
pub data Pushed {WORDS ENTRIES : ℕ} (n width : ℕ) (a : Arrays WORDS ENTRIES) (entries : List ℕ) (s : ItemState) : Option ItemWalk → Type 0 where
  pushed : {w : ItemWalk} → Shows n width a w (with_list entries s) → Pushed n width a entries s (Some w)
  no_room : item_list_limit < length entries → Pushed n width a entries s None

-- The first of the items that precede x, which is below it.
pub data First (x : ℕ) : List ℕ → Option NodeId → Type 0 where
  none : First x [] None
  first : {p : NodeId} {rest : List ℕ} → p.0 < x → First x (p.0 ∷ rest) (Some p)
