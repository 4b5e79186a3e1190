-- What the functions of src/walk.rt require and guarantee: how arrays and numbers stand for a state of the module walk. Assumes nothing.
use Rattle.std.specs.Prelude.{ℕ, ◌+◌, ◌*◌, ◌≤◌, ◌<◌, ◌≡◌, false, ◌||◌, List, ◌∷◌, ◌++◌, length, take}
use Rattle.rules.specs.Lists.{is_empty, elem}
use Rattle.rules.specs.Project.{Project, module_limit, import_limit, import_row, pair_rows, circle_lists, bad_circles}
use Rattle.rules.specs.Modules.{ModuleState, module_state, module_list, groups_of, groups_in_order, is_done, undone_imports, circle_of, outside_imports, visit_module, module_start}
use Rattle.rules.specs.Calls.{group_bytes, module_list_limit}
use Rattle.lists.specs.Bits.{bit}
use Rattle.lists.specs.Stacks.{stack, placed_below}
use Rattle.laws.specs.Accepted.{Accepted}
use Rattle.laws.specs.ModuleWalk.{WalkedIn}
use Rattle.chunk.specs.Circles.{gathered_on}
use Rattle.chunk.specs.Imports.{Laid}
use Rattle.chunk.specs.declared.arrays.Arrays.{Arrays}
use Rattle.chunk.specs.declared.gathered.Gathered.{Gathered}
use Rattle.chunk.specs.declared.imports.Imports.{Imports}
use Rattle.chunk.specs.declared.walk.ModuleWalk.{ModuleWalk}
use Rattle.walks.specs.declared.Outcome.{Outcome}
use Rattle.walks.specs.declared.Outcome.TheVariants.{WentOn, ListFull}
use Rattle.walks.specs.Runs.{Came}

unfoldable pub marks_of : ModuleState → List ℕ
marks_of (module_state list marks groups) = marks

-- A group written behind those before it: a count byte and the members.
abbrev pub Written : ℕ → List ℕ → List ℕ → List ℕ → Type 0
Written used members before after = take (used + 1 + length members) after ≡ take used before ++ (length members ∷ members)

-- The state with one more group, whose members are those of `set`.
pub record Grouped (w : ModuleWalk) (members : List ℕ) (set : ℕ) (before after : List ℕ) (r : ModuleWalk) : Type 0 where
  pub end : r.end + 1 ≡ w.end
  pub done : (m : ℕ) → bit r.done m ≡ (bit w.done m || bit set m)
  pub marks : r.marks ≡ 0
  pub groups : r.groups ≡ w.groups + 1
  pub used : r.used ≡ w.used + 1 + length members
  pub bytes : Written w.used members before after

-- Imports that can be put in front: they are counted, and the list has the limit's size.
pub record Expandable (imports : List ℕ) (count : ℕ) (list : List ℕ) (w : ModuleWalk) : Type 0 where
  pub counted : count ≡ length imports
  pub most : length imports ≤ module_limit * import_limit
  pub size : length list ≡ module_list_limit
  pub within : w.end ≤ module_list_limit

-- Imports put in front of the list, or no room for them: then nothing is written.
pub data Expanded (imports before after : List ℕ) (w : ModuleWalk) (marks : ℕ) : Outcome ModuleWalk → Type 0 where
  put : after ≡ placed_below (w.end + length imports) imports before → w.end + length imports ≤ module_list_limit
      → Expanded imports before after w marks
      (WentOn (record { end = w.end + length imports; done = w.done; marks = marks; groups = w.groups; used = w.used }))
  no_room : module_list_limit < w.end + length imports → after ≡ before → Expanded imports before after w marks ListFull

-- The arrays and numbers of the code show a state of the walk: the list with its front at the end index, the modules done and marked as sets of
-- bits, and the groups as the bytes that a groups call writes.
pub record Shows (a : Arrays) (w : ModuleWalk) (s : ModuleState) : Type 0 where
  pub entries : stack a.list w.end ≡ module_list s
  pub within : w.end ≤ module_list_limit
  pub done : (m : ℕ) → bit w.done m ≡ is_done (groups_of s) m
  pub marks : (m : ℕ) → bit w.marks m ≡ elem m (marks_of s)
  pub count : w.groups ≡ length (groups_of s)
  pub used : w.used ≡ length (group_bytes (groups_in_order s))
  pub bytes : take w.used a.groups ≡ group_bytes (groups_in_order s)

-- The walk before the first visit: the list, of whatever length, is that of the paper's start of every project with these modules and this entry, and
-- nothing is done, marked or made.
pub record Started (modules entry : ℕ) (list : List ℕ) (w : ModuleWalk) : Type 0 where
  pub entries : (p : Project) → p.modules ≡ modules → p.entry ≡ entry → stack list w.end ≡ module_list (module_start p)
  pub within : w.end ≤ module_list_limit
  pub done : w.done ≡ 0
  pub marks : w.marks ≡ 0
  pub groups : w.groups ≡ 0
  pub used : w.used ≡ 0

-- What a visit relies on: the project's imports and circles, and a state that the walk of the project can be in.
pub record Walking (p : Project) (section : List ℕ) (imports : Imports) (a : Arrays) (w : ModuleWalk) (s : ModuleState) : Type 0 where
  pub accepted : Accepted p
  pub circles : p.circles ≡ circle_lists section
  pub sound : bad_circles module_limit 0 section ≡ false
  pub laid : Laid p.imports imports
  pub shows : Shows a w s
  pub walked : WalkedIn p s

-- What a visit comes to, by the paper's cases: the state after it, and whether it made a group. Of the arrays after a full list nothing is said.
abbrev pub Visited : Project → ModuleState → Arrays → Outcome ModuleWalk → Type 0
Visited p s a = Came module_list_limit module_list groups_of (Shows a) (groups_of s) (visit_module p s)

-- What a visit finds behind the front module m: the rest of the list, the marks and the groups made.
pub record Behind : Type 0 where
  pub project : Project
  pub rest : List ℕ
  pub marks : List ℕ
  pub made : List (List ℕ)

abbrev pub state_at : ℕ → Behind → ModuleState
state_at m b = module_state (m ∷ b.rest) b.marks b.made

-- Step 2 and on: m is not done.
pub record Undone (b : Behind) (section : List ℕ) (imports : Imports) (a : Arrays) (w : ModuleWalk) (m : ℕ) : Type 0 where
  pub walking : Walking b.project section imports a w (state_at m b)
  pub undone : is_done b.made m ≡ false

-- Step 3 and on: m has undone imports, and they are counted.
pub record Importing (b : Behind) (section : List ℕ) (imports : Imports) (a : Arrays) (w : ModuleWalk) (m count : ℕ) : Type 0 where
  pub undone : Undone b section imports a w m
  pub counted : count ≡ length (undone_imports b.project b.made m)
  pub some : 0 < count

-- Step 4: the circle of m is gathered, and it is not empty.
pub record Circled (b : Behind) (imports : Imports) (a : Arrays) (w : ModuleWalk) (m : ℕ) (circle : Gathered) : Type 0 where
  pub section : List ℕ
  pub undone : Undone b section imports a w m
  pub importing : is_empty (undone_imports b.project b.made m) ≡ false
  pub same : gathered_on circle ≡ circle_of b.project m
  pub some : 0 < circle.count

-- Step 4, "Some": undone imports of the circle lie outside it, and they are counted.
pub record Leaving (b : Behind) (imports : Imports) (a : Arrays) (w : ModuleWalk) (m : ℕ) (circle : Gathered) (count : ℕ) : Type 0 where
  pub circled : Circled b imports a w m circle
  pub counted : count ≡ length (outside_imports b.project b.made (circle_of b.project m))
  pub some : 0 < count

-- The groups of a state: their number, and the bytes that a groups call writes in front of the array. What stands beyond is left free.
pub record Holds (groups : List ℕ) (w : ModuleWalk) (s : ModuleState) : Type 0 where
  pub count : w.groups ≡ length (groups_of s)
  pub used : w.used ≡ length (group_bytes (groups_in_order s))
  pub bytes : take w.used groups ≡ group_bytes (groups_in_order s)

-- What the grouping of a project relies on: the parts of it that the module walk reads, as an accepted project has them.
pub record Groupable (p : Project) (rows section : List ℕ) (count first : ℕ) : Type 0 where
  pub accepted : Accepted p
  pub modules : p.modules ≡ count
  pub entry : p.entry ≡ first
  pub imports : p.imports ≡ pair_rows import_row rows
  pub circles : p.circles ≡ circle_lists section
  pub sound : bad_circles module_limit 0 section ≡ false
