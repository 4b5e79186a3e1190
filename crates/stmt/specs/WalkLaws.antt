-- Laws of what arrays and numbers show, for the walk as visits of src/walk.rt. Assumes nothing.
use Rattle.std.specs.Prelude.{ℕ, ◌≤◌, List, length}
use Rattle.std.proofs.Common.{arith, ap}
use Rattle.rules.specs.Items.{Group, first_list, ItemState, item_list, item_start}
use Rattle.rules.specs.Calls.{item_list_limit}
use Rattle.laws.specs.Splits.{size}
use Rattle.laws.proofs.ItemWalk.{walked_start}
use Rattle.lists.specs.StackLaws.{stack-length}
use Rattle.split.specs.FirstLists.{FirstListed}
use Rattle.layout.specs.declared.Group.{Group as GroupArrays}
use Rattle.stmt.specs.declared.arrays.Arrays.{Arrays}
use Rattle.stmt.specs.declared.walk.ItemWalk.{ItemWalk}
use Rattle.stmt.specs.Walks.{Listed, width, Shows, Laid, Walking, IsAt}

-- A list that is shown is within the limit.
pub list-within : {WORDS NEEDS ENTRIES : ℕ} {walked : Group} {group : GroupArrays WORDS NEEDS} {a : Arrays WORDS ENTRIES} {w : ItemWalk} {s : ItemState}
    → IsAt walked group a w s → length (item_list s) ≤ item_list_limit
list-within {a = a} {w} h = let l = h.2.shows.entries in omega (arith, ap length l.shown, stack-length a.list w.end, l.within)

-- The first list that was written is one that the first state can be made with, where it fits.
pub first-held : {g : Group} {before list : List ℕ} {end : ℕ} → FirstListed g before list end → length (first_list g) ≤ item_list_limit
    → length (first_list g) ≤ length list → Listed list end (first_list g)
first-held l most room = record { shown = l.shown; within = omega (arith, l.count, most); held = omega (arith, l.count, room) }

-- With a group laid out, its first state is one that its walk can be in.
pub walking-start : {WORDS NEEDS ENTRIES : ℕ} {g : Group} {group : GroupArrays WORDS NEEDS} {a : Arrays WORDS ENTRIES} {w : ItemWalk} → Laid g group
    → Shows (size g) (width group) a w (item_start g) → Walking g group a w (item_start g)
walking-start {g = g} l s = record { laid = l; shows = s; walked = walked_start g l.formed }
