-- Laws of the sort of one group. Assumes nothing.
use Rattle.std.specs.Prelude.{ℕ, ◌≤◌, ◌<◌, ◌≡◌, Ok, Err, length, take}
use Rattle.std.proofs.Common.{arith, sym, ap, ◌∙◌}
use mathlib.Core.List.{List, reverse}
use Rattle.rules.specs.Project.{Project}
use Rattle.rules.specs.Walk.{Stop, finished, run}
use Rattle.rules.specs.Items.{group_of, ItemState, item_walk, item_start, placed_of, order_of, sort_modules}
use Rattle.rules.specs.Calls.{item_list_limit}
use Rattle.laws.specs.Counting.{Below}
use Rattle.laws.proofs.Splits.{well_formed}
use Rattle.laws.proofs.ItemWalk.{run-finished}
use Rattle.lists.specs.Stacks.{stack}
use Rattle.split.specs.declared.rows.ItemRows.{ItemRows}
use Rattle.split.specs.Splits.{Splits}
use Rattle.layout.specs.Numbers.{Numberable}
use Rattle.layout.specs.NumberLaws.{row_below}
use Rattle.walks.specs.declared.Stop.{Stop as Stopped}
use Rattle.walks.specs.Runs.{Ran, has_finished, was_spent, list_was_full, was_crowded}
use Rattle.stmt.specs.declared.walk.ItemWalk.{ItemWalk}
use Rattle.stmt.specs.declared.walk.Crowded.{Crowded}
use Rattle.group.specs.declared.Sort.{Sort}
use Rattle.group.specs.WalkingLaws.{items-are}
use Rattle.group.specs.Sorts.{rows_of, Given, Sorted}
use Rattle.group.specs.WriteLaws.{at-number, many-rows, same-rows}

-- the run of the modules' group
abbrev run_of : Project → List ℕ → ℕ → ℕ → Stop ItemState
run_of p modules left already = run (item_walk (group_of p modules)) item_list_limit left already (item_start (group_of p modules))

-- what a finished walk leaves
abbrev pub Placed : {WORDS NEEDS ENTRIES : ℕ} → Sort WORDS NEEDS ENTRIES → ItemWalk → ItemState → Type 0
Placed s w t = stack s.arrays.order s.group.split.count ≡ placed_of t

-- The walk of modules' items, and its order as rows.
module _ {WORDS NEEDS ENTRIES : ℕ} {p : Project} {modules : List ℕ} {items : ItemRows} (s : Sort WORDS NEEDS ENTRIES) (able : Numberable p modules items)
    (d : Splits p modules s.group.split) (left already : ℕ) where
  -- where it has finished
  module _ (t : ItemState) (made : ℕ) (e : run_of p modules left already ≡ finished t made) (shown : stack s.arrays.order s.group.split.count ≡ placed_of t) where
    below : Below s.group.split.count (placed_of t)
    below x m =
        let b = (run-finished (group_of p modules) (well_formed p modules able.giving) item_list_limit left already e).walked.placed_below x m in
        omega (arith, b, items-are d)

    room : s.group.split.count ≤ length s.arrays.order
    room = omega (arith, s.group.split.counts, s.arrays.order_size)

    pub given : Given (rows_of (take s.group.split.count s.group.split.rows) (reverse (placed_of t))) s
    given =
        record {
          rows-are = sym (same-rows s.arrays.order (placed_of t) room shown below s.group.split.rows);
          numbers-below = at-number s.arrays.order (placed_of t) room shown below;
          rows-below = row_below able d;
        }

    pub counted : s.group.split.count ≡ length (rows_of (take s.group.split.count s.group.split.rows) (reverse (placed_of t)))
    counted =
        sym (many-rows s.arrays.order (placed_of t) room shown below (take s.group.split.count s.group.split.rows))

  pub sorts : {w : ItemWalk} {made : ℕ} → Ran (run_of p modules left already) (Placed s) (λ (c : Crowded). ENTRIES < item_list_limit) (Ok (w, made))
      → Sorted p modules (sort_modules p modules item_list_limit left already) s (Ok (s.group.split.count, made))
  unfolding sort_modules order_of
  sorts {made = made} (has_finished t e h) =
      let same = ap (order_of _) e ∙ ap (λ (rows : List ℕ). finished (rows_of rows (reverse (placed_of t))) made) (sym d.numbered) in
      has_finished (rows_of (take s.group.split.count s.group.split.rows) (reverse (placed_of t))) same (given t made e h, counted t made e h, d.count-is)

  pub sort-stopped : {r : Stopped Crowded} → Ran (run_of p modules left already) (Placed s) (λ (c : Crowded). ENTRIES < item_list_limit) (Err r)
      → Sorted p modules (sort_modules p modules item_list_limit left already) s (Err r)
  unfolding sort_modules order_of
  sort-stopped (was_spent e) = was_spent (ap (order_of _) e)
  sort-stopped (list_was_full e) = list_was_full (ap (order_of _) e)
  sort-stopped (was_crowded h) = was_crowded h
