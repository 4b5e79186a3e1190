-- Laws of the sort of a group in its turn. Assumes nothing.
use Rattle.std.specs.Prelude.{ℕ, ◌+◌, ◌≤◌, ◌<◌, ◌≡◌, Ok, Err, length}
use Rattle.std.proofs.Common.{arith}
use mathlib.Core.List.{List}
use Rattle.std.proofs.lemmas.List.Edits.{sets}
use Rattle.rules.specs.Project.{Project}
use Rattle.rules.specs.Walk.{Stop}
use Rattle.rules.specs.Items.{numbering}
use Rattle.rules.specs.Calls.{item_list_limit}
use Rattle.giving.specs.Giving.{Stored}
use Rattle.walks.specs.declared.Stop.{Stop as Stopped}
use Rattle.walks.specs.Runs.{Ran, has_finished, was_spent, list_was_full, was_crowded}
use Rattle.stmt.specs.declared.walk.Crowded.{Crowded as ListCrowded}
use Rattle.group.specs.declared.Sort.{Sort}
use Rattle.group.specs.Sorts.{Given, Sorted}

-- A sort that has finished has rows to write, and once they are written they are the definition's.
module _ {WORDS NEEDS ENTRIES : ℕ} (p : Project) (modules : List ℕ) {stop : Stop (List ℕ)} {s : Sort WORDS NEEDS ENTRIES} {n made : ℕ} where
  pub rows-given : («at» : ℕ) (out : List ℕ) → Sorted p modules stop s (Ok (n, made)) → «at» + length (numbering p modules) ≤ length out
      → (rows : List ℕ) × Given rows s × («at» + length rows ≤ length out)
  rows-given «at» out (has_finished rows e h) room = (rows, h.0, omega (arith, h.1, h.2))

  pub rows-written : {«at» kept : ℕ} {before after : List ℕ} {crowds : ListCrowded → Type 0} → Sorted p modules stop s (Ok (n, made))
      → ((rows : List ℕ) → Given rows s → after ≡ sets before «at» rows) → ((rows : List ℕ) → Given rows s → kept ≡ «at» + length rows)
      → Ran stop (λ end rows. Stored rows «at» before after end) crowds (Ok (kept, made))
  rows-written (has_finished rows e h) w k = has_finished rows e (record { whole = w rows h.0; count = k rows h.0 })

-- One that has stopped has written nothing.
pub sort-stopped : {WORDS NEEDS ENTRIES : ℕ} (p : Project) (modules : List ℕ) {stop : Stop (List ℕ)} {s : Sort WORDS NEEDS ENTRIES}
    {shows : ℕ → List ℕ → Type 0} {crowds : ListCrowded → Type 0} {d : Stopped ListCrowded} → Sorted p modules stop s (Err d)
    → ((c : ListCrowded) → ENTRIES < item_list_limit → crowds c) → Ran stop shows crowds (Err d)
sort-stopped p modules (was_spent e) f = was_spent e
sort-stopped p modules (list_was_full e) f = list_was_full e
sort-stopped p modules (was_crowded {c} h) f = was_crowded (f c h)
