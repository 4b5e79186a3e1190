-- `NeedRows::new` meets its contract. The loop's invariant: the needs from `row` on are chained, and no entry stands before them. Assumes nothing.
use Rattle.std.proofs.Common.{ℕ, ◌<◌, ◌≡◌, List, get_or}
use Rattle.rules.specs.Project.{Project}
use Rattle.owners.specs.Owners.{Owned}
use Rattle.owners.specs.KeyLaws.{Chaining}
use Rattle.owners.proofs.NeedRows.new.Given as goal

abbrev pub invariant-loop-row : goal.invariant-loop-row
invariant-loop-row g l =
    ((p : Project) (groups : List (List ℕ)) → Owned p groups l.items l.section l.owners.array
    → Chaining p groups l.row l.initial.chains.heads l.initial.chains.next l.chains.heads l.chains.next)
    × ((j : ℕ) → j < l.row → get_or l.chains.next j 0 ≡ 0)
