-- What chaining the needs gives. Assumes nothing.
use Rattle.std.specs.Prelude.{ℕ, suc, ◌≤◌, ◌<◌, ◌≡◌, List, get_or}
use Rattle.rules.specs.Project.{Project, module_limit}
use Rattle.lists.specs.Pairs.{Onward}
use Rattle.owners.specs.Owners.{NeedsAlong, needs_of}
use Rattle.owners.specs.declared.NeedRows.{NeedRows}

-- For each owner the chain of its needs.
pub record NeedsChained {NEEDS : ℕ} (p : Project) (groups : List (List ℕ)) (rows : NeedRows NEEDS) : Type 0 where
  pub chains : (k : ℕ) → k < module_limit → NeedsAlong rows.section.now rows.chains.next (get_or rows.chains.heads k 0) (needs_of p groups k)

-- Each entry ends its chain or leads onward to one of the first n rows, and behind these stands none.
pub record LinkedWithin {NEEDS : ℕ} (n : ℕ) (rows : NeedRows NEEDS) : Type 0 where
  pub heads-most : (k : ℕ) → get_or rows.chains.heads k 0 ≤ n
  pub next-onward : (i : ℕ) → i < n → Onward (suc i) n (get_or rows.chains.next i 0)
  pub next-rest : (i : ℕ) → n ≤ i → get_or rows.chains.next i 0 ≡ 0
