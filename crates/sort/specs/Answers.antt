-- The answers of the calls, by the paper's five numbers and the reply's bytes. Assumes nothing.
use Rattle.std.specs.Prelude.{ℕ, ◌≡◌, List}
use Rattle.std.specs.declared.convert.Infallible.{Infallible}
use Rattle.rules.specs.Walk.{Stop, spent, full}
use Rattle.rules.specs.Calls.{Answer, overwrite}
use Rattle.walks.specs.declared.Stop.{Stop as WalkStop}
use Rattle.walks.specs.declared.Stop.TheVariants.{Spent as WalkSpent, Full as WalkFull, Crowded}
use Rattle.sort.specs.declared.Numbers.{Numbers}
use Rattle.sort.specs.declared.Refusal.{Refusal}
use Rattle.sort.specs.declared.Refusal.TheVariants.{ShortReply, Spent, Full, ShortReport}

-- The paper's number of a refusal.
abbrev pub number_of : Refusal → ℕ
number_of ShortReply = 10
number_of Spent = 11
number_of Full = 12
number_of ShortReport = 13

-- A walk that has not ended is refused, with the visits made.
abbrev pub refusal_of : WalkStop Infallible → Refusal × ℕ
refusal_of (WalkSpent made) = (Spent, made)
refusal_of (WalkFull made) = (Full, made)
refusal_of (Crowded never) = elim never [ ]

-- How a run of visits that has not ended is answered: 11 or 12, and the visits made.
pub data Halted {State : Type 0} (stop : Stop State) : ℕ → ℕ → Type 0 where
  halted_spent : {made : ℕ} → stop ≡ spent made → Halted stop 11 made
  halted_full : {made : ℕ} → stop ≡ full made → Halted stop 12 made

-- "Answer (0 for accepted), kept items, groups, module visits and item visits are returned"
abbrev pub numbers_of : Answer → Numbers
numbers_of a =
    record {
      answer = a.number;
      kept = a.kept;
      groups = a.groups;
      module_visits = a.module_visits;
      item_visits = a.item_visits;
    }

-- A call has given an answer: its numbers are returned, and its bytes stand at the reply's front; bytes beyond stay.
pub record Answered (a : Answer) (before after : List ℕ) (r : Numbers) : Type 0 where
  pub numbers : r ≡ numbers_of a
  pub reply : after ≡ overwrite a.written before
