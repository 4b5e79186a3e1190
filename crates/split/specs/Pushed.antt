-- Entries put in front of a list on an array. Assumes nothing.
use Rattle.std.specs.Prelude.{ℕ, ◌+◌, ◌≡◌, List, ◌++◌, length, drop}
use Rattle.lists.specs.Stacks.{stack}

-- Its end was n and then is n'; what stands from there on stays.
pub record Pushed (entries list : List ℕ) (n : ℕ) (list' : List ℕ) (n' : ℕ) : Type 0 where
  pub shown : stack list' n' ≡ entries ++ stack list n
  pub count : n' ≡ n + length entries
  pub rest : drop n' list' ≡ drop n' list
