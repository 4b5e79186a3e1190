-- Entries stored one behind the other. Assumes nothing.
use Rattle.std.specs.Prelude.{ℕ, ◌+◌, ◌≡◌, List, length}
use Rattle.std.proofs.lemmas.List.Edits.{sets}

-- From `start` on; `end` is the place behind them.
pub record Stored {A : Type 0} (entries : List A) (start : ℕ) (before after : List A) (end : ℕ) : Type 0 where
  pub whole : after ≡ sets before start entries
  pub count : end ≡ start + length entries
