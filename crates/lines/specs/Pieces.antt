-- The pieces of a text. Assumes nothing.
use Rattle.std.specs.Prelude.{ℕ, ◌<◌, ◌≡◌, List, eqb, length}
use Rattle.std.specs.List.{before_first, after_first}
use Rattle.lines.specs.declared.text.Pieces.{Pieces}

-- A piece has been taken off what was left: the bytes before the first that ends a piece, or all where none does. Left is what stands behind that byte.
pub record PieceTaken (piece : List ℕ) (before after : Pieces) : Type 0 where
  pub piece_is : piece ≡ before_first (λ byte. eqb byte before.end) before.rest.now
  pub rest_is : after.rest.now ≡ after_first (λ byte. eqb byte before.end) before.rest.now
  pub same_end : after.end ≡ before.end
  pub shorter : length after.rest.now < length before.rest.now
