-- Laws of the bytes of groups from a place on, the first group in front. Assumes nothing.
use Rattle.std.specs.Prelude.{ℕ, suc, ◌+◌, ◌-◌, ◌≤◌, ◌<◌, ◌≡◌, length, get_or, take, drop}
use Rattle.std.proofs.Common.{arith, refl, sym, ap, ◌∙◌, length-drop, length-append, get_or-drop, drop-drop}
use mathlib.Core.List.{List, [], ◌∷◌, ◌++◌, flat_map}
use Rattle.std.proofs.Math.Seq.{take-append_seam, drop-append_seam}
use Rattle.rules.specs.Project.{join_first, lists_from, circle_lists}
use Rattle.rules.specs.Calls.{group_bytes}
use Rattle.project.specs.Counted.{is_whole, AreWhole}

-- the members of the group whose bytes begin at a place
abbrev pub members_at : List ℕ → ℕ → List ℕ
members_at bytes place = take (place + 1 + get_or bytes place 0 - (place + 1)) (drop (place + 1) bytes)

module _ (bytes members : List ℕ) (groups : List (List ℕ)) (place : ℕ) (e : drop place bytes ≡ group_bytes (members ∷ groups)) where
  bytes-first : drop place bytes ≡ length members ∷ (members ++ group_bytes groups)
  unfolding group_bytes flat_map
  bytes-first = e

  pub first_below : place < length bytes
  first_below = omega (arith, length-drop place bytes, ap length bytes-first)

  pub first_byte : get_or bytes place 0 ≡ length members
  first_byte = let z : place + 0 ≡ place = omega arith in ap (λ (k : ℕ). get_or bytes k 0) (sym z) ∙ sym (get_or-drop place bytes 0 0) ∙ ap (λ (l : List ℕ). get_or l 0 0) bytes-first

  behind : drop (place + 1) bytes ≡ members ++ group_bytes groups
  behind = sym (drop-drop 1 place bytes) ∙ ap (drop 1) bytes-first

  pub first-within : place + 1 + get_or bytes place 0 ≤ length bytes
  first-within =
      omega (arith, length-drop (place + 1) bytes, ap length behind, length-append members (group_bytes groups), first_below, first_byte)

  pub first-members : members_at bytes place ≡ members
  first-members =
      let size : place + 1 + get_or bytes place 0 - (place + 1) ≡ length members = omega (arith, first_byte) in
      ap (λ (k : ℕ). take k (drop (place + 1) bytes)) size ∙ ap (take (length members)) behind ∙ take-append_seam members (group_bytes groups)

  pub first_past : drop (place + 1 + get_or bytes place 0) bytes ≡ group_bytes groups
  first_past =
      ap (λ (k : ℕ). drop (place + 1 + k) bytes) first_byte
      ∙ sym (drop-drop (length members) (place + 1) bytes)
      ∙ ap (drop (length members)) behind
      ∙ drop-append_seam members (group_bytes groups)

-- The bytes of the groups behind the first.
module _ (members : List ℕ) (groups : List (List ℕ)) where
  pub group-within : 1 + length members ≤ length (group_bytes (members ∷ groups))
  unfolding group_bytes flat_map
  group-within = omega (arith, length-append members (group_bytes groups))

  pub group_past : drop (1 + length members) (group_bytes (members ∷ groups)) ≡ group_bytes groups
  unfolding group_bytes flat_map
  group_past = let size : 1 + length members ≡ suc (length members) = omega arith in rw size (drop-append_seam members (group_bytes groups))

-- The bytes of groups read as lists that stand one behind the other.
whole-members : (members rest : List ℕ) → is_whole (length members) (members ++ rest) ≡ is_whole 0 rest
unfolding is_whole
whole-members [] rest = refl
whole-members (m ∷ members) rest = whole-members members rest

pub groups_whole : (groups : List (List ℕ)) → AreWhole (group_bytes groups)
unfolding is_whole group_bytes flat_map
groups_whole [] = refl
groups_whole (g ∷ groups) = whole-members g (group_bytes groups) ∙ groups_whole groups

lists-zero : (rest : List ℕ) → lists_from 0 rest ≡ [] ∷ circle_lists rest
unfolding lists_from circle_lists
lists-zero [] = refl
lists-zero (n ∷ rest) = refl

lists-members : (members rest : List ℕ) → lists_from (length members) (members ++ rest) ≡ members ∷ circle_lists rest
unfolding lists_from join_first
lists-members [] rest = lists-zero rest
lists-members (m ∷ members) rest = ap (join_first m) (lists-members members rest)

pub groups_lists : (groups : List (List ℕ)) → circle_lists (group_bytes groups) ≡ groups
unfolding lists_from circle_lists group_bytes flat_map
groups_lists [] = refl
groups_lists (g ∷ groups) = lists-members g (group_bytes groups) ∙ ap (λ (l : List (List ℕ)). g ∷ l) (groups_lists groups)
