-- Rows and lists in a part of a section. Assumes nothing.
use Rattle.std.specs.Prelude.{ℕ, ◌+◌, ◌≤◌, ◌<◌, ◌≡◌, List, length, get_or, take, drop}
use Rattle.std.proofs.Common.{arith, length-take, length-drop, get_or-take, get_or-drop}
use Rattle.project.specs.Decoded.{item_row_at, import_row_at, need_row_at}

-- The row at a position is the first of what is left from there on.
module _ (l : List ℕ) (at : ℕ) where
  first : get_or (drop at l) 0 0 ≡ get_or l at 0
  first = let e : at + 0 ≡ at = omega arith in rw (get_or-drop, e)

  byte : (i : ℕ) → get_or (drop at l) i 0 ≡ get_or l (at + i) 0
  byte i = rw get_or-drop

  pub item_within : item_row_at (drop at l) 0 ≡ item_row_at l at
  item_within = rw (first, byte 1)

  pub import_within : import_row_at (drop at l) 0 ≡ import_row_at l at
  import_within = rw (first, byte 1)

  pub need_within : need_row_at (drop at l) 0 ≡ need_row_at l at
  need_within = rw (first, byte 1, byte 2)

pub part-size : (n at : ℕ) (l : List ℕ) → at + n ≤ length l → length (take n (drop at l)) ≡ n
part-size n at l h = simp (length-take, length-drop) (omega arith)

-- The row at the start of a part is the one where the part starts.
module _ (n at : ℕ) (l : List ℕ) where
  part-first : 0 < n → get_or (take n (drop at l)) 0 0 ≡ get_or l at 0
  part-first h = let e : at + 0 ≡ at = omega arith in rw (get_or-take, get_or-drop, e)

  part-byte : (i : ℕ) → i < n → get_or (take n (drop at l)) i 0 ≡ get_or l (at + i) 0
  part-byte i h = rw (get_or-take, get_or-drop)

  pub item-in : 2 ≤ n → item_row_at (take n (drop at l)) 0 ≡ item_row_at l at
  item-in h = rw (part-first (omega arith), part-byte 1 (omega arith))

  pub import-in : 2 ≤ n → import_row_at (take n (drop at l)) 0 ≡ import_row_at l at
  import-in h = rw (part-first (omega arith), part-byte 1 (omega arith))

  pub need-in : 3 ≤ n → need_row_at (take n (drop at l)) 0 ≡ need_row_at l at
  need-in h = rw (part-first (omega arith), part-byte 1 (omega arith), part-byte 2 (omega arith))
