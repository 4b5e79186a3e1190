-- 'Project bytes' and numbers 1 to 9 of 'What is turned down': what the bytes of a project say. Bytes are a list of numbers, positions
-- and lengths natural numbers, so that no sum wraps. Assumes nothing.
use Rattle.std.specs.Prelude.{ℕ, zero, suc, ◌+◌, ◌*◌, ◌%◌, Bool, true, false, cond, not, ◌||◌, eqb, ltb, leb, length, get_or, take, drop}
use mathlib.Core.List.{List, [], ◌∷◌, tail}
use Rattle.rules.specs.Lists.{any}

-- "rows of 2 bytes: module, kind"
pub record Item : Type 0 where
  pub in_module : ℕ
  pub kind : ℕ

-- "rows of 2 bytes: importer, imported"
pub record Import : Type 0 where
  pub importer : ℕ
  pub imported : ℕ

-- "rows of 3 bytes: item, item it depends on, weight (0 Always, 1 Maybe)". "Need" is the paper's term for a dependency of an item.
pub record Need : Type 0 where
  pub dependant : ℕ
  pub dependency : ℕ
  pub weight : ℕ

-- The position of a row among the items is the item's number. "Circle" is the paper's term for a list of modules that import each other.
pub record Project : Type 0 where
  pub modules : ℕ
  pub entry : ℕ
  pub items : List Item
  pub imports : List Import
  pub circles : List (List ℕ)
  pub needs : List Need

-- What the reader answers: a number of the table, or the project.
pub data Reading : Type 0 where
  refused : ℕ → Reading
  accepted : Project → Reading

-- The limits.
-- "Byte 0: edition, 1."
abbrev pub is_edition : ℕ → Bool
is_edition e = eqb e 1

-- "modules M, 1 to 64"
abbrev pub module_limit : ℕ
module_limit = 64

-- "Items, at most 256 rows of 2 bytes"
abbrev pub item_limit : ℕ
item_limit = 256

-- "Imports, at most 512 rows of 2 bytes"
abbrev pub import_limit : ℕ
import_limit = 512

-- "Circles, at most 512 bytes"
abbrev pub circle_bytes_limit : ℕ
circle_bytes_limit = 512

-- "Needs, at most 2,048 rows of 3 bytes"
abbrev pub need_limit : ℕ
need_limit = 2048

abbrev pub need_bytes : ℕ
need_bytes = 3

-- The header.
abbrev pub byte_at : List ℕ → ℕ → ℕ
byte_at bytes i = get_or bytes i 0

-- "Numbers of several bytes are little-endian." Here one of 32 bits.
unfoldable pub number32 : List ℕ → ℕ → ℕ
number32 bytes i =
    byte_at bytes i + 256 * byte_at bytes (i + 1) + 65536 * byte_at bytes (i + 2) + 16777216 * byte_at bytes (i + 3)

-- "Then four pairs of offset and length, 32 bits each": of the sections 0 items, 1 imports, 2 circles, 3 needs
unfoldable pub offset_of : List ℕ → ℕ → ℕ
offset_of bytes s = number32 bytes (4 + 8 * s)

unfoldable pub length_of : List ℕ → ℕ → ℕ
length_of bytes s = number32 bytes (8 + 8 * s)

unfoldable pub end_of : List ℕ → ℕ → ℕ
end_of bytes s = offset_of bytes s + length_of bytes s

-- "Each section is handed on as that part of the project's bytes."
unfoldable pub section : List ℕ → ℕ → List ℕ
section bytes s = take (length_of bytes s) (drop (offset_of bytes s) bytes)

-- The rows: of 2 bytes for items and imports, of 3 for needs.
unfoldable pub pair_rows : {A : Type 0} → (ℕ → ℕ → A) → List ℕ → List A
pair_rows row [] = []
pair_rows row (a ∷ []) = []
pair_rows row (a ∷ b ∷ rest) = row a b ∷ pair_rows row rest

abbrev pub item_row : ℕ → ℕ → Item
item_row a b = record { in_module = a; kind = b }

abbrev pub import_row : ℕ → ℕ → Import
import_row a b = record { importer = a; imported = b }

abbrev pub need_row : ℕ → ℕ → ℕ → Need
need_row a b c = record { dependant = a; dependency = b; weight = c }

unfoldable pub need_rows : List ℕ → List Need
need_rows [] = []
need_rows (a ∷ []) = []
need_rows (a ∷ b ∷ []) = []
need_rows (a ∷ b ∷ c ∷ rest) = need_row a b c ∷ need_rows rest

-- "lists, each a count byte and that many module numbers. A count of 0 and a repeated member are allowed."
-- What stands where a list still lacks `left` members: those members, and behind them the lists that follow.
unfoldable pub join_first : ℕ → List (List ℕ) → List (List ℕ)
join_first m [] = []
join_first m (l ∷ lists) = (m ∷ l) ∷ lists

unfoldable pub lists_from : ℕ → List ℕ → List (List ℕ)
lists_from zero [] = [] ∷ []
lists_from zero (n ∷ rest) = [] ∷ lists_from n rest
lists_from (suc left) [] = [] ∷ []
lists_from (suc left) (m ∷ rest) = join_first m (lists_from left rest)

unfoldable pub circle_lists : List ℕ → List (List ℕ)
circle_lists bytes = tail (lists_from 0 bytes)

-- The table, numbers 1 to 9.
-- 1, "under 36 bytes"
unfoldable pub stub : List ℕ → Bool
stub bytes = ltb (length bytes) 36

-- 2, "edition not 1, or byte 3 not 0"
unfoldable pub foreign : List ℕ → Bool
foreign bytes = not (is_edition (byte_at bytes 0)) || not (eqb (byte_at bytes 3) 0)

-- 3, "a pair breaks the rule above": "The first offset is 36, each next one is the previous offset plus length, and the last section ends
-- the input."
unfoldable pub misplaced : List ℕ → Bool
misplaced bytes =
    not (eqb (offset_of bytes 0) 36)
    || not (eqb (offset_of bytes 1) (end_of bytes 0))
    || not (eqb (offset_of bytes 2) (end_of bytes 1))
    || not (eqb (offset_of bytes 3) (end_of bytes 2))
    || not (eqb (length bytes) (end_of bytes 3))

-- 4, "items or imports odd in length, needs not a multiple of 3"
unfoldable pub ragged : List ℕ → Bool
ragged bytes =
    not (eqb (length_of bytes 0 % 2) 0)
    || not (eqb (length_of bytes 1 % 2) 0)
    || not (eqb (length_of bytes 3 % need_bytes) 0)

-- 5, "M, entry or a section outside its limit"
unfoldable pub outsize : List ℕ → Bool
outsize bytes =
    eqb (byte_at bytes 1) 0
    || ltb module_limit (byte_at bytes 1)
    || leb (byte_at bytes 1) (byte_at bytes 2)
    || ltb (2 * item_limit) (length_of bytes 0)
    || ltb (2 * import_limit) (length_of bytes 1)
    || ltb circle_bytes_limit (length_of bytes 2)
    || ltb (need_bytes * need_limit) (length_of bytes 3)

-- 6, "module not below M, or kind above 5"
unfoldable pub bad_item : ℕ → Item → Bool
bad_item modules i = leb modules i.in_module || ltb 5 i.kind

-- 7, "an end not below M, or equal ends"
unfoldable pub bad_import : ℕ → Import → Bool
bad_import modules i = leb modules i.importer || leb modules i.imported || eqb i.importer i.imported

-- 8, "a list passes the section's end, or a member not below M": of what stands where a list still lacks `left` members
unfoldable pub bad_circles : ℕ → ℕ → List ℕ → Bool
bad_circles modules zero [] = false
bad_circles modules zero (n ∷ rest) = bad_circles modules n rest
bad_circles modules (suc left) [] = true
bad_circles modules (suc left) (m ∷ rest) = leb modules m || bad_circles modules left rest

-- 9, "an end not an item, equal ends, or weight above 1"
unfoldable pub bad_need : ℕ → Need → Bool
bad_need items n = leb items n.dependant || leb items n.dependency || eqb n.dependant n.dependency || ltb 1 n.weight

-- What the bytes say where none of the nine turns them down.
unfoldable pub project_of : List ℕ → Project
project_of bytes =
    record {
      modules = byte_at bytes 1;
      entry = byte_at bytes 2;
      items = pair_rows item_row (section bytes 0);
      imports = pair_rows import_row (section bytes 1);
      circles = circle_lists (section bytes 2);
      needs = need_rows (section bytes 3);
    }

-- "Checked in the table's order"
unfoldable pub read : List ℕ → Reading
read bytes =
    let p = project_of bytes in
    cond (stub bytes) (refused 1)
    (cond (foreign bytes) (refused 2)
    (cond (misplaced bytes) (refused 3)
    (cond (ragged bytes) (refused 4)
    (cond (outsize bytes) (refused 5)
    (cond (any (bad_item p.modules) p.items) (refused 6)
    (cond (any (bad_import p.modules) p.imports) (refused 7)
    (cond (bad_circles p.modules 0 (section bytes 2)) (refused 8)
    (cond (any (bad_need (length p.items)) p.needs) (refused 9)
    (accepted p)))))))))
