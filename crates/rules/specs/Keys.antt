-- 'Sheets and their keys', the program: from the bytes on its standard input to the bytes that it prints. Assumes nothing.
use Rattle.std.specs.Prelude.{ℕ, zero, suc, ◌+◌, ◌/◌, ◌%◌, true, false, eqb, ltb, take}
use mathlib.Core.List.{List, [], ◌∷◌, ◌++◌, flat_map}
use Rattle.rules.specs.Project.{item_limit}
use Rattle.rules.specs.Calls.{Answer, order_call}

-- The characters, in ASCII.
abbrev pub blank : ℕ
blank = 32

-- "Lines end in LF."
abbrev pub line_end : ℕ
line_end = 10

-- `ok` and `no`
abbrev pub ok_word : List ℕ
ok_word = 111 ∷ 107 ∷ []

abbrev pub no_word : List ℕ
no_word = 110 ∷ 111 ∷ []

-- the digit of a number below 10
abbrev pub digit : ℕ → ℕ
digit n = 48 + n

-- A number in decimal digits, the highest first, without leading zeros; 0 is `0`. `depth` is the most digits that are written.
unfoldable pub digits_within : ℕ → ℕ → List ℕ
digits_within zero n = []
digits_within (suc depth) n =
    elim (ltb n 10) [
      | true ↦ digit n ∷ []
      | false ↦ digits_within depth (n / 10) ++ (digit (n % 10) ∷ [])
    ]

-- n + 1 is depth enough for n.
unfoldable pub decimal : ℕ → List ℕ
decimal n = digits_within (suc n) n

-- "all separated by one blank": numbers behind something else, and numbers that start a line
unfoldable pub behind : List ℕ → List ℕ
behind = flat_map (λ n. blank ∷ decimal n)

unfoldable pub separated : List ℕ → List ℕ
separated [] = []
separated (n ∷ more) = decimal n ++ behind more

-- "prints `ok`, kept, groups, module visits, item visits, then a second line with the order (empty if nothing is kept)"
unfoldable pub ok_text : Answer → List ℕ
ok_text a =
    (ok_word ++ (behind (a.kept ∷ a.groups ∷ a.module_visits ∷ a.item_visits ∷ []) ++ (line_end ∷ [])))
    ++ (separated a.written ++ (line_end ∷ []))

-- "or `no` and the number"
unfoldable pub no_text : ℕ → List ℕ
no_text number = no_word ++ (behind (number ∷ []) ++ (line_end ∷ []))

unfoldable pub key_of : Answer → List ℕ
key_of a = elim (eqb a.number 0) [ true ↦ ok_text a | false ↦ no_text a.number ]

-- Document 02, item 13: "The printed key program relied on 100,000 and now passes that number itself"
abbrev pub key_allowance : ℕ
key_allowance = 100000

-- The key of a project. The reply has a byte for every item that a project can have.
unfoldable pub key_text : List ℕ → List ℕ
key_text bytes = key_of (order_call bytes item_limit key_allowance)

-- "A program reads a project from standard input (at most 8,229 bytes of it)"
abbrev pub key_input_limit : ℕ
key_input_limit = 8229

unfoldable pub printed : List ℕ → List ℕ
printed input = key_text (take key_input_limit input)
