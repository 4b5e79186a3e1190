-- 'Sheets and their keys': what the program prints for some inputs, as theorems about the definitions, all proved by computation. The key of
-- Unlisted is in SheetsOnTheLists. Assumes nothing.
use Rattle.std.specs.Prelude.{ℕ, ◌≡◌, refl, List, [], ◌∷◌, take, replicate}
use Rattle.rules.specs.Calls.{allowed, order_call}
use Rattle.rules.specs.Keys.{digits_within, decimal, behind, separated, ok_text, no_text, key_of, key_allowance, key_text, printed}
use Rattle.rules.specs.SheetWords.{sections, project_bytes, order}

-- What the program prints for an input.
prints : List ℕ → List ℕ
unfolding order digits_within decimal behind separated ok_text no_text key_of key_text printed
prints input = printed input

-- One: "Prints `ok 1 1 2 0`, then `0`. With 35 bytes: 1."
abbrev one_bytes : List ℕ
one_bytes = project_bytes 1 ((0, 0) ∷ []) [] [] []

one : prints one_bytes ≡ 111 ∷ 107 ∷ 32 ∷ 49 ∷ 32 ∷ 49 ∷ 32 ∷ 50 ∷ 32 ∷ 48 ∷ 10 ∷ 48 ∷ 10 ∷ []
unfolding prints
one = refl

one-35 : prints (take 35 one_bytes) ≡ 110 ∷ 111 ∷ 32 ∷ 49 ∷ 10 ∷ []
unfolding prints
one-35 = refl

-- Nothing is kept: the row of One with kind 5. `ok 0 1 2 0`, then an empty line.
none_kept : prints (project_bytes 1 ((0, 5) ∷ []) [] [] []) ≡ 111 ∷ 107 ∷ 32 ∷ 48 ∷ 32 ∷ 49 ∷ 32 ∷ 50 ∷ 32 ∷ 48 ∷ 10 ∷ 10 ∷ []
unfolding prints
none_kept = refl

-- Numbers of several digits: eleven modules, and eleven items of module 0, the first of kind 5. `ok 10 11 12 0`, then `1 2 3 4 5 6 7 8 9 10`.
eleven : prints (project_bytes 11 ((0, 5) ∷ replicate 10 (0, 0)) [] [] [])
    ≡ 111 ∷ 107 ∷ 32 ∷ 49 ∷ 48 ∷ 32 ∷ 49 ∷ 49 ∷ 32 ∷ 49 ∷ 50 ∷ 32 ∷ 48 ∷ 10
    ∷ 49 ∷ 32 ∷ 50 ∷ 32 ∷ 51 ∷ 32 ∷ 52 ∷ 32 ∷ 53 ∷ 32 ∷ 54 ∷ 32 ∷ 55 ∷ 32 ∷ 56 ∷ 32 ∷ 57 ∷ 32 ∷ 49 ∷ 48 ∷ 10 ∷ []
unfolding prints
eleven = refl

-- Document 02, item 13: "The printed key program relied on 100,000 and now passes that number itself, so its keys are as before."
key-allowance : allowed key_allowance ≡ 100000
unfolding allowed
key-allowance = refl

key-passes : (bytes : List ℕ) → key_text bytes ≡ key_of (order_call bytes 256 100000)
unfolding key_text
key-passes bytes = refl

decimal-0 : decimal 0 ≡ 48 ∷ []
unfolding prints
decimal-0 = refl

decimal-100 : decimal 100 ≡ 49 ∷ 48 ∷ 48 ∷ []
unfolding prints
decimal-100 = refl

decimal-largest : decimal 4294967295 ≡ 52 ∷ 50 ∷ 57 ∷ 52 ∷ 57 ∷ 54 ∷ 55 ∷ 50 ∷ 57 ∷ 53 ∷ []
unfolding prints
decimal-largest = refl

-- 256 items, all of kind 5: the reply is long enough for them. `ok 0 1 2 0`, then an empty line.
most-items : prints (project_bytes 1 (replicate 256 (0, 5)) [] [] []) ≡ 111 ∷ 107 ∷ 32 ∷ 48 ∷ 32 ∷ 49 ∷ 32 ∷ 50 ∷ 32 ∷ 48 ∷ 10 ∷ 10 ∷ []
unfolding prints
most-items = refl

-- An input of 8,229 bytes is read whole: its 2,731 needs are too many, 5. One of 8,230 bytes is cut, and its needs don't end it: 3.
abbrev long_bytes : ℕ → List ℕ
long_bytes needs = sections 1 [] [] [] (replicate needs 0)

whole : prints (long_bytes 8193) ≡ 110 ∷ 111 ∷ 32 ∷ 53 ∷ 10 ∷ []
unfolding prints
whole = refl

cut : prints (long_bytes 8194) ≡ 110 ∷ 111 ∷ 32 ∷ 51 ∷ 10 ∷ []
unfolding prints
cut = refl
