-- The key of a project in a slice. Assumes nothing.
use Rattle.std.specs.Prelude.{ℕ, ◌+◌, ◌*◌, true, false, ◌≡◌, List, ◌∷◌, Result, Ok, Err, ltb, length}
use Rattle.std.specs.List.{flat_map}
use Rattle.rules.specs.Keys.{blank}
use Rattle.rules.specs.Project.{item_limit}
use Rattle.rules.specs.Calls.{Answer, overwrite}
use Rattle.sort.specs.declared.Numbers.{Numbers}
use Rattle.keys.specs.declared.TooShort.{TooShort}

-- No key is longer: `ok`, four numbers of at most ten digits, each behind a blank, and LF; then rows, of three digits and a blank each, and LF.
abbrev pub key_text_limit : ℕ
key_text_limit = 2 + 4 * 11 + 1 + item_limit * 4 + 1

-- The answer of an order call, by the numbers returned and the rows written.
abbrev pub answer_of : Numbers → List ℕ → Answer
answer_of r rows =
    record {
      number = r.answer;
      kept = r.kept;
      groups = r.groups;
      module_visits = r.module_visits;
      item_visits = r.item_visits;
      written = rows;
    }

-- Numbers, each behind a blank, by what is written of one.
abbrev pub behind_by : {N : Type 0} → (N → List ℕ) → List N → List ℕ
behind_by text = flat_map (λ n. blank ∷ text n)

-- A text has been rendered into a slice: it stands in front, and bytes beyond stay; where the slice is too short for it, all stay.
unfoldable pub rendered : List ℕ → List ℕ → Result ℕ TooShort
rendered text out =
    elim (ltb (length out) (length text)) [
      | true ↦ Err (record { length = length text })
      | false ↦ Ok (length text)
    ]

unfoldable pub rendered_bytes : List ℕ → List ℕ → List ℕ
rendered_bytes text out = elim (ltb (length out) (length text)) [ true ↦ out | false ↦ overwrite text out ]

pub record Renders (text before after : List ℕ) (r : Result ℕ TooShort) : Type 0 where
  pub answer : r ≡ rendered text before
  pub bytes : after ≡ rendered_bytes text before
