-- No key is longer than key_text_limit. Assumes nothing.
use Rattle.std.specs.Prelude.{ℕ, suc, ◌*◌, ◌≤◌, ◌<◌, eqb, length, get_or}
use Rattle.std.proofs.Common.{arith, length-append, eqb-true}
use mathlib.Core.List.{List, [], ◌∷◌, flat_map}
use Rattle.std.proofs.lemmas.Bool.{eqb-false}
use Rattle.rules.specs.Project.{item_limit}
use Rattle.rules.specs.Calls.{Answer}
use Rattle.laws.specs.Lists.{Tested, holds, fails, tested}
use Rattle.rules.specs.Keys.{decimal, behind, separated, ok_text, no_text, key_of}
use Rattle.keys.specs.Texts.{key_text_limit}
use Rattle.keys.specs.DecimalLaws.{decimal-most}
use Rattle.keys.specs.TextLaws.{behind-length, behind-four-length, no_length, ok-length, key-ok, key-no}

-- An answer in a machine's numbers: of 32 bits each, and rows of 8.
pub record Fitting (a : Answer) : Type 0 where
  pub number_fits : a.number < 4294967296
  pub kept-fits : a.kept < 4294967296
  pub groups-fit : a.groups < 4294967296
  pub module-visits-fit : a.module_visits < 4294967296
  pub item-visits-fit : a.item_visits < 4294967296
  pub rows_fit : length a.written ≤ item_limit
  pub row_fits : (i : ℕ) → get_or a.written i 0 < 256

number-most : (n : ℕ) → n < 4294967296 → length (decimal n) ≤ 10
number-most n h = decimal-most 9 n (omega arith)

row-most : (n : ℕ) → n < 256 → length (decimal n) ≤ 3
row-most n h = decimal-most 2 n (omega arith)

behind-most : (rows : List ℕ) → ((i : ℕ) → get_or rows i 0 < 256) → length (behind rows) ≤ 4 * length rows
unfolding behind flat_map
behind-most [] h = omega arith
behind-most (n ∷ rows) h = omega (arith, behind-length n rows, row-most n (h 0), behind-most rows (λ i. h (suc i)))

separated-most : (rows : List ℕ) → ((i : ℕ) → get_or rows i 0 < 256) → length (separated rows) ≤ 4 * length rows
unfolding separated
separated-most [] h = omega arith
separated-most (n ∷ rows) h =
    omega (arith, length-append (decimal n) (behind rows), row-most n (h 0), behind-most rows (λ i. h (suc i)))

module _ (a : Answer) (f : Fitting a) where
  pub no-most : length (no_text a.number) ≤ key_text_limit
  no-most = omega (arith, no_length a.number, number-most a.number f.number_fits)

  pub ok-most : length (ok_text a) ≤ key_text_limit
  ok-most =
      omega (
        arith,
        ok-length a,
        behind-four-length a.kept a.groups a.module_visits a.item_visits,
        number-most a.kept f.kept-fits,
        number-most a.groups f.groups-fit,
        number-most a.module_visits f.module-visits-fit,
        number-most a.item_visits f.item-visits-fit,
        separated-most a.written f.row_fits,
        f.rows_fit,
      )

  pub key-most : length (key_of a) ≤ key_text_limit
  key-most = go (tested (eqb a.number 0))
    where
      go : Tested (eqb a.number 0) → length (key_of a) ≤ key_text_limit
      go (holds e) = rw (key-ok a (eqb-true a.number 0 e)) ok-most
      go (fails e) = rw (key-no a (eqb-false a.number 0 e)) no-most
