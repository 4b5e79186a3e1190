-- Laws for the proof of the program. Assumes nothing.
use Rattle.std.specs.Prelude.{ℕ, ◌≤◌, ◌≡◌, refl, List, Result, Ok, IsOk, length, take, drop}
use Rattle.std.proofs.Common.{arith, sym, ap, ◌∙◌, take_at, length-append}
use Rattle.rules.specs.Calls.{overwrite}
use Rattle.rules.specs.Keys.{key_text, printed}
use Rattle.keys.specs.declared.TooShort.{TooShort}
use Rattle.keys.specs.Texts.{Renders}
use Rattle.keys.specs.AnswerLaws.{renders-long}
use Rattle.key.specs.Prints.{Prints}

-- A text rendered into a slice that is long enough for it.
module _ (read : List ℕ) {before after : List ℕ} {r : Result ℕ TooShort} (k : Renders (key_text read) before after r)
    (room : length (key_text read) ≤ length before) where
  pub never-short : IsOk r
  never-short = rw (renders-long (key_text read) k room).0 refl

  pub prints : {end : ℕ} → r ≡ Ok end → Prints read after end
  unfolding overwrite printed
  prints {end} e =
      let text = key_text read in
      let long = renders-long text k room in
      let size : end ≡ length text = cc long.0 in
      let front : take end after ≡ text = rw long.1 (take_at text (drop (length text) before) end (sym size)) in
      record {
        within = omega (arith, ap length long.1, length-append text (drop (length text) before));
        key = front;
        paper = λ input same. front ∙ ap key_text same;
      }
