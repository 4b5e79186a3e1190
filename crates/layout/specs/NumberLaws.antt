-- Laws of the numbers of a group's rows. Assumes nothing.
use Rattle.std.specs.Prelude.{ℕ, zero, suc, ◌+◌, ◌≤◌, ◌<◌, ◌≡◌, refl, Some, None, List, [], ◌∷◌, length, get_or, take, drop, set}
use Rattle.std.proofs.Common.{arith, add-one, sym, ap, subst, ◌∙◌, length-take, length-set, drop_of_length-le, length-take-le, drop-cons, get_or-take, get_or-set_same, get_or-set_other}
use mathlib.Core.List.Memᴰ
use Rattle.rules.specs.Project.{Project, item_limit}
use Rattle.rules.specs.Items.{number_of, numbering}
use Rattle.laws.specs.Lists.{◌∈◌, ∈-self, Once, none, next, true-elem, false-elem}
use Rattle.laws.specs.Orders.{get_or-∈}
use Rattle.laws.specs.Counting.{Below}
use Rattle.laws.proofs.Splits.{kept_rows-∈, given_rows-∈, numbering-∈, once-numbering, get_or-number_of, number_of-get_or}
use Rattle.project.specs.declared.NodeId.{NodeId}
use Rattle.split.specs.declared.Split.{Split}
use Rattle.split.specs.declared.rows.ItemRows.{ItemRows}
use Rattle.split.specs.Splits.{Splits}
use Rattle.layout.specs.Numbers.{note_from, NumberedAs, is-in, is-out, Noted, Numberable}

-- Noting one row after the other.
pub noted_more : (rows : List ℕ) (n x : ℕ) (numbers : List ℕ) → x < n → n ≤ length rows
    → note_from x (drop x (take n rows)) numbers ≡ note_from (x + 1) (drop (x + 1) (take n rows)) (set numbers (get_or rows x 0) x)
unfolding note_from
noted_more rows n x numbers h g =
    let size : length (take n rows) ≡ n = simp length-take (omega arith) in
    rw (drop-cons (take n rows) x 0 (omega arith), get_or-take n rows x 0 h, add-one)

pub noted-all : (rows : List ℕ) (n x : ℕ) (numbers : List ℕ) → n ≤ x → note_from x (drop x (take n rows)) numbers ≡ numbers
unfolding note_from
noted-all rows n x numbers h =
    let most : length (take n rows) ≤ x = omega (arith, length-take n rows) in
    rw (drop_of_length-le (take n rows) most)

-- What stands at a row then.
noted_other : (k : ℕ) (rows numbers : List ℕ) (row : ℕ) → (row ∈ rows → ⊥) → get_or (note_from k rows numbers) row 0 ≡ get_or numbers row 0
unfolding note_from
noted_other k [] numbers row h = refl
noted_other k (r ∷ rows) numbers row h =
    noted_other (suc k) rows (set numbers r k) row (λ m. h (Memᴰ.tail m))
    ∙ get_or-set_other numbers r row k 0 (λ e. h (Memᴰ.cast e ∈-self))

noted-at : (k : ℕ) {rows : List ℕ} (numbers : List ℕ) → Once rows → Below (length numbers) rows → (x : ℕ) → x < length rows
    → get_or (note_from k rows numbers) (get_or rows x 0) 0 ≡ k + x
unfolding note_from
noted-at k numbers none b x h = absurd (omega arith)
noted-at k numbers (next {x = r} {l = rows} n o) b zero h =
    noted_other (suc k) rows (set numbers r k) r n ∙ get_or-set_same numbers r k 0 (b r ∈-self) ∙ omega arith
noted-at k numbers (next {x = r} {l = rows} n o) b (suc x) h =
    noted-at (suc k) (set numbers r k) o (λ y m. simp length-set (b y (Memᴰ.tail m))) x (omega arith) ∙ omega arith

-- The rows of modules' items are numbers of item rows, each once.
rows-below : (p : Project) (modules : List ℕ) → Below (length p.items) (numbering p modules)
rows-below p modules row m = (kept_rows-∈ p (given_rows-∈ p modules (numbering-∈ p modules m)).0).item

-- So once they are noted they are found by row.
module _ {p : Project} {modules : List ℕ} {items : ItemRows} {s : Split} (h : Numberable p modules items) (d : Splits p modules s) where
  size : length (take s.count s.rows) ≡ s.count
  size = length-take-le s.count s.rows (omega (arith, s.sizes, s.counts))

  pub row_below : (x : ℕ) → x < s.count → get_or s.rows x 0 < item_limit
  row_below x g =
      let e : get_or (numbering p modules) x 0 ≡ get_or s.rows x 0 =
      ap (λ (l : List ℕ). get_or l x 0) (sym d.numbered) ∙ get_or-take s.count s.rows x 0 g in
      let below = rows-below p modules (get_or (numbering p modules) x 0) (get_or-∈ (numbering p modules) x 0 (omega (arith, d.count-is))) in
      omega (arith, below, h.accepted.items-most)

  pub numbers-noted : (numbers : List ℕ) {numbers' : List ℕ} → length numbers ≡ item_limit → numbers' ≡ note_from 0 (take s.count s.rows) numbers → Noted s numbers'
  numbers-noted numbers full e =
      record {
        once = once;
        noted = λ x g. rw (e, ← get_or-take s.count s.rows x 0 g) (noted-at 0 numbers once below x (omega (arith, size)) ∙ omega arith);
      }
    where
      once : Once (take s.count s.rows)
      once = rw d.numbered (once-numbering p h.giving.once)

      below : Below (length numbers) (take s.count s.rows)
      below row m =
          let b = rows-below p modules row (subst (λ (l : List ℕ). row ∈ l) d.numbered m) in
          omega (arith, b, h.accepted.items-most, full)

-- The number of a row by what is noted.
module _ {s : Split} {numbers : List ℕ} (h : Noted s numbers) (row : ℕ) where
  length-rows : length (take s.count s.rows) ≡ s.count
  length-rows = length-take-le s.count s.rows (omega (arith, s.sizes, s.counts))

  pub found : (x : NodeId) → x.0 < s.count → get_or s.rows x.0 0 ≡ row → NumberedAs (take s.count s.rows) row (Some x)
  found x g e =
      let at_x : get_or (take s.count s.rows) x.0 0 ≡ row = get_or-take s.count s.rows x.0 0 g ∙ e in
      let within : x.0 < length (take s.count s.rows) = omega (arith, length-rows) in
      let there : row ∈ take s.count s.rows = Memᴰ.cast (sym at_x) (get_or-∈ (take s.count s.rows) x.0 0 within) in
      is-in (true-elem there) (ap (number_of (take s.count s.rows)) (sym at_x) ∙ number_of-get_or h.once x.0 within) within

  pub not_found : (get_or numbers row 0 < s.count → get_or s.rows (get_or numbers row 0) 0 ≡ row → ⊥) → NumberedAs (take s.count s.rows) row None
  not_found f =
      is-out
      (false-elem (take s.count s.rows) (λ m.
      let q = get_or-number_of (take s.count s.rows) m in
      let x : ℕ = number_of (take s.count s.rows) row in
      let g : x < s.count = omega (arith, length-rows, q.0) in
      let e : get_or s.rows x 0 ≡ row = sym (get_or-take s.count s.rows x 0 g) ∙ q.1 in
      let n : get_or numbers row 0 ≡ x = ap (λ (y : ℕ). get_or numbers y 0) (sym e) ∙ h.noted x g in
      f (omega (arith, n)) (rw n e)))
