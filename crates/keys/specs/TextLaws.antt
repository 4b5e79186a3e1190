-- Laws of the texts that a key is made of. Assumes nothing.
use Rattle.std.specs.Prelude.{ℕ, zero, suc, ◌+◌, ◌^◌, ◌<◌, ◌≡◌, refl, List, [], ◌∷◌, ◌++◌, length, get_or, take}
use Rattle.std.specs.Fmt.{decimal as written}
use Rattle.std.proofs.Common.{arith, lit<, sym, ap, ◌∙◌, subst, length-append, eq-eqb, ne_eqb}
use Rattle.std.proofs.lemmas.List.{take_more, flat_map_more}
use mathlib.Core.List.{flat_map as flatten_by, append_assoc, append-nil}
use Rattle.rules.specs.Calls.{Answer}
use Rattle.rules.specs.Keys.{blank, line_end, ok_word, no_word, decimal, behind, separated, ok_text, no_text, key_of}
use Rattle.keys.specs.Texts.{behind_by}
use Rattle.keys.specs.DecimalLaws.{decimal-written}

-- The texts of the first i numbers, and one more.
pub behind-more : {N : Type 0} (text : N → List ℕ) (front : List ℕ) (l : List N) (i : ℕ) {n : N} → i < length l → n ≡ get_or l i n
    → {now one two : List ℕ} → now ≡ front ++ behind_by text (take i l) → one ≡ now ++ (blank ∷ []) → two ≡ one ++ text n
    → two ≡ front ++ behind_by text (take (i + 1) l)
behind-more text front l i {n} h same d e f =
    let more : take (i + 1) l ≡ take i l ++ (n ∷ []) = take_more l i n h ∙ ap (λ m. take i l ++ (m ∷ [])) (sym same) in
    rw (f, e, d, more)
    (append_assoc (front ++ behind_by text (take i l)) (blank ∷ []) (text n) ∙ flat_map_more (λ m. blank ∷ text m) front (take i l) n)

-- Numbers that a machine can hold.
abbrev pub Fits64 : List ℕ → Type 0
Fits64 l = (i : ℕ) → get_or l i 0 < 2 ^ 64

fit-none : Fits64 []
fit-none zero = lit< tt
fit-none (suc i) = lit< tt

fit-cons : {n : ℕ} (l : List ℕ) → n < 2 ^ 64 → Fits64 l → Fits64 (n ∷ l)
fit-cons l h fits zero = h
fit-cons l h fits (suc i) = fits i

pub behind-written : (l : List ℕ) → Fits64 l → behind_by written l ≡ behind l
unfolding behind flatten_by
behind-written [] h = refl
behind-written (n ∷ l) h = rw (decimal-written n (h 0), behind-written l (λ i. h (suc i))) refl

-- Numbers behind blanks.
behind-append : (a b : List ℕ) → behind (a ++ b) ≡ behind a ++ behind b
unfolding behind flatten_by
behind-append [] b = refl
behind-append (n ∷ a) b = ap (λ (l : List ℕ). blank ∷ l) (rw (behind-append a b) (sym (append_assoc (decimal n) (behind a) (behind b))))

behind-one : (n : ℕ) → behind (n ∷ []) ≡ blank ∷ decimal n
unfolding behind flatten_by
behind-one n = append-nil (blank ∷ decimal n)

pub behind-length : (n : ℕ) (l : List ℕ) → length (behind (n ∷ l)) ≡ length (decimal n) + length (behind l) + 1
behind-length n l = ap length (behind-append (n ∷ []) l) ∙ rw (behind-one n) (omega (arith, length-append (blank ∷ decimal n) (behind l)))

pub behind-four-length : (a b c d : ℕ)
    → length (behind (a ∷ b ∷ c ∷ d ∷ [])) ≡ length (decimal a) + length (decimal b) + length (decimal c) + length (decimal d) + 4
behind-four-length a b c d =
    omega (arith, behind-length a (b ∷ c ∷ d ∷ []), behind-length b (c ∷ d ∷ []), behind-length c (d ∷ []), ap length (behind-one d))

-- The lines of a key, put behind one another.
pub separated-put : (rows : List ℕ) → Fits64 rows → {n : ℕ} {l : List ℕ} → rows ≡ n ∷ l → (front : List ℕ) {one two : List ℕ} → one ≡ front ++ written n
    → two ≡ one ++ behind_by written l → two ≡ front ++ separated rows
unfolding separated
separated-put rows h {n} {l} whole front e f =
    let fits : Fits64 (n ∷ l) = subst Fits64 whole h in
    rw (f, e, whole, decimal-written n (fits 0), behind-written l (λ i. fits (suc i))) (append_assoc front (decimal n) (behind l))

pub separated-nothing : (rows : List ℕ) → length rows ≡ 0 → (front : List ℕ) → front ≡ front ++ separated rows
unfolding separated
separated-nothing [] e front = sym (append-nil front)
separated-nothing (n ∷ rows) e front = absurd (omega arith)

pub no_length : (n : ℕ) → length (no_text n) ≡ length (decimal n) + 4
unfolding no_text
no_length n = omega (arith, length-append (behind (n ∷ [])) (line_end ∷ []), ap length (behind-one n))

pub no-put : (n : ℕ) → n < 2 ^ 64 → {none one two three : List ℕ} → none ≡ [] → one ≡ none ++ no_word → two ≡ one ++ behind_by written (n ∷ [])
    → three ≡ two ++ (line_end ∷ []) → three ≡ no_text n
unfolding no_text
no-put n h {one = one} {two = two} d e f g =
    let all : two ≡ one ++ behind (n ∷ []) = f ∙ ap (λ l. one ++ l) (behind-written (n ∷ []) (fit-cons [] h fit-none)) in
    rw (g, all, e, d) (append_assoc no_word (behind (n ∷ [])) (line_end ∷ []))

module _ (a : Answer) where
  abbrev pub counts : List ℕ
  counts = a.kept ∷ a.groups ∷ a.module_visits ∷ a.item_visits ∷ []

  pub ok-length : length (ok_text a) ≡ length (behind counts) + length (separated a.written) + 4
  unfolding ok_text
  ok-length =
      omega (
        arith,
        length-append (ok_word ++ (behind counts ++ (line_end ∷ []))) (separated a.written ++ (line_end ∷ [])),
        length-append (behind counts) (line_end ∷ []),
        length-append (separated a.written) (line_end ∷ []),
      )

  pub ok-put : a.kept < 2 ^ 64 → a.groups < 2 ^ 64 → a.module_visits < 2 ^ 64 → a.item_visits < 2 ^ 64 → {none one two three four five : List ℕ}
      → none ≡ [] → one ≡ none ++ ok_word → two ≡ one ++ behind_by written counts → three ≡ two ++ (line_end ∷ [])
      → four ≡ three ++ separated a.written → five ≡ four ++ (line_end ∷ []) → five ≡ ok_text a
  unfolding ok_text
  ok-put k g m v {one = one} {two = two} c d e f h i =
      let fits =
      fit-cons (a.groups ∷ a.module_visits ∷ a.item_visits ∷ []) k
      (fit-cons (a.module_visits ∷ a.item_visits ∷ []) g (fit-cons (a.item_visits ∷ []) m (fit-cons [] v fit-none)))
      in
      let all : two ≡ one ++ behind counts = e ∙ ap (λ l. one ++ l) (behind-written counts fits) in
      rw (i, h, f, all, d, c)
      (ap (λ l. (l ++ separated a.written) ++ (line_end ∷ [])) (append_assoc ok_word (behind counts) (line_end ∷ []))
      ∙ append_assoc (ok_word ++ (behind counts ++ (line_end ∷ []))) (separated a.written) (line_end ∷ []))

-- The two kinds of a key.
pub key-ok : (a : Answer) → a.number ≡ 0 → key_of a ≡ ok_text a
unfolding key_of
key-ok a e = rw (eq-eqb a.number 0 e, key_of)

pub key-no : (a : Answer) → (a.number ≡ 0 → ⊥) → key_of a ≡ no_text a.number
unfolding key_of
key-no a h = rw (ne_eqb a.number 0 h, key_of)
