-- Laws of pairs on arrays: of adding one, and of the pairs with one first number. Assumes nothing.
use Rattle.std.specs.Prelude.{ℕ, suc, ◌+◌, ◌*◌, ◌≤◌, ◌<◌, ◌≡◌, Bool, ◌||◌, length, take, set}
use Rattle.std.proofs.Common.{arith, add-zero, zero-add, add-one, ◌∙◌, take-suc-set, get_or-take, eqb-true, eq-eqb, ne_eqb}
use Rattle.std.proofs.Math.Path.{refl, sym, ap, ap₂}
use Rattle.std.proofs.Math.Bool.{true, false, or-true}
use mathlib.Core.List.{List, [], ◌∷◌, ◌++◌, map, zip_with, append-nil}
use Rattle.std.proofs.Math.Dec.{eqb}
use Rattle.std.proofs.Math.ListN.{get_or, length-append}
use Rattle.std.proofs.Math.Seq.{length-take-le}
use Rattle.std.proofs.lemmas.Bool.{eqb-false}
use Rattle.rules.specs.Lists.{cons_if, keep, any, positions_from, elem, append_new, different}
use Rattle.laws.specs.Lists.{both, Tested, holds, fails, tested, append_new-old, append_new-new}
use Rattle.lists.specs.Arrays.{Zeros}
use Rattle.lists.specs.Bits.{bit_at, Inserted}
use Rattle.lists.specs.ArrayLaws.{after-set}
use Rattle.lists.specs.BitLaws.{row-held, row-empty, cell-eqb}
use Rattle.lists.specs.Pairs.{Pair, pair, same_pair, holds_pair, seconds_of, add_pair, add_pairs, different_pairs, pairs_of, Seen, Room, store_unless, Added, targets, Linked}

-- The first n pairs of two arrays.
zip_length : (xs ys : List ℕ) → length xs ≡ length ys → length (zip_with pair xs ys) ≡ length xs
unfolding zip_with
zip_length [] ys e = refl
zip_length (x ∷ xs) [] e = absurd (omega arith)
zip_length (x ∷ xs) (y ∷ ys) e = ap suc (zip_length xs ys (omega arith))

zip-snoc : (xs ys : List ℕ) (a b : ℕ) → length xs ≡ length ys → zip_with pair (xs ++ (a ∷ [])) (ys ++ (b ∷ [])) ≡ zip_with pair xs ys ++ (pair a b ∷ [])
unfolding zip_with
zip-snoc [] [] a b e = refl
zip-snoc [] (y ∷ ys) a b e = absurd (omega arith)
zip-snoc (x ∷ xs) [] a b e = absurd (omega arith)
zip-snoc (x ∷ xs) (y ∷ ys) a b e = ap (λ (l : List Pair). pair x y ∷ l) (zip-snoc xs ys a b (omega arith))

module _ (from to : List ℕ) (n : ℕ) (from-size : n ≤ length from) (to-size : n ≤ length to) where
  same_length : length (take n from) ≡ length (take n to)
  same_length = length-take-le n from from-size ∙ sym (length-take-le n to to-size)

  pub length_pairs : length (pairs_of from to n) ≡ n
  unfolding pairs_of
  length_pairs = zip_length (take n from) (take n to) same_length ∙ length-take-le n from from-size

pub pairs-snoc : (from to : List ℕ) (n a b : ℕ) → n < length from → n < length to
    → pairs_of (set from n a) (set to n b) (n + 1) ≡ pairs_of from to n ++ (pair a b ∷ [])
unfolding pairs_of
pairs-snoc from to n a b h g =
    rw (add-one, take-suc-set from n a h, take-suc-set to n b g) (zip-snoc (take n from) (take n to) a b (same_length from to n (omega arith) (omega arith)))

-- Adding a pair.
pub add_pair-old : (pairs : List Pair) (p : Pair) → holds_pair p pairs ≡ true → add_pair pairs p ≡ pairs
unfolding add_pair
add_pair-old pairs p e = rw (e, add_pair)

pub add_pair-new : (pairs : List Pair) (p : Pair) → holds_pair p pairs ≡ false → add_pair pairs p ≡ pairs ++ (p ∷ [])
unfolding add_pair
add_pair-new pairs p e = rw (e, add_pair)

pub length-add_pair : (pairs : List Pair) (p : Pair) → length (add_pair pairs p) ≤ suc (length pairs)
length-add_pair pairs p = go (tested (holds_pair p pairs))
  where
    go : Tested (holds_pair p pairs) → length (add_pair pairs p) ≤ suc (length pairs)
    go (holds e) = rw (add_pair-old pairs p e) (omega arith)
    go (fails e) = rw (add_pair-new pairs p e) (omega (arith, length-append pairs (p ∷ [])))

adds-most : (pairs rows : List Pair) → length (add_pairs pairs rows) ≤ length pairs + length rows
unfolding add_pairs
adds-most pairs [] = omega arith
adds-most pairs (p ∷ rows) = omega (arith, adds-most (add_pair pairs p) rows, length-add_pair pairs p)

-- There are at most as many different pairs as pairs.
pub different-most : (rows : List Pair) → length (different_pairs rows) ≤ length rows
unfolding different_pairs
different-most rows = omega (arith, adds-most [] rows)

or_swap : (a b c : Bool) → (a || (b || c)) ≡ (b || (a || c))
or_swap true b c = sym (or-true b)
or_swap false b c = refl

holds-snoc : (p q : Pair) (pairs : List Pair) → holds_pair p (pairs ++ (q ∷ [])) ≡ (same_pair p q || holds_pair p pairs)
unfolding holds_pair any
holds-snoc p q [] = refl
holds-snoc p q (r ∷ pairs) = ap (λ (t : Bool). same_pair p r || t) (holds-snoc p q pairs) ∙ or_swap (same_pair p r) (same_pair p q) (any (same_pair p) pairs)

module _ {width a b : ℕ} {seen from to : List ℕ} {n : ℕ} (room : Room width a b seen from to n) where
  before : length (pairs_of from to n) ≡ n
  before = length_pairs from to n (omega (arith, room.from-room)) (omega (arith, room.to_room))

  pub add-old : bit_at seen (a * width + b) ≡ true → Added width a b seen from to n seen from to n
  unfolding store_unless
  add-old e =
      let held : holds_pair (pair a b) (pairs_of from to n) ≡ true = sym room.seen-pair ∙ e in
      let same : add_pair (pairs_of from to n) (pair a b) ≡ pairs_of from to n = add_pair-old (pairs_of from to n) (pair a b) held in
      record { pairs = sym same; count = rw same (sym before); seen-bits = λ k. row-held seen (a * width + b) k e; from-whole = rw held; to_whole = rw held }

  pub add-new : bit_at seen (a * width + b) ≡ false → (seen' : List ℕ) → Inserted (a * width + b) seen seen'
      → Added width a b seen from to n seen' (set from n a) (set to n b) (n + 1)
  unfolding store_unless
  add-new e seen' i =
      let held : holds_pair (pair a b) (pairs_of from to n) ≡ false = sym room.seen-pair ∙ e in
      let more : add_pair (pairs_of from to n) (pair a b) ≡ pairs_of from to n ++ (pair a b ∷ []) = add_pair-new (pairs_of from to n) (pair a b) held in
      record {
        pairs = pairs-snoc from to n a b room.from-room room.to_room ∙ sym more;
        count = rw more (omega (arith, before, length-append (pairs_of from to n) (pair a b ∷ [])));
        seen-bits = i.bits;
        from-whole = rw held;
        to_whole = rw held;
      }

-- What is held after a pair was added; rows of bits that hold the pairs hold them again.
same-pair : (p q : Pair) → same_pair p q ≡ true → p ≡ q
unfolding same_pair
same-pair p q e =
    let r = both {a = eqb p.first q.first} e in
    ap₂ pair (eqb-true p.first q.first r.0) (eqb-true p.second q.second r.1)

holds-added : (p q : Pair) (pairs : List Pair) → holds_pair p (add_pair pairs q) ≡ (same_pair p q || holds_pair p pairs)
holds-added p q pairs = go (tested (holds_pair q pairs)) (tested (same_pair p q))
  where
    go : Tested (holds_pair q pairs) → Tested (same_pair p q) → holds_pair p (add_pair pairs q) ≡ (same_pair p q || holds_pair p pairs)
    go (fails e) t = ap (holds_pair p) (add_pair-new pairs q e) ∙ holds-snoc p q pairs
    go (holds e) (fails f) = rw (add_pair-old pairs q e, f)
    go (holds e) (holds f) = rw (add_pair-old pairs q e, f) (ap (λ (r : Pair). holds_pair r pairs) (same-pair p q f) ∙ e)

pub seen_none : {width : ℕ} {n rows : ℕ} {seen : List ℕ} → Zeros n seen → Seen rows width seen []
unfolding holds_pair any
seen_none {width} z a b h g = row-empty z (a * width + b)

pub seen-added : {rows width a b : ℕ} {seen from to : List ℕ} {n : ℕ} {seen' from' to' : List ℕ} {n' : ℕ} → b < width
    → Added width a b seen from to n seen' from' to' n' → Seen rows width seen (pairs_of from to n) → Seen rows width seen' (pairs_of from' to' n')
unfolding same_pair
seen-added {rows} {width} {a} {b} {from = from} {to = to} {n = n} below d s c e h g =
    d.seen-bits (c * width + e)
    ∙ ap₂ ◌||◌ (cell-eqb width c e a b g below) (s c e h g)
    ∙ sym (ap (holds_pair (pair c e)) d.pairs ∙ holds-added (pair c e) (pair a b) (pairs_of from to n))

-- A store of a number below a bound keeps an array's numbers below it.
pub store_below : (bound : ℕ) (test : Bool) (l : List ℕ) (n x : ℕ) → n < length l → x < bound → ((j : ℕ) → get_or l j 0 < bound)
    → (j : ℕ) → get_or (store_unless test l n x) j 0 < bound
unfolding store_unless
store_below bound true l n x within h below j = below j
store_below bound false l n x within h below j = after-set (λ y. y < bound) l n j x 0 within (λ e. h) (λ f. below j)

-- The pairs with one first number.
map-cons_if : {A B : Type 0} (f : A → B) (b : Bool) (x : A) (l : List A) → map f (cons_if b x l) ≡ cons_if b (f x) (map f l)
unfolding cons_if
map-cons_if f true x l = refl
map-cons_if f false x l = refl

cons_if-append : {A : Type 0} (b : Bool) (x : A) (l more : List A) → cons_if b x (l ++ more) ≡ cons_if b x l ++ more
unfolding cons_if
cons_if-append true x l more = refl
cons_if-append false x l more = refl

seconds-cons : (a : ℕ) (p : Pair) (pairs : List Pair) → seconds_of a (p ∷ pairs) ≡ cons_if (eqb p.first a) p.second (seconds_of a pairs)
unfolding seconds_of keep
seconds-cons a p pairs = map-cons_if (λ (q : Pair). q.second) (eqb p.first a) p (keep (λ (q : Pair). eqb q.first a) pairs)

seconds-snoc : (a : ℕ) (p : Pair) (pairs : List Pair) → seconds_of a (pairs ++ (p ∷ [])) ≡ seconds_of a pairs ++ cons_if (eqb p.first a) p.second []
unfolding seconds_of keep
seconds-snoc a p [] = seconds-cons a p []
seconds-snoc a p (q ∷ pairs) =
    rw (seconds-cons a q (pairs ++ (p ∷ [])), seconds-snoc a p pairs, seconds-cons a q pairs) (cons_if-append (eqb q.first a) q.second (seconds_of a pairs) (cons_if (eqb p.first a) p.second []))

holds-seconds : (p : Pair) (pairs : List Pair) → holds_pair p pairs ≡ elem p.second (seconds_of p.first pairs)
unfolding holds_pair any same_pair seconds_of keep elem cons_if
holds-seconds p [] = refl
holds-seconds p (q ∷ pairs) = rw (seconds-cons p.first q pairs) (go (tested (eqb q.first p.first)) (holds-seconds p pairs))
  where
    go : Tested (eqb q.first p.first) → holds_pair p pairs ≡ elem p.second (seconds_of p.first pairs)
        → (same_pair p q || holds_pair p pairs) ≡ elem p.second (cons_if (eqb q.first p.first) q.second (seconds_of p.first pairs))
    go (holds e) same = rw (e, eq-eqb p.first q.first (sym (eqb-true q.first p.first e)), same)
    go (fails e) same = rw (e, ne_eqb p.first q.first (λ h. eqb-false q.first p.first e (sym h)), same)

-- Adding pairs adds, for each first number, what is new among their second ones.
seconds-add : (a : ℕ) (pairs : List Pair) (p : Pair) (more : List ℕ)
    → append_new (seconds_of a (add_pair pairs p)) more ≡ append_new (seconds_of a pairs) (cons_if (eqb p.first a) p.second more)
unfolding cons_if
seconds-add a pairs p more = go (tested (eqb p.first a)) (tested (holds_pair p pairs))
  where
    among : eqb p.first a ≡ true → holds_pair p pairs ≡ elem p.second (seconds_of a pairs)
    among e = holds-seconds p pairs ∙ ap (λ (x : ℕ). elem p.second (seconds_of x pairs)) (eqb-true p.first a e)

    go : Tested (eqb p.first a) → Tested (holds_pair p pairs)
        → append_new (seconds_of a (add_pair pairs p)) more ≡ append_new (seconds_of a pairs) (cons_if (eqb p.first a) p.second more)
    go (fails e) (holds f) = rw (add_pair-old pairs p f, e)
    go (fails e) (fails f) = rw (add_pair-new pairs p f, seconds-snoc a p pairs, e, append-nil)
    go (holds e) (holds f) = rw (add_pair-old pairs p f, e) (sym (append_new-old (seconds_of a pairs) p.second more (sym (among e) ∙ f)))
    go (holds e) (fails f) =
        rw (add_pair-new pairs p f, seconds-snoc a p pairs, e) (sym (append_new-new (seconds_of a pairs) p.second more (sym (among e) ∙ f)))

seconds-add_pairs : (a : ℕ) (pairs rows : List Pair) → seconds_of a (add_pairs pairs rows) ≡ append_new (seconds_of a pairs) (seconds_of a rows)
unfolding add_pairs append_new seconds_of keep
seconds-add_pairs a pairs [] = refl
seconds-add_pairs a pairs (p ∷ rows) = rw (seconds-cons a p rows) (seconds-add_pairs a (add_pair pairs p) rows ∙ seconds-add a pairs p (seconds_of a rows))

-- The second numbers of the different pairs are the different second numbers, in rows of any kind that give pairs.
module _ {A : Type 0} (first second : A → ℕ) where
  seconds-rows : (a : ℕ) (rows : List A) → seconds_of a (map (λ r. pair (first r) (second r)) rows) ≡ map second (keep (λ r. eqb (first r) a) rows)
  unfolding seconds_of keep
  seconds-rows a [] = refl
  seconds-rows a (r ∷ rows) =
      seconds-cons a (pair (first r) (second r)) (map (λ s. pair (first s) (second s)) rows)
      ∙ ap (cons_if (eqb (first r) a) (second r)) (seconds-rows a rows)
      ∙ sym (map-cons_if second (eqb (first r) a) r (keep (λ s. eqb (first s) a) rows))

  pub different-seconds : (a : ℕ) (rows : List A)
      → seconds_of a (different_pairs (map (λ r. pair (first r) (second r)) rows)) ≡ different (map second (keep (λ r. eqb (first r) a) rows))
  unfolding different_pairs different seconds_of keep
  different-seconds a rows = seconds-add_pairs a [] (map (λ r. pair (first r) (second r)) rows) ∙ ap (append_new []) (seconds-rows a rows)

-- What stands at the places of the pairs with one first number.
module _ (a : ℕ) (to : List ℕ) where
  places-seconds : (k : ℕ) (xs ys : List ℕ) → length xs ≡ length ys → ((i : ℕ) → i < length ys → get_or to (k + i) 0 ≡ get_or ys i 0)
      → map (λ i. get_or to i 0) (positions_from k (λ x. eqb x a) xs) ≡ seconds_of a (zip_with pair xs ys)
  unfolding positions_from zip_with seconds_of keep
  places-seconds k [] [] e h = refl
  places-seconds k [] (y ∷ ys) e h = absurd (omega arith)
  places-seconds k (x ∷ xs) [] e h = absurd (omega arith)
  places-seconds k (x ∷ xs) (y ∷ ys) e h =
      let here : get_or to k 0 ≡ y = ap (λ (j : ℕ). get_or to j 0) (sym (add-zero k)) ∙ h 0 (omega arith) in
      let rest : map (λ i. get_or to i 0) (positions_from (suc k) (λ z. eqb z a) xs) ≡ seconds_of a (zip_with pair xs ys) =
      places-seconds (suc k) xs ys (omega arith) (λ i g. ap (λ (j : ℕ). get_or to j 0) (omega arith) ∙ h (suc i) (omega arith)) in
      map-cons_if (λ i. get_or to i 0) (eqb x a) k (positions_from (suc k) (λ z. eqb z a) xs)
      ∙ ap₂ (cons_if (eqb x a)) here rest
      ∙ sym (seconds-cons a (pair x y) (zip_with pair xs ys))

pub targets-seconds : (from to heads₀ next₀ heads next : List ℕ) (n : ℕ) → n ≤ length from → n ≤ length to → Linked 0 from n heads₀ next₀ heads next
    → (a : ℕ) → a < length heads → get_or heads₀ a 0 ≡ 0 → targets to next n (get_or heads a 0) ≡ seconds_of a (pairs_of from to n)
unfolding targets pairs_of
targets-seconds from to heads₀ next₀ heads next n h g l a below empty =
    rw (l.chains a below empty)
    (places-seconds a to 0 (take n from) (take n to) (same_length from to n h g)
    (λ i z. ap (λ (j : ℕ). get_or to j 0) (zero-add i) ∙ sym (get_or-take n to i 0 (omega (arith, length-take-le n to g)))))
