-- Different pairs of numbers on two arrays, and the chain of those with one first number. Assumes nothing.
use Rattle.std.specs.Prelude.{ℕ, zero, suc, ◌+◌, ◌*◌, ◌≤◌, ◌<◌, ◌≡◌, Bool, true, false, ◌&&◌, ◌||◌, eqb, length, get_or, set, take, drop}
use mathlib.Core.List.{List, [], ◌∷◌, ◌++◌, map, zip_with}
use Rattle.rules.specs.Lists.{any, keep, positions_from}
use Rattle.lists.specs.Bits.{bit_at}

pub record Pair : Type 0 where
  pub first : ℕ
  pub second : ℕ

abbrev pub pair : ℕ → ℕ → Pair
pair a b = record { first = a; second = b }

unfoldable pub same_pair : Pair → Pair → Bool
same_pair p q = eqb p.first q.first && eqb p.second q.second

unfoldable pub holds_pair : Pair → List Pair → Bool
holds_pair p pairs = any (same_pair p) pairs

-- the second numbers of the pairs whose first is `a`
unfoldable pub seconds_of : ℕ → List Pair → List ℕ
seconds_of a pairs = map (λ (p : Pair). p.second) (keep (λ (p : Pair). eqb p.first a) pairs)

-- the different pairs of a list, in the order of their first places: each is put behind those before it, unless it is among them
unfoldable pub add_pair : List Pair → Pair → List Pair
add_pair pairs p = elim (holds_pair p pairs) [ true ↦ pairs | false ↦ pairs ++ (p ∷ []) ]

unfoldable pub add_pairs : List Pair → List Pair → List Pair
add_pairs pairs [] = pairs
add_pairs pairs (p ∷ more) = add_pairs (add_pair pairs p) more

unfoldable pub different_pairs : List Pair → List Pair
different_pairs pairs = add_pairs [] pairs

-- the first n pairs of two arrays
unfoldable pub pairs_of : List ℕ → List ℕ → ℕ → List Pair
pairs_of from to n = zip_with pair (take n from) (take n to)

-- Rows of `width` bits, one for each first number below `rows`, hold exactly the pairs of a list.
abbrev pub Seen : ℕ → ℕ → List ℕ → List Pair → Type 0
Seen rows width seen pairs = (a b : ℕ) → a < rows → b < width → bit_at seen (a * width + b) ≡ holds_pair (pair a b) pairs

-- What adding the pair (a, b) to n pairs asks for: its bit, whose place does not wrap and that says whether the pair stands there, and room for it.
pub record Room (width a b : ℕ) (seen from to : List ℕ) (n : ℕ) : Type 0 where
  pub seen-room : a * width + b < length seen * 64
  pub seen_most : length seen ≤ 65536
  pub seen-pair : bit_at seen (a * width + b) ≡ holds_pair (pair a b) (pairs_of from to n)
  pub from-room : n < length from
  pub to_room : n < length to

-- an array with x stored at n, unless the test holds
unfoldable pub store_unless : Bool → List ℕ → ℕ → ℕ → List ℕ
store_unless true l n x = l
store_unless false l n x = set l n x

-- What it gives: the pairs with (a, b) among them and their number, and each array whole.
pub record Added (width a b : ℕ) (seen from to : List ℕ) (n : ℕ) (seen' from' to' : List ℕ) (n' : ℕ) : Type 0 where
  pub pairs : pairs_of from' to' n' ≡ add_pair (pairs_of from to n) (pair a b)
  pub count : n' ≡ length (add_pair (pairs_of from to n) (pair a b))
  pub seen-bits : (k : ℕ) → bit_at seen' k ≡ (eqb k (a * width + b) || bit_at seen k)
  pub from-whole : from' ≡ store_unless (holds_pair (pair a b) (pairs_of from to n)) from n a
  pub to_whole : to' ≡ store_unless (holds_pair (pair a b) (pairs_of from to n)) to n b

-- Chains: an entry is one more than a place, or 0 for the end. The places from an entry on, of which there are at most `bound`.
unfoldable pub chain : List ℕ → ℕ → ℕ → List ℕ
chain next zero entry = []
chain next (suc bound) zero = []
chain next (suc bound) (suc i) = i ∷ chain next bound (get_or next i 0)

-- what stands in an array at the places of a chain
unfoldable pub targets : List ℕ → List ℕ → ℕ → ℕ → List ℕ
targets to next bound entry = map (λ i. get_or to i 0) (chain next bound entry)

-- An entry ends its chain, or leads to a place from `start` on and below n.
abbrev pub Onward : ℕ → ℕ → ℕ → Type 0
Onward start n entry = (0 < entry → start < entry) × (entry ≤ n)

-- What chaining n pairs by their first numbers asks for: entries that fit 16 bits, and for each first number a head that is still 0.
pub record Linkable (from : List ℕ) (n : ℕ) (heads next : List ℕ) : Type 0 where
  pub from-size : n ≤ length from
  pub next-size : n ≤ length next
  pub most : n < 65536
  pub below : (i : ℕ) → i < n → get_or from i 0 < length heads
  pub empty : (i : ℕ) → i < n → get_or heads (get_or from i 0) 0 ≡ 0

-- The pairs from place i on are chained (from 0 on: all). Where heads₀[a] was 0, the chain from heads[a] has the places whose first number is `a`,
-- ascending, and every entry leads onward, so that a loop along a chain ends. The other heads, and `next` from n on, are as they were.
pub record Linked (i : ℕ) (from : List ℕ) (n : ℕ) (heads₀ next₀ heads next : List ℕ) : Type 0 where
  pub chains : (a : ℕ) → a < length heads → get_or heads₀ a 0 ≡ 0 → chain next n (get_or heads a 0) ≡ positions_from i (λ x. eqb x a) (drop i (take n from))
  pub heads-onward : (a : ℕ) → get_or heads₀ a 0 ≡ 0 → Onward i n (get_or heads a 0)
  pub next-onward : (j : ℕ) → i ≤ j → j < n → Onward (suc j) n (get_or next j 0)
  pub heads-rest : (a : ℕ) → (get_or heads₀ a 0 ≡ 0 → ⊥) → get_or heads a 0 ≡ get_or heads₀ a 0
  pub next-rest : drop n next ≡ drop n next₀
