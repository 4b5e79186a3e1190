-- Laws of needs chained by their keys. Assumes nothing.
use Prim.Native.Nat.{ℕ, zero, suc, ◌+◌, ◌-◌, ◌*◌, ◌/◌, ◌≤◌, ◌<◌}
use Rattle.std.proofs.Common.{arith, ◌∙◌, take_all, get_or-drop}
use Rattle.std.specs.Option.{option_eq}
use Rattle.std.specs.Prelude.{◌≡◌, Bool, Option, Some, None, eqb, length, get_or, take, drop, set}
use Rattle.std.proofs.Math.Path.{refl, sym, ap, ap₂}
use mathlib.Core.List.{List, [], ◌∷◌, map}
use Rattle.std.proofs.lemmas.List.{length-map, set-get_or}
use Rattle.std.proofs.Math.Dec.{eqb-suc-suc, eqb-zero-suc}
use Rattle.std.proofs.lemmas.Option.{none-some}
use Rattle.rules.specs.Lists.{cons_if, keep, positions_from}
use Rattle.rules.specs.Project.{Item, Need, Project, module_limit, item_row, need_row, pair_rows, need_rows}
use Rattle.rules.specs.Items.{no_item, item_at}
use Rattle.laws.specs.Lists.{Tested, holds, fails, tested}
use Rattle.laws.specs.Counting.{keep_same}
use Rattle.laws.specs.Orders.{get_or-∈, get_d_map, positions-∈}
use Rattle.laws.specs.Accepted.{NeedRow}
use Rattle.lists.specs.declared.chains.Chains.{Chains}
use Rattle.lists.specs.Chained.{places}
use Rattle.lists.specs.Pairs.{Onward, Linked}
use Rattle.lists.specs.ChainLaws.{chain_same, link-none, link-turn, link-past}
use Rattle.project.specs.Decoded.{need_row_at}
use Rattle.project.specs.declared.sections.NeedRow.{NeedRow as Row}
use Rattle.project.specs.RowLaws.{pairs-length}
use Rattle.split.specs.RowLaws.{pair-at}
use Rattle.owners.specs.Owners.{owner_in, owner_of, both_own, key_of, needs_of, need_at, NeedsAlong, Owned, owner_at, RowRoom}
use Rattle.owners.specs.OwnerLaws.{owner_below, needs-few}

-- Rows of 3 bytes: row i is at byte 3 * i.
need-at : (d : Need) (l : List ℕ) (i : ℕ) → i < length (need_rows l) → get_or (need_rows l) i d ≡ need_at l i
unfolding need_rows need_at
need-at d [] i h = absurd (omega arith)
need-at d (a ∷ []) i h = absurd (omega arith)
need-at d (a ∷ b ∷ []) i h = absurd (omega arith)
need-at d (a ∷ b ∷ c ∷ l) zero h = refl
need-at d (a ∷ b ∷ c ∷ l) (suc i) h =
    let e : 3 * suc i ≡ suc (suc (suc (3 * i))) = omega arith in
    let f : 3 * suc i + 1 ≡ suc (suc (suc (3 * i + 1))) = omega arith in
    let g : 3 * suc i + 2 ≡ suc (suc (suc (3 * i + 2))) = omega arith in
    need-at d l i (omega arith) ∙ rw (g, f, e)

needs-length : (l : List ℕ) → length (need_rows l) ≡ length l / 3
unfolding need_rows
needs-length [] = refl
needs-length (a ∷ []) = refl
needs-length (a ∷ b ∷ []) = refl
needs-length (a ∷ b ∷ c ∷ l) = omega (arith, needs-length l)

-- How many rows a section has.
pub items-fit : (items : List ℕ) (k : ℕ) → length items ≤ 2 * k → length (pair_rows item_row items) ≤ k
items-fit items k h = omega (arith, pairs-length item_row items)

pub needs-fit : (needs : List ℕ) (k : ℕ) → length needs ≤ 3 * k → length (need_rows needs) ≤ k
needs-fit needs k h = omega (arith, needs-length needs)

-- The owner of two.
both-first : (a b : Option ℕ) (k : ℕ) → both_own a b ≡ Some k → a ≡ Some k
both-first a b k h = go (tested (option_eq eqb a b))
  where
    go : Tested (option_eq eqb a b) → a ≡ Some k
    go (holds e) = rw (both_own, e) at h
    go (fails e) = absurd (none-some k (rw (both_own, e) at h))

-- Keys as numbers: 0 is none.
unfoldable pub key_number : Option ℕ → ℕ
key_number None = 0
key_number (Some k) = suc k

number-most : (o : Option ℕ) (n : ℕ) → ((k : ℕ) → o ≡ Some k → k < n) → key_number o ≤ n
unfolding key_number
number-most None n h = omega arith
number-most (Some k) n h = h k refl

number-owner : (o : Option ℕ) (k : ℕ) → eqb (key_number o) (suc k) ≡ option_eq eqb o (Some k)
unfolding key_number
number-owner None k = eqb-zero-suc k
number-owner (Some a) k = eqb-suc-suc a k

-- Keys are owners.
module _ (p : Project) (groups : List (List ℕ)) where
  key-below : (n : Need) (k : ℕ) → key_of p groups n ≡ Some k → k < length groups
  unfolding key_of owner_of
  key-below n k h = owner_below groups (item_at p n.dependant).in_module k (both-first (owner_of p groups n.dependant) (owner_of p groups n.dependency) k h)

  key-most : (n : Need) → key_number (key_of p groups n) ≤ length groups
  key-most n = number-most (key_of p groups n) (length groups) (key-below n)

-- The owner of a row, from the arrays.
module _ {p : Project} {groups : List (List ℕ)} {items needs : List ℕ} {owners : List (Option ℕ)} (o : Owned p groups items needs owners) where
  rows-count : (row : ℕ) → row < length p.items → row < length (pair_rows item_row items)
  rows-count row h = omega (arith, ap length o.items-are)

  module-read : (row : ℕ) → row < length p.items → (item_at p row).in_module ≡ get_or items (2 * row) 0
  unfolding item_at
  module-read row h =
      ap (λ (l : List Item). (get_or l row no_item).in_module) o.items-are
      ∙ ap (λ (i : Item). i.in_module) (pair-at item_row no_item items row (rows-count row h))

  module-most : (row : ℕ) → row < length p.items → get_or items (2 * row) 0 < module_limit
  unfolding item_at
  module-most row h =
      omega (arith, module-read row h, (o.accepted.item-rows (get_or p.items row no_item) (get_or-∈ p.items row no_item h)).module-below, o.accepted.modules-most)

  row_room : (row : ℕ) → row < length p.items → RowRoom items owners row
  row_room row h =
      record {
        item = omega (arith, rows-count row h, pairs-length item_row items);
        module-below = omega (arith, module-most row h, o.owners-shown.size);
      }

  owner-read : (row : ℕ) → row < length p.items → owner_of p groups row ≡ owner_at items owners row
  unfolding owner_of
  owner-read row h = ap (owner_in groups) (module-read row h) ∙ sym (o.owners-shown.shown (get_or items (2 * row) 0) (module-most row h))

-- the keys of all needs
abbrev pub keys_of : Project → List (List ℕ) → List ℕ
keys_of p groups = map (λ (n : Need). key_number (key_of p groups n)) p.needs

-- The need in a row, and its key, from the arrays.
module _ {p : Project} {groups : List (List ℕ)} {items needs : List ℕ} {owners : List (Option ℕ)} (o : Owned p groups items needs owners) where
  pub needs-total : length p.needs ≡ length needs / 3
  needs-total = ap length o.needs-are ∙ needs-length needs

  need-read : (row : ℕ) → row < length p.needs → get_or p.needs row (need_row 0 0 0) ≡ need_at needs row
  need-read row h = rw o.needs-are (need-at (need_row 0 0 0) needs row (omega (arith, ap length o.needs-are)))

  module _ {row : ℕ} (more : row < length needs / 3) where
    here : row < length p.needs
    here = omega (arith, needs-total)

    ends-below : NeedRow (length p.items) (need_at needs row)
    ends-below = rw (need-read row here) at (o.accepted.need-rows (get_or p.needs row (need_row 0 0 0)) (get_or-∈ p.needs row (need_row 0 0 0) here))

    pub dependant-room : RowRoom items owners (get_or needs (3 * row) 0)
    unfolding need_at
    dependant-room = row_room o (get_or needs (3 * row) 0) ends-below.dependant-below

    pub dependency-room : RowRoom items owners (get_or needs (3 * row + 1) 0)
    unfolding need_at
    dependency-room = row_room o (get_or needs (3 * row + 1) 0) ends-below.dependency-below

    key_at : get_or (keys_of p groups) row 0 ≡ key_number (key_of p groups (get_or p.needs row (need_row 0 0 0)))
    key_at = get_d_map (λ (n : Need). key_number (key_of p groups n)) p.needs row (need_row 0 0 0) 0 here

    key-both : get_or (keys_of p groups) row 0 ≡ key_number (both_own (owner_at items owners (get_or needs (3 * row) 0)) (owner_at items owners (get_or needs (3 * row + 1) 0)))
    unfolding need_at key_of
    key-both =
        key_at
        ∙ ap (λ (n : Need). key_number (key_of p groups n)) (need-read row here)
        ∙ ap key_number (ap₂ both_own (owner-read o (get_or needs (3 * row) 0) ends-below.dependant-below) (owner-read o (get_or needs (3 * row + 1) 0) ends-below.dependency-below))

    pub key-read : {need : Row} {owner : Option ℕ} → need ≡ need_row_at needs (3 * row)
        → owner ≡ both_own (owner_at items owners need.dependant.0) (owner_at items owners need.dependency.0) → get_or (keys_of p groups) row 0 ≡ key_number owner
    key-read e owned =
        key-both ∙ ap key_number (sym (owned ∙ ap (λ (n : Row). both_own (owner_at items owners n.dependant.0) (owner_at items owners n.dependency.0)) e))

    key_below : get_or (keys_of p groups) row 0 ≤ module_limit
    key_below = omega (arith, key_at, key-most p groups (get_or p.needs row (need_row 0 0 0)), o.groups-most)

-- The entries that pass a test, by their positions.
positions-kept : {A : Type 0} (f : A → ℕ) (test : ℕ → Bool) (d : A) (place : ℕ → A) (i : ℕ) (l : List A) → ((j x : ℕ) → j < length l → x ≡ i + j → place x ≡ get_or l j d)
    → map place (positions_from i test (map f l)) ≡ keep (λ x. test (f x)) l
unfolding positions_from keep cons_if
positions-kept f test d place i [] h = refl
positions-kept {A} f test d place i (x ∷ l) h =
    go (tested (test (f x))) (positions-kept f test d place (suc i) l (λ j y k e. h (suc j) y (omega arith) (omega arith)))
  where
    go : Tested (test (f x)) → map place (positions_from (suc i) test (map f l)) ≡ keep (λ x. test (f x)) l
        → map place (cons_if (test (f x)) i (positions_from (suc i) test (map f l))) ≡ cons_if (test (f x)) x (keep (λ x. test (f x)) l)
    go (holds e) same = rw e (ap₂ (λ (y : A) (k : List A). y ∷ k) (h 0 i (omega arith) (omega arith)) same)
    go (fails e) same = rw e same

-- In the midst of chaining: the needs from row i on are linked. Key 0 has no chain: in front of the heads stands one that is not free.
abbrev pub Chaining : Project → List (List ℕ) → ℕ → List ℕ → List ℕ → List ℕ → List ℕ → Type 0
Chaining p groups i heads₀ next₀ heads next = Linked i (keys_of p groups) (length p.needs) (1 ∷ heads₀) next₀ (1 ∷ heads) next

keys_length : (p : Project) (groups : List (List ℕ)) → length (keys_of p groups) ≡ length p.needs
keys_length p groups = length-map p.needs (λ (n : Need). key_number (key_of p groups n))

module _ {p : Project} {groups : List (List ℕ)} {items needs : List ℕ} {owners : List (Option ℕ)} (o : Owned p groups items needs owners) where
  pub chaining-start : (heads next : List ℕ) → Chaining p groups (length needs / 3) heads next heads next
  chaining-start heads next = rw (← needs-total o) (link-none (keys_of p groups) (length p.needs) (1 ∷ heads) next)

  module _ {NEEDS : ℕ} (old chains : Chains module_limit NEEDS) (none : (k : ℕ) → get_or old.heads k 0 ≡ 0) (fit : length p.needs ≤ NEEDS) where
    abbrev heads₀ : List ℕ
    heads₀ = old.heads

    abbrev next₀ : List ℕ
    next₀ = old.next

    abbrev heads : List ℕ
    heads = chains.heads

    abbrev next : List ℕ
    next = chains.next

    next-room : length p.needs ≤ length next
    next-room = omega (arith, chains.sizes)

    free : (k : ℕ) → get_or (1 ∷ heads₀) (suc k) 0 ≡ 0
    free k = none k

    taken : get_or (1 ∷ heads₀) 0 0 ≡ 0 → ⊥
    taken e = absurd (omega arith)

    module _ (i : ℕ) (l : Chaining p groups i heads₀ next₀ heads next) (some : 0 < i) (within : i ≤ length needs / 3) where
      -- a row on no chain, whose entry ends
      pub chaining-past : get_or (keys_of p groups) (i - 1) 0 ≡ 0 → get_or next (i - 1) 0 ≡ 0 → Chaining p groups (i - 1) heads₀ next₀ heads next
      chaining-past key last =
          let ended : set next (i - 1) 0 ≡ next = ap (set next (i - 1)) (sym last) ∙ set-get_or next (i - 1) 0 in
          rw ended at
          (link-past (keys_of p groups) (1 ∷ heads₀) next₀ (1 ∷ heads) next (length p.needs) i some (omega (arith, needs-total o))
          (omega (arith, keys_length p groups)) next-room (rw key taken) l)

      module _ (k : ℕ) (key : get_or (keys_of p groups) (i - 1) 0 ≡ suc k) where
        pub key_room : k < module_limit
        key_room = omega (arith, key, key_below o {row = i - 1} (omega arith))

        -- the chain of its key has larger rows
        pub chaining-larger : 0 < get_or heads k 0 → i < get_or heads k 0
        chaining-larger h = (l.heads-onward (suc k) (free k)).0 h

        pub chaining-one : Chaining p groups (i - 1) heads₀ next₀ (set heads k (i - 1 + 1)) (set next (i - 1) (get_or heads k 0))
        chaining-one =
            rw key at
            (link-turn (keys_of p groups) (1 ∷ heads₀) next₀ (1 ∷ heads) next (length p.needs) i some (omega (arith, needs-total o))
            (omega (arith, keys_length p groups)) next-room (omega (arith, key, key_room, chains.sizes)) (rw key (free k)) l)

    module _ (l : Chaining p groups 0 heads₀ next₀ heads next) where
      count : length p.needs ≡ length needs / 3
      count = needs-total o

      pub heads-within : (k : ℕ) → get_or heads k 0 ≤ length needs / 3
      heads-within k = omega (arith, (l.heads-onward (suc k) (free k)).1, count)

      pub next-within : (i : ℕ) → i < length needs / 3 → Onward (suc i) (length needs / 3) (get_or next i 0)
      next-within i h = rw count at (l.next-onward i (omega arith) (omega (arith, count)))

      pub next_past : ((i : ℕ) → get_or next₀ i 0 ≡ 0) → (i : ℕ) → length needs / 3 ≤ i → get_or next i 0 ≡ 0
      next_past zeros i h =
          let n : ℕ = length p.needs in
          let place : n + (i - n) ≡ i = omega (arith, count) in
          let rest : get_or (drop n next) (i - n) 0 ≡ get_or (drop n next₀) (i - n) 0 = ap (λ (x : List ℕ). get_or x (i - n) 0) l.next-rest in
          (rw (get_or-drop n next, get_or-drop n next₀, place) at rest) ∙ zeros i

      first-keys : take (length p.needs) (keys_of p groups) ≡ keys_of p groups
      first-keys = take_all (length p.needs) (keys_of p groups) (omega (arith, keys_length p groups))

      row_read : (j x : ℕ) → j < length p.needs → x ≡ 0 + j → need_at needs x ≡ get_or p.needs j (need_row 0 0 0)
      row_read j x h e = let same : x ≡ j = omega arith in rw same (sym (need-read o j h))

      pub needs-along : (k : ℕ) → k < module_limit → NeedsAlong needs next (get_or heads k 0) (needs_of p groups k)
      needs-along k below =
          let n : ℕ = length p.needs in
          let on : Onward 0 n (get_or heads k 0) = l.heads-onward (suc k) (free k) in
          let number = λ (n : Need). key_number (key_of p groups n) in
          let test = λ (x : ℕ). eqb x (suc k) in
          let rows : places next (get_or heads k 0) ≡ positions_from 0 test (keys_of p groups) =
          chain_same n 0 next next l.next-onward (λ j _. refl) (length next) n (get_or heads k 0) (λ z. z, on.1) (λ z. omega arith) (λ z. omega arith)
          ∙ l.chains (suc k) (omega (arith, chains.sizes)) (free k)
          ∙ ap (positions_from 0 test) first-keys in
          record {
            most = omega (arith, o.accepted.needs-most, needs-few p groups k);
            within = rw rows (λ x m. let r = positions-∈ test 0 0 (keys_of p groups) m in omega (arith, r.1, r.2, keys_length p groups, needs-total o));
            along =
                ap (map (need_at needs)) rows
                ∙ positions-kept number test (need_row 0 0 0) (need_at needs) 0 p.needs row_read
                ∙ keep_same (λ (n : Need). test (number n)) (λ (n : Need). option_eq eqb (key_of p groups n) (Some k)) p.needs (λ n _. number-owner (key_of p groups n) k);
          }
