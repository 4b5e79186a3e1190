-- Laying the import rows out: what holds in the midst of it, row by row, and at its end. Assumes nothing.
use Rattle.std.specs.Prelude.{ℕ, ◌+◌, ◌≤◌, ◌<◌, ◌≡◌, refl, length, get_or, take}
use Rattle.std.proofs.Common.{arith, sym, subst, ◌∙◌, take-take, length-take-le}
use Rattle.std.proofs.Math.Path.{ap}
use mathlib.Core.List.Memᴰ
use mathlib.Core.List.{List, [], ◌∷◌, map, zip_with}
use Rattle.std.proofs.Math.Dec.{eqb}
use Rattle.rules.specs.Lists.{keep, any, different}
use Rattle.rules.specs.Project.{Project, Import, import_row, import_limit, module_limit}
use Rattle.rules.specs.Modules.{imports_of}
use Rattle.laws.specs.Lists.{∈-self}
use Rattle.lists.specs.declared.pairs.Pairs.{Pairs}
use Rattle.lists.specs.BitLaws.{cell_below}
use Rattle.lists.specs.Pairs.{Pair, pair, holds_pair, add_pairs, different_pairs, pairs_of, seconds_of, Seen, Room, Added, targets, Linked}
use Rattle.lists.specs.ChainLaws.{targets-more}
use Rattle.lists.specs.PairLaws.{length_pairs, length-add_pair, seen_none, seen-added, store_below, different-seconds, targets-seconds}
use Rattle.lists.specs.declared.chains.Chains.{Chains}
use Rattle.chunk.specs.Imports.{FitRows, places_to}

-- an import row as a pair
abbrev pub as_pair : Import → Pair
as_pair i = pair i.importer i.imported

-- the pairs of modules of the rows, a word of bits for each importer
abbrev pub RowPairs : Type 0
RowPairs = Pairs module_limit import_limit

abbrev pub all_pairs : RowPairs → List Pair
all_pairs s = pairs_of s.from s.to s.count

-- The rows before `rest` are laid out: their different pairs are those of `s`.
pub record Laying (rows rest : List Import) (s : RowPairs) : Type 0 where
  pub count : s.count + length rest ≤ import_limit
  pub rest-fits : FitRows rest
  pub from-below : (j : ℕ) → get_or s.from j 0 < module_limit
  pub to_below : (j : ℕ) → get_or s.to j 0 < module_limit
  pub seen-pairs : Seen module_limit module_limit s.seen (all_pairs s)
  pub pairs : add_pairs (all_pairs s) (map as_pair rest) ≡ different_pairs (map as_pair rows)

pub laying-start : {rows : List Import} (s : RowPairs) → FitRows rows → s.count ≡ 0 → ((k : ℕ) → get_or s.seen k 0 ≡ 0) → ((k : ℕ) → get_or s.from k 0 ≡ 0)
    → ((k : ℕ) → get_or s.to k 0 ≡ 0) → Laying rows rows s
unfolding pairs_of zip_with different_pairs holds_pair any
laying-start {rows} s f none seen from to =
    let empty : all_pairs s ≡ [] = rw none refl in
    record {
      count = omega (arith, f.most);
      rest-fits = f;
      from-below = λ j. omega (arith, from j);
      to_below = λ j. omega (arith, to j);
      seen-pairs = rw empty (seen_none (record { size = refl; zeros = seen }));
      pairs = rw empty refl;
    }

module _ {rows rest : List Import} {a b : ℕ} (s : RowPairs) (l : Laying rows (import_row a b ∷ rest) s) where
  importer-below : a < module_limit
  importer-below = l.rest-fits.importers-below (import_row a b) ∈-self

  imported-below : b < module_limit
  imported-below = l.rest-fits.imported-below (import_row a b) ∈-self

  row_room : Room module_limit a b s.seen s.from s.to s.count
  row_room =
      record {
        seen-room = omega (arith, s.sizes, cell_below module_limit module_limit a b importer-below imported-below);
        seen_most = omega (arith, s.sizes);
        seen-pair = l.seen-pairs a b importer-below imported-below;
        from-room = omega (arith, s.sizes, l.count);
        to_room = omega (arith, s.sizes, l.count);
      }

  row-added : (t : RowPairs) → Added module_limit a b s.seen s.from s.to s.count t.seen t.from t.to t.count → Laying rows rest t
  unfolding add_pairs
  row-added t d =
      record {
        count =
            omega
            (arith, l.count, d.count, length-add_pair (all_pairs s) (pair a b), length_pairs s.from s.to s.count (omega (arith, s.sizes, s.within)) (omega (arith, s.sizes, s.within)));
        rest-fits =
            record {
              importers-below = λ i m. l.rest-fits.importers-below i (Memᴰ.tail m);
              imported-below = λ i m. l.rest-fits.imported-below i (Memᴰ.tail m);
              most = omega (arith, l.rest-fits.most);
            };
        from-below =
            λ j.
            rw d.from-whole
            (store_below module_limit (holds_pair (pair a b) (all_pairs s)) s.from s.count a (omega (arith, s.sizes, l.count)) importer-below l.from-below j);
        to_below =
            λ j.
            rw d.to_whole
            (store_below module_limit (holds_pair (pair a b) (all_pairs s)) s.to s.count b (omega (arith, s.sizes, l.count)) imported-below l.to_below j);
        seen-pairs = seen-added imported-below d l.seen-pairs;
        pairs = rw d.pairs l.pairs;
      }

-- the same for the first of the rows that are left
module _ {rows left rest : List Import} {a b : ℕ} (s : RowPairs) (first : left ≡ import_row a b ∷ rest) (l : Laying rows left s) where
  split : Laying rows (import_row a b ∷ rest) s
  split = subst (λ (k : List Import). Laying rows k s) first l

  pub laying-room : Room module_limit a b s.seen s.from s.to s.count
  laying-room = row_room s split

  pub laying-next : (t : RowPairs) → Added module_limit a b s.seen s.from s.to s.count t.seen t.from t.to t.count → Laying rows rest t
  laying-next t d = row-added s split t d

-- All rows are laid out.
module _ {rows left : List Import} (s : RowPairs) (all : left ≡ []) (laying : Laying rows left s) where
  l : Laying rows [] s
  l = subst (λ (rest : List Import). Laying rows rest s) all laying

  keys-length : length (take s.count s.from) ≡ s.count
  keys-length = length-take-le s.count s.from (omega (arith, s.sizes, s.within))

  -- their pairs are chained
  pub laying-end : (heads₀ next₀ : List ℕ) (chains : Chains module_limit import_limit) → ((k : ℕ) → get_or heads₀ k 0 ≡ 0)
      → Linked 0 (take s.count s.from) (length (take s.count s.from)) heads₀ next₀ chains.heads chains.next
      → (p : Project) → p.imports ≡ rows → (m : ℕ) → m < module_limit → places_to s.to chains m ≡ imports_of p m
  unfolding add_pairs imports_of targets pairs_of
  laying-end heads₀ next₀ chains none k p e m below =
      let n = s.count in
      let heads = chains.heads in
      let next = chains.next in
      let first = get_or heads m 0 in
      let linked : Linked 0 (take n s.from) n heads₀ next₀ heads next = subst (λ (c : ℕ). Linked 0 (take n s.from) c heads₀ next₀ heads next) keys-length k in
      let again : pairs_of (take n s.from) s.to n ≡ all_pairs s = ap (λ (x : List ℕ). zip_with pair x (take n s.to)) (take-take n n s.from (omega arith)) in
      targets-more n next (λ j. linked.next-onward j (omega arith)) s.to (length next) first (omega (arith, chains.sizes, s.within)) (linked.heads-onward m (none m)).1
      ∙ targets-seconds (take n s.from) s.to heads₀ next₀ heads next n (omega (arith, keys-length)) (omega (arith, s.sizes, s.within)) linked m (omega (arith, chains.sizes)) (none m)
      ∙ ap (seconds_of m) (again ∙ l.pairs)
      ∙ different-seconds (λ (i : Import). i.importer) (λ (i : Import). i.imported) m rows
      ∙ ap (λ (r : List Import). different (map (λ (i : Import). i.imported) (keep (λ (i : Import). eqb i.importer m) r))) (sym e)
