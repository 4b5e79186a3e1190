-- Laws of the graph on arrays. Assumes nothing.
use Rattle.std.specs.Prelude.{ℕ, suc, ◌+◌, ◌*◌, ◌≤◌, ◌<◌, ◌≡◌, refl, Bool, true, false, ◌&&◌, length, get_or, replicate}
use Rattle.std.proofs.Common.{arith, sym, ap, ◌∙◌}
use mathlib.Core.List.{List, [], ◌∷◌, ◌++◌, map, zip_with, reverse, reverse-cons, map-append}
use Rattle.std.proofs.Math.Dec.{eqb}
use borrow.Author.Tests.{eqb-true, eq-eqb}
use Rattle.rules.specs.Lists.{any}
use Rattle.rules.specs.Project.{Need, need_row}
use Rattle.rules.specs.Paths.{is_need, weight_in, can_reach, in_paths}
use Rattle.laws.specs.Lists.{Tested, holds, fails, tested, both, false≢true}
use Rattle.laws.specs.Orders.{and-true}
use Rattle.lists.specs.Pairs.{Pair, pair, holds_pair, add_pair, add_pairs, different_pairs, pairs_of, store_unless, Added}
use Rattle.lists.specs.ArrayLaws.{after-set}
use Rattle.lists.specs.PairLaws.{add_pair-old, length-add_pair, seen-added}
use Rattle.graph.specs.Rows.{Rows, Fits, cleared, cell, Holds, Rest, Stored}
use Rattle.graph.specs.RowLaws.{same_place, column, place, rows-sized, rows-cleared}
use Rattle.graph.specs.Reach.{WayAdded}
use Rattle.graph.specs.WordLaws.{transposed-none}
use Rattle.graph.specs.Links.{ends}
use Rattle.graph.specs.Graph.{Matrices, matrices, Space, is_maybe, Shows, Cleared, EdgeRoom, EdgeAdded}

-- The different pairs of needs, with one need more.
add_pairs-snoc : (pairs rows : List Pair) (p : Pair) → add_pairs pairs (rows ++ (p ∷ [])) ≡ add_pair (add_pairs pairs rows) p
unfolding add_pairs
add_pairs-snoc pairs [] p = refl
add_pairs-snoc pairs (r ∷ rows) p = add_pairs-snoc (add_pair pairs r) rows p

different-more : (graph : List Need) (n : Need)
    → different_pairs (map ends (reverse (n ∷ graph))) ≡ add_pair (different_pairs (map ends (reverse graph))) (ends n)
unfolding different_pairs
different-more graph n =
    ap (λ (l : List Need). different_pairs (map ends l)) (reverse-cons n graph)
    ∙ ap different_pairs (map-append ends (reverse graph) (n ∷ []))
    ∙ add_pairs-snoc [] (map ends (reverse graph)) (ends n)

-- The weight of a pair is that of the last need.
weight-new : (graph : List Need) (n : Need) (a b : ℕ) → is_need a b n ≡ true → weight_in (n ∷ graph) a b ≡ n.weight
unfolding weight_in
weight-new graph n a b e = rw (e, weight_in)

weight-old : (graph : List Need) (n : Need) (a b : ℕ) → is_need a b n ≡ false → weight_in (n ∷ graph) a b ≡ weight_in graph a b
unfolding weight_in
weight-old graph n a b e = rw (e, weight_in)

module _ (words n x y weight : ℕ) {old new : List ℕ} (first : x < n) (second : y < 64 * words)
    (s : Stored (x * (64 * words) + y) (eqb weight 1) old new) where
  weights-rest : Rest words n old new
  weights-rest a b below within =
      s.others (a * (64 * words) + b) (λ same. let p = same_place (64 * words) a b x y within second same in omega arith)

  weights-added : (graph : List Need) → Holds words n (is_maybe graph) old → Holds words n (is_maybe (need_row x y weight ∷ graph)) new
  unfolding is_maybe is_need
  weights-added graph h a b below within = go (tested (eqb x a && eqb y b))
    where
      go : Tested (eqb x a && eqb y b) → cell words new a b ≡ eqb (weight_in (need_row x y weight ∷ graph) a b) 1
      go (holds e) =
          let r = both {a = eqb x a} e in
          rw (weight-new graph (need_row x y weight) a b e, ← eqb-true x a r.0, ← eqb-true y b r.1) s.there
      go (fails e) =
          rw (weight-old graph (need_row x y weight) a b e)
          (s.others (a * (64 * words) + b) (λ same.
          let p = same_place (64 * words) a b x y within second same in
          false≢true (sym e ∙ and-true (eq-eqb x a (sym p.0)) (eq-eqb y b (sym p.1))))
          ∙ h a b below within)

-- Numbers of pairs stay below a bound where one below it may be stored.
stored-below : (bound : ℕ) (test : Bool) (l : List ℕ) (n x n' : ℕ) → n < length l → x < bound → (test ≡ true → n' ≤ n) → n' ≤ suc n
    → ((j : ℕ) → j < n → get_or l j 0 < bound) → (j : ℕ) → j < n' → get_or (store_unless test l n x) j 0 < bound
unfolding store_unless
stored-below bound true l n x n' within h held most below j less = below j (omega (arith, held refl))
stored-below bound false l n x n' within h held most below j less =
    after-set (λ y. y < bound) l n j x 0 within (λ e. h) (λ d. below j (omega arith))

-- Matrices of a graph's sizes have its rows.
pub space : {WORDS words n : ℕ} {seen weak reach into paths : List ℕ} → Fits WORDS words n → WORDS ≤ 65536 → length seen ≡ WORDS → length weak ≡ WORDS
    → length reach ≡ WORDS → length into ≡ 64 → length paths ≡ WORDS → Space words n (matrices seen weak reach into paths)
space {WORDS} {words} {n} fits most seen weak reach into paths =
    record {
      seen-rows = rows _ seen;
      seen_most = omega (arith, seen);
      weak-rows = rows _ weak;
      reach-rows = rows _ reach;
      into-rows = λ one. record { numbers = fits.numbers; most = fits.most; size = rw one (omega (arith, fits.numbers, one, into)) };
      paths-rows = rows _ paths;
    }
  where
    rows : (matrix : List ℕ) → length matrix ≡ WORDS → Rows words n matrix
    rows matrix e = record { numbers = fits.numbers; most = fits.most; size = omega (arith, fits.size, e) }

-- The matrices keep their rows while they keep their lengths.
pub space-sized : {words n : ℕ} {m m' : Matrices} → Space words n m → length m'.seen ≡ length m.seen → length m'.weak ≡ length m.weak
    → length m'.reach ≡ length m.reach → length m'.into ≡ length m.into → length m'.paths ≡ length m.paths → Space words n m'
space-sized {m = m} {m' = m'} s seen weak reach into paths =
    record {
      seen-rows = rows-sized m.seen m'.seen s.seen-rows seen;
      seen_most = omega (arith, s.seen_most);
      weak-rows = rows-sized m.weak m'.weak s.weak-rows weak;
      reach-rows = rows-sized m.reach m'.reach s.reach-rows reach;
      into-rows = λ one. rows-sized m.into m'.into (s.into-rows one) into;
      paths-rows = rows-sized m.paths m'.paths s.paths-rows paths;
    }

-- Cleared matrices show the graph without needs.
pub all-cleared : {words n : ℕ} {m m' : Matrices} → Space words n m' → m'.seen ≡ cleared (n * words) m.seen
    → m'.weak ≡ cleared (n * words) m.weak → m'.reach ≡ cleared (n * words) m.reach → m'.paths ≡ cleared (n * words) m.paths
    → (words ≡ 1 → m'.into ≡ replicate 64 0) → ((words ≡ 1 → ⊥) → m'.into ≡ m.into) → Cleared words n m m'
unfolding different_pairs add_pairs pairs_of zip_with holds_pair any is_maybe weight_in can_reach in_paths
all-cleared {words} {n} {m} space seen weak reach paths into left =
    record {
      shows =
          λ from to.
          record {
            space = space;
            pairs = refl;
            counted = refl;
            from-below = λ i h. absurd (omega arith);
            to_below = λ i h. absurd (omega arith);
            seen-pairs = rw seen (rows-cleared words n m.seen);
            weights = rw weak (rows-cleared words n m.weak);
            reached = rw reach (rows-cleared words n m.reach);
            transposed = λ one. rw (reach, into one, one) (transposed-none n m.reach (omega (arith, space.reach-rows.numbers)));
            in-paths = rw paths (rows-cleared words n m.paths);
          };
      seen-whole = seen;
      weak-whole = weak;
      reach-whole = reach;
      into-whole = into;
      into-left = left;
      paths-whole = paths;
    }

-- Adding a need: each array as its own function leaves it.
module _ {words n x y : ℕ} (weight : ℕ) {m m' : Matrices} {from to from' to' : List ℕ} {count count' : ℕ} (room : EdgeRoom words n x y m from to count)
    (space : Space words n m') (added : Added (64 * words) x y m.seen from to count m'.seen from' to' count')
    (weak : Stored (x * (64 * words) + y) (eqb weight 1) m.weak m'.weak)
    (way : WayAdded words n x y m.reach m.paths m'.reach m'.into m'.paths) where
  within : y < 64 * words
  within = column room.space.seen-rows room.second

  -- how many pairs there are then
  module _ (counted : count ≡ length (pairs_of from to count)) where
    held-count : holds_pair (pair x y) (pairs_of from to count) ≡ true → count' ≤ count
    held-count held = omega (arith, added.count, ap (λ (l : List Pair). length l) (add_pair-old (pairs_of from to count) (pair x y) held))

    most-count : count' ≤ suc count
    most-count = omega (arith, added.count, length-add_pair (pairs_of from to count) (pair x y))

  edge-shows : (graph : List Need) → Shows words n graph m from to count → Shows words n (need_row x y weight ∷ graph) m' from' to' count'
  edge-shows graph s =
      record {
        space = space;
        pairs = added.pairs ∙ ap (λ (l : List Pair). add_pair l (pair x y)) s.pairs ∙ sym (different-more graph (need_row x y weight));
        counted = added.count ∙ sym (ap (λ (l : List Pair). length l) added.pairs);
        from-below =
            rw added.from-whole
            (stored-below n (holds_pair (pair x y) (pairs_of from to count)) from count x count' room.pairs.from-room room.first
            (held-count s.counted) (most-count s.counted) s.from-below);
        to_below =
            rw added.to_whole
            (stored-below n (holds_pair (pair x y) (pairs_of from to count)) to count y count' room.pairs.to_room room.second
            (held-count s.counted) (most-count s.counted) s.to_below);
        seen-pairs = seen-added within added s.seen-pairs;
        weights = weights-added words n x y weight room.first within weak graph s.weights;
        reached = way.reached graph weight s.reached s.in-paths;
        transposed = way.transposed;
        in-paths = way.in-paths graph weight s.reached s.in-paths;
      }

  pub edge-added : EdgeAdded words n x y weight m from to count m' from' to' count'
  edge-added =
      record {
        shows = edge-shows;
        pairs = added;
        weak-rest = weights-rest words n x y weight room.first within weak;
        reach-rest = way.reach-rest;
        paths-rest = way.paths-rest;
      }

-- There are no more different pairs than needs.
different-most : (graph : List Need) → length (different_pairs (map ends (reverse graph))) ≤ length graph
unfolding different_pairs add_pairs
different-most [] = omega arith
different-most (n ∷ graph) =
    let more : length (different_pairs (map ends (reverse (n ∷ graph)))) ≡ length (add_pair (different_pairs (map ends (reverse graph))) (ends n)) =
    ap (λ (l : List Pair). length l) (different-more graph n) in
    omega (arith, different-most graph, length-add_pair (different_pairs (map ends (reverse graph))) (ends n))

-- So where the arrays show a graph, there is room for a need while the arrays of pairs are longer than the graph.
module _ {words n : ℕ} {graph : List Need} {m : Matrices} {from to : List ℕ} {count : ℕ} (s : Shows words n graph m from to count) where
  pub shows-count : count ≤ length graph
  shows-count = omega (arith, s.counted, ap (λ (l : List Pair). length l) s.pairs, different-most graph)

  pub edge-room : (x y : ℕ) → x < n → y < n → length graph < length from → length graph < length to → EdgeRoom words n x y m from to count
  edge-room x y first second from-room to_room =
      record {
        space = s.space;
        pairs =
            record {
              seen-room = (place s.space.seen-rows x y first (column s.space.seen-rows second)).within;
              seen_most = s.space.seen_most;
              seen-pair = s.seen-pairs x y first (column s.space.seen-rows second);
              from-room = omega (arith, shows-count);
              to_room = omega (arith, shows-count);
            };
        transposed = s.transposed;
        first = first;
        second = second;
      }
