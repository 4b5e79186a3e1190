-- Laws of neighbours on chains. Assumes nothing.
use Rattle.std.specs.Prelude.{ℕ, ◌+◌, ◌-◌, ◌≤◌, ◌<◌, ◌≡◌, refl, ◌||◌, eqb, ltb, length, get_or, take, drop, replicate}
use Rattle.std.proofs.Common.{arith, sym, ap₂, ◌∙◌, length-append, length-drop, get_or-drop, ltb-true, ltb-false}
use Rattle.std.proofs.Math.Path.{ap}
use Rattle.std.proofs.Math.Bool.{and_comm}
use Rattle.std.proofs.Math.Logic.{◌⊎◌, inl, inr}
use mathlib.Core.List.{List, [], ◌∷◌, ◌++◌, map, map-map, map-append, zip_with, reverse, reverse-reverse}
use Rattle.std.proofs.lemmas.List.{length-replicate, length-reverse, length-map}
use Rattle.std.proofs.lemmas.Slice.{drop-append-drop}
use Rattle.rules.specs.Lists.{any}
use Rattle.rules.specs.Project.{Need, item_limit, need_limit}
use Rattle.rules.specs.Paths.{dependencies_of, dependants_of}
use Rattle.laws.specs.Lists.{Tested, holds, fails, tested}
use Rattle.lists.specs.declared.chains.Chains.{Chains}
use Rattle.lists.specs.Chained.{Ascends}
use Rattle.lists.specs.ArrayLaws.{zeros-replicate}
use Rattle.lists.specs.ChainedLaws.{places-none, head-cleared, places-linked, heads-past, ascends-again}
use Rattle.lists.specs.ChainLaws.{targets-more}
use Rattle.lists.specs.Pairs.{Pair, pair, same_pair, holds_pair, seconds_of, add_pair, add_pairs, different_pairs, pairs_of, chain, targets, Linkable, Linked}
use Rattle.lists.specs.PairLaws.{add_pair-old, add_pair-new, different-seconds, different-most, length_pairs, targets-seconds}
use Rattle.graph.specs.Neighbours.{nodes_along}
use Rattle.graph.specs.declared.Graph.{Graph}
use Rattle.graph.specs.Links.{ends, Leading, Chained, Relinked, LinksRoom, Neighbours, LinksMade}
use Rattle.graph.specs.Graph.{Matrices, Shown, neighbours_at, NeighboursLaid, NeighboursChained, Laid, LinkRoom, LinkRoom16, PairsOf, Linked as AllLinked}

-- Pairs with their numbers exchanged: the different ones are the exchanged different ones.
swap : Pair → Pair
swap p = pair p.second p.first

holds-swap : (p : Pair) (pairs : List Pair) → holds_pair (swap p) (map swap pairs) ≡ holds_pair p pairs
unfolding swap holds_pair any same_pair
holds-swap p [] = refl
holds-swap p (q ∷ pairs) = ap₂ ◌||◌ (and_comm (eqb p.second q.second) (eqb p.first q.first)) (holds-swap p pairs)

add-swap : (pairs : List Pair) (p : Pair) → map swap (add_pair pairs p) ≡ add_pair (map swap pairs) (swap p)
add-swap pairs p = go (tested (holds_pair p pairs))
  where
    go : Tested (holds_pair p pairs) → map swap (add_pair pairs p) ≡ add_pair (map swap pairs) (swap p)
    go (holds e) = ap (map swap) (add_pair-old pairs p e) ∙ sym (add_pair-old (map swap pairs) (swap p) (holds-swap p pairs ∙ e))
    go (fails e) =
        ap (map swap) (add_pair-new pairs p e)
        ∙ map-append swap pairs (p ∷ [])
        ∙ sym (add_pair-new (map swap pairs) (swap p) (holds-swap p pairs ∙ e))

adds-swap : (pairs rows : List Pair) → map swap (add_pairs pairs rows) ≡ add_pairs (map swap pairs) (map swap rows)
unfolding add_pairs
adds-swap pairs [] = refl
adds-swap pairs (p ∷ rows) = adds-swap (add_pair pairs p) rows ∙ ap (λ (l : List Pair). add_pairs l (map swap rows)) (add-swap pairs p)

zip-swap : (xs ys : List ℕ) → zip_with pair ys xs ≡ map swap (zip_with pair xs ys)
unfolding swap zip_with
zip-swap [] [] = refl
zip-swap [] (y ∷ ys) = refl
zip-swap (x ∷ xs) [] = refl
zip-swap (x ∷ xs) (y ∷ ys) = ap (λ (l : List Pair). pair y x ∷ l) (zip-swap xs ys)

pairs-swap : (from to : List ℕ) (n : ℕ) → pairs_of to from n ≡ map swap (pairs_of from to n)
unfolding pairs_of
pairs-swap from to n = zip-swap (take n from) (take n to)

-- Where the pairs on two arrays are the different ones of some rows, the second numbers of those with one first number are the different second
-- numbers of such rows, either way round.
module _ (from to : List ℕ) (count : ℕ) (needs : List Need) (e : pairs_of from to count ≡ different_pairs (map ends needs)) (x : ℕ) where
  seconds-out : seconds_of x (pairs_of from to count) ≡ dependencies_of needs x
  unfolding dependencies_of
  seconds-out = ap (seconds_of x) e ∙ different-seconds (λ (n : Need). n.dependant) (λ (n : Need). n.dependency) x needs

  seconds-in : seconds_of x (pairs_of to from count) ≡ dependants_of needs x
  unfolding dependants_of swap different_pairs
  seconds-in =
      ap (seconds_of x)
      (pairs-swap from to count
      ∙ ap (map swap) e
      ∙ adds-swap [] (map ends needs)
      ∙ ap different_pairs (map-map swap ends needs))
      ∙ different-seconds (λ (n : Need). n.dependency) (λ (n : Need). n.dependant) x needs

-- Heads that were cleared.
no-head : (size : ℕ) {heads : List ℕ} → heads ≡ replicate size 0 → (x : ℕ) → get_or heads x 0 ≡ 0
no-head size e = rw e (zeros-replicate size).zeros

pub linkable : {from heads next : List ℕ} {count : ℕ} (size : ℕ) → heads ≡ replicate size 0 → count ≤ need_limit → count ≤ length from → count ≤ length next
    → ((i : ℕ) → i < count → get_or from i 0 < size) → Linkable from count heads next
linkable {from} size e most from-size next-size below =
    record {
      from-size = from-size;
      next-size = next-size;
      most = omega arith;
      below = rw (e, length-replicate) below;
      empty = λ i h. no-head size e (get_or from i 0);
    }

-- The chains of one side, by pairs of numbers below n.
module _ {from next₀ heads next : List ℕ} {count : ℕ} (n : ℕ) (heads₀ : List ℕ) (l : Linked 0 from count (replicate n 0 ++ drop n heads₀) next₀ heads next)
    (few : n ≤ length heads₀) (same : length heads ≡ length heads₀) (below : (i : ℕ) → i < count → get_or from i 0 < n) where
  zeros : length (replicate {A = ℕ} n 0) ≡ n
  zeros = length-replicate n 0

  leads : Leading n count heads next
  leads = record { heads-most = λ x h. omega (arith, (l.heads-onward x (head-cleared n heads₀ x h)).1); next-onward = λ j h. l.next-onward j (omega arith) h }

  relinked : Relinked n count heads₀ next₀ heads next
  relinked =
      record {
        leading = leads;
        heads-rest =
            heads-past from (replicate n 0 ++ drop n heads₀) next₀ heads next count n l
            (omega (arith, same, few, zeros, length-append (replicate n 0) (drop n heads₀), length-drop n heads₀)) below
            ∙ drop-append-drop n heads₀ (replicate n 0) n (omega arith) zeros;
        next-rest = l.next-rest;
      }

  chains : {to : List ℕ} → count ≤ length from → count ≤ length to → count ≤ length next → (neighbours : ℕ → List ℕ)
      → ((i : ℕ) → i < count → get_or to i 0 < n) → ((x : ℕ) → seconds_of x (pairs_of from to count) ≡ neighbours x)
      → Chained count neighbours n to heads next
  chains {to} from-size to-size next-size neighbours to-below seconds =
      record {
        count = count;
        few = omega arith;
        ends-size = to-size;
        next-size = next-size;
        heads-size = omega (arith, same, few);
        ends-below = to-below;
        leading = leads;
        along =
            λ x h. targets-seconds from to (replicate n 0 ++ drop n heads₀) next₀ heads next count from-size to-size l x (omega (arith, same, few)) (head-cleared n heads₀ x h)
            ∙ seconds x;
      }

-- Both sides.
module _ {n : ℕ} {from to : List ℕ} {count : ℕ} {heads₀ next₀ heads₁ next₁ : List ℕ} (r : LinksRoom n from to count heads₀ next₀ heads₁ next₁)
    {heads-out next-out heads-in next-in : List ℕ} (out : Linked 0 from count (replicate n 0 ++ drop n heads₀) next₀ heads-out next-out)
    (out-size : length heads-out ≡ length heads₀) (next-out-size : length next-out ≡ length next₀)
    (into : Linked 0 to count (replicate n 0 ++ drop n heads₁) next₁ heads-in next-in)
    (in-size : length heads-in ≡ length heads₁) (next-in-size : length next-in ≡ length next₁) where
  pub links-made : LinksMade n from to count heads₀ next₀ heads₁ next₁ heads-out next-out heads-in next-in
  links-made =
      record {
        neighbours =
            λ needs e.
            record {
              dependencies =
                  chains n heads₀ out r.heads-out-size out-size r.from-below r.from-size r.to-size (omega (arith, r.next-out-size)) (dependencies_of needs)
                  r.to_below (seconds-out from to count needs e);
              dependants =
                  chains n heads₁ into r.heads-in-size in-size r.to_below r.to-size r.from-size (omega (arith, r.next-in-size)) (dependants_of needs)
                  r.from-below (seconds-in from to count needs e);
            };
        outgoing = relinked n heads₀ out r.heads-out-size out-size r.from-below;
        incoming = relinked n heads₁ into r.heads-in-size in-size r.to_below;
      }

-- Chains that ascend do so again.
module _ {n count : ℕ} {heads₀ next₀ heads next : List ℕ} (l : Relinked n count heads₀ next₀ heads next) where
  begins : (x : ℕ) → Tested (ltb x n) → (get_or heads x 0 ≤ count) ⊎ (get_or heads x 0 ≡ get_or heads₀ x 0)
  begins x (holds t) = inl (omega (arith, l.leading.heads-most x (ltb-true x n t)))
  begins x (fails t) =
      let past : n + (x - n) ≡ x = omega (arith, ltb-false x n t) in
      inr (rw (get_or-drop n heads, get_or-drop n heads₀, past) at (ap (λ (k : List ℕ). get_or k (x - n) 0) l.heads-rest))

  pub ascends-relinked : Ascends heads₀ next₀ → length next ≡ length next₀ → count ≤ length next → Ascends heads next
  ascends-relinked a same within =
      ascends-again heads₀ next₀ heads next count a same within (λ x. begins x (tested (ltb x n))) l.leading.next-onward l.next-rest

-- The neighbours along chains are those of a graph.
pub nodes-chained : {most : ℕ} {neighbours : ℕ → List ℕ} {n : ℕ} {ends heads next : List ℕ} → Chained most neighbours n ends heads next
    → (x : ℕ) → x < n → nodes_along ends next (get_or heads x 0) ≡ neighbours x
unfolding nodes_along targets
nodes-chained {ends = ends} {heads = heads} {next = next} c x h =
    targets-more c.count next c.leading.next-onward ends (length next) (get_or heads x 0) c.next-size (omega (arith, c.leading.heads-most x h)) ∙ c.along x h

-- Where a graph's pairs are those of needs, there are at most as many.
pairs-few : {WORDS NEEDS : ℕ} (needs : List Need) (g : Graph WORDS NEEDS) → PairsOf needs g → g.pairs.count ≤ length needs
pairs-few needs g same =
    let most : g.pairs.count ≤ length g.pairs.from × g.pairs.count ≤ length g.pairs.to = (omega (arith, g.pairs.within, g.pairs.sizes), omega (arith, g.pairs.within, g.pairs.sizes)) in
    omega (arith, length_pairs g.pairs.from g.pairs.to g.pairs.count most.0 most.1, ap (λ (l : List Pair). length l) same, different-most (map ends needs), length-map needs ends)

-- Chained neighbours of which fewer are in use.
more-most : {few most : ℕ} {neighbours : ℕ → List ℕ} {n : ℕ} {ends heads next : List ℕ} → few ≤ most → Chained few neighbours n ends heads next
    → Chained most neighbours n ends heads next
more-most h c =
    record {
      count = c.count;
      few = omega (arith, h, c.few);
      ends-size = c.ends-size;
      next-size = c.next-size;
      heads-size = c.heads-size;
      ends-below = c.ends-below;
      leading = c.leading;
      along = c.along;
    }

-- Once the neighbours are chained, the graph has those of the needs.
module _ {WORDS NEEDS : ℕ} (needs : List Need) (old new : Graph WORDS NEEDS) (same : PairsOf needs old)
    (n : Neighbours old.pairs.count new.nodes needs new.pairs.from new.pairs.to new.outgoing.heads new.outgoing.next new.incoming.heads new.incoming.next) where
  pub neighbours-laid : NeighboursLaid needs new
  neighbours-laid = record { dependencies = nodes-chained n.dependencies; dependants = nodes-chained n.dependants }

  pub neighbours-chained : NeighboursChained needs new
  neighbours-chained =
      record { out-chained = more-most (pairs-few needs old same) n.dependencies; in-chained = more-most (pairs-few needs old same) n.dependants }

-- The pairs of a graph that shows needs are those of the needs, and at most as many.
pub shown-pairs : {WORDS NEEDS : ℕ} (needs : List Need) (g : Graph WORDS NEEDS) → Shown (reverse needs) g → PairsOf needs g
shown-pairs needs g s = s.pairs ∙ ap (λ (l : List Need). different_pairs (map ends l)) (reverse-reverse needs)

pub shown-few : {WORDS NEEDS : ℕ} {graph : List Need} (g : Graph WORDS NEEDS) → Shown graph g → g.pairs.count ≤ length graph
shown-few {graph = graph} g s = omega (arith, pairs-few (reverse graph) g s.pairs, length-reverse graph)

-- The pairs of a graph that shows needs are of its items.
pub shown-room : {WORDS NEEDS : ℕ} {graph : List Need} (g : Graph WORDS NEEDS) → Shown graph g → LinkRoom g
shown-room g s = record { from-below = s.from-below; to_below = s.to_below }

pub shown-room16 : {WORDS NEEDS : ℕ} {graph : List Need} (g : Graph WORDS NEEDS) → Shown graph g → length graph < 65536 → LinkRoom16 g
shown-room16 {graph = graph} g s h = record { most = omega (arith, h, shown-few g s); room = shown-room g s }

-- Fewer than 65,536 places hold so few pairs that entries fit 16 bits.
pub few-room : {WORDS NEEDS : ℕ} (g : Graph WORDS NEEDS) → NEEDS < 65536 → LinkRoom g → LinkRoom16 g
few-room g h r = record { most = omega (arith, h, g.pairs.within); room = r }

-- They are those of the needs, so that once the neighbours are chained, the needs are laid out.
pub shown-laid : {WORDS NEEDS : ℕ} (needs : List Need) (old : Graph WORDS NEEDS) {new : Graph WORDS NEEDS} → Shown (reverse needs) old
    → (PairsOf needs old → NeighboursLaid needs new) → new.nodes ≡ old.nodes → AllLinked old new → Laid needs new
shown-laid needs old s n nodes l =
    record {
      neighbours = n (shown-pairs needs old s);
      paths-shown = rw (l.words-kept, nodes, ap (λ (m : Matrices). m.paths) l.matrices-kept) s.in-paths;
      weak-shown = rw (l.words-kept, nodes, ap (λ (m : Matrices). m.weak) l.matrices-kept) s.weights;
    }

-- The neighbours of an item on its chain, once the pairs are chained from cleared heads on.
module _ {WORDS NEEDS : ℕ} (needs : List Need) (g : Graph WORDS NEEDS) (same : PairsOf needs g) where
  most : g.pairs.count ≤ NEEDS
  most = g.pairs.within

  pub dependencies-linked : {next₀ : List ℕ} (old new : Chains item_limit NEEDS)
      → Linked 0 (take g.pairs.count g.pairs.from) (length (take g.pairs.count g.pairs.from)) (replicate g.nodes 0 ++ drop g.nodes old.heads) next₀ new.heads new.next
      → (x : ℕ) → x < g.nodes → neighbours_at g.pairs.to new x ≡ dependencies_of needs x
  unfolding nodes_along
  dependencies-linked old new l x below =
      places-linked _ _ _ _ _ _ _ (omega (arith, g.pairs.sizes, most)) (omega (arith, g.pairs.sizes, most)) (omega (arith, new.sizes, most)) l x
      (omega (arith, new.sizes, g.fits.numbers, g.fits.most)) (head-cleared g.nodes old.heads x below)
      ∙ seconds-out g.pairs.from g.pairs.to g.pairs.count needs same x

  pub dependants-linked : {next₀ : List ℕ} (old new : Chains item_limit NEEDS)
      → Linked 0 (take g.pairs.count g.pairs.to) (length (take g.pairs.count g.pairs.to)) (replicate g.nodes 0 ++ drop g.nodes old.heads) next₀ new.heads new.next
      → (x : ℕ) → x < g.nodes → neighbours_at g.pairs.from new x ≡ dependants_of needs x
  unfolding nodes_along
  dependants-linked old new l x below =
      places-linked _ _ _ _ _ _ _ (omega (arith, g.pairs.sizes, most)) (omega (arith, g.pairs.sizes, most)) (omega (arith, new.sizes, most)) l x
      (omega (arith, new.sizes, g.fits.numbers, g.fits.most)) (head-cleared g.nodes old.heads x below)
      ∙ seconds-in g.pairs.from g.pairs.to g.pairs.count needs same x

-- Chains whose first heads were cleared have no places.
pub none-linked : {NEEDS n : ℕ} (ends : List ℕ) (old new : Chains item_limit NEEDS) → new.heads ≡ replicate n 0 ++ drop n old.heads
    → (x : ℕ) → x < n → neighbours_at ends new x ≡ []
unfolding nodes_along
none-linked {n = n} ends old new e x below =
    ap (map (λ i. get_or ends i 0)) (places-none new.next (get_or new.heads x 0) (rw e (head-cleared n old.heads x below)))

-- Nor are any places in use on them.
pub none-chained : {NEEDS n : ℕ} (neighbours : ℕ → List ℕ) (ends : List ℕ) (old new : Chains item_limit NEEDS) → n ≤ item_limit
    → new.heads ≡ replicate n 0 ++ drop n old.heads → ((x : ℕ) → neighbours x ≡ []) → Chained 0 neighbours n ends new.heads new.next
unfolding targets chain
none-chained {n = n} neighbours ends old new most e none =
    record {
      count = 0;
      few = omega arith;
      ends-size = omega arith;
      next-size = omega arith;
      heads-size = omega (arith, new.sizes);
      ends-below = λ i h. absurd (omega arith);
      leading = record { heads-most = λ x h. omega (arith, ap (λ (l : List ℕ). get_or l x 0) e, head-cleared n old.heads x h); next-onward = λ i h. absurd (omega arith) };
      along = λ x h. sym (none x);
    }
