-- Neighbours of items on chains of arrays that are lent. Assumes nothing.
use Rattle.std.specs.Prelude.{ℕ, suc, ◌≤◌, ◌<◌, ◌≡◌, List, map, length, get_or, drop}
use Rattle.rules.specs.Project.{Need}
use Rattle.rules.specs.Paths.{dependencies_of, dependants_of}
use Rattle.lists.specs.Pairs.{Pair, pair, different_pairs, pairs_of, targets, Onward}

abbrev pub ends : Need → Pair
ends n = pair n.dependant n.dependency

-- On chains of n items with `count` places in use, heads and entries are those of such places or 0, and each place leads only to places behind it.
pub record Leading (n count : ℕ) (heads next : List ℕ) : Type 0 where
  pub heads-most : (x : ℕ) → x < n → get_or heads x 0 ≤ count
  pub next-onward : (i : ℕ) → i < count → Onward (suc i) count (get_or next i 0)

-- The neighbours of n items on chains: along the chain of each number below n, from heads[x] by `next`, stand its neighbours in their order, as entries
-- of `ends`. The first `count` places are in use, of which there are at most `most`. Entries lead onward and the numbers are items, so that a loop along a
-- chain ends and may use them.
pub record Chained (most : ℕ) (neighbours : ℕ → List ℕ) (n : ℕ) (ends heads next : List ℕ) : Type 0 where
  pub count : ℕ
  pub few : count ≤ most
  pub ends-size : count ≤ length ends
  pub next-size : count ≤ length next
  pub heads-size : n ≤ length heads
  pub ends-below : (i : ℕ) → i < count → get_or ends i 0 < n
  pub leading : Leading n count heads next
  pub along : (x : ℕ) → x < n → targets ends next count (get_or heads x 0) ≡ neighbours x

-- What chaining the neighbours of n items asks for.
pub record LinksRoom (n : ℕ) (from to : List ℕ) (count : ℕ) (heads-out next-out heads-in next-in : List ℕ) : Type 0 where
  pub most : count < 65536
  pub from-size : count ≤ length from
  pub to-size : count ≤ length to
  pub next-out-size : count ≤ length next-out
  pub next-in-size : count ≤ length next-in
  pub heads-out-size : n ≤ length heads-out
  pub heads-in-size : n ≤ length heads-in
  pub from-below : (i : ℕ) → i < count → get_or from i 0 < n
  pub to_below : (i : ℕ) → i < count → get_or to i 0 < n

-- "`Dependencies` are outgoing, `Dependants` incoming", of needs in row order.
pub record Neighbours (most n : ℕ) (needs : List Need) (from to heads-out next-out heads-in next-in : List ℕ) : Type 0 where
  pub dependencies : Chained most (dependencies_of needs) n to heads-out next-out
  pub dependants : Chained most (dependants_of needs) n from heads-in next-in

-- What becomes of the chains of one side: they lead onward, and the heads from n on and the places from `count` on are as they were.
pub record Relinked (n count : ℕ) (heads₀ next₀ heads next : List ℕ) : Type 0 where
  pub leading : Leading n count heads next
  pub heads-rest : drop n heads ≡ drop n heads₀
  pub next-rest : drop count next ≡ drop count next₀

-- What it gives: where the pairs are the different ones of some needs, those needs' neighbours.
pub record LinksMade (n : ℕ) (from to : List ℕ) (count : ℕ) (old-heads-out old-out old-heads-in old-in heads-out next-out heads-in next-in : List ℕ)
    : Type 0 where
  pub neighbours : (needs : List Need) → pairs_of from to count ≡ different_pairs (map ends needs)
      → Neighbours count n needs from to heads-out next-out heads-in next-in
  pub outgoing : Relinked n count old-heads-out old-out heads-out next-out
  pub incoming : Relinked n count old-heads-in old-in heads-in next-in
