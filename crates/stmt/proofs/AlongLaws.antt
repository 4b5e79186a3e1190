-- Laws of neighbours along a chain on two slices. Assumes nothing.
use Rattle.std.specs.Prelude.{ℕ, zero, suc, ◌-◌, ◌≤◌, ◌<◌, ◌≡◌, length, get_or}
use Rattle.std.proofs.Common.{arith, refl, ap, ◌∙◌, sub-one}
use mathlib.Core.List.Memᴰ
use mathlib.Core.List.{List, [], ◌∷◌, map}
use Rattle.laws.specs.Lists.{∈-self}
use Rattle.laws.specs.Counting.{Below}
use Rattle.lists.specs.Pairs.{chain, targets, Onward}
use Rattle.lists.specs.ChainLaws.{chain_same, chain-below, targets-end, targets-more}
use Rattle.stmt.specs.declared.slices.Links.{Links}
use Rattle.stmt.specs.Alongs.{Onwards, nodes_from}
use Rattle.stmt.specs.Slices.{Chained}

pub along-none : (ends next : List ℕ) (entry : ℕ) → entry ≡ 0 → nodes_from ends next entry ≡ []
along-none ends next entry e = rw e (targets-end ends next (length next))

-- A chain that has ended at a bound has ended at each larger one.
ended-more : (next : List ℕ) (bound e : ℕ) → chain next bound e ≡ chain next (suc bound) e → chain next (suc bound) e ≡ chain next (suc (suc bound)) e
unfolding chain
ended-more next zero zero h = refl
ended-more next zero (suc i) h = absurd (omega (arith, ap length h))
ended-more next (suc bound) zero h = refl
ended-more next (suc bound) (suc i) h =
    let rest : chain next bound (get_or next i 0) ≡ chain next (suc bound) (get_or next i 0) = cc in
    ap (λ (l : List ℕ). i ∷ l) (ended-more next bound (get_or next i 0) rest)

-- Behind the first place it has ended too.
ended-behind : (next : List ℕ) (bound i : ℕ) → chain next bound (suc i) ≡ chain next (suc bound) (suc i)
    → chain next bound (get_or next i 0) ≡ chain next (suc bound) (get_or next i 0)
unfolding chain
ended-behind next zero i h = absurd (omega (arith, ap length h))
ended-behind next (suc bound) i h =
    let rest : chain next bound (get_or next i 0) ≡ chain next (suc bound) (get_or next i 0) = cc in
    ended-more next bound (get_or next i 0) rest

first-place : (next : List ℕ) (bound i : ℕ) → chain next bound (suc i) ≡ chain next (suc bound) (suc i)
    → chain next bound (suc i) ≡ i ∷ chain next bound (get_or next i 0)
unfolding chain
first-place next bound i h = h

pub along-chain : {ends next : List ℕ} (entry : ℕ) → Onwards ends next entry → 0 < entry
    → chain next (length next) entry ≡ (entry - 1) ∷ chain next (length next) (get_or next (entry - 1) 0)
along-chain zero l more = absurd (omega arith)
along-chain {next = next} (suc i) l more = rw sub-one (first-place next (length next) i l.ending)

pub along-first : {ends next : List ℕ} (entry : ℕ) → Onwards ends next entry → 0 < entry
    → nodes_from ends next entry ≡ get_or ends (entry - 1) 0 ∷ nodes_from ends next (get_or next (entry - 1) 0)
unfolding targets
along-first {ends} entry l more = ap (map (λ i. get_or ends i 0)) (along-chain entry l more)

pub along-ends : {ends next : List ℕ} (entry : ℕ) → Onwards ends next entry → 0 < entry → entry - 1 < length ends
along-ends entry l more = l.ends-below (entry - 1) (rw (along-chain entry l more) ∈-self)

pub along-next : {ends next : List ℕ} (entry : ℕ) → Onwards ends next entry → 0 < entry → entry - 1 < length next
along-next entry l more = l.next-below (entry - 1) (rw (along-chain entry l more) ∈-self)

pub along-left : {ends next : List ℕ} (entry : ℕ) → Onwards ends next entry → 0 < entry → Onwards ends next (get_or next (entry - 1) 0)
along-left zero l more = absurd (omega arith)
along-left {next = next} (suc i) l more =
    let e = along-chain (suc i) l more in
    record {
      ends-below = λ y m. l.ends-below y (rw e (Memᴰ.tail m));
      next-below = λ y m. l.next-below y (rw e (Memᴰ.tail m));
      ending = rw sub-one (ended-behind next (length next) i l.ending);
    }

-- Where places in use lead onward.
chain-ended : (next : List ℕ) (n : ℕ) → ((i : ℕ) → i < n → Onward (suc i) n (get_or next i 0)) → n ≤ length next → (e : ℕ) → e ≤ n
    → chain next (length next) e ≡ chain next (suc (length next)) e
chain-ended next n onward size e h =
    chain_same n 0 next next (λ j _. onward j) (λ j _. refl) (length next) (suc (length next)) e (λ z. z, h) (λ z. omega arith) (λ z. omega arith)

module _ {neighbours : ℕ → List ℕ} {n : ℕ} {links : Links} (c : Chained neighbours n links) (x : ℕ) (h : x < n) where
  places-below : Below c.count (chain links.next.now (length links.next.now) (get_or links.heads.now x 0))
  places-below = chain-below c.count links.next.now c.next-onward (length links.next.now) (get_or links.heads.now x 0) (c.heads-most x h)

  pub chain-leads : Onwards links.ends.now links.next.now (get_or links.heads.now x 0)
  chain-leads =
      record {
        ends-below = λ y m. omega (arith, places-below y m, c.ends-size);
        next-below = λ y m. omega (arith, places-below y m, c.next-size);
        ending = chain-ended links.next.now c.count c.next-onward c.next-size (get_or links.heads.now x 0) (c.heads-most x h);
      }

  pub chain-along : nodes_from links.ends.now links.next.now (get_or links.heads.now x 0) ≡ neighbours x
  chain-along =
      targets-more c.count links.next.now c.next-onward links.ends.now (length links.next.now) (get_or links.heads.now x 0) c.next-size (c.heads-most x h)
      ∙ c.along x h
