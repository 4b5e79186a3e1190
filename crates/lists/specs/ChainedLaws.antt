-- Laws of chains as src/chains.rt keeps them. Assumes nothing.
use Rattle.std.specs.Prelude.{ℕ, zero, suc, ◌+◌, ◌-◌, ◌≤◌, ◌<◌, ◌≡◌, refl, Option, Some, None, eqb, ltb, length, get_or, take, drop, replicate}
use Rattle.std.specs.Iterator.{YieldsFirst}
use Rattle.std.proofs.Common.{arith, sym, ap, subst, ◌∙◌, length-take, length-drop, length-take-le, get_or-take, get_or-drop, eqb-true, ltb-true, ltb-false}
use Rattle.std.proofs.Math.Seq.{take-take}
use Rattle.std.proofs.Math.ListN.{get_or-append}
use Rattle.std.proofs.lemmas.Bool.{eqb-false}
use Rattle.std.proofs.lemmas.List.{length-replicate, get_or-replicate, ext_get_or}
use Rattle.std.proofs.Math.Numerals.{sub-one}
use Rattle.std.proofs.Math.Logic.{◌⊎◌, inl, inr, ⊎_elim}
use mathlib.Core.List.Memᴰ
use mathlib.Core.List.{List, [], ◌∷◌, ◌++◌, map, zip_with}
use Rattle.rules.specs.Lists.{positions_from}
use Rattle.laws.specs.Lists.{◌∈◌, ∈-self, Tested, holds, fails, tested}
use Rattle.laws.specs.Counting.{Below, below-nil}
use Rattle.laws.specs.Orders.{positions-∈}
use Rattle.lists.specs.Chained.{places, Leads, Ascends}
use Rattle.lists.specs.ChainLaws.{chain-end, chain-step, chain-below, chain-most, targets-more}
use Rattle.lists.specs.Pairs.{pair, seconds_of, pairs_of, chain, targets, Onward, Linked}
use Rattle.lists.specs.PairLaws.{targets-seconds}

-- None from the end on; else the first place, and those behind it.
pub places-none : (next : List ℕ) (entry : ℕ) → entry ≡ 0 → places next entry ≡ []
places-none next entry e = rw e (chain-end next (length next))

pub places-first : (next : List ℕ) (entry : ℕ) → Leads next entry → 0 < entry
    → places next entry ≡ (entry - 1) ∷ places next (get_or next (entry - 1) 0)
places-first next zero l h = absurd (omega arith)
places-first next (suc i) l h = rw sub-one (chain-step (length next) 0 next (λ j _. l.onward j) i (omega arith) l.most)

-- Each is one of the array's.
pub places-below : (next : List ℕ) (entry : ℕ) → Leads next entry → Below (length next) (places next entry)
places-below next entry l = chain-below (length next) next l.onward (length next) entry l.most

pub places-most : (next : List ℕ) (entry : ℕ) → length (places next entry) ≤ length next
places-most next entry = chain-most next (length next) entry

-- What a call of an iterator leaves is below a bound if what was left before it was.
pub below-left : {S : Type 0} (rest : S → List ℕ) {bound : ℕ} (s t : S) (r : Option ℕ) → YieldsFirst rest s r t → Below bound (rest s) → Below bound (rest t)
below-left rest s t None h below = rw h.1 below-nil
below-left rest {bound} s t (Some x) h below = λ y m. below y (rw h (Memᴰ.tail m))

-- Heads of which the first n were cleared.
pub head-cleared : (n : ℕ) (heads : List ℕ) (x : ℕ) → x < n → get_or (replicate n 0 ++ drop n heads) x 0 ≡ 0
head-cleared n heads x h =
    get_or-append (replicate n 0) (drop n heads) 0 x (rw length-replicate h) ∙ get_or-replicate n x 0 0 h

-- Once n pairs are chained, what stands in `to` at the places of a key whose head was cleared are the second numbers of its pairs.
module _ (from to heads₀ next₀ heads next : List ℕ) (n : ℕ) (from-size : n ≤ length from) (to-size : n ≤ length to) (next-size : n ≤ length next)
    (k : Linked 0 (take n from) (length (take n from)) heads₀ next₀ heads next) where
  keys-length : length (take n from) ≡ n
  keys-length = length-take-le n from from-size

  pub linked-all : Linked 0 (take n from) n heads₀ next₀ heads next
  linked-all = subst (λ (c : ℕ). Linked 0 (take n from) c heads₀ next₀ heads next) keys-length k

  pub places-linked : (a : ℕ) → a < length heads → get_or heads₀ a 0 ≡ 0
      → map (λ i. get_or to i 0) (places next (get_or heads a 0)) ≡ seconds_of a (pairs_of from to n)
  unfolding targets pairs_of
  places-linked a within none =
      targets-more n next (λ j. linked-all.next-onward j (omega arith)) to (length next) (get_or heads a 0) next-size (linked-all.heads-onward a none).1
      ∙ targets-seconds (take n from) to heads₀ next₀ heads next n (omega (arith, keys-length)) to-size linked-all a within none
      ∙ ap (λ (x : List ℕ). seconds_of a (zip_with pair x (take n to))) (take-take n n from (omega arith))

-- Chaining the first n of some keys chains n pairs by them.
pub linked-first : {n : ℕ} {from heads₀ next₀ heads next : List ℕ} → n ≤ length from → Linked 0 (take n from) (length (take n from)) heads₀ next₀ heads next
    → Linked 0 from n heads₀ next₀ heads next
linked-first {n} {from} {heads₀} {next₀} {heads} {next} h k =
    let l : Linked 0 (take n from) n heads₀ next₀ heads next =
    subst (λ (c : ℕ). Linked 0 (take n from) c heads₀ next₀ heads next) (length-take-le n from h) k in
    record {
      chains = λ a within z. l.chains a within z ∙ ap (λ (f : List ℕ). positions_from 0 (λ x. eqb x a) (drop 0 f)) (take-take n n from (omega arith));
      heads-onward = l.heads-onward;
      next-onward = l.next-onward;
      heads-rest = l.heads-rest;
      next-rest = l.next-rest;
    }

-- Once n pairs are chained whose keys are all below b, the heads from b on are as they were.
module _ (from heads₀ next₀ heads next : List ℕ) (n b : ℕ) (l : Linked 0 from n heads₀ next₀ heads next) (same : length heads ≡ length heads₀)
    (below : (i : ℕ) → i < n → get_or from i 0 < b) where
  -- the chain of another key has no places
  free : (k e : ℕ) → b ≤ k → e ≤ n → chain next n e ≡ positions_from 0 (λ x. eqb x k) (take n from) → e ≡ 0
  free k zero h g c = refl
  free k (suc i) h g c =
      let first : chain next n (suc i) ≡ i ∷ chain next n (get_or next i 0) = chain-step n 0 next l.next-onward i (omega arith) g in
      let r = positions-∈ (λ x. eqb x k) 0 0 (take n from) (subst (λ (l : List ℕ). i ∈ l) (sym first ∙ c) ∈-self) in
      let key : get_or (take n from) r.0 0 ≡ k = eqb-true (get_or (take n from) r.0 0) k r.3 in
      let within : r.0 < n = omega (arith, r.2, length-take n from) in
      absurd (omega (arith, key, get_or-take n from r.0 0 within, below r.0 within))

  head_kept : (k : ℕ) → b ≤ k → k < length heads → get_or heads k 0 ≡ get_or heads₀ k 0
  head_kept k h g = go (tested (eqb (get_or heads₀ k 0) 0))
    where
      go : Tested (eqb (get_or heads₀ k 0) 0) → get_or heads k 0 ≡ get_or heads₀ k 0
      go (holds e) =
          let none : get_or heads₀ k 0 ≡ 0 = eqb-true (get_or heads₀ k 0) 0 e in
          free k (get_or heads k 0) h (l.heads-onward k none).1 (l.chains k g none) ∙ sym none
      go (fails e) = l.heads-rest k (eqb-false (get_or heads₀ k 0) 0 e)

  pub heads-past : drop b heads ≡ drop b heads₀
  heads-past =
      ext_get_or 0 (drop b heads) (drop b heads₀) (omega (arith, length-drop b heads, length-drop b heads₀))
      (λ i h. rw (get_or-drop b heads, get_or-drop b heads₀) (head_kept (b + i) (omega arith) (omega (arith, length-drop b heads))))

-- Chains that ascend do so again where each head is that of one of n places or as it was, each of these places leads onward, and the others are as they
-- were.
module _ (heads₀ next₀ heads next : List ℕ) (n : ℕ) (a : Ascends heads₀ next₀) (same : length next ≡ length next₀) (within : n ≤ length next)
    (begins : (k : ℕ) → (get_or heads k 0 ≤ n) ⊎ (get_or heads k 0 ≡ get_or heads₀ k 0))
    (onward : (i : ℕ) → i < n → Onward (suc i) n (get_or next i 0)) (rest : drop n next ≡ drop n next₀) where
  left_behind : (i : ℕ) → n ≤ i → get_or next i 0 ≡ get_or next₀ i 0
  left_behind i h =
      let e : n + (i - n) ≡ i = omega arith in
      rw (get_or-drop n next, get_or-drop n next₀, e) at (ap (λ (k : List ℕ). get_or k (i - n) 0) rest)

  next-within : (i : ℕ) → i < length next → Tested (ltb i n) → Onward (suc i) (length next) (get_or next i 0)
  next-within i h (holds e) = let o = onward i (ltb-true i n e) in (o.0, omega (arith, within, o.1))
  next-within i h (fails e) = rw (left_behind i (ltb-false i n e), same) (a.onward i (omega (arith, same)))

  pub ascends-again : Ascends heads next
  ascends-again =
      record {
        most = λ k. ⊎_elim (λ few. omega (arith, within, few)) (λ kept. omega (arith, same, a.most k, kept)) (begins k);
        onward = λ i h. next-within i h (tested (ltb i n));
      }

-- They do once more pairs are chained.
module _ (from heads₀ next₀ heads next : List ℕ) (n : ℕ) (l : Linked 0 from n heads₀ next₀ heads next) where
  begins : (k : ℕ) → Tested (eqb (get_or heads₀ k 0) 0) → (get_or heads k 0 ≤ n) ⊎ (get_or heads k 0 ≡ get_or heads₀ k 0)
  begins k (holds e) = inl (l.heads-onward k (eqb-true (get_or heads₀ k 0) 0 e)).1
  begins k (fails e) = inr (l.heads-rest k (eqb-false (get_or heads₀ k 0) 0 e))

  pub ascends-linked : n ≤ length next → length next ≡ length next₀ → Ascends heads₀ next₀ → Ascends heads next
  ascends-linked within same a =
      ascends-again heads₀ next₀ heads next n a same within (λ k. begins k (tested (eqb (get_or heads₀ k 0) 0))) (λ i h. l.next-onward i (omega arith) h) l.next-rest
