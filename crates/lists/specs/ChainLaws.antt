-- Laws of chains: of one chain, of loops along it, and of chaining pairs. Assumes nothing.
use Prim.Native.Nat.{ℕ, zero, suc, ◌+◌, ◌-◌, ◌≤◌, ◌<◌}
use native.Mathlib.Omega.{arith}
use Rattle.std.proofs.Common.{add-one, subst, ◌∙◌, drop_of_length-le, drop-cons, get_or-set_same, get_or-set_other}
use Rattle.std.proofs.Math.Numerals.{sub-one}
use Rattle.std.specs.Prelude.{◌≡◌, refl, length, take, drop, set}
use Rattle.std.proofs.Math.Path.{sym, ap}
use mathlib.Core.List.{List, [], ◌∷◌, map}
use Rattle.std.proofs.Math.Dec.{eqb}
use Rattle.std.proofs.Math.ListN.{get_or, length-set, length-take}
use Rattle.std.specs.List.{push}
use Rattle.std.proofs.lemmas.List.{length-map, length_push, get_or_push, take_at, take-take}
use Rattle.std.proofs.Math.Seq.{drop-set-lt, get_or-take}
use borrow.Author.Tests.{eq-eqb, ne_eqb}
use Rattle.rules.specs.Lists.{cons_if, positions_from}
use Rattle.laws.specs.Counting.{Below, below-nil, below-cons}
use Rattle.lists.specs.ArrayLaws.{after-set}
use Rattle.lists.specs.Pairs.{chain, targets, Onward, Linked}

pub chain-end : (next : List ℕ) (bound : ℕ) → chain next bound 0 ≡ []
unfolding chain
chain-end next zero = refl
chain-end next (suc bound) = refl

-- Where entries lead onward, a chain that starts from k on depends neither on its bound, if that is large enough, nor on what stands before k.
module _ (n k : ℕ) (next next' : List ℕ) (onward : (j : ℕ) → k ≤ j → j < n → Onward (suc j) n (get_or next j 0))
    (agree : (j : ℕ) → k ≤ j → get_or next j 0 ≡ get_or next' j 0) where
  pub chain_same : (f g e : ℕ) → Onward k n e → (0 < e → n < f + e) → (0 < e → n < g + e) → chain next f e ≡ chain next' g e
  unfolding chain
  chain_same zero g zero o hf hg = sym (chain-end next' g)
  chain_same zero g (suc i) o hf hg = absurd (omega (arith, hf (omega arith)))
  chain_same (suc f) g zero o hf hg = sym (chain-end next' g)
  chain_same (suc f) zero (suc i) o hf hg = absurd (omega (arith, hg (omega arith)))
  chain_same (suc f) (suc g) (suc i) o hf hg =
      let from : k ≤ i = omega (arith, o.0 (omega arith)) in
      let below : i < n = omega arith in
      let on : Onward (suc i) n (get_or next i 0) = onward i from below in
      let rest : chain next f (get_or next i 0) ≡ chain next' g (get_or next i 0) =
      chain_same f g (get_or next i 0) (λ h. omega (arith, on.0 h), on.1) (λ h. omega (arith, on.0 h, hf (omega arith)))
      (λ h. omega (arith, on.0 h, hg (omega arith))) in
      ap (λ (l : List ℕ). i ∷ l) (rest ∙ ap (chain next' g) (agree i from))

-- One step along a chain.
pub chain-step : (n k : ℕ) (next : List ℕ) → ((j : ℕ) → k ≤ j → j < n → Onward (suc j) n (get_or next j 0)) → (i : ℕ) → k ≤ i → i < n
    → chain next n (suc i) ≡ i ∷ chain next n (get_or next i 0)
unfolding chain
chain-step zero k next onward i h g = absurd (omega arith)
chain-step (suc m) k next onward i h g =
    let on = onward i h g in
    ap (λ (l : List ℕ). i ∷ l)
    (chain_same (suc m) k next next onward (λ j _. refl) m (suc m) (get_or next i 0) (λ z. omega (arith, on.0 z), on.1) (λ z. omega (arith, on.0 z)) (λ z. omega arith))

-- A larger bound gives the same chain.
chain_more : (n bound : ℕ) (next : List ℕ) → ((j : ℕ) → j < n → Onward (suc j) n (get_or next j 0)) → n ≤ bound → (e : ℕ) → e ≤ n
    → chain next bound e ≡ chain next n e
chain_more n bound next onward h e below =
    chain_same n 0 next next (λ j _. onward j) (λ j _. refl) bound n e (λ z. z, below) (λ z. omega arith) (λ z. omega arith)

-- Its places are below n.
pub chain-below : (n : ℕ) (next : List ℕ) → ((j : ℕ) → j < n → Onward (suc j) n (get_or next j 0)) → (bound e : ℕ) → e ≤ n → Below n (chain next bound e)
unfolding chain
chain-below n next onward zero e h = below-nil
chain-below n next onward (suc bound) zero h = below-nil
chain-below n next onward (suc bound) (suc i) h = below-cons h (chain-below n next onward bound (get_or next i 0) (onward i h).1)

-- how many places may stand from an entry on
unfoldable pub left : ℕ → ℕ → ℕ
left n zero = zero
left n (suc i) = n - i

-- A loop along a chain: what it meets, and that it comes to an end.
pub targets-end : (to next : List ℕ) (n : ℕ) → targets to next n 0 ≡ []
unfolding targets
targets-end to next n = ap (map (λ i. get_or to i 0)) (chain-end next n)

pub chain-most : (next : List ℕ) (bound e : ℕ) → length (chain next bound e) ≤ bound
unfolding chain
chain-most next zero e = omega arith
chain-most next (suc bound) zero = omega arith
chain-most next (suc bound) (suc i) = omega (arith, chain-most next bound (get_or next i 0))

pub targets-most : (to next : List ℕ) (bound e : ℕ) → length (targets to next bound e) ≤ bound
unfolding targets
targets-most to next bound e = omega (arith, length-map (chain next bound e) (λ i. get_or to i 0), chain-most next bound e)

module _ (n : ℕ) (next : List ℕ) (onward : (j : ℕ) → j < n → Onward (suc j) n (get_or next j 0)) where
  pub targets-more : (to : List ℕ) (bound e : ℕ) → n ≤ bound → e ≤ n → targets to next bound e ≡ targets to next n e
  unfolding targets
  targets-more to bound e h g = ap (map (λ i. get_or to i 0)) (chain_more n bound next onward h e g)

  pub targets-step : (to : List ℕ) (e : ℕ) → 0 < e → e ≤ n → targets to next n e ≡ get_or to (e - 1) 0 ∷ targets to next n (get_or next (e - 1) 0)
  unfolding targets
  targets-step to zero h g = absurd (omega arith)
  targets-step to (suc i) h g = rw sub-one (ap (map (λ i. get_or to i 0)) (chain-step n 0 next (λ j _. onward j) i (omega arith) g))

  pub left_less : (e : ℕ) → 0 < e → e ≤ n → left n (get_or next (e - 1) 0) < left n e
  unfolding left
  left_less zero h g = absurd (omega arith)
  left_less (suc i) h g = rw sub-one (go (get_or next i 0) (onward i g))
    where
      go : (e : ℕ) → Onward (suc i) n e → left n e < left n (suc i)
      go zero o = omega arith
      go (suc j) o = omega (arith, o.0 (omega arith))

-- Chaining: none at first, then the pair at place i in front of those behind it.
pub link-none : (from : List ℕ) (n : ℕ) (heads next : List ℕ) → Linked n from n heads next heads next
unfolding positions_from
link-none from n heads next =
    record {
      chains = λ a h z. rw (z, chain-end, drop_of_length-le (take n from) {i = n} (omega (arith, length-take n from)));
      heads-onward = λ a z. (λ h. absurd (omega arith), omega arith);
      next-onward = λ j h g. absurd (omega arith);
      heads-rest = λ a f. refl;
      next-rest = refl;
    }

module _ (from heads₀ next₀ heads next : List ℕ) (n i a : ℕ) (within : i < n) (from-size : n ≤ length from) (next-size : n ≤ length next)
    (first : get_or from i 0 ≡ a) (l : Linked (suc i) from n heads₀ next₀ heads next) where
  -- the entry at place i may be any that leads onward
  next-onward : (e : ℕ) → Onward (suc i) n e → (j : ℕ) → i ≤ j → j < n → Onward (suc j) n (get_or (set next i e) j 0)
  next-onward e o j h g =
      after-set (Onward (suc j) n) next i j e 0 (omega arith) (λ same. rw same o) (λ f. l.next-onward j (omega arith) g)

  -- behind place i nothing has changed
  chain-behind : (e b : ℕ) → get_or heads₀ b 0 ≡ 0 → chain (set next i e) n (get_or heads b 0) ≡ chain next n (get_or heads b 0)
  chain-behind e b z =
      sym (chain_same n (suc i) next (set next i e) l.next-onward (λ j h. sym (get_or-set_other next i j e 0 (λ e. omega arith))) n n (get_or heads b 0)
      (l.heads-onward b z) (λ h. omega arith) (λ h. omega arith))

  places : (b : ℕ) → positions_from i (λ x. eqb x b) (drop i (take n from)) ≡ cons_if (eqb a b) i (positions_from (suc i) (λ x. eqb x b) (drop (suc i) (take n from)))
  unfolding positions_from
  places b = rw (drop-cons (take n from) i 0 (omega (arith, length-take n from)), get_or-take n from i 0 within, first)

  chain-new : get_or heads₀ a 0 ≡ 0 → chain (set next i (get_or heads a 0)) n (suc i) ≡ i ∷ chain next n (get_or heads a 0)
  chain-new empty =
      chain-step n i (set next i (get_or heads a 0)) (next-onward (get_or heads a 0) (l.heads-onward a empty)) i (omega arith) within
      ∙ rw (get_or-set_same next i (get_or heads a 0) 0 (omega arith)) (ap (λ (k : List ℕ). i ∷ k) (chain-behind (get_or heads a 0) a empty))

  link-step : a < length heads → get_or heads₀ a 0 ≡ 0 → Linked i from n heads₀ next₀ (set heads a (suc i)) (set next i (get_or heads a 0))
  unfolding cons_if
  link-step below empty =
      record {
        chains =
            λ b h z.
            after-set (λ e. chain (set next i (get_or heads a 0)) n e ≡ positions_from i (λ x. eqb x b) (drop i (take n from))) heads a b (suc i) 0 below
            (λ e. rw (e, places a, eq-eqb a a refl) (chain-new empty ∙ ap (λ (k : List ℕ). i ∷ k) (l.chains a below empty)))
            (λ f. rw (places b, ne_eqb a b (λ e. f (sym e))) (chain-behind (get_or heads a 0) b z ∙ l.chains b (simp length-set at h) z));
        heads-onward =
            λ b z.
            after-set (Onward i n) heads a b (suc i) 0 below (λ e. (λ h. omega arith, within))
            (λ f. let o = l.heads-onward b z in (λ h. omega (arith, o.0 h), o.1));
        next-onward = next-onward (get_or heads a 0) (l.heads-onward a empty);
        heads-rest =
            λ b f.
            after-set (λ e. e ≡ get_or heads₀ b 0) heads a b (suc i) 0 below (λ e. absurd (f (ap (λ (k : ℕ). get_or heads₀ k 0) e ∙ empty)))
            (λ g. l.heads-rest b f);
        next-rest = drop-set-lt n next i (get_or heads a 0) within ∙ l.next-rest;
      }

  -- a pair on no chain, whose entry ends
  link-pass : (get_or heads₀ a 0 ≡ 0 → ⊥) → Linked i from n heads₀ next₀ heads (set next i 0)
  unfolding cons_if
  link-pass taken =
      record {
        chains =
            λ b h z. rw (places b, ne_eqb a b (λ e. taken (ap (λ (k : ℕ). get_or heads₀ k 0) e ∙ z))) (chain-behind 0 b z ∙ l.chains b h z);
        heads-onward = λ b z. let o = l.heads-onward b z in (λ h. omega (arith, o.0 h), o.1);
        next-onward = next-onward 0 (λ h. absurd (omega arith), omega arith);
        heads-rest = l.heads-rest;
        next-rest = drop-set-lt n next i 0 within ∙ l.next-rest;
      }

-- the same, from a count of the pairs that are left
pub link-turn : (from heads₀ next₀ heads next : List ℕ) (n i : ℕ) → 0 < i → i ≤ n → n ≤ length from → n ≤ length next → get_or from (i - 1) 0 < length heads
    → get_or heads₀ (get_or from (i - 1) 0) 0 ≡ 0 → Linked i from n heads₀ next₀ heads next
    → Linked (i - 1) from n heads₀ next₀ (set heads (get_or from (i - 1) 0) (i - 1 + 1)) (set next (i - 1) (get_or heads (get_or from (i - 1) 0) 0))
link-turn from heads₀ next₀ heads next n i more within from-size next-size below empty l =
    let e : i ≡ suc (i - 1) = omega arith in
    rw add-one
    (link-step from heads₀ next₀ heads next n (i - 1) (get_or from (i - 1) 0) (omega arith) from-size next-size refl
    (subst (λ (k : ℕ). Linked k from n heads₀ next₀ heads next) e l) below empty)

pub link-past : (from heads₀ next₀ heads next : List ℕ) (n i : ℕ) → 0 < i → i ≤ n → n ≤ length from → n ≤ length next
    → (get_or heads₀ (get_or from (i - 1) 0) 0 ≡ 0 → ⊥) → Linked i from n heads₀ next₀ heads next
    → Linked (i - 1) from n heads₀ next₀ heads (set next (i - 1) 0)
link-past from heads₀ next₀ heads next n i more within from-size next-size taken l =
    let e : i ≡ suc (i - 1) = omega arith in
    link-pass from heads₀ next₀ heads next n (i - 1) (get_or from (i - 1) 0) (omega arith) from-size next-size refl
    (subst (λ (k : ℕ). Linked k from n heads₀ next₀ heads next) e l) taken

-- the first keys of a list, and those without the last of them
pub first-but-last : (keys some more : List ℕ) (key : ℕ) → some ≡ push more key → some ≡ take (length some) keys
    → (length some ≡ length more + 1) × (more ≡ take (length more) keys) × (get_or keys (length more) 0 ≡ key)
first-but-last keys some more key e h =
    let count : length some ≡ length more + 1 = ap length e ∙ length_push more key in
    let front : take (length more + 1) keys ≡ push more key = rw (← count) (sym h ∙ e) in
    let below : length more < length more + 1 = omega arith in (
      count,
      sym (take_at more (key ∷ []) (length more) refl) ∙ sym (ap (take (length more)) front) ∙ take-take (length more) (length more + 1) keys (omega arith),
      sym (get_or-take (length more + 1) keys (length more) 0 below) ∙ ap (λ (l : List ℕ). get_or l (length more) 0) front ∙ get_or_push more key 0 (length more) refl,
    )
