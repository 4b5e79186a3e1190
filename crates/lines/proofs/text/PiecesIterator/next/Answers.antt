-- `next` of the iterator over a text's pieces meets its contract. Assumes nothing.
use Rattle.std.proofs.Common.{ℕ, ◌≡◌, ◌+◌, Bool, true, false, not, List, [], Option, None, Some, cond, arith, rules, tests, ltb, eqb, length, take, drop, ◌∙◌, refl, ap, Bor}
use Rattle.std.specs.Prelude.{unwrap_or, position}
use Rattle.std.specs.List.{position_or_len}
use Rattle.std.specs.Slice.{IsGetRangeResult}
use Rattle.std.proofs.lemmas.Bool.{ltb-false}
use Rattle.std.proofs.lemmas.List.{drop-drop}
use Rattle.std.proofs.lemmas.List.Sums.{prefix_len-le-length}
use Rattle.std.proofs.lemmas.Iterator.{YieldsList-from_slice}
use Rattle.std.proofs.lemmas.Iterator.Search.{position_from_yields_List}
use Rattle.std.proofs.lemmas.Grind.{common_steps}
use Rattle.lines.proofs.text.PiecesIterator.next.Goals as goal

-- The place that a search gives, or the length where it gives none.
place : (p : ℕ → Bool) (xs : List ℕ) {r : Option ℕ} {n : ℕ} → r ≡ position p xs → n ≡ unwrap_or r (length xs) → n ≡ position_or_len p xs
place p xs e f = rw (f, e) (go (ltb (position_or_len p xs) (length xs)) refl)
  where
    go : (b : Bool) → ltb (position_or_len p xs) (length xs) ≡ b → unwrap_or (cond b (Some (position_or_len p xs)) None) (length xs) ≡ position_or_len p xs
    go true h = refl
    go false h = omega (arith, prefix_len-le-length (λ x. not (p x)) xs, ltb-false _ _ h)

-- What is left behind the first byte, if there is one.
behind : (xs : List ℕ) (r : Option (Bor (List ℕ))) (none : Bor (List ℕ)) {rest : Bor (List ℕ)} → IsGetRangeResult xs 1 (length xs) r → none.now ≡ []
    → rest ≡ unwrap_or r none → rest.now ≡ drop 1 xs
behind xs None none h e f = rw (f, e) (grind (arith, common_steps))
behind xs (Some x) none h e f = rw f (grind (arith, common_steps))

pub returns-clause-steps : goal.returns-clause-steps
returns-clause-steps c =
    let ends : ℕ → Bool = λ byte. eqb byte c.args.self.now.end in
    let all : List ℕ = c.args.self.now.rest.now in
    let found : c.position-at.result ≡ position ends all =
    position_from_yields_List ends _ _ c.position-at.result c.position-at.ensures.ran (YieldsList-from_slice all (cc)) (λ x b q k. search (rules, tests)) in
    let len = place ends all found c.unwrap_or.ensures in
    let left = behind _ c.get.result _ c.get.ensures.lookup refl c.unwrap_or-self.ensures in
    record {
      piece_is = c.split_at.ensures.front ∙ ap (λ n. take n all) len;
      rest_is = left ∙ ap (drop 1) c.split_at.ensures.back ∙ drop-drop 1 c.unwrap_or.result all ∙ ap (λ n. drop (n + 1) all) len;
      same_end = refl;
      shorter = search rules;
    }
