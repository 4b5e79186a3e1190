-- Lists that stand one behind the other, by the first of them. Assumes nothing.
use Prim.Native.Nat.{ℕ, zero, suc, ◌≤◌, ◌<◌}
use native.Mathlib.Omega.{arith}
use Rattle.std.specs.Prelude.{◌≡◌, true, false, leb, length, take, drop}
use Rattle.std.proofs.Math.Path.{refl, sym, ap}
use mathlib.Core.List.{List, [], ◌∷◌}
use mathlib.Core.List.Memᴰ
use borrow.Author.Tests.{leb-false}
use Rattle.laws.specs.Lists.{∈-self, false≢true}
use Rattle.laws.specs.Counting.{neither, EachBelow, below-nil, below-cons, each-cons, tail-∈}
use Rattle.rules.specs.Project.{join_first, lists_from, circle_lists, bad_circles}
use Rattle.project.specs.Counted.{is_whole, AreWhole}

-- What follows a count byte of n.
pub record First (n : ℕ) (rest : List ℕ) : Type 0 where
  pub within : n ≤ length rest
  pub whole : AreWhole (drop n rest)
  pub lists : lists_from n rest ≡ take n rest ∷ circle_lists (drop n rest)

first-list : (n : ℕ) (rest : List ℕ) → is_whole n rest ≡ true → First n rest
unfolding is_whole lists_from join_first circle_lists
first-list zero [] e = record { within = omega arith; whole = e; lists = refl }
first-list zero (n ∷ rest) e = record { within = omega arith; whole = e; lists = refl }
first-list (suc n) [] e = absurd (false≢true e)
first-list (suc n) (m ∷ rest) e =
    let f = first-list n rest e in
    record { within = omega (arith, f.within); whole = f.whole; lists = ap (join_first m) f.lists }

pub whole_first : (n : ℕ) (rest : List ℕ) → AreWhole (n ∷ rest) → First n rest
unfolding is_whole
whole_first n rest e = first-list n rest e

pub lists_first : {n : ℕ} {bytes rest list after : List ℕ} → AreWhole bytes → bytes ≡ n ∷ rest → list ≡ take n rest → after ≡ drop n rest
    → circle_lists bytes ≡ list ∷ circle_lists after
unfolding circle_lists lists_from
lists_first {n} {rest = rest} w e f g = rw (e, f, g) (whole_first n rest (rw e at w)).lists

pub lists_none : (bytes : List ℕ) → length bytes ≡ 0 → circle_lists bytes ≡ []
unfolding circle_lists lists_from
lists_none [] e = refl
lists_none (n ∷ rest) e = absurd (omega arith)

-- Circles that number 8 lets pass are whole.
whole-left : (modules left : ℕ) (bytes : List ℕ) → bad_circles modules left bytes ≡ false → is_whole left bytes ≡ true
unfolding bad_circles is_whole
whole-left modules zero [] e = refl
whole-left modules zero (n ∷ rest) e = whole-left modules n rest e
whole-left modules (suc left) [] e = absurd (false≢true (sym e))
whole-left modules (suc left) (m ∷ rest) e = whole-left modules left rest (neither {a = leb modules m} e).1

pub circles_whole : (modules : ℕ) (bytes : List ℕ) → bad_circles modules 0 bytes ≡ false → AreWhole bytes
circles_whole modules bytes e = whole-left modules 0 bytes e

-- Their members are modules.
join-below : {bound m : ℕ} (ls : List (List ℕ)) → m < bound → EachBelow bound ls → EachBelow bound (join_first m ls)
unfolding join_first
join-below [] h b = b
join-below (l ∷ ls) h b = each-cons (below-cons h (b l ∈-self)) (λ k m. b k (Memᴰ.tail m))

lists-below : (bound left : ℕ) (bytes : List ℕ) → bad_circles bound left bytes ≡ false → EachBelow bound (lists_from left bytes)
unfolding bad_circles lists_from
lists-below bound zero [] e = each-cons below-nil (λ k m. absurd (Memᴰ.not-nil m))
lists-below bound zero (n ∷ bytes) e = each-cons below-nil (lists-below bound n bytes e)
lists-below bound (suc left) [] e = absurd (false≢true (sym e))
lists-below bound (suc left) (m ∷ bytes) e =
    let r = neither {a = leb bound m} e in
    join-below (lists_from left bytes) (leb-false bound m r.0) (lists-below bound left bytes r.1)

pub circles_below : (modules : ℕ) (bytes : List ℕ) → bad_circles modules 0 bytes ≡ false → EachBelow modules (circle_lists bytes)
unfolding circle_lists
circles_below modules bytes e l m = lists-below modules 0 bytes e l (tail-∈ (lists_from 0 bytes) m)
