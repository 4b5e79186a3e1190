use Rattle.std.proofs.Common.{◌≡◌, ℕ, ◌+◌, ◌-◌, ◌≤◌, List, ◌++◌, rules, length, take, length-take-le, sym, ap, ◌∙◌, subst}
use Rattle.std.proofs.Math.Seq.{take-append-add}
use Rattle.std.proofs.lemmas.List.{take-append-le}
use Rattle.std.specs.Io.KnownBytes.{Consumes}
use Rattle.std.proofs.KnownBytes.{Consumes-trans}
use borrow.Rule.Slice.PartMut.{put_mid, post_of}
use Rattle.input.proofs.read_full.Goals as goal

-- What stood in front, and what a read then put behind it, is the front of the new bytes.
take_split : (a n k : ℕ) (xs ys : List ℕ) → a ≤ length xs → n ≤ length ys → take a xs ++ take n ys ≡ take (a + n) (put_mid a k xs ys)
take_split a n k xs ys within fits =
    let rest = ys ++ post_of a k xs in
    ap (λ l. take a xs ++ l) (sym (take-append-le n ys (post_of a k xs) fits)) ∙ sym (take-append-add (take a xs) rest n)
    ∙ ap (λ m. take (m + n) (take a xs ++ rest)) (length-take-le a xs within)

pub loop-at-preserved : goal.loop-at-preserved
loop-at-preserved g c =
    let from = c.loop-at.at in
    let room = length c.loop-at.buf - from in
    let joined = take_split from c.in_ok-n.n room c.loop-at.buf c.read.new.buf c.loop-at.invariant.0 c.in_ok-n.ensures.bound.0 in
    (search rules, subst (Consumes _ _) joined (Consumes-trans _ _ _ _ _ c.loop-at.invariant.1 c.in_ok-n.ensures.bytes.0))
