-- `Writes::stays` meets its contract. Assumes nothing.
use Rattle.std.proofs.Common.{arith, sym, ◌∙◌}
use Rattle.rules.specs.Items.{placed_of}
use Rattle.stmt.proofs.StateLaws.{placed-is}
use Rattle.stmt.proofs.FindLaws.{stays-placed, stays-pathless, stays-undropped}
use Rattle.stmt.proofs.slices.Writes.stays.Goals as goal

pub returns-then-has_placed : goal.returns-then-has_placed
returns-then-has_placed c i w s h x d = sym (stays-placed (placed_of s) x c.args.d.0 (placed-is h.shows c.args.d.0 d c.has_placed.ensures c.if-has_placed.true))

pub returns-then-not-has_path : goal.returns-then-not-has_path
returns-then-not-has_path c i w s h x d =
    sym
    (stays-pathless (placed_of s) x c.args.d.0 (placed-is h.shows c.args.d.0 d c.has_placed.ensures c.if-has_placed.false)
    (sym (c.has_path.ensures i h.laid d x.below) ∙ c.if-not-has_path.true))

pub returns : goal.returns
returns c i w s h x d =
    sym
    (stays-undropped (placed_of s) x c.args.d.0 (placed-is h.shows c.args.d.0 d c.has_placed.ensures c.if-has_placed.false)
    (sym (c.has_path.ensures i h.laid d x.below) ∙ c.if-not-has_path.false)
    (λ weight e. c.may_drop.ensures weight (c.is_weak.ensures i h.laid x.below d ∙ e)))

pub has_placed-requires : goal.has_placed-requires
has_placed-requires c = let r = c.requires in omega (arith, r.5, r.3.shows.placed-size)

pub has_path-requires : goal.has_path-requires
has_path-requires c = let r = c.requires in (r.0, r.3.laid, r.5, r.4.below)

pub is_weak-requires : goal.is_weak-requires
is_weak-requires c = let r = c.requires in (r.0, r.3.laid, r.4.below, r.5)
