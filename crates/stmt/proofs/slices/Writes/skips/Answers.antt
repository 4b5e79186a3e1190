-- `Writes::skips` meets its contract, by the laws of step 2 for one dependency. Assumes nothing.
use Rattle.std.proofs.Common.{sym, ◌∙◌}
use Rattle.stmt.proofs.StateLaws.{cell, shows-moved}
use Rattle.stmt.proofs.FindLaws.{skipped-inside, passed-injected, passed-pathless, skipped-noted}
use Rattle.stmt.proofs.slices.Writes.skips.Goals as goal
use Rattle.stmt.proofs.slices.Writes.skips.Goals.{then-is_injected-via-then-is_injected, then-is_injected-via-else-is_injected+then-not-has_path}

pub returns-then-has_in_range-clause-skipped : goal.returns-then-has_in_range-clause-skipped
returns-then-has_in_range-clause-skipped c i w s h x d = skipped-inside h x c.args.d.0 (sym c.has_in_range.ensures ∙ c.if-has_in_range.true)

pub returns-then-is_injected-clause-skipped : goal.returns-then-is_injected-clause-skipped
returns-then-is_injected-clause-skipped c i w s h x d =
    let outside = sym c.has_in_range.ensures ∙ c.if-has_in_range.false in
    elim c.then-is_injected.branch [
      | then-is_injected-via-then-is_injected v ↦ passed-injected h x c.args.d.0 outside (sym c.is_injected.ensures ∙ v.if-is_injected.true)
      | then-is_injected-via-else-is_injected+then-not-has_path v ↦
          passed-pathless h x c.args.d.0 outside (sym c.is_injected.ensures ∙ v.if-is_injected.false)
          (sym (v.has_path.ensures i h.laid d x.below) ∙ v.if-not-has_path.true)
    ]

pub returns-clause-skipped : goal.returns-clause-skipped
returns-clause-skipped c i w s h x d =
    skipped-noted h x c.args.d.0 (sym c.has_in_range.ensures ∙ c.if-has_in_range.false)
    (sym c.is_injected.ensures ∙ c.if-is_injected.false)
    (sym (c.has_path.ensures i h.laid d x.below) ∙ c.if-not-has_path.false)
    c.note.ensures.rest.1
    (shows-moved h.shows c.args.x.id.0 c.args.d.0 x.below d c.note.ensures.noted c.note.ensures.rest)

pub note-requires : goal.note-requires
note-requires c =
    let r = c.requires in
    cell r.3.shows.pairs c.args.x.id.0 c.args.d.0 r.4.below r.5

pub has_path-requires : goal.has_path-requires
has_path-requires c = let r = c.requires in (r.0, r.3.laid, r.5, r.4.below)
