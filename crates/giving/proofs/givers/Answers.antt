use mathlib.Core.Path.{sym, ◌∙◌}
use lib.Dec.{eqb}
use Rattle.rules.specs.Project.{Item, item_row, pair_rows}
use Rattle.rules.specs.Items.{is_kept}
use Rattle.lists.specs.Bits.{bit}
use Rattle.giving.specs.Giving.{is_giver}
use Rattle.giving.specs.SetLaws.{gathering-start, gathering-below, gathering-next, gathering-end, gathered, not-gathered}
use Rattle.giving.proofs.givers.Goals as goal

pub loop-row-init : goal.loop-row-init
loop-row-init c =
    let started = gathering-start (λ (r : Item). r.in_module) is_giver (pair_rows item_row c.args.items.now) c.requires in
    (tt, tt, rw (c.into_iter-row-iterator.ensures.into_iter_gives, c.new-row-items.ensures) started)

pub with-set-requires : goal.with-set-requires
with-set-requires c = gathering-below _ _ c.loop-row.invariant.2 c.in-Some.ensures.steps

pub loop-row-preserved-then-is_kept : goal.loop-row-preserved-then-is_kept
loop-row-preserved-then-is_kept c =
    let row = c.in-Some.row in
    let kept = sym c.is_kept.ensures ∙ c.if-is_kept.true in (
      tt,
      tt,
      gathering-next _ _ c.loop-row.invariant.2 c.in-Some.ensures.steps _
          (λ m. c.with-set.ensures m ∙ gathered (eqb m row.in_module.0) (is_kept row.kind.0) (bit c.loop-row.set m) kept),
    )

pub loop-row-preserved : goal.loop-row-preserved
loop-row-preserved c =
    let row = c.in-Some.row in
    let kept = sym c.is_kept.ensures ∙ c.if-is_kept.false in (
      tt,
      tt,
      gathering-next _ _ c.loop-row.invariant.2 c.in-Some.ensures.steps _
          (λ m. not-gathered (eqb m row.in_module.0) (is_kept row.kind.0) (bit c.loop-row.set m) kept),
    )

pub returns : goal.returns
returns c = gathering-end _ _ c.loop-row.invariant.2 c.in-None.ensures.steps.0
