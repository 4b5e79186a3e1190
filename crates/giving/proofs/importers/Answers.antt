use Rattle.rules.specs.Project.{Import, import_row, pair_rows}
use Rattle.giving.specs.Giving.{is_importer}
use Rattle.giving.specs.SetLaws.{gathering-start, gathering-below, gathering-next, gathering-end}
use Rattle.giving.proofs.importers.Goals as goal

pub loop-row-init : goal.loop-row-init
loop-row-init c =
    let started = gathering-start (λ (r : Import). r.importer) is_importer (pair_rows import_row c.args.imports.now) c.requires in
    (tt, tt, rw (c.into_iter-row-iterator.ensures.into_iter_gives, c.new-row-items.ensures) started)

pub with-set-requires : goal.with-set-requires
with-set-requires c = gathering-below _ _ c.loop-row.invariant.2 c.in-Some.ensures.steps

pub loop-row-preserved : goal.loop-row-preserved
loop-row-preserved c = (tt, tt, gathering-next _ _ c.loop-row.invariant.2 c.in-Some.ensures.steps _ c.with-set.ensures)

pub returns : goal.returns
returns c = gathering-end _ _ c.loop-row.invariant.2 c.in-None.ensures.steps.0
