use Rattle.std.proofs.Common.{arith, sym, ap, ◌∙◌, ◌<◌, ◌≡◌, length}
use Rattle.rules.specs.Project.{Project}
use Rattle.rules.specs.Items.{is_kept, kind_at}
use Rattle.project.specs.declared.sections.ItemRow.{ItemRow}
use Rattle.split.specs.Rows.{RowsOf}
use Rattle.split.specs.RowLaws.{kind-read, row-room}
use Rattle.giving.specs.KeptLaws.{writing-start, writing-below, writing-room, writing-one, writing-past, writing-end}
use Rattle.giving.proofs.kept.write_kept.Goals as goal
use Rattle.giving.proofs.kept.write_kept.Goals.{In-Some, After-is_kept}

pub loop-row-init : goal.loop-row-init
loop-row-init c =
    let a = c.args in
    rw (c.into_iter-row-iterator.ensures.into_iter_gives, c.rows_of-row-items.ensures.next, c.rows_of-row-items.ensures.entry)
    (tt, tt, λ p h. rw h.along (writing-start p a.m.0 a.start a.out.now h))

-- the row is one of the items
below : (c : In-Some) {p : Project} → RowsOf p c.args.m.0 c.args.items.now → c.in-Some.row < length p.items
below c {p} h = writing-below p c.args.m.0 c.args.start c.args.out.now (c.loop-row.invariant.2 p h) c.in-Some.row _ c.in-Some.ensures.steps

pub nth-requires : goal.nth-requires
nth-requires c = row-room c.requires.1 c.in-Some.row (below (goal.at.nth-requires c).In-Some c.requires.1)

-- whether it is kept
test : (c : After-is_kept) {p : Project} → RowsOf p c.args.m.0 c.args.items.now → is_kept (kind_at p c.in-Some.row) ≡ c.is_kept.result
test c {p} h =
    let k = writing-below p c.args.m.0 c.args.start c.args.out.now (c.loop-row.invariant.2 p h) c.in-Some.row _ c.in-Some.ensures.steps in
    ap is_kept (kind-read h c.in-Some.row k) ∙ sym (ap (λ (r : ItemRow). is_kept r.kind.0) c.nth.ensures) ∙ sym c.is_kept.ensures

pub overflow_cast-out : goal.overflow_cast-out
overflow_cast-out c = omega (arith, below (goal.at.overflow_cast-out c).In-Some c.requires.1, c.requires.1.most)

pub bounds-out-n : goal.bounds-out-n
bounds-out-n c =
    let a = c.args in
    writing-room c.requires.0 a.m.0 a.start a.out.now (c.loop-row.invariant.2 c.requires.0 c.requires.1) c.in-Some.row _ c.in-Some.ensures.steps
    (test (goal.at.bounds-out-n c).After-is_kept c.requires.1 ∙ c.if-is_kept.true) c.requires.3

pub loop-row-preserved-then-is_kept : goal.loop-row-preserved-then-is_kept
loop-row-preserved-then-is_kept c =
    let a = c.args in
    let at_test = (goal.at.loop-row-preserved-then-is_kept c).After-is_kept in
    (tt, tt, λ p h. writing-one p a.m.0 a.start a.out.now (c.loop-row.invariant.2 p h) c.in-Some.row _ c.in-Some.ensures.steps (test at_test h ∙ c.if-is_kept.true))

pub loop-row-preserved : goal.loop-row-preserved
loop-row-preserved c =
    let a = c.args in
    let at_test = (goal.at.loop-row-preserved c).After-is_kept in
    (tt, tt, λ p h. writing-past p a.m.0 a.start a.out.now (c.loop-row.invariant.2 p h) c.in-Some.row _ c.in-Some.ensures.steps (test at_test h ∙ c.if-is_kept.false))

pub returns : goal.returns
returns c =
    let a = c.args in
    λ p h. writing-end p a.m.0 a.start a.out.now (c.loop-row.invariant.2 p h) c.in-None.ensures.steps.0
