use Rattle.std.proofs.Common.{sym, ◌∙◌}
use Rattle.project.specs.RowLaws.{circles-end, count_at, member-bad, member-good}
use Rattle.project.proofs.rows.bad_circles.Goals as goal
use Rattle.project.proofs.rows.bad_circles.Goals.{then-left-eq0, else-left-eq0+else-modules-b}

pub returns-then-modules-b : goal.returns-then-modules-b
returns-then-modules-b c =
    let i = c.loop-b.b-index in
    let bad = member-bad c.args.modules c.args.section.now i c.loop-b.left c.loop-b-test.true c.if-left-eq0.false c.if-modules-b.true in
    sym (c.loop-b.invariant ∙ bad)

pub loop-b-preserved : goal.loop-b-preserved
loop-b-preserved c =
    let i = c.loop-b.b-index in
    let count = count_at c.args.modules c.args.section.now i c.loop-b.left c.loop-b-test.true in
    let member = member-good c.args.modules c.args.section.now i c.loop-b.left c.loop-b-test.true in
    c.loop-b.invariant ∙ elim c.if-left-eq0.branch [
      | then-left-eq0 w ↦ rw w.left-is (count w.if-left-eq0.true)
      | else-left-eq0+else-modules-b w ↦ rw w.left-is (member w.if-left-eq0.false w.if-modules-b.false)
    ]

pub returns : goal.returns
returns c = sym (c.loop-b.invariant ∙ circles-end c.args.modules c.args.section.now c.loop-b.b-index c.loop-b.left c.loop-b-test.false)
