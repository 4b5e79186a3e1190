use Rattle.std.proofs.Common.{length}
use Rattle.sort.specs.EntryLaws.{entered-short, entered-long}
use Rattle.sort.proofs.report.enter.Goals as goal

pub returns-then-report-lt-SIZE : goal.returns-then-report-lt-SIZE
returns-then-report-lt-SIZE g c =
    let a = c.args in
    rw c.into.ensures (entered-short (g.C.Call.answer a.project.now (length a.reply.now) a.allowance) a.reply.now a.report.now c.if-report-lt-SIZE.true)

pub returns : goal.returns
returns g c =
    let a = c.args in
    entered-long (g.C.Call.answer a.project.now (length a.reply.now) a.allowance) a.reply.now a.report.now c.if-report-lt-SIZE.false
    c.make-numbers.ensures (c.write.ensures _ c.make-numbers.ensures.numbers)
