use Rattle.sort.specs.EntryLaws.{report-written}
use Rattle.sort.proofs.Numbers.write.Goals as goal

pub returns : goal.returns
returns c a e =
    report-written a c.args.report.now c.requires e c.write32.ensures c.write32-2.ensures c.write32-3.ensures c.write32-4.ensures
    c.write32-5.ensures
