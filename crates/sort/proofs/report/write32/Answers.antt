use Rattle.std.proofs.Common.{rules}
use Rattle.sort.specs.EntryLaws.{number-written}
use Rattle.sort.proofs.report.write32.Goals as goal

pub returns : goal.returns
returns c = number-written c.args.report.now c.copy_from_slice.new.self c.args.at c.args.n c.requires (search rules)
