-- A run over slices meets its contract, by that of `Writes::run`. Assumes nothing.
use Rattle.std.proofs.Common.{rules}
use Rattle.stmt.proofs.RunLaws.{ran-same}
use Rattle.stmt.proofs.slices.run.Goals as goal

pub returns : goal.returns
returns c i walked s e same h =
    ran-same walked c.args.count (search rules) (search rules) (search rules) (search rules) (search rules) (c.run.ensures.ran i walked s e same h)
