-- `split::is_kept_as` meets its contract. Assumes nothing.
use Rattle.split.specs.RowLaws.{kept-asked}
use Rattle.split.proofs.is_kept_as.Goals as goal

pub returns : goal.returns
returns c = rw (c.is_kept.ensures, c.is_injected.ensures) (kept-asked c.args.injected c.args.kind.0)
