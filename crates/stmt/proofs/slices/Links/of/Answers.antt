-- `Links::of` meets its contract. Assumes nothing.
use Rattle.stmt.proofs.AlongLaws.{chain-leads, chain-along}
use Rattle.stmt.proofs.slices.Links.of.Goals as goal

pub invariant_of-result : goal.invariant_of-result
invariant_of-result c = let r = c.requires in rw c.from.ensures (record { leads = chain-leads r.2 c.args.x.0 r.3 })

pub returns : goal.returns
returns c neighbours n chained below = rw c.from.ensures (chain-along chained c.args.x.0 below)
