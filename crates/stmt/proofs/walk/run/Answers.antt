-- `stmt::walk::run` meets its contract, by that of a run over slices. Assumes nothing.
use Rattle.stmt.proofs.LendLaws.{lent-walks, arrays-ran}
use Rattle.stmt.proofs.walk.run.Goals as goal

pub run-requires : goal.run-requires
run-requires g c =
    let r = c.requires in
    (r.0, r.1, r.2.laid.count-is, lent-walks r.2 c.of.result c.of.ensures.width (c.of.ensures.laid r.0 r.2.laid))

pub returns : goal.returns
returns g c i walked s same h =
    let r = c.of.result in
    arrays-ran h r c.of.ensures.width walked c.args.group.now.split.count
    (c.run.ensures i walked s h.laid.count-is same (lent-walks h r c.of.ensures.width (c.of.ensures.laid i h.laid)))
