use Rattle.giving.specs.SetLaws.{joining-next, joining-end, member_below}
use Rattle.giving.proofs.with_members.Goals as goal

pub with-all-requires : goal.with-all-requires
with-all-requires c = member_below c.requires c.loop-m.m-index c.loop-m-test.true

pub loop-m-preserved : goal.loop-m-preserved
loop-m-preserved c =
    let head = c.loop-m in
    let a = c.args in
    joining-next a.members.now a.set head.m-index head.all head.invariant _ c.loop-m-test.true c.with-all.ensures

pub returns : goal.returns
returns c =
    let head = c.loop-m in
    let a = c.args in
    joining-end a.members.now a.set head.m-index head.all head.invariant c.loop-m-test.false
