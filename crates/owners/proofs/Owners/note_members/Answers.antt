use Rattle.std.proofs.Common.{arith, ◌<◌, length, get_or}
use Rattle.laws.specs.Orders.{get_or-∈}
use Rattle.owners.specs.OwnerLaws.{noting-next, noting-end}
use Rattle.owners.proofs.Owners.note_members.Goals as goal
use Rattle.owners.proofs.Owners.note_members.Goals.{In-loop-m}

-- each member is a place of the array
within : (c : In-loop-m) → get_or c.args.members.now c.loop-m.m-index 0 < length c.loop-m.self.array
within c = omega (arith, c.requires _ (get_or-∈ c.args.members.now c.loop-m.m-index 0 c.loop-m-test.true), c.loop-m.self.size)

pub bounds-self-from : goal.bounds-self-from
bounds-self-from c = omega (arith, within (goal.at.bounds-self-from c).In-loop-m, c.loop-m.self.size)

pub loop-m-preserved : goal.loop-m-preserved
loop-m-preserved c =
    let a = c.args in
    noting-next a.members.now a.owner a.self.now.array c.loop-m.self.array c.loop-m.m-index c.loop-m.invariant c.loop-m-test.true c.from.ensures
    (omega (arith, within (goal.at.loop-m-preserved c).In-loop-m)) c.or.ensures

pub returns : goal.returns
returns c =
    let a = c.args in
    noting-end a.members.now a.owner a.self.now.array c.loop-m.self.array c.loop-m.m-index c.loop-m.invariant c.loop-m-test.false
