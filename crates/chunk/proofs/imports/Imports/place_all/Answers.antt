use Rattle.lists.specs.StackLaws.{placing-rest, placing-end}
use Rattle.chunk.proofs.ImportLaws.{member_below, place-room, place-next, members-end}
use Rattle.chunk.proofs.imports.Imports.place_all.Goals as goal

pub place_open-at-requires-clause-m_lt_module_limit : goal.place_open-at-requires-clause-m_lt_module_limit
place_open-at-requires-clause-m_lt_module_limit c = member_below c.requires.members c.loop-member.member-index c.loop-member-test.true

pub place_open-at-requires-clause-placeable : goal.place_open-at-requires-clause-placeable
place_open-at-requires-clause-placeable c =
    let a = c.args in
    place-room a.self.now a.done a.circle a.members.now c.loop-member.member-index c.loop-member-test.true c.loop-member.invariant

pub loop-member-preserved : goal.loop-member-preserved
loop-member-preserved c =
    let a = c.args in
    place-next a.self.now a.done a.circle a.members.now c.loop-member.member-index c.loop-member-test.true c.loop-member.invariant c.place_open-at.ensures

pub returns : goal.returns
returns c =
    let a = c.args in
    let none = members-end a.self.now a.done a.circle a.members.now c.loop-member.member-index c.loop-member-test.false in
    (placing-end (placing-rest none c.loop-member.invariant)).whole
