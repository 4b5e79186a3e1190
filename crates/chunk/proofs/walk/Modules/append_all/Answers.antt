use Rattle.std.proofs.Common.{◌+◌, drop, get_or}
use Rattle.laws.specs.Orders.{get_or-∈}
use Rattle.chunk.specs.Circles.{gathered_on}
use Rattle.chunk.specs.Imports.{open_of, open_imports}
use Rattle.chunk.proofs.ImportLaws.{members_step, members-end}
use Rattle.chunk.specs.AppendLaws.{appending-start, appending-rest, appending-more, appending-end}
use Rattle.chunk.proofs.walk.Modules.append_all.Goals as goal

pub loop-member-init : goal.loop-member-init
loop-member-init c = appending-start c.args.circle.now _

pub append_open-requires : goal.append_open-requires
append_open-requires c = let circle = c.args.circle.now in circle.below _ (get_or-∈ (gathered_on circle) c.loop-member.member-index 0 c.loop-member-test.true)

pub loop-member-preserved : goal.loop-member-preserved
loop-member-preserved c =
    let imports = c.args.self.now.imports.now in
    let done = c.args.done in
    let circle = c.args.circle.now in
    let i = c.loop-member.member-index in
    appending-more (open_of imports done circle.have (get_or (gathered_on circle) i 0)) (open_imports imports done circle.have (drop (i + 1) (gathered_on circle)))
    (appending-rest (members_step imports done circle.have (gathered_on circle) i c.loop-member-test.true) c.loop-member.invariant) c.append_open.ensures

pub returns : goal.returns
returns c =
    let circle = c.args.circle.now in
    appending-end
    (appending-rest (members-end c.args.self.now.imports.now c.args.done circle.have (gathered_on circle) c.loop-member.member-index c.loop-member-test.false)
    c.loop-member.invariant)
