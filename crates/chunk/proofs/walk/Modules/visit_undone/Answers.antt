-- `Modules::visit_undone` meets its contract. No undone imports, or some. Assumes nothing.
use Rattle.std.proofs.Common.{refl, []}
use Rattle.chunk.proofs.CameLaws.{front_below, group-room, came-grouped, alone-members, marks-more, marks-none, is-alone, is-importing}
use Rattle.chunk.proofs.walk.Modules.visit_undone.Goals as goal

pub count_all-open-requires : goal.count_all-open-requires
count_all-open-requires c = alone-members c.requires.1.walking

pub with-requires : goal.with-requires
with-requires c = front_below c.requires.1.walking

pub grouped-requires : goal.grouped-requires
grouped-requires c = let u = c.requires.1 in group-room u.walking (is-alone u c.count_all-open.ensures c.if-open-eq0.true)

pub returns-then-open-eq0 : goal.returns-then-open-eq0
returns-then-open-eq0 c b u =
    came-grouped u.walking (is-alone u c.count_all-open.ensures c.if-open-eq0.true) _ refl c.grouped.ensures
    (marks-more c.with.result 0 c.args.m.0 [] marks-none c.with.ensures)

pub visit_importing-requires : goal.visit_importing-requires
visit_importing-requires c = (c.requires.0, is-importing c.requires.1 c.count_all-open.ensures c.if-open-eq0.false)

pub returns : goal.returns
returns c b u = c.visit_importing.ensures b (is-importing u c.count_all-open.ensures c.if-open-eq0.false)
