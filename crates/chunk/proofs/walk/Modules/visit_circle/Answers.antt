-- `Modules::visit_circle` meets its contract. A whole circle, or one with imports outside it. Assumes nothing.
use Rattle.std.proofs.Common.{refl}
use Rattle.chunk.proofs.CameLaws.{group-room, came-grouped, is_whole, is-leaving}
use Rattle.chunk.proofs.walk.Modules.visit_circle.Goals as goal

pub grouped-requires : goal.grouped-requires
grouped-requires c =
    let k = c.requires.1 in
    rw c.members-then-open-eq0.ensures (group-room k.undone.walking (is_whole k (rw c.members.ensures at c.count_all-open.ensures) c.if-open-eq0.true))

pub returns-then-open-eq0 : goal.returns-then-open-eq0
returns-then-open-eq0 c b k =
    came-grouped k.undone.walking (is_whole k (rw c.members.ensures at c.count_all-open.ensures) c.if-open-eq0.true) _ refl
    (rw c.members-then-open-eq0.ensures at c.grouped.ensures) c.args.circle.now.marks

pub visit_leaving-requires : goal.visit_leaving-requires
visit_leaving-requires c = (c.requires.0, is-leaving c.requires.1 (rw c.members.ensures at c.count_all-open.ensures) c.if-open-eq0.false)

pub returns : goal.returns
returns c b k = c.visit_leaving.ensures b (is-leaving k (rw c.members.ensures at c.count_all-open.ensures) c.if-open-eq0.false)
