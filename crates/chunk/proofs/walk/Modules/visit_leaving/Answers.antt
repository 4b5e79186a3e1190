-- `Modules::visit_leaving` meets its contract. A module that is marked, or one that is not. Assumes nothing.
use Rattle.std.proofs.Common.{refl, sym, ◌∙◌}
use Rattle.chunk.proofs.CameLaws.{front_below, marks-shown, group-room, came-grouped, came-expanded, expandable, circle-members, marks-more, leaving-count, gives_up, is-marked}
use Rattle.chunk.proofs.walk.Modules.visit_leaving.Goals as goal

pub has-requires : goal.has-requires
has-requires c = front_below c.requires.1.circled.undone.walking

pub grouped-requires : goal.grouped-requires
grouped-requires c =
    let l = c.requires.1 in
    rw c.members.ensures
    (group-room l.circled.undone.walking (gives_up l (sym c.has.ensures ∙ c.if-has.true) c.append_all.new.circle c.append_all.ensures))

pub returns-then-has : goal.returns-then-has
returns-then-has c b l =
    came-grouped l.circled.undone.walking (gives_up l (sym c.has.ensures ∙ c.if-has.true) c.append_all.new.circle c.append_all.ensures) _ refl
    (rw c.members.ensures at c.grouped.ensures) c.append_all.new.circle.marks

pub with-marked-requires : goal.with-marked-requires
with-marked-requires c = front_below c.requires.1.circled.undone.walking

pub expanded-requires-clause-expandable : goal.expanded-requires-clause-expandable
expanded-requires-clause-expandable c =
    let l = c.requires.1 in
    rw c.members-2.ensures
    (expandable l.circled.undone.walking c.args.circle.now.have (circle-members c.args.circle.now) (leaving-count l))

pub returns : goal.returns
returns c b l =
    let h = l.circled.undone.walking in
    came-expanded h _ refl (is-marked l (sym c.has.ensures ∙ c.if-has.false)) (rw c.members-2.ensures at c.expanded.ensures)
    (marks-more c.with-marked.result c.args.w.marks c.args.m.0 b.marks (marks-shown h) c.with-marked.ensures)
