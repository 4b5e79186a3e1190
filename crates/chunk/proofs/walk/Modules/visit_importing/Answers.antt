-- `Modules::visit_importing` meets its contract. No circle, or one that is gathered. Assumes nothing.
use Rattle.std.proofs.Common.{refl}
use Rattle.chunk.proofs.CameLaws.{front_below, marks-shown, came-expanded, expandable, alone-members, importing-count, is-uncircled, is-circled}
use Rattle.chunk.proofs.walk.Modules.visit_importing.Goals as goal

pub circle_of-circle-requires : goal.circle_of-circle-requires
circle_of-circle-requires c = let h = c.requires.1.undone.walking in record { sound = h.sound; below = front_below h }

pub expanded-requires-clause-members : goal.expanded-requires-clause-members
expanded-requires-clause-members c = alone-members c.requires.1.undone.walking

pub expanded-requires-clause-expandable : goal.expanded-requires-clause-expandable
expanded-requires-clause-expandable c =
    let i = c.requires.1 in
    let h = i.undone.walking in
    expandable h 0 (alone-members h) (importing-count i)

pub returns-then-circle-eq0 : goal.returns-then-circle-eq0
returns-then-circle-eq0 c b i =
    let h = i.undone.walking in
    came-expanded h _ refl (is-uncircled i c.circle_of-circle.result c.circle_of-circle.ensures c.if-circle-eq0.true) c.expanded.ensures (marks-shown h)

pub visit_circle-requires : goal.visit_circle-requires
visit_circle-requires c = (c.requires.0, is-circled c.requires.1 c.circle_of-circle.result c.circle_of-circle.ensures c.if-circle-eq0.false)

pub returns : goal.returns
returns c b i = c.visit_circle.ensures b (is-circled i c.circle_of-circle.result c.circle_of-circle.ensures c.if-circle-eq0.false)
