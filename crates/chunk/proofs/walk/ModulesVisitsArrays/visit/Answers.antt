-- `Modules::visit` meets its contract. A module that is done, or one that is not. Assumes nothing.
use Rattle.std.proofs.Common.{sym, ◌∙◌}
use Rattle.chunk.specs.RunLaws.{entries-left, walking_on}
use Rattle.chunk.proofs.CameLaws.{front_below, behind, at_front, from_front, is-passed, is-undone}
use Rattle.chunk.proofs.walk.ModulesVisitsArrays.visit.Goals as goal

pub overflow_sub-m : goal.overflow_sub-m
overflow_sub-m c = let r = c.requires.walking in entries-left r.2.shows r.3

pub has-requires : goal.has-requires
has-requires c = let r = c.requires.walking in front_below (at_front r.2 (entries-left r.2.shows r.3))

pub passed-requires : goal.passed-requires
passed-requires c = let r = c.requires.walking in entries-left r.2.shows r.3

pub returns-then-has : goal.returns-then-has
returns-then-has c p s h e =
    rw c.passed.ensures (walking_on h e (is-passed h (entries-left h.shows e) (sym c.has.ensures ∙ c.if-has.true)))

pub visit_undone-requires : goal.visit_undone-requires
visit_undone-requires c =
    let r = c.requires.walking in (
      behind r.0 c.args.arrays.now c.args.w r.1,
      is-undone r.2 (entries-left r.2.shows r.3) (sym c.has.ensures ∙ c.if-has.false),
    )

pub returns : goal.returns
returns c p s h e =
    let some = entries-left h.shows e in
    walking_on h e
    (from_front h some (c.visit_undone.ensures (behind p c.args.arrays.now c.args.w s) (is-undone h some (sym c.has.ensures ∙ c.if-has.false))))
