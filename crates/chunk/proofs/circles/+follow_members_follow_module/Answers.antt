use Rattle.std.proofs.Common.{arith, ℕ, ◌<◌, get_or, sym, ◌∙◌}
use Rattle.rules.specs.Project.{module_limit}
use Rattle.laws.specs.Orders.{get_or-∈}
use Rattle.chunk.specs.declared.circles.Following.{Following}
use Rattle.chunk.specs.CircleLaws.{unfollowed-more, unfollowed-fewer, follows-none, follows-noted, follows-unnoted, follows-all, follows-module}
use Rattle.chunk.proofs.circles.+follow_members_follow_module.Goals as goal
use Rattle.chunk.proofs.circles.+follow_members_follow_module.Goals.{follow_members-In-loop-member, follow_members-then-not-has, follow_members-else-not-has, follow_module-After-with-s}

pub follow_members-loop-member-init : goal.follow_members-loop-member-init
follow_members-loop-member-init t c = follows-none c.args.section.now c.args.s.now

-- a member at a turn is a module
members_below : (t : ℕ) (c : follow_members-In-loop-member t) → get_or c.args.members.now c.loop-member.member-index 0 < module_limit
members_below t c = c.requires.below _ (get_or-∈ c.args.members.now c.loop-member.member-index 0 c.loop-member-test.true)

pub follow_members-has-requires : goal.follow_members-has-requires
follow_members-has-requires t c = members_below t (goal.at.follow_members-has-requires t c).In-loop-member

pub follow_members-follow_module-requires : goal.follow_members-follow_module-requires
follow_members-follow_module-requires t c =
    let fewer = unfollowed-more c.args.s.now.noted c.loop-member.s.noted c.loop-member.invariant.keeps in (
      omega (arith, c.decreases),
      record {
        sound = c.requires.sound;
        below = members_below t (goal.at.follow_members-follow_module-requires t c).In-loop-member;
        to-follow = sym c.has.ensures ∙ c.if-not-has.true;
      },
    )

pub follow_members-loop-member-preserved : goal.follow_members-loop-member-preserved
follow_members-loop-member-preserved t c =
    let a = c.args in
    let l = c.loop-member in
    elim c.if-not-has.branch [
      | follow_members-then-not-has w ↦ rw w.s-is
          (follows-unnoted a.section.now a.members.now l.member-index c.loop-member-test.true l.invariant (sym c.has.ensures ∙ w.if-not-has.true) w.follow_module.ensures)
      | follow_members-else-not-has w ↦ rw w.s-is
          (follows-noted a.section.now a.members.now l.member-index c.loop-member-test.true l.invariant (sym c.has.ensures ∙ w.if-not-has.false))
    ]

pub follow_members-returns : goal.follow_members-returns
follow_members-returns t c = follows-all c.args.section.now c.args.members.now c.loop-member.member-index c.loop-member-test.false c.loop-member.invariant

-- what following the members begins with
abbrev begun : (t : ℕ) → follow_module-After-with-s t → Following
begun t c = record { gathered = c.append_new.new.self; noted = c.with-s.result }

pub follow_module-follow_members-requires : goal.follow_module-follow_members-requires
follow_module-follow_members-requires t c =
    let before = (goal.at.follow_module-follow_members-requires t c).After-with-s in
    let fewer =
    unfollowed-fewer c.args.section.now c.args.m.0 (begun t before) c.listed_with-listed.result c.requires c.listed_with-listed.ensures
    (rw c.members-members.ensures at c.append_new.ensures) c.with-s.ensures in (
      omega (arith, c.decreases),
      record { sound = c.requires.sound; below = rw c.members-members.ensures c.listed_with-listed.result.below },
    )

pub follow_module-returns : goal.follow_module-returns
follow_module-returns t c =
    let before = (goal.at.follow_module-returns t c).After-with-s in
    follows-module c.args.section.now c.args.m.0 (begun t before) c.listed_with-listed.result c.requires c.listed_with-listed.ensures
    (rw c.members-members.ensures at c.append_new.ensures) c.with-s.ensures (rw c.members-members.ensures at c.follow_members.ensures)
