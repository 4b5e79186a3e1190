use Rattle.std.proofs.Common.{ℕ, List, refl, sym, ap, ◌∙◌, ◌≡◌, ◌∷◌, length}
use Rattle.rules.specs.Project.{Project, circle_lists}
use Rattle.rules.specs.Calls.{group_bytes}
use Rattle.owners.specs.GroupBytes.{groups_whole, groups_lists}
use Rattle.order.specs.Turns.{Ready, TurningAt}
use Rattle.order.specs.LoopLaws.{turn-start, turn-formed, turn-taking, turn-kept}
use Rattle.order.proofs.turns.Turns.keep_groups.Goals as goal
use Rattle.order.proofs.turns.Turns.keep_groups.Goals.{In-Some}

pub new-members-items-requires : goal.new-members-items-requires
new-members-items-requires c = let known = c.requires in rw known.3 (groups_whole known.1)

pub loop-members-init : goal.loop-members-init
loop-members-init c = (
  refl,
  λ p groups allowance ready bytes count.
      let all = c.into_iter-members-iterator.ensures.into_iter_gives ∙ c.new-members-items.ensures ∙ ap circle_lists bytes ∙ groups_lists groups in
      rw all (turn-start allowance bytes count refl refl refl),
)

-- the turn of the group is next
next : (c : In-Some) {p : Project} {groups : List (List ℕ)} (allowance : ℕ) → Ready p groups c.args.self.now → c.args.bytes.now ≡ group_bytes groups
    → c.args.count ≡ length groups → TurningAt p groups allowance c.args.out.now c.loop-members.out c.loop-members.t (c.in-Some.members.now ∷ c.next.new.self)
next c {p} {groups} allowance ready bytes count = rw c.in-Some.ensures.steps at (c.loop-members.invariant.1 p groups allowance ready bytes count)

pub keeps_row_order-requires : goal.keeps_row_order-requires
keeps_row_order-requires c =
    let known = c.requires in
    turn-formed known.2 (next (goal.at.keeps_row_order-requires c).In-Some 0 known.2 known.3 known.4)

pub keep_group-t-requires : goal.keep_group-t-requires
keep_group-t-requires c =
    let known = c.requires in
    let s = next (goal.at.keep_group-t-requires c).In-Some 0 known.2 known.3 known.4 in
    (known.0, s.earlier, turn-taking known.2 s (c.loop-members.invariant.0 ∙ known.5))

pub loop-members-preserved : goal.loop-members-preserved
loop-members-preserved c = (
  c.keep_group-t.auto.out ∙ c.loop-members.invariant.0,
  λ p groups allowance ready bytes count.
      let s = next (goal.at.loop-members-preserved c).In-Some allowance ready bytes count in
      let size = c.loop-members.invariant.0 ∙ c.requires.5 in
      turn-kept ready s (sym (c.if-not-keeps_row_order.ensures p ready.imports-shown)) (c.keep_group-t.ensures p s.earlier (turn-taking ready s size)),
)
