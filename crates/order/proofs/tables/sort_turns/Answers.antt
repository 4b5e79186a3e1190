use Rattle.std.proofs.Common.{ℕ, List, rules, refl, sym, ap, ◌∙◌, ◌∷◌}
use Rattle.rules.specs.Project.{Project, circle_lists}
use Rattle.owners.specs.GroupBytes.{groups_whole, groups_lists}
use Rattle.order.specs.Turns.{TurningAt}
use Rattle.order.specs.Stops.{Sorting, SortTurn}
use Rattle.order.specs.LoopLaws.{turn-formed, turn-taking, turn-some, turn-within, turn-kept, sort-turn, turn-sorted, turn-stopped, turn_end}
use Rattle.order.proofs.tables.sort_turns.Given.{Over}
use Rattle.order.proofs.tables.sort_turns.Goals as goal
use Rattle.order.proofs.tables.sort_turns.Goals.{In-Some}

pub new-members-items-requires : goal.new-members-items-requires
new-members-items-requires g c = let place = c.requires.3.turning.place in rw place.bytes_left (groups_whole c.requires.3.turning.rest)

pub loop-members-init : goal.loop-members-init
loop-members-init g c = (
  refl,
  λ p groups before h.
      let s = h.turning in
      let all = c.into_iter-members-iterator.ensures.into_iter_gives ∙ c.new-members-items.ensures ∙ ap circle_lists s.place.bytes_left ∙ groups_lists s.rest in
      rw all s.place,
)

-- the turn of the group is next,
next : (g : Over) (c : In-Some g) {p : Project} {groups : List (List ℕ)} {before : List ℕ}
    → Sorting g.row.WORDS g.row.NEEDS p groups c.args.turns.now c.args.needs.now c.args.allowance before c.args.out.now c.args.first
    → TurningAt p groups c.args.allowance before c.loop-members.out c.loop-members.t (c.in-Some.members.now ∷ c.next.new.self)
next g c {p} {groups} {before} h = rw c.in-Some.ensures.steps at (c.loop-members.invariant.1 p groups before h)

-- and the group can be sorted in it
sortable : (g : Over) (c : In-Some g) {p : Project} {groups : List (List ℕ)} {before : List ℕ} {rest : List (List ℕ)}
    → Sorting g.row.WORDS g.row.NEEDS p groups c.args.turns.now c.args.needs.now c.args.allowance before c.args.out.now c.args.first
    → (s : TurningAt p groups c.args.allowance before c.loop-members.out c.loop-members.t (c.in-Some.members.now ∷ rest))
    → SortTurn g.row.WORDS g.row.NEEDS p s.earlier c.in-Some.members.now c.args.turns.now c.args.needs.now c.args.allowance c.loop-members.t
    c.loop-members.out
sortable g c h s = (sort-turn h.ready s h.chained h.sized (c.loop-members.invariant.0 ∙ h.size))

pub keeps_row_order-requires : goal.keeps_row_order-requires
keeps_row_order-requires g c = let known = c.requires.3 in turn-formed known.ready (next g (goal.at.keeps_row_order-requires g c).In-Some known)

pub keep_group-t-requires : goal.keep_group-t-requires
keep_group-t-requires g c =
    let known = c.requires in
    let s = next g (goal.at.keep_group-t-requires g c).In-Some known.3 in
    (known.0, s.earlier, turn-taking known.3.ready s (c.loop-members.invariant.0 ∙ known.3.size))

pub loop-members-preserved-then-keeps_row_order : goal.loop-members-preserved-then-keeps_row_order
loop-members-preserved-then-keeps_row_order g c = (
  c.keep_group-t.auto.out ∙ c.loop-members.invariant.0,
  λ p groups before h.
      let s = next g (goal.at.loop-members-preserved-then-keeps_row_order g c).In-Some h in
      let size = c.loop-members.invariant.0 ∙ h.size in
      turn-kept h.ready s (sym (c.if-keeps_row_order.ensures p h.ready.imports-shown)) (c.keep_group-t.ensures p s.earlier (turn-taking h.ready s size)),
)

pub sort_group-requires : goal.sort_group-requires
sort_group-requires g c =
    let known = c.requires in
    let one = (goal.at.sort_group-requires g c).In-Some in
    let s = next g one known.3 in
    (search rules, (search rules, (known.0, s.earlier, sortable g one known.3 s)))

pub after-t-requires-clause-members : goal.after-t-requires-clause-members
after-t-requires-clause-members g c =
    let known = c.requires.3 in
    turn-formed known.ready (next g (goal.at.after-t-requires-clause-members g c).In-Some known)

pub after-t-requires-clause-left_nonzero : goal.after-t-requires-clause-left_nonzero
after-t-requires-clause-left_nonzero g c =
    let known = c.requires.3 in
    let s = next g (goal.at.after-t-requires-clause-left_nonzero g c).In-Some known in
    (turn-some known.ready s, turn-within known.ready s)

pub loop-members-preserved : goal.loop-members-preserved
loop-members-preserved g c = (
  c.sort_group.auto.out ∙ c.loop-members.invariant.0,
  λ p groups before h.
      let one = (goal.at.loop-members-preserved g c).In-Some in
      let s = next g one h in
      turn-sorted h.ready s (sym (c.if-keeps_row_order.ensures p h.ready.imports-shown)) (c.in-Ok.ensures.sorts p s.earlier (sortable g one h s))
      c.after-t.ensures,
)

pub returns-in-Err : goal.returns-in-Err
returns-in-Err g c =
    λ p groups before h.
    let one = (goal.at.returns-in-Err g c).In-Some in
    let s = next g one h in
    rw c.stopped.ensures
    (turn-stopped h.ready s (sym (c.if-keeps_row_order.ensures p h.ready.imports-shown)) (c.in-Err.ensures.kept c.in-Err.stop refl)
    (c.in-Err.ensures.sorts p s.earlier (sortable g one h s)))

-- all groups have had their turns,
-- and what the last of these has left
-- is what they come to
pub returns : goal.returns
returns g c = λ p groups before h. turn_end (rw c.in-None.ensures.steps.0 at (c.loop-members.invariant.1 p groups before h))
