-- `sort_group` meets its contract: its parts in turn. Assumes nothing.
use Rattle.std.proofs.Common.{ℕ, List, rules, ◌∙◌, ◌≡◌}
use Rattle.std.proofs.lemmas.Result.{err_from_is_err_and}
use Rattle.rules.specs.Project.{Project}
use Rattle.rules.specs.Items.{giving_modules}
use Rattle.group.specs.Sorts.{Sortable}
use Rattle.order.specs.Stops.{SortTurn}
use Rattle.order.specs.TurnLaws.{found-same}
use Rattle.order.specs.SortTurnLaws.{rows-given, rows-written, sort-stopped}
use Rattle.order.proofs.tables.sort_group.Given.{Over}
use Rattle.order.proofs.tables.sort_group.Goals as goal
use Rattle.order.proofs.tables.sort_group.Goals.{After-as_slice}

-- the modules found are those of the group that give,
found : (g : Over) (c : After-as_slice g) {p : Project} {earlier : List (List ℕ)}
    → SortTurn g.row.WORDS g.row.NEEDS p earlier c.args.members.now c.args.turns.now c.args.needs.now c.args.allowance c.args.t c.args.out.now
    → c.as_slice.result.now ≡ giving_modules p earlier c.args.members.now
found g c h = found-same h.taking (c.as_slice.ensures.value ∙ c.giving_modules-given.ensures)

-- and can be sorted
able : (g : Over) (c : After-as_slice g) {p : Project} {earlier : List (List ℕ)}
    → SortTurn g.row.WORDS g.row.NEEDS p earlier c.args.members.now c.args.turns.now c.args.needs.now c.args.allowance c.args.t c.args.out.now
    → Sortable g.row.WORDS g.row.NEEDS p c.as_slice.result.now c.args.turns.now.items c.args.needs.now.section.now c.of_group.result.next.now c.of_group.result.entry
able g c h = rw (found g c h, c.of_group.ensures.next, c.of_group.ensures.entry) h.sortable

pub sort_stmts-requires : goal.sort_stmts-requires
sort_stmts-requires g c =
    let known = c.requires.2 in
    (search rules, (c.requires.0, able g (goal.at.sort_stmts-requires g c).After-as_slice known))

pub returns-in_err-made-clause-sorts : goal.returns-in_err-made-clause-sorts
returns-in_err-made-clause-sorts g c =
    let e = err_from_is_err_and c.from_residual.result c.from_residual.ensures.1 in
    let given = (goal.at.returns-in_err-made-clause-sorts g c).After-as_slice in
    λ p earlier h. rw (e.1, e.2) (sort-stopped p _ (rw (found g given h) at (c.in_err-made.ensures p (able g given h))) (λ d short. short))

pub write_rows-kept-requires : goal.write_rows-kept-requires
write_rows-kept-requires g c =
    let p = c.requires.0 in
    let known = c.requires.2 in
    let given = (goal.at.write_rows-kept-requires g c).After-as_slice in
    (search rules, rows-given p _ c.args.t.kept c.args.out.now (rw (found g given known) at (c.in_ok-made.ensures p (able g given known))) known.rows-room)

pub returns-clause-sorts : goal.returns-clause-sorts
returns-clause-sorts g c =
    let given = (goal.at.returns-clause-sorts g c).After-as_slice in
    λ p earlier h.
    rows-written p _ (rw (found g given h) at (c.in_ok-made.ensures p (able g given h))) c.write_rows-kept.ensures.written c.write_rows-kept.ensures.end
