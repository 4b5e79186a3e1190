use Rattle.std.proofs.Common.{ℕ, suc, List, arith, rules, sym, ap, ◌∙◌, ◌-◌, ◌≤◌, ◌≡◌, length, get_or, get_or-set_other}
use Rattle.rules.specs.Project.{Project}
use Rattle.owners.specs.Owners.{Owned}
use Rattle.owners.specs.KeyLaws.{key_number, keys_of, needs-total, dependant-room, dependency-room, key-read, key_room, chaining-start, chaining-past, chaining-larger, chaining-one, heads-within, next-within, next_past, needs-along}
use Rattle.owners.proofs.NeedRows.new.Given.{Over}
use Rattle.owners.proofs.NeedRows.new.Goals as goal
use Rattle.owners.proofs.NeedRows.new.Goals.{After-nth, After-of_need, After-from}

pub loop-row-init : goal.loop-row-init
loop-row-init g c = (λ p groups o. chaining-start o c.new-chains.result.heads c.new-chains.result.next, λ j h. c.new-chains.ensures.next j)

pub of_need-requires : goal.of_need-requires
of_need-requires g c =
    let o = c.requires.2 in
    rw c.nth.ensures (dependant-room o {row = c.loop-row.row - 1} (omega arith), dependency-room o {row = c.loop-row.row - 1} (omega arith))

-- the key of the row
key : (g : Over) (c : After-of_need g) {p : Project} {groups : List (List ℕ)} → Owned p groups c.args.items.now c.args.section.now c.args.owners.now.array
    → get_or (keys_of p groups) (c.loop-row.row - 1) 0 ≡ key_number c.of_need.result
key g c o = key-read o {row = c.loop-row.row - 1} (omega arith) c.nth.ensures c.of_need.ensures

-- which has a head, where it is one
some-key : (g : Over) (c : After-from g) {p : Project} {groups : List (List ℕ)} → Owned p groups c.args.items.now c.args.section.now c.args.owners.now.array
    → get_or (keys_of p groups) (c.loop-row.row - 1) 0 ≡ suc c.from.result
unfolding key_number
some-key g c o = key g (goal.at.put_first-requires g c).After-of_need o ∙ ap key_number c.in-Some.is ∙ ap suc (sym c.from.ensures)

-- there is an entry for each need
fit : (g : Over) (c : After-nth g) {p : Project} {groups : List (List ℕ)} → Owned p groups c.args.items.now c.args.section.now c.args.owners.now.array
    → length p.needs ≤ g.row.NEEDS
fit g c o = omega (arith, needs-total o, needs-total c.requires.2, c.requires.3)

pub put_first-requires : goal.put_first-requires
put_first-requires g c =
    let o = c.requires.2 in
    let chains = c.loop-row.chains in
    let l = c.loop-row.invariant.0 c.requires.0 c.requires.1 o in
    let many = fit g (goal.at.put_first-requires g c).After-nth o in
    let k = some-key g c o in (
      search rules,
      (
        key_room o c.new-chains.result chains c.new-chains.ensures.heads many c.loop-row.row l c.loop-row-test.true (omega arith) c.from.result k,
        (
          (omega (arith, needs-total o, c.requires.3), omega (arith, needs-total o, o.accepted.needs-most)),
          λ some.
              omega (arith, chaining-larger o c.new-chains.result chains c.new-chains.ensures.heads many c.loop-row.row l c.loop-row-test.true (omega arith) c.from.result k some),
        ),
      ),
    )

pub loop-row-preserved-in-Some : goal.loop-row-preserved-in-Some
loop-row-preserved-in-Some g c =
    let at_from = (goal.at.loop-row-preserved-in-Some g c).After-from in
    let at_row = (goal.at.loop-row-preserved-in-Some g c).After-nth in
    let chains = c.loop-row.chains in
    rw (c.put_first.ensures.heads, c.put_first.ensures.next) (
      λ p groups o.
          chaining-one o c.new-chains.result chains c.new-chains.ensures.heads (fit g at_row o) c.loop-row.row (c.loop-row.invariant.0 p groups o) c.loop-row-test.true (omega arith) c.from.result
          (some-key g at_from o),
      λ j h. get_or-set_other chains.next (c.loop-row.row - 1) j (get_or chains.heads c.from.result 0) 0 (λ e. omega arith) ∙ c.loop-row.invariant.1 j (omega arith),
    )

pub loop-row-preserved : goal.loop-row-preserved
unfolding key_number
loop-row-preserved g c =
    let at_row = (goal.at.loop-row-preserved g c).After-nth in
    let chains = c.loop-row.chains in (
      λ p groups o.
          chaining-past o c.new-chains.result chains c.new-chains.ensures.heads (fit g at_row o) c.loop-row.row (c.loop-row.invariant.0 p groups o) c.loop-row-test.true (omega arith)
          (key g (goal.at.loop-row-preserved g c).After-of_need o ∙ ap key_number c.in_default.is) (c.loop-row.invariant.1 (c.loop-row.row - 1) (omega arith)),
      λ j h. c.loop-row.invariant.1 j (omega arith),
    )

pub returns-clause-linked : goal.returns-clause-linked
returns-clause-linked g c =
    let o = c.requires.2 in
    let fresh = c.new-chains in
    let none : c.loop-row.row ≡ 0 = omega arith in
    let l = rw none at (c.loop-row.invariant.0 c.requires.0 c.requires.1 o) in
    record {
      heads-most = heads-within o fresh.result c.loop-row.chains fresh.ensures.heads c.requires.3 l;
      next-onward = next-within o fresh.result c.loop-row.chains fresh.ensures.heads c.requires.3 l;
      next-rest = next_past o fresh.result c.loop-row.chains fresh.ensures.heads c.requires.3 l fresh.ensures.next;
    }

pub returns-clause-chained : goal.returns-clause-chained
returns-clause-chained g c =
    let none : c.loop-row.row ≡ 0 = omega arith in
    λ p groups o fit.
    record {
      chains = needs-along o c.new-chains.result c.loop-row.chains c.new-chains.ensures.heads fit (rw none at (c.loop-row.invariant.0 p groups o));
    }
