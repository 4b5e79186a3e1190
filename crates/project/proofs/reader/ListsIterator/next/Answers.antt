-- `next` of `project::reader::Lists` meets its contract: the list of the first count byte is the first of those left. Assumes nothing.
use Rattle.std.proofs.Common.{ℕ, List, ◌-◌, ◌≡◌, [], length, take, drop, arith, rules, sym, ap, ◌∙◌, length-take-le, length-drop, take_all}
use Rattle.project.specs.CountedLaws.{First, whole_first, lists_first, lists_none}
use Rattle.project.proofs.reader.ListsIterator.next.Goals as goal
use Rattle.project.proofs.reader.ListsIterator.next.Goals.{In_ok-rest, After-list_at-list}

pub returns-in_err-rest-clause-steps : goal.returns-in_err-rest-clause-steps
returns-in_err-rest-clause-steps c = let e : c.args.self.now ≡ [] = sym c.self.view_is ∙ lists_none _ c.in_err-rest.ensures.cases in rw c.from_residual.ensures (e, e)

-- the list of the first count byte
here : (c : In_ok-rest) → First c.in_ok-rest.field-0-0.now c.in_ok-rest.rest.now
here c = let e = c.in_ok-rest.ensures.cases in whole_first _ _ (rw e.0 at c.self.invariant)

pub list_at-list-requires : goal.list_at-list-requires
list_at-list-requires c =
    let e = c.in_ok-rest.ensures.cases in
    rw e.0 (omega arith, omega (arith, (here (goal.at.list_at-list-requires c).In_ok-rest).within))

-- its members, and what is left behind them
members : (c : After-list_at-list) → c.list_at-list.result.now ≡ take c.in_ok-rest.field-0-0.now c.in_ok-rest.rest.now
members c = rw c.in_ok-rest.ensures.cases.0 at c.list_at-list.ensures

rest-part : (n k : ℕ) (l : List ℕ) → k ≡ n → take (length l - k) (drop k l) ≡ drop n l
rest-part n k l e = take_all (length l - k) (drop k l) (omega (arith, length-drop k l)) ∙ ap (λ (i : ℕ). drop i l) e

behind : (c : After-list_at-list) → First c.in_ok-rest.field-0-0.now c.in_ok-rest.rest.now → take (length c.in_ok-rest.rest.now - length c.list_at-list.result.now) (drop (length c.list_at-list.result.now) c.in_ok-rest.rest.now)
    ≡ drop c.in_ok-rest.field-0-0.now c.in_ok-rest.rest.now
behind c f = rest-part _ _ _ (ap length (members c) ∙ length-take-le c.in_ok-rest.field-0-0.now c.in_ok-rest.rest.now f.within)

pub invariant_of-self : goal.invariant_of-self
invariant_of-self c = let first = here (goal.at.invariant_of-self c).In_ok-rest in rw (behind (goal.at.invariant_of-self c).After-list_at-list first) first.whole

pub returns-clause-steps : goal.returns-clause-steps
returns-clause-steps c =
    let first = here (goal.at.returns-clause-steps c).In_ok-rest in
    let at_list = (goal.at.returns-clause-steps c).After-list_at-list in
    sym c.self.view_is ∙ lists_first c.self.invariant c.in_ok-rest.ensures.cases.0 (members at_list) (behind at_list first)

pub returns-clause-goes : goal.returns-clause-goes
returns-clause-goes c =
    let first = here (goal.at.returns-clause-goes c).In_ok-rest in
    let at_list = (goal.at.returns-clause-goes c).After-list_at-list in
    rw (sym c.self.view_is ∙ lists_first c.self.invariant c.in_ok-rest.ensures.cases.0 (members at_list) (behind at_list first)) (search rules)
