-- `next` of the iterator over neighbours meets its contract. Assumes nothing.
use Rattle.std.proofs.Common.{rules, ap, length, get_or, ◌<◌}
use mathlib.Core.List.{map}
use Rattle.laws.specs.Lists.{∈-self}
use Rattle.lists.specs.Chained.{places}
use Rattle.lists.specs.ChainedLaws.{below-left}
use Rattle.lists.specs.declared.chains.Chain.{Chain}
use Rattle.graph.specs.Neighbours.{nodes_along}
use Rattle.graph.proofs.neighbours.NeighboursIterator.next.Goals as goal
use Rattle.graph.proofs.neighbours.NeighboursIterator.next.Goals.{In_ok-place}

pub invariant_of-self : goal.invariant_of-self
invariant_of-self c =
    record { within = below-left {S = Chain} (λ s. places s.next.now s.entry) c.args.self.now.chain c.next.new.self c.next.result c.next.ensures.steps c.args.self.now.within }

-- no place
pub returns-in_err-place-clause-steps : goal.returns-in_err-place-clause-steps
unfolding nodes_along
returns-in_err-place-clause-steps c =
    let none = c.in_err-place.ensures.steps in
    let ends = c.args.self.now.ends.now in
    rw c.from_residual.ensures (ap (map (λ i. get_or ends i 0)) none.0, ap (map (λ i. get_or ends i 0)) none.1)

-- the place is one of the chain's
here : (c : In_ok-place) → c.in_ok-place.place < length c.args.self.now.ends.now
here c = c.args.self.now.within _ (rw c.in_ok-place.ensures.steps ∈-self)

pub bounds-self-place : goal.bounds-self-place
bounds-self-place c = here c

pub offset_bounds-self-place : goal.offset_bounds-self-place
offset_bounds-self-place c = let h = here c in search rules

pub returns-clause-steps : goal.returns-clause-steps
unfolding nodes_along
returns-clause-steps c =
    ap (map (λ i. get_or c.args.self.now.ends.now i 0)) c.in_ok-place.ensures.steps

pub returns-clause-goes : goal.returns-clause-goes
unfolding nodes_along
returns-clause-goes c =
    let first = ap (map (λ i. get_or c.args.self.now.ends.now i 0)) c.in_ok-place.ensures.steps in
    let fewer = ap length first in search rules
