use Rattle.std.proofs.Common.{rules, sym, ap, ◌∙◌, ◌<◌, length}
use Rattle.rules.specs.Project.{import_limit}
use Rattle.laws.specs.Lists.{∈-self}
use Rattle.lists.specs.Chained.{places}
use Rattle.lists.specs.declared.chains.Chain.{Chain}
use Rattle.chunk.proofs.OpenLaws.{below-left, open-met, open-passed, open-none}
use Rattle.chunk.proofs.open.OpenIterator.next.Goals as goal
use Rattle.chunk.proofs.open.OpenIterator.next.Goals.{In-Some}

pub invariant_of-self : goal.invariant_of-self
invariant_of-self c =
    record {
      within = below-left {S = Chain} (λ s. places s.next.now s.entry) c.loop-place.self.chain c.next.new.self c.next.result c.next.ensures.steps c.loop-place.self.within;
      below = c.loop-place.self.below;
    }

-- the place is one of the chain's
here : (c : In-Some) → c.in-Some.place < import_limit
here c = c.loop-place.self.within _ (rw c.in-Some.ensures.steps ∈-self)

pub bounds-self-place : goal.bounds-self-place
bounds-self-place c = here c

pub returns-then-is_open-clause-steps : goal.returns-then-is_open-clause-steps
returns-then-is_open-clause-steps c =
    let at_head = c.loop-place.self in
    sym c.loop-place.invariant ∙ open-met at_head.to.now at_head.done at_head.circle _ _ _ _ c.in-Some.ensures.steps (sym c.is_open.ensures ∙ c.if-is_open.true)

pub returns-then-is_open-clause-goes : goal.returns-then-is_open-clause-goes
returns-then-is_open-clause-goes c =
    let at_head = c.loop-place.self in
    let first = sym c.loop-place.invariant ∙ open-met at_head.to.now at_head.done at_head.circle _ _ _ _ c.in-Some.ensures.steps (sym c.is_open.ensures ∙ c.if-is_open.true) in
    let fewer = ap length first in search rules

pub loop-place-preserved : goal.loop-place-preserved
loop-place-preserved c =
    let at_head = c.loop-place.self in
    sym (open-passed at_head.to.now at_head.done at_head.circle _ _ _ _ c.in-Some.ensures.steps (sym c.is_open.ensures ∙ c.if-is_open.false)) ∙ c.loop-place.invariant

pub returns-clause-steps : goal.returns-clause-steps
returns-clause-steps c =
    let at_head = c.loop-place.self in
    let none = c.in_default.ensures.steps in (
      sym c.loop-place.invariant ∙ open-none at_head.to.now at_head.chain.next.now at_head.done at_head.circle at_head.chain.entry none.0,
      open-none at_head.to.now c.next.new.self.next.now at_head.done at_head.circle c.next.new.self.entry none.1,
    )

pub offset_bounds-self-place : goal.offset_bounds-self-place
offset_bounds-self-place c = let h = here c in search rules
