use Rattle.std.proofs.Common.{rules, arith, refl, ◌∙◌}
use mathlib.Core.List.Memᴰ
use Rattle.laws.specs.Lists.{∈-self}
use Rattle.layout.specs.NeedLaws.{adding-start, adding-room, adding-next, adding-end}
use Rattle.layout.proofs.Group.add_needs.Goals as goal

pub loop-row-init : goal.loop-row-init
loop-row-init g c =
    rw c.into_iter-row-iterator.ensures.into_iter_gives (refl, refl, λ i m. omega (arith, c.requires.along.1.within i m), λ all a shows most. adding-start a shows)

pub nth-requires : goal.nth-requires
nth-requires g c =
    c.loop-row.invariant.2 c.in-Some.row (rw c.in-Some.ensures.steps ∈-self)

pub add_need-requires : goal.add_need-requires
add_need-requires g c =
    let l = c.loop-row.invariant in
    let known = c.requires.along in
    let adding = l.3 known.0 known.1 known.2 known.3 in (
      search rules,
      (rw (l.0, l.1) c.requires.noted, (rw c.nth.ensures (search rules), (adding.graph, rw l.0 (adding-room adding c.in-Some.ensures.steps known.3)))),
    )

pub loop-row-preserved : goal.loop-row-preserved
loop-row-preserved g c =
    let l = c.loop-row.invariant in
    let new = c.add_need.ensures in (
      new.split ∙ l.0,
      new.numbers ∙ l.1,
      (λ i m. l.2 i (rw c.in-Some.ensures.steps (Memᴰ.tail m))),
      λ all a shows most.
          let adding = l.3 all a shows most in
          adding-next adding c.in-Some.ensures.steps c.nth.ensures (rw l.0 at (new.added adding.graph (rw l.0 (adding-room adding c.in-Some.ensures.steps most)))),
    )

pub returns-clause-added : goal.returns-clause-added
returns-clause-added g c =
    λ all a shows most. adding-end (c.loop-row.invariant.3 all a shows most) c.in-None.ensures.steps.0

pub returns-clause-split : goal.returns-clause-split
returns-clause-split g c = c.loop-row.invariant.0

pub returns-clause-numbers : goal.returns-clause-numbers
returns-clause-numbers g c = c.loop-row.invariant.1
