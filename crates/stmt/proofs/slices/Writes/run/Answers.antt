use Rattle.std.proofs.Common.{arith, ◌∙◌}
use Rattle.std.proofs.lemmas.Result.{err_from_is_err_and}
use Rattle.walks.proofs.RunLaws.{ends, spends, crowds-on, only-full, fills, turned}
use Rattle.walks.specs.RunLaws.{ran-as}
use Rattle.stmt.proofs.RunLaws.{same_self, order-shown, unended, ended, entry-left, came-walking, listed-within, had-room}
use Rattle.stmt.proofs.slices.Writes.run.Goals as goal

pub has_room-requires : goal.has_room-requires
has_room-requires c =
    let r = c.requires in
    let q = (c.loop-w.invariant.3 r.0 r.0 r.1 r.2 (same_self r.0) r.3).shown.shows in
    (q.entries.within, omega (arith, r.2, q.pairs.within, q.pairs.most))

pub visit-outcome-requires-clause-some : goal.visit-outcome-requires-clause-some
visit-outcome-requires-clause-some c =
    let r = c.requires in
    let same = same_self r.0 in
    let q = (c.loop-w.invariant.3 r.0 r.0 r.1 r.2 same r.3).shown in
    entry-left same q.walked q.shows (unended same q.walked q.shows r.2 c.loop-w-test.true)

pub visit-outcome-requires-clause-walking : goal.visit-outcome-requires-clause-walking
visit-outcome-requires-clause-walking c =
    let r = c.requires in
    let q = c.loop-w.invariant.3 r.0 r.0 r.1 r.2 (same_self r.0) r.3 in
    let room = had-room _ _ c.has_room.result c.map_err.result c.has_room.ensures c.map_err.ensures.cases c.in_ok-map_err.was in
    (r.0, q.state, q.shown, rw r.2 at room)

pub returns-then-made-allowance-clause-ran : goal.returns-then-made-allowance-clause-ran
returns-then-made-allowance-clause-ran c i walked s e same h =
    let r = c.loop-w.invariant.3 i walked s e same h in
    spends r (unended same r.shown.walked r.shown.shows e c.loop-w-test.true) (omega arith)

pub returns-in_err-map_err-clause-ran : goal.returns-in_err-map_err-clause-ran
returns-in_err-map_err-clause-ran c i walked s e same h =
    let r = c.loop-w.invariant.3 i walked s e same h in
    let p = err_from_is_err_and c.from_residual.result c.from_residual.ensures.1 in
    let more = unended same r.shown.walked r.shown.shows e c.loop-w-test.true in
    let crowded = rw c.loop-w.invariant.1.1 at c.has_room.ensures in
    rw (p.1, p.2) (crowds-on _ r.state (r.shown, more) _ c.has_room.result c.map_err.result crowded c.map_err.ensures.cases c.in_err-map_err.was)

pub returns-in_default-clause-ran : goal.returns-in_default-clause-ran
returns-in_default-clause-ran c i walked s e same h =
    let r = c.loop-w.invariant.3 i walked s e same h in
    let more = unended same r.shown.walked r.shown.shows e c.loop-w-test.true in
    let v = c.visit-outcome.ensures in
    let came = came-walking same r.shown v.sizes.0 (v.comes i r.state r.shown) in
    fills r more (omega arith) (only-full came c.in_default.not-WentOn c.in_default.not-Placed)

pub loop-w-preserved-in-WentOn : goal.loop-w-preserved-in-WentOn
loop-w-preserved-in-WentOn c = (
  omega arith,
  let k = c.loop-w.invariant.1 in let v = c.visit-outcome.ensures.sizes in (v.0 ∙ k.0, v.1 ∙ k.1),
  let k = c.loop-w.invariant.2 in
      let v = c.visit-outcome.ensures.lent in (v.0 ∙ k.0, v.1 ∙ k.1, v.2 ∙ k.2, v.3 ∙ k.3, v.4 ∙ k.4),
  λ i walked s e same h.
      let r = c.loop-w.invariant.3 i walked s e same h in
      let more = unended same r.shown.walked r.shown.shows e c.loop-w-test.true in
      let v = c.visit-outcome.ensures in
      let came = came-walking same r.shown v.sizes.0 (v.comes i r.state r.shown) in
      turned r more (omega arith) (λ t k. listed-within k.shows) came c.in-WentOn.is,
)

pub loop-w-preserved : goal.loop-w-preserved
loop-w-preserved c = (
  omega arith,
  let k = c.loop-w.invariant.1 in let v = c.visit-outcome.ensures.sizes in (v.0 ∙ k.0, v.1 ∙ k.1),
  let k = c.loop-w.invariant.2 in
      let v = c.visit-outcome.ensures.lent in (v.0 ∙ k.0, v.1 ∙ k.1, v.2 ∙ k.2, v.3 ∙ k.3, v.4 ∙ k.4),
  λ i walked s e same h.
      let r = c.loop-w.invariant.3 i walked s e same h in
      let more = unended same r.shown.walked r.shown.shows e c.loop-w-test.true in
      let v = c.visit-outcome.ensures in
      let came = came-walking same r.shown v.sizes.0 (v.comes i r.state r.shown) in
      turned r more (omega arith) (λ t k. listed-within k.shows) came c.in-WentOn.is,
)

-- Where the walk has ended, so has the definition's run.
pub returns-clause-ran : goal.returns-clause-ran
returns-clause-ran c i walked s e same h =
    let r = c.loop-w.invariant.3 i walked s e same h in
    ran-as (λ w t k. (k.0, order-shown same k.0.walked k.0.shows e k.1)) (λ x k. k)
    (ends r (ended same r.shown.walked r.shown.shows e c.loop-w-test.false))
