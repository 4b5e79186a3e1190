use Rattle.std.proofs.lemmas.Result.{err_from_is_err_and}
use Rattle.std.proofs.Common.{arith, ◌∙◌}
use Rattle.walks.proofs.RunLaws.{ends, spends, crowded-on, only-full, fills, turned}
use Rattle.walks.proofs.run.Goals as goal

pub returns-then-made-allowance : goal.returns-then-made-allowance
returns-then-made-allowance g c x s h =
    let r = c.loop-allowance.invariant.1 x s h in
    spends r (c.has_ended.ensures x r.state r.shown ∙ c.loop-allowance-test.true) (omega arith)

pub returns-in_err-map_err : goal.returns-in_err-map_err
returns-in_err-map_err g c x s h =
    let r = c.loop-allowance.invariant.1 x s h in
    let p = err_from_is_err_and c.from_residual.result c.from_residual.ensures.1 in
    let more = c.has_ended.ensures x r.state r.shown ∙ c.loop-allowance-test.true in
    rw (p.1, p.2)
    (crowded-on _ r.state (r.shown, more) _ _ c.has_room.result c.map_err.result (c.has_room.ensures.room x r.state r.shown) (c.has_room.ensures.state x r.state r.shown)
    c.map_err.ensures.cases c.in_err-map_err.was)

pub returns-in_default : goal.returns-in_default
returns-in_default g c x s h =
    let r = c.loop-allowance.invariant.1 x s h in
    let more = c.has_ended.ensures x r.state r.shown ∙ c.loop-allowance-test.true in
    fills r more (omega arith) (only-full (c.visit-outcome.ensures x r.state r.shown more) c.in_default.not-WentOn c.in_default.not-Placed)

pub loop-allowance-preserved-in-WentOn : goal.loop-allowance-preserved-in-WentOn
loop-allowance-preserved-in-WentOn g c = (
  omega arith,
  λ x s h.
      let r = c.loop-allowance.invariant.1 x s h in
      let more = c.has_ended.ensures x r.state r.shown ∙ c.loop-allowance-test.true in
      turned r more (omega arith) (g.met.V.Visits.within x _ _ _) (c.visit-outcome.ensures x r.state r.shown more) c.in-WentOn.is,
)

pub loop-allowance-preserved : goal.loop-allowance-preserved
loop-allowance-preserved g c = (
  omega arith,
  λ x s h.
      let r = c.loop-allowance.invariant.1 x s h in
      let more = c.has_ended.ensures x r.state r.shown ∙ c.loop-allowance-test.true in
      turned r more (omega arith) (g.met.V.Visits.within x _ _ _) (c.visit-outcome.ensures x r.state r.shown more) c.in-WentOn.is,
)

-- Where the walk has ended, so has the definition's run.
pub returns : goal.returns
returns g c x s h =
    ends (c.loop-allowance.invariant.1 x s h)
    (c.has_ended.ensures x _ (c.loop-allowance.invariant.1 x s h).shown ∙ c.loop-allowance-test.false)
