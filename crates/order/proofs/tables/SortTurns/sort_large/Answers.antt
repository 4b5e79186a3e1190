-- `SortTurns::sort_large` meets its contract. Assumes nothing.
use Rattle.std.proofs.Common.{arith}
use Rattle.std.proofs.lemmas.Result.{err_from_is_err_and}
use Rattle.walks.specs.RunLaws.{ran-finished, ran-stopped}
use Rattle.order.specs.ReadyLaws.{sized-any}
use Rattle.order.proofs.tables.SortTurns.sort_large.Goals as goal

pub take-requires-clause-going : goal.take-requires-clause-going
take-requires-clause-going c = let known = c.requires in (known.0, known.1, known.2, known.3, sized-any known.3)

pub returns-in-Ok : goal.returns-in-Ok
returns-in-Ok c = λ p groups before h. ran-finished (c.in-Ok.ensures p groups before h (sized-any h))

pub returns-in_err-crowded-in-Err : goal.returns-in_err-crowded-in-Err
returns-in_err-crowded-in-Err c =
    λ p groups before h.
    let e = err_from_is_err_and c.from_residual.result c.from_residual.ensures.1 in
    rw (e.1, e.2) (rw (← c.in_err-crowded-in-Err.ensures) at (ran-stopped (c.in-Err.ensures p groups before h (sized-any h))))

-- no list is longer than the array
pub returns-in_ok-crowded-in-Err : goal.returns-in_ok-crowded-in-Err
returns-in_ok-crowded-in-Err c =
    λ p groups before h.
    let crowded = rw (← c.in_ok-crowded-in-Err.ensures) at (ran-stopped (c.in-Err.ensures p groups before h (sized-any h))) in
    absurd (omega (arith, crowded.0))
