-- `SortTurns::sort_rest` meets its contract. Assumes nothing.
use Rattle.std.proofs.Common.{ℕ, List, arith}
use Rattle.std.proofs.lemmas.Result.{err_from_is_err_and}
use Rattle.rules.specs.Project.{Project}
use Rattle.walks.specs.RunLaws.{ran-finished, ran-stopped}
use Rattle.order.specs.Stops.{Going, Sized}
use Rattle.order.specs.ReadyLaws.{sized, going-on}
use Rattle.order.proofs.tables.SortTurns.sort_rest.Goals as goal
use Rattle.order.proofs.tables.SortTurns.sort_rest.Goals.{Else-self-gt-NEED_BYTES}

-- small arrays are large enough
small : (c : Else-self-gt-NEED_BYTES) {p : Project} {groups : List (List ℕ)} {before : List ℕ}
    → Going p groups c.args.self c.args.allowance before c.args.out.now c.args.first → Sized 256 512 p
small c h = sized h 128 512 256 (omega (arith, c.if-turns-gt-ITEM_BYTES.false)) (omega (arith, c.if-self-gt-NEED_BYTES.false)) (omega arith)

pub take-requires-clause-going : goal.take-requires-clause-going
take-requires-clause-going c =
    let known = c.requires in
    (known.0, known.1, known.2, known.3, small (goal.at.take-requires-clause-going c).Else-self-gt-NEED_BYTES known.3)

pub sort_large-requires-in-Err : goal.sort_large-requires-in-Err
sort_large-requires-in-Err c =
    let known = c.requires in
    let fits = small (goal.at.sort_large-requires-in-Err c).Else-self-gt-NEED_BYTES known.3 in
    let crowded = rw (← c.in_ok-crowded-in-Err.ensures) at (ran-stopped (c.in-Err.ensures known.0 known.1 known.2 known.3 fits)) in
    (known.0, known.1, known.2, going-on known.3 c.take.auto.out crowded.1)

pub returns-in-Ok : goal.returns-in-Ok
returns-in-Ok c =
    λ p groups before h. ran-finished (c.in-Ok.ensures p groups before h (small (goal.at.returns-in-Ok c).Else-self-gt-NEED_BYTES h))

pub returns-in_err-crowded-in-Err : goal.returns-in_err-crowded-in-Err
returns-in_err-crowded-in-Err c =
    λ p groups before h.
    let fits = small (goal.at.returns-in_err-crowded-in-Err c).Else-self-gt-NEED_BYTES h in
    let e = err_from_is_err_and c.from_residual.result c.from_residual.ensures.1 in
    rw (e.1, e.2) (rw (← c.in_err-crowded-in-Err.ensures) at (ran-stopped (c.in-Err.ensures p groups before h fits)))

pub returns-in_ok-crowded-in-Err : goal.returns-in_ok-crowded-in-Err
returns-in_ok-crowded-in-Err c =
    λ p groups before h.
    let fits = small (goal.at.returns-in_ok-crowded-in-Err c).Else-self-gt-NEED_BYTES h in
    let crowded = rw (← c.in_ok-crowded-in-Err.ensures) at (ran-stopped (c.in-Err.ensures p groups before h fits)) in
    c.sort_large-in-Err.ensures p groups before (going-on h c.take.auto.out crowded.1)
