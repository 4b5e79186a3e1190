-- `project::read` meets its contract: a refusal of a part is the paper's, and where there is none, the layout is. Assumes nothing.
use Rattle.std.proofs.lemmas.Result.{err_from_is_err_and}
use Rattle.project.specs.Answers.{numbered, answer_of}
use Rattle.project.proofs.read.Goals as goal

pub returns-in_err-of : goal.returns-in_err-of
unfolding numbered answer_of
returns-in_err-of c =
    let p = err_from_is_err_and c.from_residual.result c.from_residual.ensures.1 in
    rw (p.1, p.2, c.in_err-of.ensures)

pub returns-in_err-l : goal.returns-in_err-l
unfolding numbered answer_of
returns-in_err-l c =
    let p = err_from_is_err_and c.from_residual-in_err-l.result c.from_residual-in_err-l.ensures.1 in
    rw (p.1, p.2, ← c.in_ok-of.ensures, c.in_err-l.ensures)

pub returns-in_err-check_rows : goal.returns-in_err-check_rows
unfolding numbered answer_of
returns-in_err-check_rows c =
    let p = err_from_is_err_and c.from_residual-in_err-check_rows.result c.from_residual-in_err-check_rows.ensures.1 in
    rw (p.1, p.2, c.in_err-check_rows.ensures)

pub returns : goal.returns
unfolding numbered answer_of
returns c = rw (c.in_ok-check_rows.ensures, ← c.in_ok-of.ensures, ← c.in_ok-l.ensures.layout)
