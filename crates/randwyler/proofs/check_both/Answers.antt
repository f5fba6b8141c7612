-- The answers of the table's and of the query's check, put together. Assumes nothing.
use Rattle.std.proofs.lemmas.Result.{err_from_is_err_and}
use Rattle.randwyler.proofs.Checks.{table-refuses, query-refuses, both-pass}
use Rattle.randwyler.proofs.check_both.Goals as goal

pub returns-in_err-checked : goal.returns-in_err-checked
returns-in_err-checked c =
    let p = err_from_is_err_and c.from_residual.result c.from_residual.ensures.1 in
    rw (p.1, p.2) (table-refuses _ _ c.in_err-checked.ensures)

pub returns-in_err-check_query : goal.returns-in_err-check_query
returns-in_err-check_query c =
    let p = err_from_is_err_and c.from_residual-in_err-check_query.result c.from_residual-in_err-check_query.ensures.1 in
    rw (p.1, p.2) (query-refuses _ _ _ c.in_ok-checked.ensures c.in_err-check_query.ensures)

pub returns : goal.returns
returns c = both-pass _ _ _ c.in_ok-checked.ensures c.in_ok-check_query.ensures
