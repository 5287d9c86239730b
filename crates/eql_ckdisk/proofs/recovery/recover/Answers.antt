use Rattle.std.proofs.Common.{Option, IfSome, sym, subst}
use Rattle.std.proofs.lemmas.Result.{err_from_is_err_and}
use Rattle.eql_outside.specs.Moments.{History}
use Rattle.eql_ckdisk.specs.Found.{EachFinds}
use Rattle.eql_ckdisk.specs.Putting.{Stands, last_cut}
use Rattle.eql_ckdisk.specs.Recovering.{IsAnswer}
use Rattle.eql_ckdisk.proofs.Answering.{answers_each, answer_stands, found_refused, kept_refused, text_refused}
use Rattle.eql_ckdisk.proofs.recovery.recover.Goals as goal

pub returns-in_err-last-clause-refuses : goal.returns-in_err-last-clause-refuses
returns-in_err-last-clause-refuses g c =
    let p = err_from_is_err_and c.from_residual-in_err-last.result c.from_residual-in_err-last.ensures.1 in
    found_refused c.from_residual-in_err-last.result p.0 _ _ _ _ p.1 p.2 c.find.ensures.same
    c.in_ok-settle.ensures.ok c.in_err-last.ensures.refuses

pub returns-in_err-last-clause-refuses_kept : goal.returns-in_err-last-clause-refuses_kept
returns-in_err-last-clause-refuses_kept g c =
    let p = err_from_is_err_and c.from_residual-in_err-last.result c.from_residual-in_err-last.ensures.1 in
    kept_refused c.from_residual-in_err-last.result p.0 _ _ _ p.1 c.find.ensures.same c.in_ok-settle.ensures.ok

pub returns-in_err-recovered-clause-refuses_kept : goal.returns-in_err-recovered-clause-refuses_kept
returns-in_err-recovered-clause-refuses_kept g c =
    let p = err_from_is_err_and c.from_residual-in_err-recovered.result c.from_residual-in_err-recovered.ensures.1 in
    kept_refused c.from_residual-in_err-recovered.result p.0 _ _ _ p.1 c.find.ensures.same c.in_ok-settle.ensures.ok

pub returns-in_err-recovered-clause-refuses : goal.returns-in_err-recovered-clause-refuses
returns-in_err-recovered-clause-refuses g c =
    let p = err_from_is_err_and c.from_residual-in_err-recovered.result c.from_residual-in_err-recovered.ensures.1 in
    text_refused c.in_ok-last.last c.from_residual-in_err-recovered.result p.0 _ _ _ _ p.1 p.2 c.find.ensures.same
    c.in_ok-settle.ensures.ok c.in_ok-last.ensures.found c.in_err-recovered.ensures.refuses

pub returns-clause-found : goal.returns-clause-found
returns-clause-found g c =
    subst (λ (x : Option History). IfSome x (λ k. EachFinds (IsAnswer c.in_ok-recovered.recovered) k.now)) (sym c.find.ensures.same)
    (answers_each c.in_ok-last.last c.in_ok-recovered.recovered _ _ c.in_ok-settle.ensures.ok c.in_ok-last.ensures.found c.in_ok-recovered.ensures.found)

pub returns-clause-stands : goal.returns-clause-stands
returns-clause-stands g c =
    subst (Stands (last_cut c.in_ok-recovered.recovered.state)) (sym c.find.ensures.same)
    (answer_stands c.in_ok-last.last c.in_ok-recovered.recovered _ _ c.in_ok-settle.ensures.ok c.in_ok-last.ensures.found c.in_ok-recovered.ensures.found)
