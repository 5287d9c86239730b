use Rattle.eql_runs.proofs.PutCuts.{tested_is_own}
use Rattle.eql_runs.proofs.Reading.{QueryLaws}
use Rattle.eql_runs.proofs.Testing.{one_search_of, tested_is_accepted}
use Rattle.eql_runs.proofs.laws.tested_cuts_are_accepted.Goals as goal

pub returns-clause-accepted : goal.returns-clause-accepted
returns-clause-accepted c = λ find files on search texts searches tested.
    let laws : QueryLaws = record { one_list = c.one_list.ensures; none_spelled = c.none_spelled.ensures; one_break = c.one_break.ensures; one_query = c.one_query.ensures; one_refusal = c.one_refusal.ensures; exact = c.check_is_exact.ensures } in
    tested_is_accepted laws c.late.ensures.of_all find files on search texts searches tested

pub returns-clause-own : goal.returns-clause-own
returns-clause-own c = tested_is_own c.late.ensures.of_all

pub returns-clause-one : goal.returns-clause-one
returns-clause-one c = λ find files search other texts others a b.
    let laws : QueryLaws = record { one_list = c.one_list.ensures; none_spelled = c.none_spelled.ensures; one_break = c.one_break.ensures; one_query = c.one_query.ensures; one_refusal = c.one_refusal.ensures; exact = c.check_is_exact.ensures } in
    one_search_of laws find files search other texts others a b
