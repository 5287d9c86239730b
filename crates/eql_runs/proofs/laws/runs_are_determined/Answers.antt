use Rattle.eql_runs.proofs.CutRefusing.{CutLaws}
use Rattle.eql_runs.proofs.Limits.{ready_or_beyond}
use Rattle.eql_runs.proofs.Listing.{DiskLaws, listed_or_refused, one_cause_of, one_listing, ready_or_refused}
use Rattle.eql_runs.proofs.OwnCuts.{OwnLaws}
use Rattle.eql_runs.proofs.Reading.{QueryLaws}
use Rattle.eql_runs.proofs.Refusing.{none_refused, same_status}
use Rattle.eql_runs.proofs.laws.runs_are_determined.Goals as goal

pub returns-clause-listing : goal.returns-clause-listing
returns-clause-listing c = λ words files on bytes other report beside first second.
    let laws : QueryLaws = record { one_list = c.one_list.ensures; none_spelled = c.none_spelled.ensures; one_break = c.one_break.ensures; one_query = c.one_query.ensures; one_refusal = c.one_refusal.ensures; exact = c.check_is_exact.ensures } in
    one_listing laws words files on bytes other report beside first second

pub returns-clause-refusal : goal.returns-clause-refusal
returns-clause-refusal c = λ words files on r s first second.
    let queries : QueryLaws = record { one_list = c.one_list.ensures; none_spelled = c.none_spelled.ensures; one_break = c.one_break.ensures; one_query = c.one_query.ensures; one_refusal = c.one_refusal.ensures; exact = c.check_is_exact.ensures } in
    let own : OwnLaws = record { readers = c.readers_fit.ensures; cuts = c.cuts_fit.ensures.fit; fronts = c.fronts_fit.ensures.fit; lifted_fit = c.lifted_cuts_fit.ensures.fit } in
    let cuts : CutLaws = record { were_read = c.named_lines_were_read.ensures; names_stay = c.places_alone_are_set.ensures.names } in
    let laws : DiskLaws = record { queries = queries; own = own; cuts = cuts } in
    one_cause_of laws words files on r s first second

pub returns-clause-status : goal.returns-clause-status
returns-clause-status c = λ words files on r s first second.
    let queries : QueryLaws = record { one_list = c.one_list.ensures; none_spelled = c.none_spelled.ensures; one_break = c.one_break.ensures; one_query = c.one_query.ensures; one_refusal = c.one_refusal.ensures; exact = c.check_is_exact.ensures } in
    let own : OwnLaws = record { readers = c.readers_fit.ensures; cuts = c.cuts_fit.ensures.fit; fronts = c.fronts_fit.ensures.fit; lifted_fit = c.lifted_cuts_fit.ensures.fit } in
    let cuts : CutLaws = record { were_read = c.named_lines_were_read.ensures; names_stay = c.places_alone_are_set.ensures.names } in
    let laws : DiskLaws = record { queries = queries; own = own; cuts = cuts } in
    same_status r s (one_cause_of laws words files on r s first second)

pub returns-clause-apart : goal.returns-clause-apart
returns-clause-apart c = λ words files on bytes report r writes refused.
    let queries : QueryLaws = record { one_list = c.one_list.ensures; none_spelled = c.none_spelled.ensures; one_break = c.one_break.ensures; one_query = c.one_query.ensures; one_refusal = c.one_refusal.ensures; exact = c.check_is_exact.ensures } in
    let own : OwnLaws = record { readers = c.readers_fit.ensures; cuts = c.cuts_fit.ensures.fit; fronts = c.fronts_fit.ensures.fit; lifted_fit = c.lifted_cuts_fit.ensures.fit } in
    let cuts : CutLaws = record { were_read = c.named_lines_were_read.ensures; names_stay = c.places_alone_are_set.ensures.names } in
    let laws : DiskLaws = record { queries = queries; own = own; cuts = cuts } in
    listed_or_refused laws words files on bytes report r writes refused

pub returns-clause-accepted : goal.returns-clause-accepted
returns-clause-accepted c = λ names files query mapping r checked there refused.
    let laws : QueryLaws = record { one_list = c.one_list.ensures; none_spelled = c.none_spelled.ensures; one_break = c.one_break.ensures; one_query = c.one_query.ensures; one_refusal = c.one_refusal.ensures; exact = c.check_is_exact.ensures } in
    none_refused laws names files query mapping checked there r refused

pub returns-clause-ready : goal.returns-clause-ready
returns-clause-ready c = λ words files on can.
    let queries : QueryLaws = record { one_list = c.one_list.ensures; none_spelled = c.none_spelled.ensures; one_break = c.one_break.ensures; one_query = c.one_query.ensures; one_refusal = c.one_refusal.ensures; exact = c.check_is_exact.ensures } in
    let own : OwnLaws = record { readers = c.readers_fit.ensures; cuts = c.cuts_fit.ensures.fit; fronts = c.fronts_fit.ensures.fit; lifted_fit = c.lifted_cuts_fit.ensures.fit } in
    let cuts : CutLaws = record { were_read = c.named_lines_were_read.ensures; names_stay = c.places_alone_are_set.ensures.names } in
    let laws : DiskLaws = record { queries = queries; own = own; cuts = cuts } in (
      (λ r refused. ready_or_refused laws words files on can r refused),
      (λ find limit is beyond. ready_or_beyond queries c.lines_go_on.ensures.once words files on can find limit is beyond),
    )
