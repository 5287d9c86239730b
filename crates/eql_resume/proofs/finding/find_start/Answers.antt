use Rattle.std.proofs.Common.{sym, subst}
use Rattle.std.proofs.lemmas.Result.{err_from_is_err_and}
use Rattle.eql_resume.specs.Finding.{HasFoundCause}
use Rattle.eql_resume.proofs.Found.{cut_refused, held_there, none_formed, none_placed, refused_as, refused_there}
use Rattle.eql_resume.proofs.finding.find_start.Goals as goal

pub returns-in-Err-clause-cause : goal.returns-in-Err-clause-cause
returns-in-Err-clause-cause g c =
    refused_there c.args.stages c.args.values c.args.pipes.now c.args.head.now c.crashes_leave_images.ensures.images.seen c.in-Err.refused _ _ _
    c.refusal_of.ensures c.in-Err.ensures.refuses_kept c.in-Err.ensures.refuses

pub returns-clause-holds : goal.returns-clause-holds
returns-clause-holds g c = held_there c.crashes_leave_images.ensures.images.seen c.in-Ok.found _ _ c.in-Ok.ensures.kept c.in-Ok.ensures.found

pub returns-clause-unplaced : goal.returns-clause-unplaced
returns-clause-unplaced g c = none_placed c.first_format_has_no_places.ensures c.in-Ok.found.cut c.in-Ok.found.format _ c.in-Ok.ensures.sound

pub returns-clause-format : goal.returns-clause-format
returns-clause-format g c = none_formed c.in-Ok.found.cut c.in-Ok.found.format _ c.in-Ok.ensures.sound

pub returns-in_err-test_found-clause-cause : goal.returns-in_err-test_found-clause-cause
returns-in_err-test_found-clause-cause g c =
    let p = err_from_is_err_and c.from_residual.result c.from_residual.ensures.1 in
    refused_as _ c.from_residual.result p.0 p.1
    (cut_refused c.args.stages c.args.values c.args.pipes.now c.args.head.now c.crashes_leave_images.ensures.images.seen c.in-Ok.found p.0 _ _
    c.in-Ok.ensures.kept c.in-Ok.ensures.found (subst (λ x. HasFoundCause c.args.stages c.args.values c.args.pipes.now c.args.head.now c.in-Ok.found.cut x) (sym p.2) c.in_err-test_found.ensures.cause))
