use Rattle.eql_runs.proofs.Covering.{CoverLaws}
use Rattle.eql_runs.proofs.Deciding.{FitLaws}
use Rattle.eql_runs.proofs.Ending.{EndLaws, no_run_is_left_out}
use Rattle.eql_runs.proofs.Heads.{SameLaws}
use Rattle.eql_runs.proofs.OwnCuts.{OwnLaws}
use Rattle.eql_runs.proofs.laws.no_run_is_left_out.Goals as goal

pub returns : goal.returns
returns c =
    let cover : CoverLaws = record { spelled = c.spelled_or_broken.ensures; read = c.query_or_refused.ensures; exact = c.check_is_exact.ensures } in
    let own : OwnLaws = record { readers = c.readers_fit.ensures; cuts = c.cuts_fit.ensures.fit; fronts = c.fronts_fit.ensures.fit; lifted_fit = c.lifted_cuts_fit.ensures.fit } in
    let same : SameLaws = record { texts = c.orders_agree_with_equality.ensures.texts; names = c.orders_agree_with_equality.ensures.names } in
    let told = c.orders_told_alike.ensures in
    let agree = c.orders_agree_with_equality.ensures in
    let fit : FitLaws = record { items = told.items; back = told.back; keys = agree.keys; slots = agree.slots; finds = c.opening_finds.ensures } in
    let laws : EndLaws = record { cover = cover; own = own; same = same; bounded = c.commands_are_bounded.ensures.bounds; unplaced = c.first_format_has_no_places.ensures; decided = c.texts_are_decided.ensures; late = c.late.ensures.of_all; fit = fit } in
    no_run_is_left_out laws
