use Rattle.std.proofs.Common.{Some, [], refl}
use Rattle.eql_outside.specs.MemDisks.{history_of}
use Rattle.eql_summary.proofs.SearchLemmas.{all_found, never_kept, stops_for_want, no_fails}
use Rattle.eql_summary.proofs.search.list_made.Goals as goal

pub returns-in-Ok : goal.returns-in-Ok
returns-in-Ok g c =
    all_found c.args.hands c.args.events c.in_ok-find.find _ (Some (history_of c.in_ok-shelf.shelf.disk)) _ _ (Some c.new-report.result.bytes.items)
    (Some c.find_matches.new.err.bytes.items) c.in_ok-find.ensures c.in_ok-shelf.ensures.files c.new-listing.ensures.written c.in-Ok.ensures.ends.done

pub want_of-requires : goal.want_of-requires
want_of-requires g c =
    stops_for_want c.args.hands c.args.events c.lines_go_on.ensures.once c.runs_are_determined.ensures.accepted c.made_is_searched.ensures.search c.made_is_searched.ensures.within c.requires.events
    c.in_ok-find.find _ (Some (history_of c.in_ok-shelf.shelf.disk)) (Some (history_of c.find_matches.new.shelf.disk)) (Some c.new-report.result.bytes.items)
    (Some c.find_matches.new.err.bytes.items) c.in-Err.error c.in_ok-find.ensures c.in_ok-shelf.ensures.files c.in-Err.ensures.ends.cause
    (c.in-Err.ensures.unfailing (no_fails _ [] c.in_ok-shelf.ensures.plan refl) c.in_ok-shelf.ensures.plans
    (never_kept c.in_ok-find.find c.args.hands c.in_ok-find.ensures)
    (no_fails _ _ c.new-listing.ensures.plan c.new.ensures.items) (no_fails _ _ c.new-report.ensures.plan c.new-2.ensures.items))
