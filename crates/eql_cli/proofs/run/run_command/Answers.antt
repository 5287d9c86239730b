use Rattle.std.proofs.Common.{refl, arith}
use Rattle.std.proofs.lemmas.Result.{IfErr-weaker, on_err_weaker, on_ok_weaker}
use Rattle.eql_inputs.proofs.ShelfLemmas.{disk_still}
use Rattle.eql_find.proofs.HeldLemmas.{held_as, kept_held, no_reason, same_held}
use Rattle.eql_cli.proofs.RunLemmas.{found_all, found_accepted, found_listing, found_some, find_cause, none_told, printed_all, printed_accepted, printed_listing, printed_some, check_cause, check_disks, check_errors, made_all, made_accepted, made_listing, made_some, made_cause, made_untouched, made_faults, made_count, made_absences, made_disks, made_errors}
use Rattle.eql_cli.proofs.KeepLemmas.{asks_found, found_keeps, kept_disk, none_changed, not_asked}
use Rattle.eql_cli.proofs.run.run_command.Goals as goal

pub returns-in-Find-clause-ends : goal.returns-in-Find-clause-ends
returns-in-Find-clause-ends g c =
    let asked = c.args.command.now in
    let find = c.in-Find.find in
    let is = c.in-Find.is in
    let found = c.find_matches.result in
    let e = c.find_matches.ensures.ends in
    record {
      done = on_ok_weaker found (found_all asked find is _ _ _ _ _ _) e.done;
      accepted = on_ok_weaker found (found_accepted asked find is _ _) e.accepted;
      prefix = on_err_weaker found (found_some asked find is _ _ _ _) e.prefix;
      listed = IfErr-weaker found _ _ (found_listing asked find is _ _ _ _) e.listed;
      untouched = e.untouched;
      quiet = e.quiet;
      cause = IfErr-weaker found _ _ (find_cause asked find is _ _ _ _ _) e.cause;
      moments = found_keeps asked find is _ _ _ _ _ _ _ e.moments;
      cut_kept = e.cut_kept;
    }

pub returns-in-Find-clause-told : goal.returns-in-Find-clause-told
returns-in-Find-clause-told g c = c.find_matches.ensures.told

pub returns-in-Find-clause-unfailing : goal.returns-in-Find-clause-unfailing
returns-in-Find-clause-unfailing g c = λ shelf sources disk out err.
    c.find_matches.ensures.unfailing shelf sources (λ has. disk (asks_found c.args.command.now c.in-Find.find c.in-Find.is has)) out err

pub returns-in-Find-clause-disk_kept : goal.returns-in-Find-clause-disk_kept
returns-in-Find-clause-disk_kept g c = λ never.
    c.find_matches.ensures.disk_kept (not_asked c.args.command.now c.in-Find.find c.in-Find.is never)

pub returns-in-Check-clause-ends : goal.returns-in-Check-clause-ends
returns-in-Check-clause-ends g c =
    let asked = c.args.command.now in
    let query = c.in-Check.query in
    let fields = c.in-Check.fields in
    let is = c.in-Check.is in
    let printed = c.check_query.result in
    let e = c.check_query.ensures in
    record {
      done = on_ok_weaker printed (printed_all asked query fields is _ _ _ _ _) e.done;
      accepted = on_ok_weaker printed (printed_accepted asked query fields is _ _ _ _) e.done;
      prefix = on_err_weaker printed (printed_some asked query fields is _ _ _ _) e.prefix;
      listed = IfErr-weaker printed _ _ (printed_listing asked query fields _ _ _ _) e.cause;
      untouched = e.untouched;
      quiet = none_told printed _;
      cause = IfErr-weaker printed _ _ (check_cause asked query fields is _ _ _ _) e.cause;
      moments = kept_disk asked _ _ _ _ _ _ _ e.disk_kept.history_is;
      cut_kept = none_changed printed _ _ e.disk_kept.history_is;
    }

pub returns-in-Check-clause-told : goal.returns-in-Check-clause-told
returns-in-Check-clause-told g c =
    let query = c.in-Check.query in
    let fields = c.in-Check.fields in
    let printed = c.check_query.result in
    let e = c.check_query.ensures in
    record {
      reads_rise = e.counts.0;
      absences_rise = e.counts.1;
      disks_rise = omega (arith, e.disk_kept.faults_are);
      writes_rise = e.counts.2;
      errors_rise = omega arith;
      faults = e.faults;
      count = e.count;
      absences = e.absences;
      disk = check_disks query fields _ printed _ _ e.disk_kept.faults_are e.cause;
      held = held_as g.H.Shelf _ _ _ (no_reason _ (λ why stops. stops) printed e.cause) (kept_held g.H.Shelf _ _ e.disk_kept);
      out = e.out;
      err = check_errors query fields _ printed _ e.cause;
    }

pub returns-in-Check-clause-disk_kept : goal.returns-in-Check-clause-disk_kept
returns-in-Check-clause-disk_kept g c = λ never. c.check_query.ensures.disk_kept

pub returns-in-Made-clause-ends : goal.returns-in-Made-clause-ends
returns-in-Made-clause-ends g c =
    let asked = c.args.command.now in
    let hands = c.in-Made.hands in
    let events = c.in-Made.events in
    let is = c.in-Made.is in
    let made = c.run_made.result in
    let e = c.run_made.ensures in
    record {
      done = on_ok_weaker made (made_all asked hands events is _ _ _ _ _) e.done;
      accepted = on_ok_weaker made (made_accepted asked hands events is _ _ _ _) e.done;
      prefix = on_err_weaker made (made_some asked hands events is _ _ _ _) e.prefix;
      listed = IfErr-weaker made _ _ (made_listing asked _ _ _ _) e.stops;
      untouched = made_untouched made _ _ e.stops;
      quiet = none_told made _;
      cause = made_cause asked hands events is _ _ _ _ _ _ made e.prefix e.stops;
      moments = kept_disk asked _ _ _ _ _ _ _ refl;
      cut_kept = none_changed made _ _ refl;
    }

pub returns-in-Made-clause-told : goal.returns-in-Made-clause-told
returns-in-Made-clause-told g c =
    let made = c.run_made.result in
    let e = c.run_made.ensures in
    record {
      reads_rise = omega arith;
      absences_rise = omega arith;
      disks_rise = omega arith;
      writes_rise = e.counts;
      errors_rise = omega arith;
      faults = made_faults made _ e.stops;
      count = made_count made _ e.stops;
      absences = made_absences made _ e.stops;
      disk = made_disks made _ e.stops;
      held = held_as g.H.Shelf _ _ _ (no_reason _ (λ why stops. stops) made e.stops) (same_held g.H.Shelf _ _ refl);
      out = e.out;
      err = made_errors made _ e.stops;
    }

pub returns-in-Made-clause-disk_kept : goal.returns-in-Made-clause-disk_kept
returns-in-Made-clause-disk_kept g c = λ never. disk_still g.H.Shelf _
