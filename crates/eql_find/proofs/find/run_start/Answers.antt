use denote.Param.Send.{sendable}
use Rattle.std.proofs.Common.{Option, Err, None, ℕ, ap, subst, sym, ◌∙◌, refl, length}
use Rattle.std.specs.Prelude.{◌-◌, ◌≡◌, IfSome, Some}
use Rattle.std.proofs.lemmas.Result.{IfErr-weaker, on_err_weaker, on_ok_weaker}
use Rattle.eql_outside.specs.Moments.{History}
use Rattle.eql_stages.specs.Matching.{reads_by}
use Rattle.eql_inputs.proofs.ShelfLemmas.{disk_then}
use Rattle.eql_find.specs.Errors.{AbsencesFollow, CountFollows, DiskFollows}
use Rattle.eql_find.specs.Outcomes.{FindEnds}
use Rattle.eql_find.specs.Starting.{disk_after}
use Rattle.eql_find.proofs.AbsenceLemmas.{absence_as, made_absence, none_refused}
use Rattle.eql_find.proofs.CauseLemmas.{all_accepted, all_causes}
use Rattle.eql_find.proofs.EarlyErrors.{none_is_some}
use Rattle.eql_find.proofs.EndingLemmas.{generations_end}
use Rattle.eql_find.proofs.FailLemmas.{named_over}
use Rattle.eql_find.proofs.FoundLemmas.{found_all, found_listing, found_some}
use Rattle.eql_find.proofs.GivingLemmas.{disk_told, keeps_none, keeps_some, still_none, still_some, then_faults, there}
use Rattle.eql_find.proofs.HeldLemmas.{held_as, held_then, kept_held, made_reason, no_reason}
use Rattle.eql_find.proofs.OutcomeLemmas.{none_falls, rises_then, same_disk, then_stays}
use Rattle.eql_find.proofs.OverLemmas.{began, lane_count, made_cause, over_runs, run_begins, sources_few, start_on, starts_many}
use Rattle.eql_find.proofs.PuttingLemmas.{keeps_cuts, none_changed, none_put}
use Rattle.eql_find.proofs.ShardLemmas.{count_as, count_then, faults_as, faults_then, lent_all, made_error, may_make, unfailing_over, zip_long}
use Rattle.eql_find.proofs.TextLemmas.{as_many}
use Rattle.eql_find.proofs.find.run_start.Goals as goal

pub make_lanes-requires-clause-few : goal.make_lanes-requires-clause-few
make_lanes-requires-clause-few g c = λ κs lives. sources_few g.H.Src.Source.left g.H.Src.Source.lent_as g.H.Src.Source.fault_count g.H.Src.Source.fault_plan reads_by _ _ _ _ _ c.requires.1.1.1.1.1.1.1.1.1.1.1.0 _ _ _ _ _ c.requires.1.1.1.1.1.1.1.1.1.1.1.1.0 c.requires.1.1.1.1.1.1.1.1.1.1.1.1.1.0 c.requires.1.1.1.1.1.1.1.1.1.1.1.1.1.1.0 c.requires.1.1.1.1.1.1.1.1.1.1.1.1.1.1.1.0 c.requires.1.1.1.1.1.1.1.1.1.1.1.1.1.1.1.1.1.0

pub make_lanes-requires-clause-many : goal.make_lanes-requires-clause-many
make_lanes-requires-clause-many g c = λ κs lives. starts_many g.H.Src.Source.left g.H.Src.Source.lent_as g.H.Src.Source.fault_count g.H.Src.Source.fault_plan reads_by _ _ _ _ _ c.requires.1.1.1.1.1.1.1.1.1.1.1.0 _ _ _ _ _ c.requires.1.1.1.1.1.1.1.1.1.1.1.1.0 c.requires.1.1.1.1.1.1.1.1.1.1.1.1.1.0 c.requires.1.1.1.1.1.1.1.1.1.1.1.1.1.1.0 c.requires.1.1.1.1.1.1.1.1.1.1.1.1.1.1.1.0 c.requires.1.1.1.1.1.1.1.1.1.1.1.1.1.1.1.1.1.0

pub make_lanes-requires-clause-may : goal.make_lanes-requires-clause-may
make_lanes-requires-clause-may g c = λ κs lives. c.requires.1.1.1.1.1.1.1.1.1.1.1.1.1.1.1.1.1.0.lanes.may

-- a lane wasn't made
pub error_at-requires : goal.error_at-requires
error_at-requires g c = may_make g.H.Src.Source.left g.H.Src.Source.lent_as g.H.Src.Source.fault_count g.H.Src.Source.fault_plan _ _ _ c.requires.1.1.1.1.1.1.1.1.1.1.1.1.1.1.1.0 _ _ _ _ c.in-Err.stop.why c.in-Err.stop.shard c.in-Err.ensures.stopped

pub returns-in-Err-clause-ends : goal.returns-in-Err-clause-ends
returns-in-Err-clause-ends g c =
    let made = made_error g.H.Src.Source.left g.H.Src.Source.lent_as g.H.Src.Source.fault_count g.H.Src.Source.fault_plan _ _ _ c.requires.1.1.1.1.1.1.1.1.1.1.1.1.1.1.1.0 _ _ _ _ c.in-Err.stop.why c.in-Err.stop.shard c.error_at.result c.in-Err.ensures.stopped c.error_at.ensures in
    let same = c.give_keep.ensures.taken.0 ∙ ap (λ (d : Option History). disk_after g.H.Dsk.Disk.history d c.args.start.keep) c.make_lanes.ensures.kept.disk_is.history_is in
    subst (λ (d : Option History). FindEnds g.K.Sink g.E.Sink {A = Unit {0}} c.args.find.now (g.H.Shelf.files c.args.shelf.now) (g.H.Shelf.disk_history c.args.shelf.now) d c.args.out.now c.args.out.now c.args.err.now c.args.err.now (Err c.error_at.result)) (sym same)
    (record {
      done = tt;
      accepted = tt;
      prefix = none_is_some _ _ _ _;
      listed = λ report. absurd (made.no_report report);
      untouched = λ refusal. refl;
      quiet = λ nothing. refl;
      cause =
          made_cause g.H.Src.Source.left g.H.Src.Source.lent_as g.H.Src.Source.fault_count g.H.Src.Source.fault_plan reads_by _ _ _ _ _ c.requires.1.1.1.1.1.1.1.1.1.1.1.0 _ _ _ _ _ c.requires.1.1.1.1.1.1.1.1.1.1.1.1.0 c.requires.1.1.1.1.1.1.1.1.1.1.1.1.1.0 c.requires.1.1.1.1.1.1.1.1.1.1.1.1.1.1.0 c.requires.1.1.1.1.1.1.1.1.1.1.1.1.1.1.1.0 c.requires.1.1.1.1.1.1.1.1.1.1.1.1.1.1.1.1.1.0
          c.spans_change_no_fit.ensures c.disks_hold_one_thing.ensures c.in-Err.stop.why c.in-Err.stop.shard c.error_at.result _ _ _ _ _ _ _ c.in-Err.ensures.stopped c.error_at.ensures;
      moments = λ asked. none_put g.H.Dsk.Disk.history g.H.Dsk.Disk.fault_count c.puts_go_on.ensures c.args.find.now _ _ _ _ _ _ c.args.start.keep asked c.requires.1.1.1.1.1.1.1.1.1.1.1.1.1.1.1.1.1.1.0 c.requires.1.1.1.1.1.1.1.1.1.1.1.1.1.1.1.1.1.1.1;
      cut_kept = λ refusal. none_changed g.H.Dsk.Disk.history g.H.Dsk.Disk.fault_count _ c.args.start.keep c.requires.1.1.1.1.1.1.1.1.1.1.1.1.1.1.1.1.1.1.1;
    })

pub returns-in-Err-clause-told : goal.returns-in-Err-clause-told
returns-in-Err-clause-told g c =
    let made = made_error g.H.Src.Source.left g.H.Src.Source.lent_as g.H.Src.Source.fault_count g.H.Src.Source.fault_plan _ _ _ c.requires.1.1.1.1.1.1.1.1.1.1.1.1.1.1.1.0 _ _ _ _ c.in-Err.stop.why c.in-Err.stop.shard c.error_at.result c.in-Err.ensures.stopped c.error_at.ensures in
    let kept = c.give_keep.ensures.kept in
    let disks = c.make_lanes.ensures.kept.disk_is.faults_are in
    record {
      faults = then_faults _ _ _ (Err c.error_at.result) kept.names_are made.faults;
      count = subst (λ (n : ℕ). CountFollows {A = Unit {0}} (Err c.error_at.result) (g.H.Shelf.fault_count c.args.shelf.now) n) (sym kept.faults_are) made.count;
      absences =
          subst (λ (n : ℕ). AbsencesFollow {A = Unit {0}} (Err c.error_at.result) (g.H.Shelf.absent_count c.args.shelf.now) n) (sym kept.absences_are)
          (made_absence c.args.find.now.shards c.in-Err.stop.shard c.in-Err.stop.why c.error_at.result _ _ c.error_at.ensures c.in-Err.ensures.counts.1);
      disk =
          subst (λ (n : ℕ). DiskFollows {A = Unit {0}} (Err c.error_at.result) n (g.H.Shelf.disk_fault_count c.give_keep.new.shelf)) disks
          (disk_told g.H.Dsk.Disk.history g.H.Dsk.Disk.fault_count _ c.args.start.keep c.args.start.keep (Err c.error_at.result) _ _ c.requires.1.1.1.1.1.1.1.1.1.1.1.1.1.1.1.1.1.1.1 (record {
            none = λ gone. ap g.H.Shelf.disk_fault_count (c.give_keep.ensures.none gone);
            raised = c.give_keep.ensures.raised;
            same = c.give_keep.ensures.same;
          }) (made.disk _));
      held =
          held_as g.H.Shelf _ _ _ (made_reason c.args.find.now.shards c.in-Err.stop.shard c.in-Err.stop.why c.error_at.result c.error_at.ensures)
          (held_then g.H.Shelf None _ _ _ (kept_held g.H.Shelf _ _ c.make_lanes.ensures.kept.disk_is) c.give_keep.ensures.held);
      out = made.out _;
      err = made.err _;
      reads_rise = then_stays _ _ _ c.in-Err.ensures.counts.0 kept.faults_are;
      absences_rise = none_falls _ _ (kept.absences_are ∙ c.in-Err.ensures.counts.1);
      disks_rise = rises_then _ _ _ disks c.give_keep.ensures.counts;
      writes_rise = none_falls _ _ refl;
      errors_rise = none_falls _ _ refl;
    }

pub returns-in-Err-clause-unfailing : goal.returns-in-Err-clause-unfailing
returns-in-Err-clause-unfailing g c = λ all disk out err. (made_error g.H.Src.Source.left g.H.Src.Source.lent_as g.H.Src.Source.fault_count g.H.Src.Source.fault_plan _ _ _ c.requires.1.1.1.1.1.1.1.1.1.1.1.1.1.1.1.0 _ _ _ _ c.in-Err.stop.why c.in-Err.stop.shard c.error_at.result c.in-Err.ensures.stopped c.error_at.ensures).calm all

pub returns-in-Err-clause-kept : goal.returns-in-Err-clause-kept
returns-in-Err-clause-kept g c = c.give_keep.ensures.kept.files_are ∙ c.make_lanes.ensures.kept.files_are

pub returns-in-Err-clause-lent : goal.returns-in-Err-clause-lent
returns-in-Err-clause-lent g c =
    subst (λ (o : Option ℕ). IfSome (g.H.Shelf.lent_count c.args.shelf.now) (λ n. o ≡ Some (n - length c.args.find.now.shards))) (sym c.give_keep.ensures.kept.lent_are)
    (subst (λ (k : ℕ). IfSome (g.H.Shelf.lent_count c.args.shelf.now) (λ n. g.H.Shelf.lent_count c.make_lanes.new.shelf ≡ Some (n - k)))
    (as_many g.H.Src.Source.lent_as c.args.sources.items c.args.find.now.shards c.requires.1.1.1.1.1.1.1.1.1.1.1.1.1.1.1.0) c.in-Err.ensures.lent)

pub returns-in-Err-clause-back : goal.returns-in-Err-clause-back
returns-in-Err-clause-back g c =
    λ asked. there c.args.start.keep _ (keeps_some g.H.Dsk.Disk.history g.H.Dsk.Disk.fault_count c.args.find.now.checkpoint c.args.start.keep c.requires.1.1.1.1.1.1.1.1.1.1.1.1.1.1.1.1.1.1.0 asked) c.give_keep.ensures.back

pub returns-in-Err-clause-disk_kept : goal.returns-in-Err-clause-disk_kept
returns-in-Err-clause-disk_kept g c =
    λ none.
    let gone = keeps_none g.H.Dsk.Disk.history g.H.Dsk.Disk.fault_count c.args.find.now.checkpoint c.args.start.keep c.requires.1.1.1.1.1.1.1.1.1.1.1.1.1.1.1.1.1.1.0 none in
    disk_then g.H.Shelf _ _ _ c.make_lanes.ensures.kept.disk_is (same_disk g.H.Shelf _ _ (c.give_keep.ensures.none gone))

-- all were made
pub run_lanes-ran-requires : goal.run_lanes-ran-requires
run_lanes-ran-requires g c =
    λ κs lives.
    let begins = run_begins g.H.Src.Source.left g.H.Src.Source.lent_as g.H.Src.Source.fault_count g.H.Src.Source.fault_plan reads_by _ _ _ _ _ c.requires.1.1.1.1.1.1.1.1.1.1.1.0 _ _ _ _ _ c.requires.1.1.1.1.1.1.1.1.1.1.1.1.0 c.requires.1.1.1.1.1.1.1.1.1.1.1.1.1.0 c.requires.1.1.1.1.1.1.1.1.1.1.1.1.1.1.0 c.requires.1.1.1.1.1.1.1.1.1.1.1.1.1.1.1.0 c.requires.1.1.1.1.1.1.1.1.1.1.1.1.1.1.1.1.1.0 c.in-Ok.lanes.items c.in-Ok.ensures.made g.H.Dsk.Disk.history c.requires.1.1.1.1.1.1.1.1.1.1.1.1.1.1.1.1.1.1.0 in
    (lives.0, (lives.1.0, (lives.1.1.0, (lives.1.1.1.0, (lives.1.1.1.1.0, (lives.1.1.1.1.1, (search (sendable, c.requires.1.1.1.1.1.1.1.0), (search (sendable, c.requires.1.1.1.1.1.1.1.1.0), (search (sendable, c.requires.1.1.1.1.1.1.1.1.1.1.0), (search (sendable, c.requires.1.1.1.1.1.1.1.1.1.0), (c.requires.1.1.1.1.1.1.1.1.1.1.1.1.0, begins)))))))))))

pub returns-clause-ends : goal.returns-clause-ends
returns-clause-ends g c =
    let ran = c.run_lanes-ran in
    let kept = ran.result.1 in
    let same = c.give_keep-2.ensures.taken.0 ∙ ap (λ (d : Option History). disk_after g.H.Dsk.Disk.history d kept) (c.give_lanes.ensures.back.kept.disk_is.history_is ∙ c.make_lanes.ensures.kept.disk_is.history_is) in
    let runs = over_runs g.H.Src.Source.left g.H.Src.Source.lent_as g.H.Src.Source.fault_count g.H.Src.Source.fault_plan reads_by _ _ _ _ _ c.requires.1.1.1.1.1.1.1.1.1.1.1.0 _ _ _ _ _ c.requires.1.1.1.1.1.1.1.1.1.1.1.1.0 c.requires.1.1.1.1.1.1.1.1.1.1.1.1.1.0 c.requires.1.1.1.1.1.1.1.1.1.1.1.1.1.1.0 c.requires.1.1.1.1.1.1.1.1.1.1.1.1.1.1.1.0 c.requires.1.1.1.1.1.1.1.1.1.1.1.1.1.1.1.1.1.0 c.in-Ok.lanes.items c.in-Ok.ensures.made
    c.spans_change_no_fit.ensures c.disks_hold_one_thing.ensures c.tested_cuts_are_accepted.ensures.accepted c.tested_cuts_are_accepted.ensures.one in
    let begun = began g.H.Src.Source.left g.H.Src.Source.lent_as g.H.Src.Source.fault_count g.H.Src.Source.fault_plan reads_by _ _ _ _ _ c.requires.1.1.1.1.1.1.1.1.1.1.1.0 _ _ _ _ _ c.requires.1.1.1.1.1.1.1.1.1.1.1.1.0 c.requires.1.1.1.1.1.1.1.1.1.1.1.1.1.0 c.requires.1.1.1.1.1.1.1.1.1.1.1.1.1.1.0 c.requires.1.1.1.1.1.1.1.1.1.1.1.1.1.1.1.0 c.requires.1.1.1.1.1.1.1.1.1.1.1.1.1.1.1.1.1.0 c.in-Ok.lanes.items c.in-Ok.ensures.made in
    let starts = start_on g.H.Src.Source.left g.H.Src.Source.lent_as g.H.Src.Source.fault_count g.H.Src.Source.fault_plan reads_by _ _ _ _ _ c.requires.1.1.1.1.1.1.1.1.1.1.1.0 _ _ _ _ _ c.requires.1.1.1.1.1.1.1.1.1.1.1.1.0 c.requires.1.1.1.1.1.1.1.1.1.1.1.1.1.0 c.requires.1.1.1.1.1.1.1.1.1.1.1.1.1.1.0 c.requires.1.1.1.1.1.1.1.1.1.1.1.1.1.1.1.0 c.requires.1.1.1.1.1.1.1.1.1.1.1.1.1.1.1.1.1.0 c.in-Ok.lanes.items c.in-Ok.ensures.made c.disks_hold_one_thing.ensures in
    subst (λ (d : Option History). FindEnds g.K.Sink g.E.Sink {A = Unit {0}} c.args.find.now (g.H.Shelf.files c.args.shelf.now) (g.H.Shelf.disk_history c.args.shelf.now) d c.args.out.now ran.new.out c.args.err.now ran.new.err ran.result.0) (sym same)
    (record {
      done = on_ok_weaker ran.result.0 (found_all c.args.find.now c.args.planned.now _ c.in-Ok.lanes.items c.args.start.rest _ _ _ _ _ _ runs) ran.ensures.ends.done;
      accepted =
          all_accepted c.args.find.now c.args.planned.now _ c.in-Ok.lanes.items ran.new.lanes.items c.args.start.rest _ (g.H.Shelf.disk_history c.args.shelf.now) _ c.requires.1.1.1.1.1.1.1.1.1.1.1.1.1.0 _ c.requires.1.1.1.1.1.1.1.1.1.1.1.1.1.1.0
          c.requires.1.1.1.1.1.1.1.1.1.1.1.1.1.1.1.1.1.0.begun.format c.requires.1.1.1.1.1.1.1.1.1.1.1.1.1.1.1.1.1.0.begun.generation c.requires.1.1.1.1.1.1.1.1.1.1.1.1.1.1.1.1.1.0.begun.cut begun starts runs ran.result.0;
      prefix = on_err_weaker ran.result.0 (found_some c.args.find.now c.args.planned.now _ c.in-Ok.lanes.items c.args.start.rest _ _ _ _ runs) ran.ensures.ends.prefix;
      listed =
          IfErr-weaker ran.result.0 _ _
          (λ error told report. found_listing c.args.find.now c.args.planned.now _ c.in-Ok.lanes.items c.args.start.rest _ _ _ _ runs (told report)) ran.ensures.ends.listed;
      untouched = none_refused _ _ (λ r told. told) (λ why told. told) (λ why told. told) ran.result.0 ran.ensures.ends.cause;
      quiet = ran.ensures.ends.quiet;
      cause =
          all_causes c.args.find.now c.args.planned.now _ c.in-Ok.lanes.items ran.new.lanes.items c.args.start.rest _ _ _ c.requires.1.1.1.1.1.1.1.1.1.1.1.1.1.0 _ c.requires.1.1.1.1.1.1.1.1.1.1.1.1.1.1.0
          c.requires.1.1.1.1.1.1.1.1.1.1.1.1.1.1.1.1.1.0.begun.format c.requires.1.1.1.1.1.1.1.1.1.1.1.1.1.1.1.1.1.0.begun.generation c.requires.1.1.1.1.1.1.1.1.1.1.1.1.1.1.1.1.1.0.begun.cut begun starts runs ran.result.0 _ _ ran.ensures.ends.cause ran.ensures.told.faults
          (generations_end g.H.Dsk.Disk.history g.H.Dsk.Disk.fault_count c.crashes_leave_images.ensures.images c.disks_hold_one_thing.ensures c.args.find.now c.requires.1.1.1.1.1.1.1.1.1.1.1.1.1.1.1.1.1.0.begun
          _ _ _ _ c.args.start.keep kept ran.result.0 c.requires.1.1.1.1.1.1.1.1.1.1.1.1.1.1.1.1.1.0.is_found c.requires.1.1.1.1.1.1.1.1.1.1.1.1.1.1.1.1.1.1.0 c.requires.1.1.1.1.1.1.1.1.1.1.1.1.1.1.1.1.1.1.1 ran.ensures.ends.keeps);
      moments = λ asked.
          keeps_cuts c.puts_go_on.ensures c.crashes_leave_images.ensures.images c.disks_hold_one_thing.ensures c.tested_cuts_are_accepted.ensures.one c.args.find.now c.args.planned.now
          c.requires.1.1.1.1.1.1.1.1.1.1.1.1.0 _ _ _ c.in-Ok.lanes.items c.args.start.rest c.requires.1.1.1.1.1.1.1.1.1.1.1.1.1.1.1.1.1.0.begun c.requires.1.1.1.1.1.1.1.1.1.1.1.1.1.1.1.1.1.0.is_found c.requires.1.1.1.1.1.1.1.1.1.1.1.1.1.1.1.1.1.0.rest_is runs
          c.args.start.head c.requires.1.1.1.1.1.1.1.1.1.1.1.1.1.1.1.1.1.0.head_is (g.K.Sink.written c.args.out.now) (g.K.Sink.written ran.new.out) (g.K.Sink.kept c.args.out.now) (g.K.Sink.kept ran.new.out) g.H.Dsk.Disk.history g.H.Dsk.Disk.fault_count ran.result.0 c.args.start.keep kept asked c.requires.1.1.1.1.1.1.1.1.1.1.1.1.1.1.1.1.1.1.0 c.requires.1.1.1.1.1.1.1.1.1.1.1.1.1.1.1.1.1.1.1 ran.ensures.ends.keeps;
      cut_kept = none_refused _ _ (λ r told. told) (λ why told. told) (λ why told. told) ran.result.0 ran.ensures.ends.cause;
    })

pub returns-clause-told : goal.returns-clause-told
returns-clause-told g c =
    let ran = c.run_lanes-ran in
    let told = ran.ensures.told in
    let kept = c.give_keep-2.ensures.kept in
    let disks = c.give_lanes.ensures.back.kept.disk_is.faults_are ∙ c.make_lanes.ensures.kept.disk_is.faults_are in
    let absences = c.give_lanes.ensures.back.absences_are ∙ c.in-Ok.ensures.counts.1 in
    let named = named_over g.H.Src.Source.left g.H.Src.Source.lent_as g.H.Src.Source.fault_count g.H.Src.Source.fault_plan reads_by _ _ 0 c.args.sources.items c.args.start.lanes.items c.in-Ok.lanes.items c.args.find.now.shards c.in-Ok.ensures.made c.requires.1.1.1.1.1.1.1.1.1.1.1.1.1.1.1.0 c.requires.1.1.1.1.1.1.1.1.1.1.1.1.1.1.1.1.0 in
    record {
      faults =
          then_faults _ _ _ ran.result.0 kept.names_are
          (faults_then _ _ _ c.in-Ok.ensures.steady_named ran.result.0
          (faults_as g.H.Src.Source.left g.H.Src.Source.lent_as c.args.find.now c.in-Ok.lanes.items ran.new.lanes.items _ _ _ _ named
          ran.ensures.lanes c.give_lanes.ensures.back.came ran.result.0 told.faults));
      count =
          subst (λ (n : ℕ). CountFollows ran.result.0 (g.H.Shelf.fault_count c.args.shelf.now) n) (sym kept.faults_are)
          (count_then _ _ _ c.in-Ok.ensures.steady ran.result.0
          (count_as g.H.Src.Source.left g.H.Src.Source.lent_as c.args.find.now c.in-Ok.lanes.items ran.new.lanes.items _ _ _ _ named
          ran.ensures.lanes c.give_lanes.ensures.back.came ran.result.0 told.faults));
      absences =
          subst (λ (n : ℕ). AbsencesFollow ran.result.0 (g.H.Shelf.absent_count c.args.shelf.now) n) (sym kept.absences_are)
          (absence_as _ (λ r told. told) ran.result.0 _ _ ran.ensures.ends.cause absences);
      disk =
          subst (λ (n : ℕ). DiskFollows ran.result.0 n (g.H.Shelf.disk_fault_count c.give_keep-2.new.shelf)) disks
          (disk_told g.H.Dsk.Disk.history g.H.Dsk.Disk.fault_count _ c.args.start.keep ran.result.1 ran.result.0 _ _ c.requires.1.1.1.1.1.1.1.1.1.1.1.1.1.1.1.1.1.1.1 (record {
            none = λ gone. ap g.H.Shelf.disk_fault_count (c.give_keep-2.ensures.none gone);
            raised = c.give_keep-2.ensures.raised;
            same = c.give_keep-2.ensures.same;
          }) told.disk);
      held =
          held_as g.H.Shelf _ _ _ (no_reason _ (λ why stops. stops) ran.result.0 ran.ensures.ends.cause)
          (held_then g.H.Shelf None _ _ _
          (kept_held g.H.Shelf _ _ (disk_then g.H.Shelf _ _ _ c.make_lanes.ensures.kept.disk_is c.give_lanes.ensures.back.kept.disk_is))
          c.give_keep-2.ensures.held);
      out = told.out;
      err = told.err;
      reads_rise = then_stays _ _ _ (rises_then _ _ _ c.in-Ok.ensures.steady c.give_lanes.ensures.back.came.counts.0) kept.faults_are;
      absences_rise = then_stays _ _ _ (none_falls _ _ absences) kept.absences_are;
      disks_rise = rises_then _ _ _ disks c.give_keep-2.ensures.counts;
      writes_rise = told.writes_rise;
      errors_rise = told.errors_rise;
    }

pub returns-clause-unfailing : goal.returns-clause-unfailing
returns-clause-unfailing g c =
    λ all disk out err. c.run_lanes-ran.ensures.unfailing (unfailing_over g.H.Src.Source.left g.H.Src.Source.lent_as g.H.Src.Source.fault_count g.H.Src.Source.fault_plan reads_by _ _ 0 c.args.sources.items c.args.start.lanes.items c.in-Ok.lanes.items c.in-Ok.ensures.made all) out err disk

pub returns-clause-kept : goal.returns-clause-kept
returns-clause-kept g c = c.give_keep-2.ensures.kept.files_are ∙ c.give_lanes.ensures.back.kept.files_are ∙ c.make_lanes.ensures.kept.files_are

pub returns-clause-lent : goal.returns-clause-lent
returns-clause-lent g c =
    subst (λ (o : Option ℕ). IfSome (g.H.Shelf.lent_count c.args.shelf.now) (λ n. o ≡ Some (n - length c.args.find.now.shards))) (sym c.give_keep-2.ensures.kept.lent_are)
    (lent_all _ _ _ _ _
    (zip_long _ c.in-Ok.lanes.items c.run_lanes-ran.new.lanes.items c.run_lanes-ran.ensures.lanes
    ∙ lane_count g.H.Src.Source.left g.H.Src.Source.lent_as g.H.Src.Source.fault_count g.H.Src.Source.fault_plan reads_by _ _ _ _ _ c.requires.1.1.1.1.1.1.1.1.1.1.1.0 _ _ _ _ _ c.requires.1.1.1.1.1.1.1.1.1.1.1.1.0 c.requires.1.1.1.1.1.1.1.1.1.1.1.1.1.0 c.requires.1.1.1.1.1.1.1.1.1.1.1.1.1.1.0 c.requires.1.1.1.1.1.1.1.1.1.1.1.1.1.1.1.0 c.requires.1.1.1.1.1.1.1.1.1.1.1.1.1.1.1.1.1.0 c.in-Ok.lanes.items c.in-Ok.ensures.made)
    c.in-Ok.ensures.lent c.give_lanes.ensures.back.lent)

pub returns-clause-back : goal.returns-clause-back
returns-clause-back g c =
    λ asked.
    let ran = c.run_lanes-ran in
    let some = still_some g.H.Dsk.Disk.history g.H.Dsk.Disk.fault_count _ _ _ ran.result.0 c.args.start.keep ran.result.1 ran.ensures.ends.keeps (keeps_some g.H.Dsk.Disk.history g.H.Dsk.Disk.fault_count c.args.find.now.checkpoint c.args.start.keep c.requires.1.1.1.1.1.1.1.1.1.1.1.1.1.1.1.1.1.1.0 asked) in
    there ran.result.1 _ some c.give_keep-2.ensures.back

pub returns-clause-disk_kept : goal.returns-clause-disk_kept
returns-clause-disk_kept g c =
    λ none.
    let ran = c.run_lanes-ran in
    let gone = still_none g.H.Dsk.Disk.history g.H.Dsk.Disk.fault_count _ _ _ ran.result.0 c.args.start.keep ran.result.1 ran.ensures.ends.keeps (keeps_none g.H.Dsk.Disk.history g.H.Dsk.Disk.fault_count c.args.find.now.checkpoint c.args.start.keep c.requires.1.1.1.1.1.1.1.1.1.1.1.1.1.1.1.1.1.1.0 none) in
    disk_then g.H.Shelf _ _ _ (disk_then g.H.Shelf _ _ _ c.make_lanes.ensures.kept.disk_is c.give_lanes.ensures.back.kept.disk_is)
    (same_disk g.H.Shelf _ _ (c.give_keep-2.ensures.none gone))
