use denote.Param.Send.{sendable}
use Rattle.std.proofs.Common.{◌≡◌, Option, ap, map, refl, subst, sym, ◌∙◌}
use Rattle.eql_outside.specs.Moments.{History, DiskTells}
use Rattle.eql_ckdisk.specs.Going.{Goes}
use Rattle.eql_ckdisk.specs.Keeping.{LeavesNoMore}
use Rattle.eql_runs.specs.Files.{Files}
use Rattle.eql_runs.specs.Runs.{KeepsCuts}
use Rattle.eql_inputs.proofs.ShelfLemmas.{disk_then}
use Rattle.eql_shards.specs.Shards.{AreWholeFiles}
use Rattle.eql_find.specs.Finding.{IsPlanOf}
use Rattle.eql_find.specs.Outcomes.{FindEnds}
use Rattle.eql_find.specs.Starting.{BeginsOnDisk, IsFreshKeep}
use Rattle.eql_find.proofs.DiskLemmas.{recovered_keeps}
use Rattle.eql_find.proofs.GivingLemmas.{back_by, fresh_keep, keeps_if_asked, over_both}
use Rattle.eql_find.proofs.EarlyErrors.{none_is_some}
use Rattle.eql_shards.proofs.BackLemmas.{none_failed}
use Rattle.eql_find.proofs.HeldLemmas.{held_later, kept_held}
use Rattle.eql_find.proofs.OutcomeLemmas.{none_falls, rises_then, same_disk, then_stays, told_then}
use Rattle.eql_find.proofs.UnbegunLemmas.{unbegun, unbegun_cause}
use Rattle.eql_find.proofs.find.run_shards.Goals as goal

pub run_start-requires : goal.run_start-requires
run_start-requires g c =
    λ κs lives.
    let still : g.H.Shelf.disk_history c.start_run.new.shelf ≡ g.H.Shelf.disk_history c.args.shelf.now = c.in-Ok.ensures.still in
    let kept = c.in-Ok.ensures.kept in
    let start = c.in-Ok.start in
    let files : g.H.Shelf.files c.start_run.new.shelf ≡ g.H.Shelf.files c.args.shelf.now = kept.files_are in
    let plan = subst (λ (fs : Option Files). IsPlanOf c.args.find.now fs c.args.planned.now) (sym files) c.requires.plan in
    let whole = subst (λ (fs : Option Files). AreWholeFiles c.args.find.now.shards fs (map g.H.Src.Source.left c.args.sources.items)) (sym files) c.requires.whole in
    let begins = subst (λ (d : Option History). BeginsOnDisk c.args.find.now c.args.planned.now d start.head start.keep start.lanes.items start.rest) (sym still) c.in-Ok.ensures.begins in
    let keeps = keeps_if_asked g.H.Dsk.Disk.history g.H.Dsk.Disk.fault_count _ _ _ c.in-Ok.ensures.keeps.0 c.in-Ok.ensures.keeps.1 in
    let fresh = subst (λ (d : Option History). IsFreshKeep g.H.Dsk.Disk.history g.H.Dsk.Disk.fault_count d start.keep) (sym still)
    (fresh_keep g.H.Dsk.Disk.history g.H.Dsk.Disk.fault_count c.args.find.now.checkpoint _ start.keep c.in-Ok.ensures.keeps.0 c.in-Ok.ensures.keeps.1) in
    (lives.0, (lives.1.0, (lives.1.1.0, (lives.1.1.1.0, (lives.1.1.1.1.0, (lives.1.1.1.1.1.0, (lives.1.1.1.1.1.1, (search (sendable, c.type_bounds.send-H-Src), (search (sendable, c.type_bounds.sync-R), (search (sendable, c.type_bounds.sync-W), (search (sendable, c.type_bounds.sync-H-Src), (refl, (c.requires.bounds, (plan, (whole, (c.requires.named, (c.requires.fresh, (begins, (keeps, fresh)))))))))))))))))))

-- it isn't begun
pub returns-in-Err-clause-ends : goal.returns-in-Err-clause-ends
returns-in-Err-clause-ends g c =
    let by = unbegun c.args.find.now c.args.planned.now _ c.in-Err.error c.in-Err.ensures.cause in
    record {
      done = tt;
      accepted = tt;
      prefix = none_is_some _ _ _ _;
      listed = λ report. absurd (by.no_report report);
      untouched = λ refusal. refl;
      quiet = λ nothing. refl;
      cause =
          unbegun_cause c.spans_change_no_fit.ensures c.disks_hold_one_thing.ensures c.args.find.now c.args.planned.now c.requires.bounds _ _ _ _ _ _ c.in-Err.error
          c.requires.plan c.requires.whole c.in-Err.ensures.cause;
      moments = λ asked.
          subst (λ (d : Option History). DiskTells (KeepsCuts c.args.find.now (g.H.Shelf.files c.args.shelf.now) (g.K.Sink.written c.args.out.now) (g.K.Sink.written c.args.out.now) (g.K.Sink.kept c.args.out.now) (g.K.Sink.kept c.args.out.now)) (g.H.Shelf.disk_history c.args.shelf.now) d)
          (sym c.give_sources.ensures.back.kept.disk_is.history_is) (recovered_keeps c.puts_go_on.ensures _ _ _ _ _ _ _ _ c.in-Err.ensures.moments);
      cut_kept = λ refusal.
          subst (λ (d : Option History). DiskTells (Goes LeavesNoMore) (g.H.Shelf.disk_history c.args.shelf.now) d) (sym c.give_sources.ensures.back.kept.disk_is.history_is)
          c.in-Err.ensures.moments;
    }

pub returns-in-Err-clause-told : goal.returns-in-Err-clause-told
returns-in-Err-clause-told g c =
    let by = unbegun c.args.find.now c.args.planned.now _ c.in-Err.error c.in-Err.ensures.cause in
    let back = c.give_sources.ensures.back.came.none (none_failed g.H.Src.Source.lent_as g.H.Src.Source.fault_count c.args.sources.items c.requires.fresh) in
    let kept = c.in-Err.ensures.kept in
    record {
      faults = by.faults _ _ (λ name. back.1 name ∙ kept.names_are name);
      count = by.count _ _ (back.0 ∙ kept.faults_are);
      absences = by.absence _ _ (c.give_sources.ensures.back.absences_are ∙ kept.absences_are);
      disk = by.disk _ _ _ c.in-Err.ensures.fault c.give_sources.ensures.back.kept.disk_is.faults_are;
      held = held_later g.H.Shelf _ _ _ _ c.in-Err.ensures.held (kept_held g.H.Shelf _ _ c.give_sources.ensures.back.kept.disk_is);
      out = by.out _;
      err = by.err _;
      reads_rise = rises_then _ _ _ kept.faults_are c.give_sources.ensures.back.came.counts.0;
      absences_rise = none_falls _ _ (c.give_sources.ensures.back.absences_are ∙ kept.absences_are);
      disks_rise = then_stays _ _ _ c.in-Err.ensures.counts c.give_sources.ensures.back.kept.disk_is.faults_are;
      writes_rise = none_falls _ _ refl;
      errors_rise = none_falls _ _ refl;
    }

pub returns-in-Err-clause-disk_kept : goal.returns-in-Err-clause-disk_kept
returns-in-Err-clause-disk_kept g c =
    λ none. disk_then g.H.Shelf _ _ _ (same_disk g.H.Shelf _ _ (c.in-Err.ensures.untouched none)) c.give_sources.ensures.back.kept.disk_is

-- it is begun
pub returns-in-Ok-clause-ends : goal.returns-in-Ok-clause-ends
returns-in-Ok-clause-ends g c =
    over_both (λ (fs : Option Files) (h : Option History). FindEnds g.K.Sink g.E.Sink c.args.find.now fs h (g.H.Shelf.disk_history c.run_start.new.shelf) c.args.out.now c.run_start.new.out c.args.err.now c.run_start.new.err c.run_start.result)
    c.in-Ok.ensures.kept.files_are c.in-Ok.ensures.still c.run_start.ensures.ends

pub returns-in-Ok-clause-told : goal.returns-in-Ok-clause-told
returns-in-Ok-clause-told g c =
    let kept = c.in-Ok.ensures.kept in
    told_then g.H.Shelf g.K.Sink g.E.Sink _ _ _ _ _ _ _ c.run_start.result kept.names_are kept.faults_are kept.absences_are c.in-Ok.ensures.steady c.in-Ok.ensures.held c.run_start.ensures.told

pub returns-in-Ok-clause-unfailing : goal.returns-in-Ok-clause-unfailing
returns-in-Ok-clause-unfailing g c =
    λ all shelf disk out err. c.run_start.ensures.unfailing all (c.in-Ok.ensures.unfailing shelf disk).1 out err

pub returns-in-Ok-clause-back : goal.returns-in-Ok-clause-back
returns-in-Ok-clause-back g c =
    back_by c.args.find.now.checkpoint _ _ c.run_start.ensures.back
    (λ none. (c.run_start.ensures.disk_kept none).out_is ∙ ap g.H.Shelf.is_out (c.in-Ok.ensures.untouched none))

pub returns-in-Ok-clause-disk_kept : goal.returns-in-Ok-clause-disk_kept
returns-in-Ok-clause-disk_kept g c =
    λ none. disk_then g.H.Shelf _ _ _ (same_disk g.H.Shelf _ _ (c.in-Ok.ensures.untouched none)) (c.run_start.ensures.disk_kept none)
