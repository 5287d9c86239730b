use Rattle.std.proofs.Common.{ℕ, Option, refl, subst, sym, ◌∙◌}
use Rattle.eql_outside.specs.Moments.{History}
use Rattle.eql_outside.specs.Plans.{FaultPlan}
use Rattle.eql_outside.specs.Unfailing.{IsUnfailing}
use Rattle.eql_query.specs.QueryTree.{query_tree}
use Rattle.eql_runs.specs.Files.{Files}
use Rattle.eql_inputs.specs.Errors.{AbsencesFollow, CountFollows}
use Rattle.eql_shards.specs.Shards.{HasShardsCause}
use Rattle.eql_find.specs.Outcomes.{FindEnds}
use Rattle.eql_inputs.proofs.ErrorLemmas.{faults_later}
use Rattle.eql_inputs.proofs.ShelfLemmas.{disk_then}
use Rattle.eql_find.proofs.FileLemmas.{file_disk, file_faults, file_out}
use Rattle.eql_find.proofs.GivingLemmas.{over_both}
use Rattle.eql_find.proofs.EarlyErrors.{none_is_some, same_keeps, same_no_more}
use Rattle.eql_find.proofs.HeldLemmas.{kept_held}
use Rattle.eql_find.proofs.OutcomeLemmas.{none_falls, rises_then, told_then}
use Rattle.eql_find.proofs.find.find_matches.Goals as goal

-- query or mapping weren't read
pub returns-in-Err-clause-ends : goal.returns-in-Err-clause-ends
returns-in-Err-clause-ends g c = record {
  done = tt;
  accepted = tt;
  prefix = none_is_some _ _ _ _;
  listed = λ report. absurd report;
  untouched = λ refusal. refl;
  quiet = λ nothing. refl;
  cause = c.in-Err.ensures.cause c.args.find.now.shards;
  moments = λ asked. same_keeps _ _ _ _ _ _ _ _ c.in-Err.ensures.shelf.kept.disk_is.history_is;
  cut_kept = λ refusal. same_no_more _ _ c.in-Err.ensures.shelf.kept.disk_is.history_is;
}

pub returns-in-Err-clause-told : goal.returns-in-Err-clause-told
returns-in-Err-clause-told g c = record {
  faults = file_faults c.in-Err.error _ _ c.in-Err.ensures.shelf.told.faults;
  count = c.in-Err.ensures.shelf.told.count;
  absences = c.in-Err.ensures.shelf.told.absences;
  disk = file_disk c.in-Err.error _ _ c.in-Err.ensures.shelf.kept.disk_is.faults_are;
  held = kept_held g.H.Shelf _ _ c.in-Err.ensures.shelf.kept.disk_is;
  out = file_out c.in-Err.error _ _ refl;
  err = refl;
  reads_rise = c.in-Err.ensures.shelf.told.faults_rise;
  absences_rise = c.in-Err.ensures.shelf.told.absences_rise;
  disks_rise = none_falls _ _ c.in-Err.ensures.shelf.kept.disk_is.faults_are;
  writes_rise = none_falls _ _ refl;
  errors_rise = none_falls _ _ refl;
}

pub returns-in-Err-clause-disk_kept : goal.returns-in-Err-clause-disk_kept
returns-in-Err-clause-disk_kept g c = λ none. c.in-Err.ensures.shelf.kept.disk_is

-- the shards weren't opened
pub returns-clause-ends : goal.returns-clause-ends
returns-clause-ends g c =
    let same = c.open_shards.ensures.shelf.kept.disk_is.history_is ∙ c.read_plan.ensures.shelf.kept.disk_is.history_is in
    record {
      done = tt;
      accepted = tt;
      prefix = none_is_some _ _ _ _;
      listed = λ report. absurd report;
      untouched = λ refusal. refl;
      quiet = λ nothing. refl;
      cause =
          subst (λ (fs : Option Files). HasShardsCause c.args.find.now.shards fs c.in-Err-open_shards.error) c.read_plan.ensures.shelf.kept.files_are c.in-Err-open_shards.ensures.cause
          c.args.find.now.query c.args.find.now.fields (query_tree c.in-Ok.planned.plan.checked.query) c.in-Ok.planned.mapping c.in-Ok.ensures.plan.got;
      moments = λ asked. same_keeps _ _ _ _ _ _ _ _ same;
      cut_kept = λ refusal. same_no_more _ _ same;
    }

pub returns-clause-told : goal.returns-clause-told
returns-clause-told g c =
    let disks = c.open_shards.ensures.shelf.kept.disk_is.faults_are ∙ c.read_plan.ensures.shelf.kept.disk_is.faults_are in
    record {
      faults = file_faults c.in-Err-open_shards.error _ _ (faults_later c.in-Err-open_shards.error _ _ _ c.in-Ok.ensures.shelf.told.faults c.in-Err-open_shards.ensures.shelf.told.faults);
      count =
          subst (λ (n : ℕ). CountFollows c.in-Err-open_shards.error n (g.H.Shelf.fault_count c.open_shards.new.shelf)) c.in-Ok.ensures.shelf.told.count c.in-Err-open_shards.ensures.shelf.told.count;
      absences =
          subst (λ (n : ℕ). AbsencesFollow c.in-Err-open_shards.error n (g.H.Shelf.absent_count c.open_shards.new.shelf)) c.in-Ok.ensures.shelf.told.absences c.in-Err-open_shards.ensures.shelf.told.absences;
      disk = file_disk c.in-Err-open_shards.error _ _ disks;
      held = kept_held g.H.Shelf _ _ (disk_then g.H.Shelf _ _ _ c.read_plan.ensures.shelf.kept.disk_is c.open_shards.ensures.shelf.kept.disk_is);
      out = file_out c.in-Err-open_shards.error _ _ refl;
      err = refl;
      reads_rise = rises_then _ _ _ c.in-Ok.ensures.shelf.told.count c.open_shards.ensures.shelf.told.faults_rise;
      absences_rise = rises_then _ _ _ c.in-Ok.ensures.shelf.told.absences c.open_shards.ensures.shelf.told.absences_rise;
      disks_rise = none_falls _ _ disks;
      writes_rise = none_falls _ _ refl;
      errors_rise = none_falls _ _ refl;
    }

pub returns-clause-disk_kept : goal.returns-clause-disk_kept
returns-clause-disk_kept g c =
    λ none. disk_then g.H.Shelf _ _ _ c.read_plan.ensures.shelf.kept.disk_is c.open_shards.ensures.shelf.kept.disk_is

-- they were
pub returns-in-Ok-open_shards-clause-ends : goal.returns-in-Ok-open_shards-clause-ends
returns-in-Ok-open_shards-clause-ends g c =
    over_both (λ (fs : Option Files) (h : Option History). FindEnds g.K.Sink g.E.Sink c.args.find.now fs h (g.H.Shelf.disk_history c.run_shards.new.shelf) c.args.out.now c.run_shards.new.out c.args.err.now c.run_shards.new.err c.run_shards.result)
    (c.open_shards.ensures.shelf.kept.files_are ∙ c.read_plan.ensures.shelf.kept.files_are) (c.open_shards.ensures.shelf.kept.disk_is.history_is ∙ c.read_plan.ensures.shelf.kept.disk_is.history_is)
    c.run_shards.ensures.ends

pub returns-in-Ok-open_shards-clause-told : goal.returns-in-Ok-open_shards-clause-told
returns-in-Ok-open_shards-clause-told g c =
    told_then g.H.Shelf g.K.Sink g.E.Sink _ _ _ _ _ _ _ c.run_shards.result (λ name. c.in-Ok-open_shards.ensures.shelf.told.faults name ∙ c.in-Ok.ensures.shelf.told.faults name)
    (c.in-Ok-open_shards.ensures.shelf.told.count ∙ c.in-Ok.ensures.shelf.told.count) (c.in-Ok-open_shards.ensures.shelf.told.absences ∙ c.in-Ok.ensures.shelf.told.absences)
    (c.open_shards.ensures.shelf.kept.disk_is.faults_are ∙ c.read_plan.ensures.shelf.kept.disk_is.faults_are)
    (kept_held g.H.Shelf _ _ (disk_then g.H.Shelf _ _ _ c.read_plan.ensures.shelf.kept.disk_is c.open_shards.ensures.shelf.kept.disk_is)) c.run_shards.ensures.told

pub returns-in-Ok-open_shards-clause-unfailing : goal.returns-in-Ok-open_shards-clause-unfailing
returns-in-Ok-open_shards-clause-unfailing g c =
    λ shelf files disk out err.
    let opened = c.in-Ok-open_shards.ensures.shelf.unfailing (c.in-Ok.ensures.shelf.unfailing (shelf, files)).1 in
    c.run_shards.ensures.unfailing opened.0 opened.1.0
    (λ asked. subst (λ (p : Option FaultPlan). IsUnfailing p) (sym (c.open_shards.ensures.shelf.kept.disk_is.plan_is ∙ c.read_plan.ensures.shelf.kept.disk_is.plan_is)) (disk asked)) out err

pub returns-in-Ok-open_shards-clause-disk_kept : goal.returns-in-Ok-open_shards-clause-disk_kept
returns-in-Ok-open_shards-clause-disk_kept g c =
    λ none.
    disk_then g.H.Shelf _ _ _ (disk_then g.H.Shelf _ _ _ c.read_plan.ensures.shelf.kept.disk_is c.open_shards.ensures.shelf.kept.disk_is)
    (c.run_shards.ensures.disk_kept none)
