-- A run that isn't begun, by what its disk held: all that its error says.
use Rattle.std.proofs.Common.{◌≡◌, ℕ, List, Option, Some, None, Err, refl, sym, subst, ◌∙◌}
use Rattle.std.specs.Prelude.{IfSome}
use Rattle.eql_outside.specs.Faults.{FaultsAreSame}
use Rattle.eql_outside.specs.Moments.{History}
use Rattle.eql_outside.specs.Outside.{Rose}
use Rattle.eql_words.specs.declared.commands.Find.{Find}
use Rattle.eql_words.specs.Bounds.{FindIsBounded}
use Rattle.eql_runs.specs.Files.{Files}
use Rattle.eql_runs.specs.RunLaws.{DiskHoldsOne, FitsAtAnySpan}
use Rattle.eql_runs.specs.Runs.{IfFound, RefusesCut, Searches}
use Rattle.eql_runs.specs.Searches.{Search}
use Rattle.eql_shards.specs.Shards.{AreWholeFiles}
use Rattle.eql_inputs.specs.declared.error.InputError.TheVariants as error
use Rattle.eql_find.specs.declared.error.CutStop.{CutStop}
use Rattle.eql_find.specs.declared.error.FindError.{FindError}
use Rattle.eql_find.specs.declared.error.FindError.TheVariants as run
use Rattle.eql_find.specs.declared.plan.PlannedQuery.{PlannedQuery}
use Rattle.eql_find.specs.Finding.{HasFindCause, IsPlanOf}
use Rattle.eql_find.specs.Errors.{AbsencesFollow, CountFollows, DiskFollows, ErrFollows, FaultsFollow, IsReport, OutFollows, TellsNothing, cut_refusal_of}
use Rattle.eql_find.specs.Searching.{search_in}
use Rattle.eql_find.specs.Starting.{DiskRose, HasStartCause}
use Rattle.eql_find.proofs.RefusingLemmas.{refused_found}
use Rattle.eql_find.proofs.TextLemmas.{searches_in, texts_long}

-- beside its cause
pub record Unbegun (h : FindError) : Type 0 where
  pub faults : (names names' : List ℕ → ℕ) → FaultsAreSame names names' → FaultsFollow {A = Unit {0}} (Err h) names names'
  pub count : (before now : ℕ) → now ≡ before → CountFollows {A = Unit {0}} (Err h) before now
  pub absence : (before now : ℕ) → now ≡ before → AbsencesFollow {A = Unit {0}} (Err h) before now
  pub disk : (before mid now : ℕ) → DiskRose h before mid → now ≡ mid → DiskFollows {A = Unit {0}} (Err h) before now
  pub out : (n : ℕ) → OutFollows {A = Unit {0}} (Err h) n n
  pub err : (n : ℕ) → ErrFollows {A = Unit {0}} (Err h) n n
  pub quiet : TellsNothing h
  pub no_report : ¬ IsReport h

pub unbegun : (find : Find) (p : PlannedQuery) (disk : Option History) (h : FindError) → HasStartCause find p disk h → Unbegun h
unbegun find p disk (run.Files (error.Refused r)) cause = absurd cause
unbegun find p disk (run.Files (error.Read name)) cause = absurd cause
unbegun find p disk (run.Files error.Memory) cause = record {
  faults = λ names names' same. same;
  count = λ before now same. same;
  absence = λ before now same. same;
  disk = λ before mid now rose same. same ∙ rose;
  out = λ n. refl;
  err = λ n. refl;
  quiet = tt;
  no_report = λ h. h;
}
unbegun find p disk (run.Cut why) cause = record {
  faults = λ names names' same. same;
  count = λ before now same. same;
  absence = λ before now same. same;
  disk = λ before mid now rose same. same ∙ rose;
  out = λ n. refl;
  err = λ n. refl;
  quiet = tt;
  no_report = λ h. h;
}
unbegun find p disk (run.Held why) cause = record {
  faults = λ names names' same. same;
  count = λ before now same. same;
  absence = λ before now same. same;
  disk = λ before mid now rose same. same ∙ rose;
  out = λ n. refl;
  err = λ n. refl;
  quiet = tt;
  no_report = λ h. h;
}
unbegun find p disk run.Disk cause = record {
  faults = λ names names' same. same;
  count = λ before now same. same;
  absence = λ before now same. same;
  disk = λ before mid now rose same. subst (λ (n : ℕ). Rose before n) (sym same) rose;
  out = λ n. refl;
  err = λ n. refl;
  quiet = tt;
  no_report = λ h. h;
}
unbegun find p disk run.Write cause = absurd cause
unbegun find p disk (run.Limit l) cause = absurd cause
unbegun find p disk run.Generation cause = absurd cause
unbegun find p disk (run.Report r) cause = absurd cause

-- its cause
module _ (spans : FitsAtAnySpan) (one : DiskHoldsOne) (find : Find) (p : PlannedQuery) (bounds : FindIsBounded find) (lefts : List (Option (List ℕ)))
    (disk : Option History) where
  refused_cut : (files : Option Files) (why : CutStop) → IsPlanOf find files p → AreWholeFiles find.shards files lefts
      → HasStartCause find p disk (run.Cut why) → IfFound find files disk (λ fs on. RefusesCut find fs on (cut_refusal_of why))
  refused_cut None why is whole cause = tt
  refused_cut (Some fs) why is whole cause = λ on holds.
      refused_found spans one find p fs whole.texts disk (cut_refusal_of why) bounds cause.0 (searches_in find fs p whole.texts is whole.there)
      (texts_long find.shards fs whole.texts whole.there) cause.1 on (holds cause.0)

  searched : (files : Option Files) → IsPlanOf find files p → AreWholeFiles find.shards files lefts
      → IfSome files (λ fs. (search : Search) × (texts : List (List ℕ)) × Searches find fs search texts)
  searched None is whole = tt
  searched (Some fs) is whole = (search_in find p, whole.texts, searches_in find fs p whole.texts is whole.there)

  pub unbegun_cause : (files : Option Files) (now : Option History) (err err' : Option (List ℕ)) (h : FindError) → IsPlanOf find files p
      → AreWholeFiles find.shards files lefts → HasStartCause find p disk h → HasFindCause find files disk now err err' h
  unbegun_cause files now err err' (run.Files (error.Refused r)) is whole cause = absurd cause
  unbegun_cause files now err err' (run.Files (error.Read name)) is whole cause = absurd cause
  unbegun_cause files now err err' (run.Files error.Memory) is whole cause = tt
  unbegun_cause files now err err' (run.Cut why) is whole cause = (cause.0, refused_cut files why is whole cause)
  unbegun_cause files now err err' (run.Held why) is whole cause = (cause, searched files is whole)
  unbegun_cause files now err err' run.Disk is whole cause = (cause, searched files is whole)
  unbegun_cause files now err err' run.Write is whole cause = absurd cause
  unbegun_cause files now err err' (run.Limit l) is whole cause = absurd cause
  unbegun_cause files now err err' run.Generation is whole cause = absurd cause
  unbegun_cause files now err err' (run.Report r) is whole cause = absurd cause
