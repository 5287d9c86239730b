-- A run of a command, by the run of `find`, of `check` or of `made`.
use Rattle.std.proofs.Common.{◌≡◌, ℕ, inr, List, [], ◌++◌, Option, Some, None, Result, Ok, Err, refl, sym, ap, subst}
use Rattle.std.specs.Prelude.{IfErr, IfSome, OnErr}
use Rattle.std.proofs.lemmas.List.{append-nil}
use Rattle.eql_outside.specs.Moments.{History}
use Rattle.eql_words.specs.declared.commands.Command.{Command}
use Rattle.eql_words.specs.declared.commands.Command.TheVariants as command
use Rattle.eql_words.specs.declared.commands.Find.{Find}
use Rattle.eql_runs.specs.Files.{Files}
use Rattle.eql_runs.specs.Runs.{IfFound, IsFindAccepted}
use Rattle.eql_runs.specs.Summaries.{Makes}
use Rattle.eql_inputs.specs.Steps.{naming}
use Rattle.eql_inputs.specs.declared.error.InputError.TheVariants as error
use Rattle.eql_find.specs.declared.error.FindError.{FindError}
use Rattle.eql_find.specs.declared.error.FindError.TheVariants as run
use Rattle.eql_find.specs.Finding.{FindsAll, FindsListing, FindsSome, names_in}
use Rattle.eql_find.specs.Finding as found
use Rattle.eql_find.specs.Errors.{AbsencesFollow, CountFollows, DiskFollows, ErrFollows, FaultsFollow, IsRefusal, IsReport, TellsNothing}
use Rattle.eql_summary.specs.Written.{MakesAll, MakesFront}
use Rattle.eql_cli.specs.Printing.{PrintsAll, PrintsSome, StopsWriting}
use Rattle.eql_cli.specs.Printing as printing
use Rattle.eql_cli.specs.Running.{HasCommandCause, IfRun, IsAcceptedBy, RunsAll, RunsListing, RunsSome}

pub found_all : (asked : Command) (find : Find) → asked ≡ command.Find find → (files : Option Files) (disk : Option History)
    (out out' err err' : Option (List ℕ)) → FindsAll find files disk out out' err err' → RunsAll asked files disk out out' err err'
found_all asked find is files disk out out' err err' h = subst (λ (c : Command). RunsAll c files disk out out' err err') (sym is) h

pub found_accepted : (asked : Command) (find : Find) → asked ≡ command.Find find → (files : Option Files) (disk : Option History)
    → IfFound find files disk (IsFindAccepted find) → IfRun asked files disk (IsAcceptedBy asked)
found_accepted asked find is files disk h = subst (λ (c : Command). IfRun c files disk (IsAcceptedBy c)) (sym is) h

pub found_some : (asked : Command) (find : Find) → asked ≡ command.Find find → (files : Option Files) (disk : Option History)
    (out out' : Option (List ℕ)) → FindsSome find files disk out out' → RunsSome asked files disk out out'
found_some asked find is files disk out out' h = subst (λ (c : Command). RunsSome c files disk out out') (sym is) h

pub found_listing : (asked : Command) (find : Find) → asked ≡ command.Find find → (files : Option Files) (disk : Option History)
    (out out' : Option (List ℕ)) (h : FindError) → (IsReport h → FindsListing find files disk out out') → IsReport h
    → RunsListing asked files disk out out'
found_listing asked find is files disk out out' h wrote report =
    subst (λ (c : Command). RunsListing c files disk out out') (sym is) (wrote report)

cause_of_find : (find : Find) (files : Option Files) (disk now : Option History) (err err' : Option (List ℕ)) (h : FindError)
    → found.HasFindCause find files disk now err err' h → HasCommandCause (command.Find find) files disk now err err' h
cause_of_find find files disk now err err' (run.Files (error.Refused r)) cause = (names_in find, refl, cause)
cause_of_find find files disk now err err' (run.Files (error.Read name)) cause = (names_in find, refl, cause)
cause_of_find find files disk now err err' (run.Files error.Memory) cause = tt
cause_of_find find files disk now err err' (run.Cut why) cause = (record { find = find; is_find = refl; has_disk = cause.0 }, cause.1)
cause_of_find find files disk now err err' (run.Held why) cause = (record { find = find; is_find = refl; has_disk = cause.0 }, cause.1)
cause_of_find find files disk now err err' run.Disk cause = (record { find = find; is_find = refl; has_disk = cause.0 }, cause.1)
cause_of_find find files disk now err err' run.Write cause = cause
cause_of_find find files disk now err err' (run.Limit l) cause = (find, refl, cause.0, cause.1)
cause_of_find find files disk now err err' run.Generation cause =
    (record { find = find; is_find = refl; has_disk = cause.0 }, cause.1, cause.2)
cause_of_find find files disk now err err' (run.Report r) cause = (find, refl, cause)

pub find_cause : (asked : Command) (find : Find) → asked ≡ command.Find find → (files : Option Files) (disk now : Option History)
    (err err' : Option (List ℕ)) (h : FindError) → found.HasFindCause find files disk now err err' h → HasCommandCause asked files disk now err err' h
find_cause asked find is files disk now err err' h cause =
    subst (λ (c : Command). HasCommandCause c files disk now err err' h) (sym is) (cause_of_find find files disk now err err' h cause)

-- nothing was written to a sink that wasn't touched
untouched : (err : Option (List ℕ)) → IfSome err (λ w. err ≡ Some (w ++ []))
untouched None = tt
untouched (Some w) = ap (λ (x : List ℕ). Some x) (sym (append-nil w))

-- ---- a run of `check`
all_of_check : (query fields : List ℕ) (files : Option Files) (disk : Option History) (out out' err : Option (List ℕ))
    → PrintsAll query fields files out out' → RunsAll (command.Check query fields) files disk out out' err err
all_of_check query fields None disk out out' err h = tt
all_of_check query fields (Some fs) disk out out' err h = λ on holds trusted.
    (h.0, [], record { tree = h.2.tree; kinds = h.2.kinds; checked = h.2.checked; bytes_are = h.2.bytes_are; report_is = refl }, h.3, untouched err)

pub printed_all : (asked : Command) (query fields : List ℕ) → asked ≡ command.Check query fields → (files : Option Files) (disk : Option History)
    (out out' err : Option (List ℕ)) → PrintsAll query fields files out out' → RunsAll asked files disk out out' err err
printed_all asked query fields is files disk out out' err h =
    subst (λ (c : Command). RunsAll c files disk out out' err err) (sym is) (all_of_check query fields files disk out out' err h)

accepted_of_check : (query fields : List ℕ) (files : Option Files) (disk : Option History) (out out' : Option (List ℕ))
    → PrintsAll query fields files out out' → IfRun (command.Check query fields) files disk (IsAcceptedBy (command.Check query fields))
accepted_of_check query fields None disk out out' h = tt
accepted_of_check query fields (Some fs) disk out out' h = λ on holds. (h.0, h.1, h.2)

pub printed_accepted : (asked : Command) (query fields : List ℕ) → asked ≡ command.Check query fields → (files : Option Files)
    (disk : Option History) (out out' : Option (List ℕ)) → PrintsAll query fields files out out' → IfRun asked files disk (IsAcceptedBy asked)
printed_accepted asked query fields is files disk out out' h =
    subst (λ (c : Command). IfRun c files disk (IsAcceptedBy c)) (sym is) (accepted_of_check query fields files disk out out' h)

some_of_check : (query fields : List ℕ) (files : Option Files) (disk : Option History) (out out' : Option (List ℕ))
    → PrintsSome query fields files out out' → RunsSome (command.Check query fields) files disk out out'
some_of_check query fields None disk out out' h = tt
some_of_check query fields (Some fs) disk out out' h = λ on holds trusted. h

pub printed_some : (asked : Command) (query fields : List ℕ) → asked ≡ command.Check query fields → (files : Option Files) (disk : Option History)
    (out out' : Option (List ℕ)) → PrintsSome query fields files out out' → RunsSome asked files disk out out'
printed_some asked query fields is files disk out out' h =
    subst (λ (c : Command). RunsSome c files disk out out') (sym is) (some_of_check query fields files disk out out' h)

-- a run of `check` and of `made` has no report that may be refused
check_reports : (query fields : List ℕ) (files : Option Files) (h : FindError) → printing.HasPrintCause query fields files h → ¬ IsReport h
check_reports query fields files (run.Files h) cause report = report
check_reports query fields files (run.Cut why) cause report = report
check_reports query fields files (run.Held why) cause report = report
check_reports query fields files run.Disk cause report = report
check_reports query fields files run.Write cause report = report
check_reports query fields files (run.Limit l) cause report = report
check_reports query fields files run.Generation cause report = report
check_reports query fields files (run.Report r) cause report = cause

pub printed_listing : (asked : Command) (query fields : List ℕ) (files : Option Files) (disk : Option History) (out out' : Option (List ℕ))
    (h : FindError) → printing.HasPrintCause query fields files h → IsReport h → RunsListing asked files disk out out'
printed_listing asked query fields files disk out out' h cause report = absurd (check_reports query fields files h cause report)

accepted_by_check : (query fields : List ℕ) (files : Option Files) (disk : Option History)
    → printing.HasPrintCause query fields files run.Write → IfRun (command.Check query fields) files disk (IsAcceptedBy (command.Check query fields))
accepted_by_check query fields None disk cause = tt
accepted_by_check query fields (Some fs) disk cause = λ on holds. cause

cause_of_check : (query fields : List ℕ) (files : Option Files) (disk now : Option History) (err : Option (List ℕ)) (h : FindError)
    → printing.HasPrintCause query fields files h → HasCommandCause (command.Check query fields) files disk now err err h
cause_of_check query fields files disk now err (run.Files (error.Refused r)) cause = (naming query fields [], refl, cause)
cause_of_check query fields files disk now err (run.Files (error.Read name)) cause = (naming query fields [], refl, cause)
cause_of_check query fields files disk now err (run.Files error.Memory) cause = tt
cause_of_check query fields files disk now err (run.Cut why) cause = absurd cause
cause_of_check query fields files disk now err (run.Held why) cause = absurd cause
cause_of_check query fields files disk now err run.Disk cause = absurd cause
cause_of_check query fields files disk now err run.Write cause = accepted_by_check query fields files disk cause
cause_of_check query fields files disk now err (run.Limit l) cause = absurd cause
cause_of_check query fields files disk now err run.Generation cause = absurd cause
cause_of_check query fields files disk now err (run.Report r) cause = absurd cause

pub check_cause : (asked : Command) (query fields : List ℕ) → asked ≡ command.Check query fields → (files : Option Files)
    (disk now : Option History) (err : Option (List ℕ)) (h : FindError) → printing.HasPrintCause query fields files h
    → HasCommandCause asked files disk now err err h
check_cause asked query fields is files disk now err h cause =
    subst (λ (c : Command). HasCommandCause c files disk now err err h) (sym is) (cause_of_check query fields files disk now err h cause)

-- ---- a run of `made`
all_of_made : (hands events : ℕ) (files : Option Files) (disk : Option History) (out out' err : Option (List ℕ)) → MakesAll events out out'
    → RunsAll (command.Made hands events) files disk out out' err err
all_of_made hands events files disk out out' err h = λ on holds trusted.
    (h.0, [], made_report events h.0 h.1 h.2, h.3, untouched err)
  where
    made_report : (events : ℕ) (bytes report : List ℕ) → Makes events bytes report → Makes events bytes []
    made_report events bytes report m = record { search = m.search; is_search = m.is_search; bytes_are = m.bytes_are; report_is = refl }

pub made_all : (asked : Command) (hands events : ℕ) → asked ≡ command.Made hands events → (files : Option Files) (disk : Option History)
    (out out' err : Option (List ℕ)) → MakesAll events out out' → RunsAll asked files disk out out' err err
made_all asked hands events is files disk out out' err h =
    subst (λ (c : Command). RunsAll c files disk out out' err err) (sym is) (all_of_made hands events files disk out out' err h)

pub made_accepted : (asked : Command) (hands events : ℕ) → asked ≡ command.Made hands events → (files : Option Files) (disk : Option History)
    (out out' : Option (List ℕ)) → MakesAll events out out' → IfRun asked files disk (IsAcceptedBy asked)
made_accepted asked hands events is files disk out out' h =
    subst (λ (c : Command). IfRun c files disk (IsAcceptedBy c)) (sym is) (λ on holds. (h.0, h.1, h.2))

some_of_made : (hands events : ℕ) (files : Option Files) (disk : Option History) (out out' : Option (List ℕ)) → MakesFront events out out'
    → RunsSome (command.Made hands events) files disk out out'
some_of_made hands events files disk None out' h = λ on holds trusted. tt
some_of_made hands events files disk (Some w) out' h = λ on holds trusted. inr (h.0, h.1, h.2, h.3)

pub made_some : (asked : Command) (hands events : ℕ) → asked ≡ command.Made hands events → (files : Option Files) (disk : Option History)
    (out out' : Option (List ℕ)) → MakesFront events out out' → RunsSome asked files disk out out'
made_some asked hands events is files disk out out' h =
    subst (λ (c : Command). RunsSome c files disk out out') (sym is) (some_of_made hands events files disk out out' h)

made_reports : (h : FindError) → StopsWriting h → ¬ IsReport h
made_reports (run.Files h) stops report = report
made_reports (run.Cut why) stops report = report
made_reports (run.Held why) stops report = report
made_reports run.Disk stops report = report
made_reports run.Write stops report = report
made_reports (run.Limit l) stops report = report
made_reports run.Generation stops report = report
made_reports (run.Report r) stops report = stops

pub made_listing : (asked : Command) (files : Option Files) (disk : Option History) (out out' : Option (List ℕ)) (h : FindError) → StopsWriting h
    → IsReport h → RunsListing asked files disk out out'
made_listing asked files disk out out' h stops report = absurd (made_reports h stops report)

cause_of_made : (hands events : ℕ) (files : Option Files) (disk now : Option History) (out out' err : Option (List ℕ)) (h : FindError)
    → MakesFront events out out' → StopsWriting h → HasCommandCause (command.Made hands events) files disk now err err h
cause_of_made hands events files disk now out out' err (run.Files (error.Refused r)) front stops = absurd stops
cause_of_made hands events files disk now out out' err (run.Files (error.Read name)) front stops = absurd stops
cause_of_made hands events files disk now out out' err (run.Files error.Memory) front stops = tt
cause_of_made hands events files disk now out out' err (run.Cut why) front stops = absurd stops
cause_of_made hands events files disk now out out' err (run.Held why) front stops = absurd stops
cause_of_made hands events files disk now out out' err run.Disk front stops = absurd stops
cause_of_made hands events files disk now out out' err run.Write front stops = λ on holds. (front.0, front.1, front.2)
cause_of_made hands events files disk now out out' err (run.Limit l) front stops = absurd stops
cause_of_made hands events files disk now out out' err run.Generation front stops = absurd stops
cause_of_made hands events files disk now out out' err (run.Report r) front stops = absurd stops

pub made_cause : (asked : Command) (hands events : ℕ) → asked ≡ command.Made hands events → (files : Option Files) (disk now : Option History)
    (out out' err : Option (List ℕ)) (r : Result (Unit {0}) FindError) → OnErr r (MakesFront events out out') → IfErr r StopsWriting
    → IfErr r (HasCommandCause asked files disk now err err)
made_cause asked hands events is files disk now out out' err (Ok x) front stops = tt
made_cause asked hands events is files disk now out out' err (Err h) front stops =
    subst (λ (c : Command). HasCommandCause c files disk now err err h) (sym is) (cause_of_made hands events files disk now out out' err h front stops)

-- what such a run leaves alone
module _ {T : Type 0} where
  pub made_untouched : (r : Result (Unit {0}) FindError) (old new : T) → IfErr r StopsWriting → IfErr r (λ h. IsRefusal h → new ≡ old)
  made_untouched (Ok x) old new stops = tt
  made_untouched (Err (run.Files (error.Refused r))) old new stops = absurd stops
  made_untouched (Err (run.Files (error.Read name))) old new stops = absurd stops
  made_untouched (Err (run.Files error.Memory)) old new stops = λ none. absurd none
  made_untouched (Err (run.Cut why)) old new stops = absurd stops
  made_untouched (Err (run.Held why)) old new stops = absurd stops
  made_untouched (Err run.Disk) old new stops = absurd stops
  made_untouched (Err run.Write) old new stops = λ none. absurd none
  made_untouched (Err (run.Limit l)) old new stops = absurd stops
  made_untouched (Err run.Generation) old new stops = absurd stops
  made_untouched (Err (run.Report r)) old new stops = absurd stops

pub made_faults : (r : Result (Unit {0}) FindError) (faults : List ℕ → ℕ) → IfErr r StopsWriting → FaultsFollow r faults faults
made_faults (Ok x) faults stops = λ name. refl
made_faults (Err (run.Files (error.Refused r))) faults stops = absurd stops
made_faults (Err (run.Files (error.Read name))) faults stops = absurd stops
made_faults (Err (run.Files error.Memory)) faults stops = λ name. refl
made_faults (Err (run.Cut why)) faults stops = absurd stops
made_faults (Err (run.Held why)) faults stops = absurd stops
made_faults (Err run.Disk) faults stops = absurd stops
made_faults (Err run.Write) faults stops = λ name. refl
made_faults (Err (run.Limit l)) faults stops = absurd stops
made_faults (Err run.Generation) faults stops = absurd stops
made_faults (Err (run.Report r)) faults stops = absurd stops

pub made_count : (r : Result (Unit {0}) FindError) (count : ℕ) → IfErr r StopsWriting → CountFollows r count count
made_count (Ok x) count stops = refl
made_count (Err (run.Files (error.Refused r))) count stops = absurd stops
made_count (Err (run.Files (error.Read name))) count stops = absurd stops
made_count (Err (run.Files error.Memory)) count stops = refl
made_count (Err (run.Cut why)) count stops = absurd stops
made_count (Err (run.Held why)) count stops = absurd stops
made_count (Err run.Disk) count stops = absurd stops
made_count (Err run.Write) count stops = refl
made_count (Err (run.Limit l)) count stops = absurd stops
made_count (Err run.Generation) count stops = absurd stops
made_count (Err (run.Report r)) count stops = absurd stops

pub made_absences : (r : Result (Unit {0}) FindError) (count : ℕ) → IfErr r StopsWriting → AbsencesFollow r count count
made_absences (Ok x) count stops = refl
made_absences (Err (run.Files (error.Refused r))) count stops = absurd stops
made_absences (Err (run.Files (error.Read name))) count stops = absurd stops
made_absences (Err (run.Files error.Memory)) count stops = refl
made_absences (Err (run.Cut why)) count stops = absurd stops
made_absences (Err (run.Held why)) count stops = absurd stops
made_absences (Err run.Disk) count stops = absurd stops
made_absences (Err run.Write) count stops = refl
made_absences (Err (run.Limit l)) count stops = absurd stops
made_absences (Err run.Generation) count stops = absurd stops
made_absences (Err (run.Report r)) count stops = absurd stops

pub made_errors : (r : Result (Unit {0}) FindError) (count : ℕ) → IfErr r StopsWriting → ErrFollows r count count
made_errors (Ok x) count stops = refl
made_errors (Err (run.Files h)) count stops = refl
made_errors (Err (run.Cut why)) count stops = absurd stops
made_errors (Err (run.Held why)) count stops = absurd stops
made_errors (Err run.Disk) count stops = absurd stops
made_errors (Err run.Write) count stops = refl
made_errors (Err (run.Limit l)) count stops = absurd stops
made_errors (Err run.Generation) count stops = absurd stops
made_errors (Err (run.Report r)) count stops = absurd stops

pub made_disks : (r : Result (Unit {0}) FindError) (count : ℕ) → IfErr r StopsWriting → DiskFollows r count count
made_disks (Ok x) count stops = refl
made_disks (Err (run.Files (error.Refused r))) count stops = absurd stops
made_disks (Err (run.Files (error.Read name))) count stops = absurd stops
made_disks (Err (run.Files error.Memory)) count stops = refl
made_disks (Err (run.Cut why)) count stops = absurd stops
made_disks (Err (run.Held why)) count stops = absurd stops
made_disks (Err run.Disk) count stops = absurd stops
made_disks (Err run.Write) count stops = refl
made_disks (Err (run.Limit l)) count stops = absurd stops
made_disks (Err run.Generation) count stops = absurd stops
made_disks (Err (run.Report r)) count stops = absurd stops

-- the error output is left alone by `check` and `made`, and by `check` no fault of it is told
module _ {T : Type 0} where
  pub none_told : (r : Result (Unit {0}) FindError) (err : T) → IfErr r (λ h. TellsNothing h → err ≡ err)
  none_told (Ok x) err = tt
  none_told (Err h) err = λ nothing. refl

pub check_errors : (query fields : List ℕ) (files : Option Files) (r : Result (Unit {0}) FindError) (count : ℕ)
    → IfErr r (printing.HasPrintCause query fields files) → ErrFollows r count count
check_errors query fields files (Ok x) count cause = refl
check_errors query fields files (Err (run.Files h)) count cause = refl
check_errors query fields files (Err (run.Cut why)) count cause = absurd cause
check_errors query fields files (Err (run.Held why)) count cause = absurd cause
check_errors query fields files (Err run.Disk) count cause = absurd cause
check_errors query fields files (Err run.Write) count cause = refl
check_errors query fields files (Err (run.Limit l)) count cause = absurd cause
check_errors query fields files (Err run.Generation) count cause = absurd cause
check_errors query fields files (Err (run.Report r)) count cause = absurd cause

-- the disk isn't asked for by `check`, so none is told as failed
pub check_disks : (query fields : List ℕ) (files : Option Files) (r : Result (Unit {0}) FindError) (before now : ℕ) → now ≡ before
    → IfErr r (printing.HasPrintCause query fields files) → DiskFollows r before now
check_disks query fields files (Ok x) before now same cause = same
check_disks query fields files (Err (run.Files (error.Refused r))) before now same cause = same
check_disks query fields files (Err (run.Files (error.Read name))) before now same cause = tt
check_disks query fields files (Err (run.Files error.Memory)) before now same cause = same
check_disks query fields files (Err (run.Cut why)) before now same cause = absurd cause
check_disks query fields files (Err (run.Held why)) before now same cause = absurd cause
check_disks query fields files (Err run.Disk) before now same cause = absurd cause
check_disks query fields files (Err run.Write) before now same cause = same
check_disks query fields files (Err (run.Limit l)) before now same cause = absurd cause
check_disks query fields files (Err run.Generation) before now same cause = absurd cause
check_disks query fields files (Err (run.Report r)) before now same cause = absurd cause
