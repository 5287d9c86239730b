-- How a run of a command ends, by why it stopped.
use native.Mathlib.Omega.{arith}
use Rattle.std.proofs.Common.{◌≡◌, ◌≢◌, ℕ, Bool, true, ◌<◌, ◌≤◌, ◌⊎◌, inl, inr, List, Option, Some, None, Err, refl, sym, ap, ◌∙◌, subst}
use Rattle.std.specs.Prelude.{IfSome, IsSomeAnd, codes}
use Rattle.std.proofs.lemmas.Option.{none-some, same_Some}
use Rattle.eql_outside.specs.Moments.{History}
use Rattle.eql_outside.specs.Outside.{Rose, AppendsSome}
use Rattle.eql_outside.specs.Written.{WroteFront}
use Rattle.eql_outside.specs.Written as written
use Rattle.eql_outside.specs.declared.refused.DiskHeld.{DiskHeld}
use Rattle.eql_outside.specs.declared.refused.OutRefused.TheVariants as by
use Rattle.eql_words.specs.declared.commands.Command.{Command}
use Rattle.eql_words.specs.declared.commands.Command.TheVariants as command
use Rattle.eql_words.specs.declared.commands.Find.{Find}
use Rattle.eql_words.specs.Commands.{command_of}
use Rattle.eql_runs.specs.CutRefusals.{CutRefusal, cut_text, held_text}
use Rattle.eql_runs.specs.Files.{Files}
use Rattle.eql_runs.specs.Refusals.{Names, Refusal, Refuses, refusal_status, refusal_text}
use Rattle.eql_runs.specs.Refusals as refusal
use Rattle.eql_runs.specs.RunLaws.{CheckedIsAccepted, StatusIsOne, WritesOrIsRefused, ReadyIsNotRefused}
use Rattle.eql_runs.specs.Runs.{AreTrusted, AskDisk, AsksDisk, CanRun, files_for, files_known, IfFound, IfTold, IsAccepted, IsFindAccepted, IsReady, IsRefused, IsReportOf, files_over, ReachesLimit, limit_text, names_of, IsRefusedAs, RefusesCut, ReportsOn, Runs, Searches, SearchesBeyond, Tells, TellsFront, Writes, WroteAll, WroteListing, WroteSome, by_cut, by_disk, by_files, by_shard}
use Rattle.eql_runs.specs.Runs as runs
use Rattle.eql_runs.specs.Searches.{Search}
use Rattle.eql_runs.specs.Starts.{DiskHolds, OnDisk}
use Rattle.eql_runs.proofs.Reading.{none_missing}
use Rattle.eql_inputs.specs.declared.error.Refused.{Refused}
use Rattle.eql_inputs.specs.declared.error.Refused.TheVariants as refused
use Rattle.eql_inputs.specs.declared.error.InputError.TheVariants as error
use Rattle.eql_inputs.specs.Errors.{status_of, text_of, refusal_of}
use Rattle.eql_find.specs.declared.error.FindError.{FindError}
use Rattle.eql_find.specs.declared.error.FindError.TheVariants as run
use Rattle.eql_find.specs.Errors.{run_status_of, cut_refusal_of, limit_of, IsRefusal, IsReport, IsFault, TellsNothing, FaultsFollow, CountFollows, AbsencesFollow, DiskFollows, OutFollows, ErrFollows, HeldFollows, reason_in}
use Rattle.eql_find.specs.Finding.{ReportsFront}
use Rattle.eql_find.specs.Finding as found
use Rattle.eql_cli.specs.Running.{AsksFind, HasCommandCause, IfRun, IsAcceptedBy, IsTrustedBy, RunsAll, RunsListing, RunsSome}
use Rattle.eql_cli.specs.Telling.{TellsRun}

-- a run that stopped has a status above 0
pub never_done : (h : FindError) → run_status_of h ≡ 0 → ⊥
never_done (run.Files (error.Refused (refused.NoFile name))) e = omega (arith, e)
never_done (run.Files (error.Refused (refused.Lex r))) e = omega (arith, e)
never_done (run.Files (error.Refused (refused.Parse r))) e = omega (arith, e)
never_done (run.Files (error.Refused (refused.Mapping r))) e = omega (arith, e)
never_done (run.Files (error.Refused (refused.Broken r))) e = omega (arith, e)
never_done (run.Files (error.Read name)) e = omega (arith, e)
never_done (run.Files error.Memory) e = omega (arith, e)
never_done (run.Cut why) e = omega (arith, e)
never_done (run.Held why) e = omega (arith, e)
never_done run.Disk e = omega (arith, e)
never_done run.Write e = omega (arith, e)
never_done (run.Limit l) e = omega (arith, e)
never_done run.Generation e = omega (arith, e)
never_done (run.Report by.Failed) e = omega (arith, e)
never_done (run.Report by.Memory) e = omega (arith, e)

too_great : (n : ℕ) → (n ≡ 1) ⊎ (n ≡ 2) ⊎ (n ≡ 3) ⊎ (n ≡ 7) → 4 ≤ n → n ≢ 7 → ⊥
too_great n (inl e) four other = omega (arith, e, four)
too_great n (inr (inl e)) four other = omega (arith, e, four)
too_great n (inr (inr (inl e))) four other = omega (arith, e, four)
too_great n (inr (inr (inr e))) four other = other e

-- the statuses of refusals are of refusals alone
pub refused_by_status : (h : FindError)
    → (run_status_of h ≡ 1) ⊎ (run_status_of h ≡ 2) ⊎ (run_status_of h ≡ 3) ⊎ (run_status_of h ≡ 7) → IsRefusal h
refused_by_status (run.Files (error.Refused r)) e = tt
refused_by_status (run.Cut why) e = tt
refused_by_status (run.Held why) e = tt
refused_by_status (run.Files (error.Read name)) e = absurd (too_great _ e (omega arith) (λ seven. omega (arith, seven)))
refused_by_status (run.Files error.Memory) e = absurd (too_great _ e (omega arith) (λ seven. omega (arith, seven)))
refused_by_status run.Disk e = absurd (too_great _ e (omega arith) (λ seven. omega (arith, seven)))
refused_by_status run.Write e = absurd (too_great _ e (omega arith) (λ seven. omega (arith, seven)))
refused_by_status (run.Limit l) e = absurd (too_great _ e (omega arith) (λ seven. omega (arith, seven)))
refused_by_status run.Generation e = absurd (too_great _ e (omega arith) (λ seven. omega (arith, seven)))
refused_by_status (run.Report by.Failed) e = absurd (too_great _ e (omega arith) (λ seven. omega (arith, seven)))
refused_by_status (run.Report by.Memory) e = absurd (too_great _ e (omega arith) (λ seven. omega (arith, seven)))

-- no run stops with the status of words that are no command
pub never_usage : (h : FindError) → run_status_of h ≡ 2 → ⊥
never_usage (run.Files (error.Refused (refused.NoFile name))) e = omega (arith, e)
never_usage (run.Files (error.Refused (refused.Lex r))) e = omega (arith, e)
never_usage (run.Files (error.Refused (refused.Parse r))) e = omega (arith, e)
never_usage (run.Files (error.Refused (refused.Mapping r))) e = omega (arith, e)
never_usage (run.Files (error.Refused (refused.Broken r))) e = omega (arith, e)
never_usage (run.Files (error.Read name)) e = omega (arith, e)
never_usage (run.Files error.Memory) e = omega (arith, e)
never_usage (run.Cut why) e = omega (arith, e)
never_usage (run.Held why) e = omega (arith, e)
never_usage run.Disk e = omega (arith, e)
never_usage run.Write e = omega (arith, e)
never_usage (run.Limit l) e = omega (arith, e)
never_usage run.Generation e = omega (arith, e)
never_usage (run.Report by.Failed) e = omega (arith, e)
never_usage (run.Report by.Memory) e = omega (arith, e)

same_status : (r : Refused) → status_of (error.Refused r) ≡ refusal_status (refusal_of r)
same_status (refused.NoFile name) = refl
same_status (refused.Lex r) = refl
same_status (refused.Parse r) = refl
same_status (refused.Mapping r) = refl
same_status (refused.Broken r) = refl

-- each status with a cause that is counted
pub absent_by_status : (h : FindError) (before now : ℕ) → AbsencesFollow {A = Unit {0}} (Err h) before now → run_status_of h ≡ 1 → Rose before now
absent_by_status (run.Files (error.Refused (refused.NoFile name))) before now rose e = rose
absent_by_status (run.Files (error.Refused (refused.Lex r))) before now rose e = absurd (omega (arith, e))
absent_by_status (run.Files (error.Refused (refused.Parse r))) before now rose e = absurd (omega (arith, e))
absent_by_status (run.Files (error.Refused (refused.Mapping r))) before now rose e = absurd (omega (arith, e))
absent_by_status (run.Files (error.Refused (refused.Broken r))) before now rose e = absurd (omega (arith, e))
absent_by_status (run.Files (error.Read name)) before now rose e = absurd (omega (arith, e))
absent_by_status (run.Files error.Memory) before now rose e = absurd (omega (arith, e))
absent_by_status (run.Cut why) before now rose e = absurd (omega (arith, e))
absent_by_status (run.Held why) before now rose e = absurd (omega (arith, e))
absent_by_status run.Disk before now rose e = absurd (omega (arith, e))
absent_by_status run.Write before now rose e = absurd (omega (arith, e))
absent_by_status (run.Limit l) before now rose e = absurd (omega (arith, e))
absent_by_status run.Generation before now rose e = absurd (omega (arith, e))
absent_by_status (run.Report by.Failed) before now rose e = absurd (omega (arith, e))
absent_by_status (run.Report by.Memory) before now rose e = absurd (omega (arith, e))

pub read_by_status : (h : FindError) (before now : ℕ) → CountFollows {A = Unit {0}} (Err h) before now → run_status_of h ≡ 4 → Rose before now
read_by_status (run.Files (error.Refused (refused.NoFile name))) before now rose e = absurd (omega (arith, e))
read_by_status (run.Files (error.Refused (refused.Lex r))) before now rose e = absurd (omega (arith, e))
read_by_status (run.Files (error.Refused (refused.Parse r))) before now rose e = absurd (omega (arith, e))
read_by_status (run.Files (error.Refused (refused.Mapping r))) before now rose e = absurd (omega (arith, e))
read_by_status (run.Files (error.Refused (refused.Broken r))) before now rose e = absurd (omega (arith, e))
read_by_status (run.Files (error.Read name)) before now rose e = rose
read_by_status (run.Files error.Memory) before now rose e = absurd (omega (arith, e))
read_by_status (run.Cut why) before now rose e = absurd (omega (arith, e))
read_by_status (run.Held why) before now rose e = absurd (omega (arith, e))
read_by_status run.Disk before now rose e = absurd (omega (arith, e))
read_by_status run.Write before now rose e = absurd (omega (arith, e))
read_by_status (run.Limit l) before now rose e = absurd (omega (arith, e))
read_by_status run.Generation before now rose e = absurd (omega (arith, e))
read_by_status (run.Report by.Failed) before now rose e = absurd (omega (arith, e))
read_by_status (run.Report by.Memory) before now rose e = absurd (omega (arith, e))

pub disk_by_status : (h : FindError) (before now : ℕ) → DiskFollows {A = Unit {0}} (Err h) before now → run_status_of h ≡ 6 → Rose before now
disk_by_status (run.Files (error.Refused (refused.NoFile name))) before now rose e = absurd (omega (arith, e))
disk_by_status (run.Files (error.Refused (refused.Lex r))) before now rose e = absurd (omega (arith, e))
disk_by_status (run.Files (error.Refused (refused.Parse r))) before now rose e = absurd (omega (arith, e))
disk_by_status (run.Files (error.Refused (refused.Mapping r))) before now rose e = absurd (omega (arith, e))
disk_by_status (run.Files (error.Refused (refused.Broken r))) before now rose e = absurd (omega (arith, e))
disk_by_status (run.Files (error.Read name)) before now rose e = absurd (omega (arith, e))
disk_by_status (run.Files error.Memory) before now rose e = absurd (omega (arith, e))
disk_by_status (run.Cut why) before now rose e = absurd (omega (arith, e))
disk_by_status (run.Held why) before now rose e = absurd (omega (arith, e))
disk_by_status run.Disk before now rose e = rose
disk_by_status run.Write before now rose e = absurd (omega (arith, e))
disk_by_status (run.Limit l) before now rose e = absurd (omega (arith, e))
disk_by_status run.Generation before now rose e = absurd (omega (arith, e))
disk_by_status (run.Report by.Failed) before now rose e = absurd (omega (arith, e))
disk_by_status (run.Report by.Memory) before now rose e = absurd (omega (arith, e))

-- after a report that was refused nothing more is told
pub write_by_status : (h : FindError) (out out' err mid err' : ℕ) → OutFollows {A = Unit {0}} (Err h) out out'
    → ErrFollows {A = Unit {0}} (Err h) err mid → (IsReport h → err' ≡ mid) → run_status_of h ≡ 5 → Rose out out' ⊎ Rose err err'
write_by_status (run.Files (error.Refused (refused.NoFile name))) out out' err mid err' o x silent e = absurd (omega (arith, e))
write_by_status (run.Files (error.Refused (refused.Lex r))) out out' err mid err' o x silent e = absurd (omega (arith, e))
write_by_status (run.Files (error.Refused (refused.Parse r))) out out' err mid err' o x silent e = absurd (omega (arith, e))
write_by_status (run.Files (error.Refused (refused.Mapping r))) out out' err mid err' o x silent e = absurd (omega (arith, e))
write_by_status (run.Files (error.Refused (refused.Broken r))) out out' err mid err' o x silent e = absurd (omega (arith, e))
write_by_status (run.Files (error.Read name)) out out' err mid err' o x silent e = absurd (omega (arith, e))
write_by_status (run.Files error.Memory) out out' err mid err' o x silent e = absurd (omega (arith, e))
write_by_status (run.Cut why) out out' err mid err' o x silent e = absurd (omega (arith, e))
write_by_status (run.Held why) out out' err mid err' o x silent e = absurd (omega (arith, e))
write_by_status run.Disk out out' err mid err' o x silent e = absurd (omega (arith, e))
write_by_status run.Write out out' err mid err' o x silent e = inl o
write_by_status (run.Limit l) out out' err mid err' o x silent e = absurd (omega (arith, e))
write_by_status run.Generation out out' err mid err' o x silent e = absurd (omega (arith, e))
write_by_status (run.Report by.Failed) out out' err mid err' o x silent e = inr (subst (λ (n : ℕ). Rose err n) (sym (silent tt)) x)
write_by_status (run.Report by.Memory) out out' err mid err' o x silent e = absurd (omega (arith, e))

-- where the output didn't fail, status 5 is of the report alone
pub report_by_status : (h : FindError) (out out' : ℕ) → OutFollows {A = Unit {0}} (Err h) out out' → run_status_of h ≡ 5 → ¬ Rose out out' → IsReport h
report_by_status (run.Files (error.Refused (refused.NoFile name))) out out' o e calm = absurd (omega (arith, e))
report_by_status (run.Files (error.Refused (refused.Lex r))) out out' o e calm = absurd (omega (arith, e))
report_by_status (run.Files (error.Refused (refused.Parse r))) out out' o e calm = absurd (omega (arith, e))
report_by_status (run.Files (error.Refused (refused.Mapping r))) out out' o e calm = absurd (omega (arith, e))
report_by_status (run.Files (error.Refused (refused.Broken r))) out out' o e calm = absurd (omega (arith, e))
report_by_status (run.Files (error.Read name)) out out' o e calm = absurd (omega (arith, e))
report_by_status (run.Files error.Memory) out out' o e calm = absurd (omega (arith, e))
report_by_status (run.Cut why) out out' o e calm = absurd (omega (arith, e))
report_by_status (run.Held why) out out' o e calm = absurd (omega (arith, e))
report_by_status run.Disk out out' o e calm = absurd (omega (arith, e))
report_by_status run.Write out out' o e calm = absurd (calm o)
report_by_status (run.Limit l) out out' o e calm = absurd (omega (arith, e))
report_by_status run.Generation out out' o e calm = absurd (omega (arith, e))
report_by_status (run.Report by.Failed) out out' o e calm = tt
report_by_status (run.Report by.Memory) out out' o e calm = tt

-- a fault isn't passed over
pub read_told : (h : FindError) (before now : ℕ) → CountFollows {A = Unit {0}} (Err h) before now → before < now → run_status_of h ≡ 4
read_told (run.Files (error.Refused r)) before now same lt = absurd (omega (arith, same, lt))
read_told (run.Files (error.Read name)) before now same lt = refl
read_told (run.Files error.Memory) before now same lt = absurd (omega (arith, same, lt))
read_told (run.Cut why) before now same lt = absurd (omega (arith, same, lt))
read_told (run.Held why) before now same lt = absurd (omega (arith, same, lt))
read_told run.Disk before now same lt = absurd (omega (arith, same, lt))
read_told run.Write before now same lt = absurd (omega (arith, same, lt))
read_told (run.Limit l) before now same lt = absurd (omega (arith, same, lt))
read_told run.Generation before now same lt = absurd (omega (arith, same, lt))
read_told (run.Report x) before now same lt = absurd (omega (arith, same, lt))

-- nor is a file that isn't there
pub absence_told : (h : FindError) (before now : ℕ) → AbsencesFollow {A = Unit {0}} (Err h) before now → before < now → run_status_of h ≡ 1
absence_told (run.Files (error.Refused (refused.NoFile name))) before now rose lt = refl
absence_told (run.Files (error.Refused (refused.Lex r))) before now same lt = absurd (omega (arith, same, lt))
absence_told (run.Files (error.Refused (refused.Parse r))) before now same lt = absurd (omega (arith, same, lt))
absence_told (run.Files (error.Refused (refused.Mapping r))) before now same lt = absurd (omega (arith, same, lt))
absence_told (run.Files (error.Refused (refused.Broken r))) before now same lt = absurd (omega (arith, same, lt))
absence_told (run.Files (error.Read name)) before now same lt = absurd (omega (arith, same, lt))
absence_told (run.Files error.Memory) before now same lt = absurd (omega (arith, same, lt))
absence_told (run.Cut why) before now same lt = absurd (omega (arith, same, lt))
absence_told (run.Held why) before now same lt = absurd (omega (arith, same, lt))
absence_told run.Disk before now same lt = absurd (omega (arith, same, lt))
absence_told run.Write before now same lt = absurd (omega (arith, same, lt))
absence_told (run.Limit l) before now same lt = absurd (omega (arith, same, lt))
absence_told run.Generation before now same lt = absurd (omega (arith, same, lt))
absence_told (run.Report x) before now same lt = absurd (omega (arith, same, lt))

pub write_told : (h : FindError) (before now : ℕ) → OutFollows {A = Unit {0}} (Err h) before now → before < now → (run_status_of h ≡ 5) ⊎ (run_status_of h ≡ 4)
write_told (run.Files (error.Refused r)) before now same lt = absurd (omega (arith, same, lt))
write_told (run.Files (error.Read name)) before now same lt = inr refl
write_told (run.Files error.Memory) before now same lt = absurd (omega (arith, same, lt))
write_told (run.Cut why) before now same lt = absurd (omega (arith, same, lt))
write_told (run.Held why) before now same lt = absurd (omega (arith, same, lt))
write_told run.Disk before now same lt = absurd (omega (arith, same, lt))
write_told run.Write before now same lt = inl refl
write_told (run.Limit l) before now same lt = absurd (omega (arith, same, lt))
write_told run.Generation before now same lt = absurd (omega (arith, same, lt))
write_told (run.Report x) before now same lt = absurd (omega (arith, same, lt))

pub disk_told : (h : FindError) (before now : ℕ) → DiskFollows {A = Unit {0}} (Err h) before now → before < now → (run_status_of h ≡ 6) ⊎ (run_status_of h ≡ 4)
disk_told (run.Files (error.Refused r)) before now same lt = absurd (omega (arith, same, lt))
disk_told (run.Files (error.Read name)) before now same lt = inr refl
disk_told (run.Files error.Memory) before now same lt = absurd (omega (arith, same, lt))
disk_told (run.Cut why) before now same lt = absurd (omega (arith, same, lt))
disk_told (run.Held why) before now same lt = absurd (omega (arith, same, lt))
disk_told run.Disk before now same lt = inl refl
disk_told run.Write before now same lt = absurd (omega (arith, same, lt))
disk_told (run.Limit l) before now same lt = absurd (omega (arith, same, lt))
disk_told run.Generation before now same lt = absurd (omega (arith, same, lt))
disk_told (run.Report x) before now same lt = absurd (omega (arith, same, lt))

-- nor is a disk that is held
pub held_told : (h : FindError) (before now : DiskHeld → ℕ) → HeldFollows (reason_in h) before now → (why : DiskHeld) → before why < now why
    → run_status_of h ≡ 7
held_told (run.Files h) before now same why lt = let e = same why in absurd (omega (arith, e, lt))
held_told (run.Cut r) before now same why lt = refl
held_told (run.Held r) before now rose why lt = refl
held_told run.Disk before now same why lt = let e = same why in absurd (omega (arith, e, lt))
held_told run.Write before now same why lt = let e = same why in absurd (omega (arith, e, lt))
held_told (run.Limit l) before now same why lt = let e = same why in absurd (omega (arith, e, lt))
held_told run.Generation before now same why lt = let e = same why in absurd (omega (arith, e, lt))
held_told (run.Report x) before now same why lt = let e = same why in absurd (omega (arith, e, lt))

-- where the files are those of a search, no refusal is by them
refused_cut : CheckedIsAccepted → (words : List (List ℕ)) (find : Find) → command_of words ≡ Some (command.Find find) → (files : Files)
    (search : Search) (texts : List (List ℕ)) → Searches find files search texts → (on : OnDisk) (r : Refusal) → IsRefused words files on r
    → refusal_status r ≡ 7
refused_cut law words find is files search texts s on _ (by_files c own names named r refuses) =
    let same : c ≡ command.Find find = same_Some c (command.Find find) (sym own ∙ is) in
    let these : names ≡ found.names_in find = same_Some names (found.names_in find) (sym named ∙ ap names_of same) in
    absurd (law (found.names_in find) files search.query search.mapping r s.checked (none_missing find.shards files texts s.there)
    (subst (λ (x : Names). Refuses x files r) these refuses))
refused_cut law words find is files search texts s on _ (by_cut f own r refuses) = refl

-- ---- a command
-- a search that keeps its state keeps it on a disk
asks_disk : (asked : Command) → AsksFind asked → AsksDisk asked
asks_disk asked asks = subst (λ (c : Command). AsksDisk c) (sym asks.is_find) asks.has_disk

-- a cut is refused of a command that keeps its state alone
pub cut_by_status : (asked : Command) (files : Option Files) (disk now : Option History) (err err' : Option (List ℕ)) (h : FindError)
    → HasCommandCause asked files disk now err err' h → run_status_of h ≡ 7 → AsksDisk asked
cut_by_status asked files disk now err err' (run.Files (error.Refused (refused.NoFile name))) cause e = absurd (omega (arith, e))
cut_by_status asked files disk now err err' (run.Files (error.Refused (refused.Lex r))) cause e = absurd (omega (arith, e))
cut_by_status asked files disk now err err' (run.Files (error.Refused (refused.Parse r))) cause e = absurd (omega (arith, e))
cut_by_status asked files disk now err err' (run.Files (error.Refused (refused.Mapping r))) cause e = absurd (omega (arith, e))
cut_by_status asked files disk now err err' (run.Files (error.Refused (refused.Broken r))) cause e = absurd (omega (arith, e))
cut_by_status asked files disk now err err' (run.Files (error.Read name)) cause e = absurd (omega (arith, e))
cut_by_status asked files disk now err err' (run.Files error.Memory) cause e = absurd (omega (arith, e))
cut_by_status asked files disk now err err' (run.Cut why) cause e = asks_disk asked cause.0
cut_by_status asked files disk now err err' (run.Held why) cause e = asks_disk asked cause.0
cut_by_status asked files disk now err err' run.Disk cause e = absurd (omega (arith, e))
cut_by_status asked files disk now err err' run.Write cause e = absurd (omega (arith, e))
cut_by_status asked files disk now err err' (run.Limit l) cause e = absurd (omega (arith, e))
cut_by_status asked files disk now err err' run.Generation cause e = absurd (omega (arith, e))
cut_by_status asked files disk now err err' (run.Report by.Failed) cause e = absurd (omega (arith, e))
cut_by_status asked files disk now err err' (run.Report by.Memory) cause e = absurd (omega (arith, e))

-- of a search it says the same as of the command
search_run : (P : Files → OnDisk → Type 0) (asked : Command) (find : Find) → asked ≡ command.Find find → (files : Option Files) (disk : Option History)
    → IfFound find files disk P → IfRun asked files disk P
search_run P asked find is files disk h = subst (λ (c : Command). IfRun c files disk P) (sym is) h

abbrev find_in : Command → Find → Find
find_in (command.Find f) other = f
find_in (command.Check query fields) other = other
find_in (command.Made hands events) other = other

same_find : (f g : Find) → command.Find f ≡ command.Find g → f ≡ g
same_find f g e = ap (λ (c : Command). find_in c g) e

-- where words are this command
trusted_by : (words : List (List ℕ)) (asked : Command) → command_of words ≡ Some asked → (fs : Files) (on : OnDisk) → AreTrusted words fs on
    → IsTrustedBy asked fs on
trusted_by words (command.Find f) is fs on trusted = trusted f is
trusted_by words (command.Check query fields) is fs on trusted = tt
trusted_by words (command.Made hands events) is fs on trusted = tt

-- a search that is accepted is refused for no cause
module _ (words : List (List ℕ)) (find : Find) (is : command_of words ≡ Some (command.Find find)) (fs : Files) (on : OnDisk)
    (a : IsFindAccepted find fs on) where
  find_stands : (r : Refusal) → ¬ IsRefused words fs on r
  find_stands _ (by_files c has names named own refuses) =
      let e : c ≡ command.Find find = same_Some c (command.Find find) (sym has ∙ is) in
      a.files_accepted names (subst (λ (c : Command). names_of c ≡ Some names) e named) own refuses
  find_stands _ (by_cut f has own refuses) =
      let e : command.Find f ≡ command.Find find = same_Some (command.Find f) (command.Find find) (sym has ∙ is) in
      a.cut_accepted own (subst (λ (x : Find). RefusesCut x fs on own) (same_find f find e) refuses)

  find_accepted : IsAccepted words fs on
  find_accepted = record {
    accepts = find_stands;
    writes = λ trusted.
        let w = a.writes (trusted find is) in
        (w.0, w.1, record { command = command.Find find; is_command = is; runs = w.2 });
  }

-- what a run writes isn't refused
written_accepted : WritesOrIsRefused → (words : List (List ℕ)) (fs : Files) (on : OnDisk) (bytes report : List ℕ) → Writes words fs on bytes report
    → IsAccepted words fs on
written_accepted apart words fs on bytes report w = record {
  accepts = λ r refuses. apart words fs on bytes report r w refuses;
  writes = λ trusted. (bytes, report, w);
}

accepted_by : WritesOrIsRefused → (words : List (List ℕ)) (asked : Command) → command_of words ≡ Some asked → (fs : Files) (on : OnDisk)
    → IsAcceptedBy asked fs on → IsAccepted words fs on
accepted_by apart words (command.Find f) is fs on a = find_accepted words f is fs on a
accepted_by apart words (command.Check query fields) is fs on a =
    written_accepted apart words fs on a.0 a.1 (record { command = command.Check query fields; is_command = is; runs = a.2 })
accepted_by apart words (command.Made hands events) is fs on a =
    written_accepted apart words fs on a.0 a.1 (record { command = command.Made hands events; is_command = is; runs = a.2 })

-- a command that names no file runs over any files
accepted_over : (asked : Command) (fs : Files) (disk : Option History) → IfRun asked (Some fs) disk (IsAcceptedBy asked)
    → (on : OnDisk) → (AsksDisk asked → DiskHolds disk on) → IsAcceptedBy asked fs on
accepted_over (command.Find f) fs disk h on holds = h on holds
accepted_over (command.Check query fields) fs disk h on holds = h on holds
accepted_over (command.Made hands events) fs disk h on holds = h on holds

-- a run of words that are this command
module _ (words : List (List ℕ)) (asked : Command) (is : command_of words ≡ Some asked) where
  writes : (files : Files) (on : OnDisk) (bytes report : List ℕ) → Runs asked files on bytes report → Writes words files on bytes report
  writes files on bytes report h = record { command = asked; is_command = is; runs = h }

  -- the files over which the words run
  known_is : (files : Option Files) → files_over words files ≡ files_for asked files
  known_is files = ap (λ (o : Option Command). files_known o files) is

  -- the disk is told where the command asks for it
  holds_on : (disk : Option History) (on : OnDisk) → (AskDisk words → DiskHolds disk on) → AsksDisk asked → DiskHolds disk on
  holds_on disk on holds asks = holds (asked, is, asks)

  abbrev Over : Option History → (Files → OnDisk → Type 0) → Files → Type 0
  Over disk P fs = (on : OnDisk) → (AskDisk words → DiskHolds disk on) → P fs on

  -- what holds of a run of the command holds of one of the words
  told_by_run : (P Q : Files → OnDisk → Type 0) → ((fs : Files) (on : OnDisk) → P fs on → Q fs on) → (files : Option Files) (disk : Option History)
      → IfRun asked files disk P → IfTold words files disk Q
  told_by_run P Q more files disk h =
      subst (λ (o : Option Files). IfSome o (Over disk Q)) (sym (known_is files)) (by (files_for asked files) h)
    where
      by : (o : Option Files) → IfSome o (λ fs. (on : OnDisk) → (AsksDisk asked → DiskHolds disk on) → P fs on) → IfSome o (Over disk Q)
      by None h = tt
      by (Some fs) h = λ on holds. more fs on (h on (holds_on disk on holds))

  told_by_search : (P Q : Files → OnDisk → Type 0) → ((fs : Files) (on : OnDisk) → P fs on → Q fs on) → (find : Find) → asked ≡ command.Find find
      → (files : Option Files) (disk : Option History) → IfFound find files disk P → IfTold words files disk Q
  told_by_search P Q more find same files disk h = told_by_run P Q more files disk (search_run P asked find same files disk h)

  trusts : (fs : Files) (on : OnDisk) → AreTrusted words fs on → IsTrustedBy asked fs on
  trusts fs on trusted = trusted_by words asked is fs on trusted

  abbrev RunAll : (out out' err err' : Option (List ℕ)) → Files → OnDisk → Type 0
  RunAll out out' err err' fs on =
      IsTrustedBy asked fs on
      → (bytes : List ℕ) × (report : List ℕ) × Runs asked fs on bytes report × written.WroteAll bytes out out' × written.WroteAll report err err'

  abbrev AllWritten : (out out' err err' : Option (List ℕ)) → Files → OnDisk → Type 0
  AllWritten out out' err err' fs on =
      AreTrusted words fs on
      → (bytes : List ℕ) × (report : List ℕ) × Writes words fs on bytes report × written.WroteAll bytes out out' × written.WroteAll report err err'

  all_written : (out out' err err' : Option (List ℕ)) (fs : Files) (on : OnDisk) → RunAll out out' err err' fs on → AllWritten out out' err err' fs on
  all_written out out' err err' fs on all trusted = let w = all (trusts fs on trusted) in (w.0, w.1, writes fs on w.0 w.1 w.2, w.3, w.4)

  pub wrote_all : (files : Option Files) (disk : Option History) (out out' err err' : Option (List ℕ)) → RunsAll asked files disk out out' err err'
      → WroteAll words files disk out out' err err'
  wrote_all files disk out out' err err' h =
      told_by_run (RunAll out out' err err') (AllWritten out out' err err') (all_written out out' err err') files disk h

  abbrev RunListing : (out out' : Option (List ℕ)) → Files → OnDisk → Type 0
  RunListing out out' fs on =
      IsTrustedBy asked fs on → (bytes : List ℕ) × (report : List ℕ) × Runs asked fs on bytes report × written.WroteAll bytes out out'

  abbrev ListingWritten : (out out' : Option (List ℕ)) → Files → OnDisk → Type 0
  ListingWritten out out' fs on =
      AreTrusted words fs on → (bytes : List ℕ) × (report : List ℕ) × Writes words fs on bytes report × written.WroteAll bytes out out'

  listing_written : (out out' : Option (List ℕ)) (fs : Files) (on : OnDisk) → RunListing out out' fs on → ListingWritten out out' fs on
  listing_written out out' fs on all trusted = let w = all (trusts fs on trusted) in (w.0, w.1, writes fs on w.0 w.1 w.2, w.3)

  wrote_listing : (files : Option Files) (disk : Option History) (out out' : Option (List ℕ)) → RunsListing asked files disk out out'
      → WroteListing words files disk out out'
  wrote_listing files disk out out' h = told_by_run (RunListing out out') (ListingWritten out out') (listing_written out out') files disk h

  -- where the output didn't fail, a run of status 5 wrote its listing
  pub listed_by : (files : Option Files) (disk : Option History) (out out' : Option (List ℕ)) (outs outs' : ℕ) (h : FindError) (status : ℕ)
      → status ≡ run_status_of h → OutFollows {A = Unit {0}} (Err h) outs outs' → (IsReport h → RunsListing asked files disk out out') → status ≡ 5
      → ¬ Rose outs outs' → WroteListing words files disk out out'
  listed_by files disk out out' outs outs' h status same o wrote e calm =
      wrote_listing files disk out out' (wrote (report_by_status h outs outs' o (sym same ∙ e) calm))

  abbrev SomeRun : Files → OnDisk → (w : List ℕ) → Option (List ℕ) → Type 0
  SomeRun fs on w out' =
      (out' ≡ Some w) ⊎ ((bytes : List ℕ) × (report : List ℕ) × Runs asked fs on bytes report × AppendsSome w bytes out')

  abbrev SomeWrites : Files → OnDisk → (w : List ℕ) → Option (List ℕ) → Type 0
  SomeWrites fs on w out' =
      (out' ≡ Some w) ⊎ ((bytes : List ℕ) × (report : List ℕ) × Writes words fs on bytes report × AppendsSome w bytes out')

  front_of : (fs : Files) (on : OnDisk) (w : List ℕ) (out' : Option (List ℕ)) → SomeRun fs on w out' → SomeWrites fs on w out'
  front_of fs on w out' (inl same) = inl same
  front_of fs on w out' (inr h) = inr (h.0, h.1, writes fs on h.0 h.1 h.2, h.3)

  abbrev RunFront : (out out' : Option (List ℕ)) → Files → OnDisk → Type 0
  RunFront out out' fs on = IsTrustedBy asked fs on → IfSome out (λ w. SomeRun fs on w out')

  abbrev FrontWritten : (out out' : Option (List ℕ)) → Files → OnDisk → Type 0
  FrontWritten out out' fs on = AreTrusted words fs on → IfSome out (λ w. SomeWrites fs on w out')

  front_written : (out out' : Option (List ℕ)) (fs : Files) (on : OnDisk) → RunFront out out' fs on → FrontWritten out out' fs on
  front_written None out' fs on h trusted = tt
  front_written (Some w) out' fs on h trusted = front_of fs on w out' (h (trusts fs on trusted))

  pub wrote_some : (files : Option Files) (disk : Option History) (out out' : Option (List ℕ)) → RunsSome asked files disk out out'
      → WroteSome words files disk out out'
  wrote_some files disk out out' h = told_by_run (RunFront out out') (FrontWritten out out') (front_written out out') files disk h

  pub accepted_so : WritesOrIsRefused → (files : Option Files) (disk : Option History) → IfRun asked files disk (IsAcceptedBy asked)
      → IfTold words files disk (IsAccepted words)
  accepted_so apart files disk h =
      told_by_run (IsAcceptedBy asked) (IsAccepted words) (λ fs on a. accepted_by apart words asked is fs on a) files disk h

  -- a search that is accepted
  search_accepted : (find : Find) → asked ≡ command.Find find → (fs : Files) (on : OnDisk) → IsFindAccepted find fs on → IsAccepted words fs on
  search_accepted find same fs on a = find_accepted words find (is ∙ ap (λ (c : Command). Some c) same) fs on a

  refuses_own : (files : Files) (on : OnDisk) (names : Names) → names_of asked ≡ Some names → (r : Refusal) → Refuses names files r
      → IsRefused words files on r
  refuses_own files on names named r refuses = by_files asked is names named r refuses

  refuses_cut : (find : Find) → asked ≡ command.Find find → (fs : Files) (on : OnDisk) (r : CutRefusal) → RefusesCut find fs on r
      → IsRefused words fs on (refusal.cut r)
  refuses_cut find same fs on r refuses = by_cut find (is ∙ ap (λ (c : Command). Some c) same) r refuses

  module _ (apart : WritesOrIsRefused) (disk now : Option History) (before after : List ℕ → ℕ) (held held' : DiskHeld → ℕ)
      (err err' : Option (List ℕ)) where
    refused_so : (files : Option Files) (r : Refused) → HasCommandCause asked files disk now err err' (run.Files (error.Refused r))
        → WroteFront (text_of (error.Refused r)) err err' → TellsFront words files disk now before after held held' (status_of (error.Refused r)) err err'
    refused_so files r cause told = (
      refusal_text (refusal_of r),
      subst (λ (n : ℕ). Tells words files disk now before after held held' n (refusal_text (refusal_of r))) (sym (same_status r))
          (runs.refused asked is cause.0 cause.1 (refusal_of r) cause.2.0 cause.2.1),
      told,
    )

    -- the report of a run of `find`
    report_is : (find : Find) → asked ≡ command.Find find → (report : List ℕ) (fs : Files) (on : OnDisk) → found.IsReportOf find report fs on
        → IsReportOf words report fs on
    report_is find same report fs on r = record {
      accepted = search_accepted find same fs on r.accepted;
      reported = λ trusted.
          let w = r.reported (trusted find (is ∙ ap (λ (c : Command). Some c) same)) in
          (w.0, writes fs on w.0 report (subst (λ (c : Command). Runs c fs on w.0 report) (sym same) w.1));
    }

    reports : (files : Option Files) (find : Find) → asked ≡ command.Find find → (r : ReportsFront find files disk err err')
        → ReportsOn words files disk r.report
    reports files find same r = record {
      find = find;
      is_find = is ∙ ap (λ (c : Command). Some c) same;
      counts = r.counts;
      count = r.count;
      lines = r.lines;
      is_report =
          told_by_search (found.IsReportOf find r.report) (IsReportOf words r.report) (report_is find same r.report) find same files disk r.is_report;
    }

    -- a shard of a search that is accepted goes too far
    too_far : (find : Find) → asked ≡ command.Find find → (limit : runs.ShardLimit) (fs : Files) (on : OnDisk) → found.GoesTooFar find limit fs on
        → runs.GoesTooFar words find limit fs on
    too_far find same limit fs on h = record { accepted = search_accepted find same fs on h.accepted; beyond = h.beyond }

    cut_told : (files : Option Files) (r : CutRefusal) (asks : AsksFind asked) → IfFound asks.find files disk (λ fs on. RefusesCut asks.find fs on r)
        → WroteFront (cut_text r) err err' → TellsFront words files disk now before after held held' 7 err err'
    cut_told files r asks refuses told = (
      cut_text r,
      runs.cut_refused (asked, is, asks_disk asked asks) r
          (told_by_search (λ fs on. RefusesCut asks.find fs on r) (λ fs on. IsRefused words fs on (refusal.cut r))
          (λ fs on h. refuses_cut asks.find asks.is_find fs on r h) asks.find asks.is_find files disk refuses),
      told,
    )

    pub told_so : (files : Option Files) (h : FindError) → HasCommandCause asked files disk now err err' h → FaultsFollow {A = Unit {0}} (Err h) before after
        → HeldFollows (reason_in h) held held' → TellsRun h err err' → TellsFront words files disk now before after held held' (run_status_of h) err err'
    told_so files (run.Files (error.Refused r)) cause faults rose told = refused_so files r cause told
    told_so files (run.Files (error.Read name)) cause faults rose told = (
      text_of (error.Read name),
      runs.read_fault asked is cause.0 cause.1 name.now cause.2.0 faults.rose cause.2.1,
      told,
    )
    told_so files (run.Files error.Memory) cause faults rose told = (codes "out of memory\n", runs.memory, told)
    told_so files (run.Cut why) cause faults rose told = cut_told files (cut_refusal_of why) cause.0 cause.1 told
    told_so files (run.Held why) cause faults rose told = (
      held_text why,
      runs.disk_held cause.0.find (is ∙ ap (λ (c : Command). Some c) cause.0.is_find) cause.0.has_disk cause.1 why rose.rose,
      told,
    )
    told_so files run.Disk cause faults rose told = (
      codes "checkpoint disk fault\n",
      runs.disk_fault cause.0.find (is ∙ ap (λ (c : Command). Some c) cause.0.is_find) cause.0.has_disk cause.1,
      told,
    )
    told_so files run.Write cause faults rose told = (codes "write fault\n", runs.write_fault (accepted_so apart files disk cause), told)
    told_so files (run.Limit l) cause faults rose told = (
      limit_text (limit_of l),
      runs.limit cause.0 (is ∙ ap (λ (c : Command). Some c) cause.1) (limit_of l) cause.2
          (told_by_search (found.GoesTooFar cause.0 (limit_of l)) (runs.GoesTooFar words cause.0 (limit_of l))
          (too_far cause.0 cause.1 (limit_of l)) cause.0 cause.1 files disk cause.3),
      told,
    )
    told_so files run.Generation cause faults rose told = (
      codes "limit: generation\n",
      runs.generation (asked, is, asks_disk asked cause.0)
          (told_by_search (IsFindAccepted cause.0.find) (IsAccepted words) (search_accepted cause.0.find cause.0.is_find) cause.0.find
          cause.0.is_find files disk cause.1) cause.2,
      told,
    )
    told_so files (run.Report by.Failed) cause faults rose told =
        (cause.2.report, runs.report_refused cause.2.report (reports files cause.0 cause.1 cause.2), cause.2.wrote)
    told_so files (run.Report by.Memory) cause faults rose told =
        (cause.2.report, runs.report_unmade cause.2.report (reports files cause.0 cause.1 cause.2), cause.2.wrote)

  limited : (find : Find) → asked ≡ command.Find find → (limit : runs.ShardLimit) (files : Option Files) (disk : Option History)
      → IfFound find files disk (found.GoesTooFar find limit)
      → IfTold words files disk (λ fs on. (limit : runs.ShardLimit) × SearchesBeyond find fs on limit)
  limited find same limit files disk h =
      told_by_search (found.GoesTooFar find limit) (λ fs on. (limit : runs.ShardLimit) × SearchesBeyond find fs on limit)
      (λ fs on far. (limit, far.beyond)) find same files disk h

  -- a run that reached a limit
  pub limit_by_status : (files : Option Files) (disk now : Option History) (err err' : Option (List ℕ)) (h : FindError)
      → HasCommandCause asked files disk now err err' h → run_status_of h ≡ 9 → ReachesLimit words files disk now
  limit_by_status files disk now err err' (run.Files (error.Refused (refused.NoFile name))) cause e = absurd (omega (arith, e))
  limit_by_status files disk now err err' (run.Files (error.Refused (refused.Lex r))) cause e = absurd (omega (arith, e))
  limit_by_status files disk now err err' (run.Files (error.Refused (refused.Parse r))) cause e = absurd (omega (arith, e))
  limit_by_status files disk now err err' (run.Files (error.Refused (refused.Mapping r))) cause e = absurd (omega (arith, e))
  limit_by_status files disk now err err' (run.Files (error.Refused (refused.Broken r))) cause e = absurd (omega (arith, e))
  limit_by_status files disk now err err' (run.Files (error.Read name)) cause e = absurd (omega (arith, e))
  limit_by_status files disk now err err' (run.Files error.Memory) cause e = absurd (omega (arith, e))
  limit_by_status files disk now err err' (run.Cut why) cause e = absurd (omega (arith, e))
  limit_by_status files disk now err err' (run.Held why) cause e = absurd (omega (arith, e))
  limit_by_status files disk now err err' run.Disk cause e = absurd (omega (arith, e))
  limit_by_status files disk now err err' run.Write cause e = absurd (omega (arith, e))
  limit_by_status files disk now err err' (run.Limit l) cause e = by_shard cause.0 (is ∙ ap (λ (c : Command). Some c) cause.1) (limited cause.0 cause.1 (limit_of l) files disk cause.3)
  limit_by_status files disk now err err' run.Generation cause e = by_disk (asked, is, asks_disk asked cause.0) cause.2
  limit_by_status files disk now err err' (run.Report by.Failed) cause e = absurd (omega (arith, e))
  limit_by_status files disk now err err' (run.Report by.Memory) cause e = absurd (omega (arith, e))

  search_holds : (disk : Option History) (on : OnDisk) → (AskDisk words → DiskHolds disk on) → (find : Find) → asked ≡ command.Find find
      → find.checkpoint ≢ None → DiskHolds disk on
  search_holds disk on holds find same has = holds (asked, is, subst (λ (c : Command). AsksDisk c) (sym same) has)

  -- a run that is ready stops for a fault or for want of memory alone
  module _ (law : ReadyIsNotRefused) (fs : Files) (disk now : Option History) (err err' : Option (List ℕ)) (on : OnDisk)
      (holds : AskDisk words → DiskHolds disk on) (ready : CanRun words fs on) where
    pub ready_stops : (h : FindError) → HasCommandCause asked (Some fs) disk now err err' h → ¬ IsFault h → reason_in h ≡ None → run_status_of h ≡ 8
    ready_stops (run.Files (error.Refused r)) cause calm free =
        absurd ((law words fs on ready).0 (refusal_of r) (refuses_own fs on cause.0 cause.1 (refusal_of r) cause.2.1))
    ready_stops (run.Files (error.Read name)) cause calm free = absurd (calm tt)
    ready_stops (run.Files error.Memory) cause calm free = refl
    ready_stops (run.Cut why) cause calm free =
        let a = cause.0 in
        let refuses = cause.1 on (search_holds disk on holds a.find a.is_find) in
        absurd ((law words fs on ready).0 (refusal.cut (cut_refusal_of why)) (refuses_cut a.find a.is_find fs on (cut_refusal_of why) refuses))
    ready_stops (run.Held why) cause calm free = absurd (none-some why (sym free))
    ready_stops run.Disk cause calm free = absurd (calm tt)
    ready_stops run.Write cause calm free = absurd (calm tt)
    ready_stops (run.Limit l) cause calm free =
        let far = cause.3 on (search_holds disk on holds cause.0 cause.1) in
        absurd ((law words fs on ready).1 cause.0 (limit_of l) (is ∙ ap (λ (c : Command). Some c) cause.1) far.beyond)
    ready_stops run.Generation cause calm free =
        let high = cause.2.began on (holds_on disk on holds (asks_disk asked cause.0)) in
        absurd (omega (arith, high, ready.generation))
    ready_stops (run.Report by.Failed) cause calm free = absurd (calm tt)
    ready_stops (run.Report by.Memory) cause calm free = refl

  -- a run that is refused stops by that refusal, unless a read or the disk fails
  module _ (one : StatusIsOne) (checked : CheckedIsAccepted) (apart : WritesOrIsRefused) (fs : Files) (disk now : Option History) (err err' : Option (List ℕ)) (on : OnDisk)
      (holds : AskDisk words → DiskHolds disk on) (r : Refusal) (refuses : IsRefused words fs on r) where
    never_accepted : {A : Type 0} → IsAccepted words fs on → A
    never_accepted a = absurd (a.accepts r refuses)

    pub refused_as : (h : FindError) → HasCommandCause asked (Some fs) disk now err err' h → ¬ (run_status_of h ≡ 4) → ¬ (run_status_of h ≡ 6)
        → (run_status_of h ≡ refusal_status r) ⊎ (run_status_of h ≡ 8)
    refused_as (run.Files (error.Refused own)) cause calm steady =
        inl (same_status own ∙ one words fs on (refusal_of own) r (refuses_own fs on cause.0 cause.1 (refusal_of own) cause.2.1) refuses)
    refused_as (run.Files (error.Read name)) cause calm steady = absurd (calm refl)
    refused_as (run.Files error.Memory) cause calm steady = inr refl
    refused_as (run.Cut why) cause calm steady =
        let a = cause.0 in
        let own = cause.1 on (search_holds disk on holds a.find a.is_find) in
        inl (one words fs on (refusal.cut (cut_refusal_of why)) r (refuses_cut a.find a.is_find fs on (cut_refusal_of why) own) refuses)
    refused_as (run.Held why) cause calm steady =
        let a = cause.0 in
        inl (sym (refused_cut checked words a.find (is ∙ ap (λ (c : Command). Some c) a.is_find) fs cause.1.0 cause.1.1 cause.1.2 on r refuses))
    refused_as run.Disk cause calm steady = absurd (steady refl)
    refused_as run.Write cause calm steady =
        never_accepted (accepted_by apart words asked is fs on (accepted_over asked fs disk cause on (holds_on disk on holds)))
    refused_as (run.Limit l) cause calm steady =
        let far = cause.3 on (search_holds disk on holds cause.0 cause.1) in
        never_accepted (search_accepted cause.0 cause.1 fs on far.accepted)
    refused_as run.Generation cause calm steady =
        let a = cause.0 in
        never_accepted (search_accepted a.find a.is_find fs on (cause.1 on (search_holds disk on holds a.find a.is_find)))
    refused_as (run.Report o) cause calm steady =
        let of_run = cause.2.is_report on (search_holds disk on holds cause.0 cause.1) in
        never_accepted (search_accepted cause.0 cause.1 fs on of_run.accepted)

  module _ {E : Type 0} (apart : WritesOrIsRefused) (written : E → Option (List ℕ)) (first mid last : E) (files : Option Files)
      (disk now : Option History) (before after : List ℕ → ℕ) (held held' : DiskHeld → ℕ) where
    -- what is told of a run that stopped, with nothing told before it
    pub told_by : (h : FindError) → HasCommandCause asked files disk now (written first) (written mid) h → FaultsFollow {A = Unit {0}} (Err h) before after
        → HeldFollows (reason_in h) held held'
        → (TellsNothing h → mid ≡ first) → TellsRun h (written mid) (written last) → (IsReport h → last ≡ mid)
        → TellsFront words files disk now before after held held' (run_status_of h) (written first) (written last)
    told_by (run.Files h) cause faults rose quiet told silent =
        told_so apart disk now before after held held' (written first) (written last) files (run.Files h) cause faults rose
        (subst (λ (x : E). TellsRun (run.Files h) (written x) (written last)) (quiet tt) told)
    told_by (run.Cut why) cause faults rose quiet told silent =
        told_so apart disk now before after held held' (written first) (written last) files (run.Cut why) cause faults rose
        (subst (λ (x : E). TellsRun (run.Cut why) (written x) (written last)) (quiet tt) told)
    told_by (run.Held why) cause faults rose quiet told silent =
        told_so apart disk now before after held held' (written first) (written last) files (run.Held why) cause faults rose
        (subst (λ (x : E). TellsRun (run.Held why) (written x) (written last)) (quiet tt) told)
    told_by run.Disk cause faults rose quiet told silent =
        told_so apart disk now before after held held' (written first) (written last) files run.Disk cause faults rose
        (subst (λ (x : E). TellsRun run.Disk (written x) (written last)) (quiet tt) told)
    told_by run.Write cause faults rose quiet told silent =
        told_so apart disk now before after held held' (written first) (written last) files run.Write cause faults rose
        (subst (λ (x : E). TellsRun run.Write (written x) (written last)) (quiet tt) told)
    told_by (run.Limit l) cause faults rose quiet told silent =
        told_so apart disk now before after held held' (written first) (written last) files (run.Limit l) cause faults rose
        (subst (λ (x : E). TellsRun (run.Limit l) (written x) (written last)) (quiet tt) told)
    told_by run.Generation cause faults rose quiet told silent =
        told_so apart disk now before after held held' (written first) (written last) files run.Generation cause faults rose
        (subst (λ (x : E). TellsRun run.Generation (written x) (written last)) (quiet tt) told)
    told_by (run.Report o) cause faults rose quiet told silent =
        told_so apart disk now before after held held' (written first) (written last) files (run.Report o)
        (subst (λ (x : E). HasCommandCause asked files disk now (written first) (written x) (run.Report o)) (sym (silent tt)) cause) faults rose tt

    pub told_of : (h : FindError) (status : ℕ) → status ≡ run_status_of h → HasCommandCause asked files disk now (written first) (written mid) h
        → FaultsFollow {A = Unit {0}} (Err h) before after
        → HeldFollows (reason_in h) held held'
        → (TellsNothing h → mid ≡ first) → TellsRun h (written mid) (written last) → (IsReport h → last ≡ mid)
        → TellsFront words files disk now before after held held' status (written first) (written last)
    told_of h status same cause faults rose quiet told silent =
        subst (λ (n : ℕ). TellsFront words files disk now before after held held' n (written first) (written last)) (sym same)
        (told_by h cause faults rose quiet told silent)

  pub limit_of_status : (files : Option Files) (disk now : Option History) (err err' : Option (List ℕ)) (h : FindError) (status : ℕ)
      → status ≡ run_status_of h → HasCommandCause asked files disk now err err' h → status ≡ 9 → ReachesLimit words files disk now
  limit_of_status files disk now err err' h status same cause e = limit_by_status files disk now err err' h cause (sym same ∙ e)

  -- what it takes that a run can be done
  abbrev pub ReadyOver : Option History → Files → Type 0
  ReadyOver disk fs = (on : OnDisk) × (AskDisk words → DiskHolds disk on) × CanRun words fs on

  pub ready_over : (files : Option Files) (disk : Option History) → IsReady words files disk → IsSomeAnd (files_for asked files) (ReadyOver disk)
  ready_over files disk ready = subst (λ (o : Option Files). IsSomeAnd o (ReadyOver disk)) (known_is files) ready

  pub stops_exact : StatusIsOne → CheckedIsAccepted → WritesOrIsRefused → (files : Option Files) (disk now : Option History) (err err' : Option (List ℕ)) (h : FindError)
      (status : ℕ) → status ≡ run_status_of h → HasCommandCause asked files disk now err err' h → ¬ (run_status_of h ≡ 4) → ¬ (run_status_of h ≡ 6)
      → IsRefusedAs words files disk status
  stops_exact one checked apart None disk now err err' h status same cause calm steady = tt
  stops_exact one checked apart (Some fs) disk now err err' h status same cause calm steady = λ on r holds refuses.
      by (refusal_status r) (refused_as one checked apart fs disk now err err' on holds r refuses h cause calm steady)
    where
      by : (n : ℕ) → (run_status_of h ≡ n) ⊎ (run_status_of h ≡ 8) → (status ≡ n) ⊎ (status ≡ 8)
      by n (inl e) = inl (same ∙ e)
      by n (inr e) = inr (same ∙ e)

  -- a run that is done isn't refused
  pub done_exact : WritesOrIsRefused → (files : Option Files) (disk : Option History) (status : ℕ) → IfRun asked files disk (IsAcceptedBy asked)
      → IsRefusedAs words files disk status
  done_exact apart None disk status h = tt
  done_exact apart (Some fs) disk status h = λ on r holds refuses.
      absurd ((accepted_by apart words asked is fs on (accepted_over asked fs disk h on (holds_on disk on holds))).accepts r refuses)

pub never_ended : (h : FindError) (status : ℕ) → status ≡ run_status_of h → status ≡ 0 → ⊥
never_ended h status same e = never_done h (sym same ∙ e)

-- a run of `made` stops for a fault or for want of memory alone
made_stops : (hands events : ℕ) (files : Option Files) (disk now : Option History) (err err' : Option (List ℕ)) (h : FindError)
    → HasCommandCause (command.Made hands events) files disk now err err' h → ¬ IsFault h → run_status_of h ≡ 8
made_stops hands events files disk now err err' (run.Files (error.Refused r)) cause calm = absurd (none-some cause.0 cause.1)
made_stops hands events files disk now err err' (run.Files (error.Read name)) cause calm = absurd (calm tt)
made_stops hands events files disk now err err' (run.Files error.Memory) cause calm = refl
made_stops hands events files disk now err err' (run.Cut why) cause calm = absurd (asks_disk (command.Made hands events) cause.0)
made_stops hands events files disk now err err' (run.Held why) cause calm = absurd (asks_disk (command.Made hands events) cause.0)
made_stops hands events files disk now err err' run.Disk cause calm = absurd (calm tt)
made_stops hands events files disk now err err' run.Write cause calm = absurd (calm tt)
made_stops hands events files disk now err err' (run.Limit l) cause calm = cc
made_stops hands events files disk now err err' run.Generation cause calm = absurd (asks_disk (command.Made hands events) cause.0)
made_stops hands events files disk now err err' (run.Report by.Failed) cause calm = absurd (calm tt)
made_stops hands events files disk now err err' (run.Report by.Memory) cause calm = refl

-- a run that is ready and doesn't stop for a fault stops for want of memory
ready_errors : (words : List (List ℕ)) (asked : Command) → command_of words ≡ Some asked → ReadyIsNotRefused → (files : Option Files)
    (disk now : Option History) (err err' : Option (List ℕ)) (h : FindError) → HasCommandCause asked files disk now err err' h → IsReady words files disk
    → ¬ IsFault h → reason_in h ≡ None → run_status_of h ≡ 8
ready_errors words (command.Made hands events) is law files disk now err err' h cause ready calm free =
    made_stops hands events files disk now err err' h cause calm
ready_errors words (command.Find f) is law None disk now err err' h cause ready calm free = absurd (ready_over words (command.Find f) is None disk ready)
ready_errors words (command.Find f) is law (Some fs) disk now err err' h cause ready calm free =
    let there = ready_over words (command.Find f) is (Some fs) disk ready in
    ready_stops words (command.Find f) is law fs disk now err err' there.0 there.1 there.2 h cause calm free
ready_errors words (command.Check query fields) is law None disk now err err' h cause ready calm free =
    absurd (ready_over words (command.Check query fields) is None disk ready)
ready_errors words (command.Check query fields) is law (Some fs) disk now err err' h cause ready calm free =
    let there = ready_over words (command.Check query fields) is (Some fs) disk ready in
    ready_stops words (command.Check query fields) is law fs disk now err err' there.0 there.1 there.2 h cause calm free

pub stops_ready : (words : List (List ℕ)) (asked : Command) → command_of words ≡ Some asked → ReadyIsNotRefused → (files : Option Files)
    (disk now : Option History) (err err' : Option (List ℕ)) (h : FindError) (status : ℕ) → status ≡ run_status_of h
    → HasCommandCause asked files disk now err err' h → IsReady words files disk → ¬ IsFault h → reason_in h ≡ None → (status ≡ 0) ⊎ (status ≡ 8)
stops_ready words asked is law files disk now err err' h status same cause ready calm free =
    inr (same ∙ ready_errors words asked is law files disk now err err' h cause ready calm free)

-- where no count rose, a run didn't stop for a fault. That of the disk counts where the command asks for one
module _ (asked : Command) (files : Option Files) (disk now : Option History) (err-text err-text' : Option (List ℕ))
    (reads reads' disks disks' out out' err mid err' : ℕ) (read : ¬ Rose reads reads') (on_disk : AsksDisk asked → ¬ Rose disks disks')
    (write : ¬ Rose out out') (report : ¬ Rose err err') where
  pub is_calm : (h : FindError) → HasCommandCause asked files disk now err-text err-text' h → CountFollows {A = Unit {0}} (Err h) reads reads'
      → DiskFollows {A = Unit {0}} (Err h) disks disks' → OutFollows {A = Unit {0}} (Err h) out out' → ErrFollows {A = Unit {0}} (Err h) err mid
      → (IsReport h → err' ≡ mid) → ¬ IsFault h
  is_calm (run.Files (error.Refused r)) cause c d o e silent fault = fault
  is_calm (run.Files (error.Read name)) cause c d o e silent fault = read c
  is_calm (run.Files error.Memory) cause c d o e silent fault = fault
  is_calm (run.Cut why) cause c d o e silent fault = fault
  is_calm (run.Held why) cause c d o e silent fault = fault
  is_calm run.Disk cause c d o e silent fault = on_disk (asks_disk asked cause.0) d
  is_calm run.Write cause c d o e silent fault = write o
  is_calm (run.Limit l) cause c d o e silent fault = fault
  is_calm run.Generation cause c d o e silent fault = fault
  is_calm (run.Report by.Failed) cause c d o e silent fault = report (subst (λ (n : ℕ). Rose err n) (sym (silent tt)) e)
  is_calm (run.Report by.Memory) cause c d o e silent fault = fault

-- where no read failed, the status isn't that of a read fault; nor is it that of a fault of the disk where that didn't fail
pub no_read : (h : FindError) (reads reads' : ℕ) → CountFollows {A = Unit {0}} (Err h) reads reads' → ¬ Rose reads reads' → ¬ (run_status_of h ≡ 4)
no_read h reads reads' c calm e = calm (read_by_status h reads reads' c e)

disk_is_asked : (asked : Command) (files : Option Files) (disk now : Option History) (err err' : Option (List ℕ)) (h : FindError)
    → HasCommandCause asked files disk now err err' h → run_status_of h ≡ 6 → AsksDisk asked
disk_is_asked asked files disk now err err' (run.Files (error.Refused (refused.NoFile name))) cause e = absurd (omega (arith, e))
disk_is_asked asked files disk now err err' (run.Files (error.Refused (refused.Lex r))) cause e = absurd (omega (arith, e))
disk_is_asked asked files disk now err err' (run.Files (error.Refused (refused.Parse r))) cause e = absurd (omega (arith, e))
disk_is_asked asked files disk now err err' (run.Files (error.Refused (refused.Mapping r))) cause e = absurd (omega (arith, e))
disk_is_asked asked files disk now err err' (run.Files (error.Refused (refused.Broken r))) cause e = absurd (omega (arith, e))
disk_is_asked asked files disk now err err' (run.Files (error.Read name)) cause e = absurd (omega (arith, e))
disk_is_asked asked files disk now err err' (run.Files error.Memory) cause e = absurd (omega (arith, e))
disk_is_asked asked files disk now err err' (run.Cut why) cause e = absurd (omega (arith, e))
disk_is_asked asked files disk now err err' (run.Held why) cause e = absurd (omega (arith, e))
disk_is_asked asked files disk now err err' run.Disk cause e = asks_disk asked cause.0
disk_is_asked asked files disk now err err' run.Write cause e = absurd (omega (arith, e))
disk_is_asked asked files disk now err err' (run.Limit l) cause e = absurd (omega (arith, e))
disk_is_asked asked files disk now err err' run.Generation cause e = absurd (omega (arith, e))
disk_is_asked asked files disk now err err' (run.Report by.Failed) cause e = absurd (omega (arith, e))
disk_is_asked asked files disk now err err' (run.Report by.Memory) cause e = absurd (omega (arith, e))

pub no_disk : (asked : Command) (files : Option Files) (disk now : Option History) (err err' : Option (List ℕ)) (h : FindError) (disks disks' : ℕ)
    → HasCommandCause asked files disk now err err' h → DiskFollows {A = Unit {0}} (Err h) disks disks' → (AsksDisk asked → ¬ Rose disks disks')
    → ¬ (run_status_of h ≡ 6)
no_disk asked files disk now err err' h disks disks' cause d calm e =
    calm (disk_is_asked asked files disk now err err' h cause e) (disk_by_status h disks disks' d e)

-- no reason is told where none rose, or where the disk is free. Both count where the command asks for a disk
module _ (asked : Command) (files : Option Files) (disk now : Option History) (err err' : Option (List ℕ)) where
  pub none_rose : (held held' : DiskHeld → ℕ) → (AsksDisk asked → (why : DiskHeld) → ¬ (Rose (held why) (held' why))) → (h : FindError)
      → HasCommandCause asked files disk now err err' h → HeldFollows (reason_in h) held held' → reason_in h ≡ None
  none_rose held held' never (run.Files h) cause follow = refl
  none_rose held held' never (run.Cut why) cause follow = refl
  none_rose held held' never (run.Held why) cause follow = absurd (never (asks_disk asked cause.0) why follow.rose)
  none_rose held held' never run.Disk cause follow = refl
  none_rose held held' never run.Write cause follow = refl
  none_rose held held' never (run.Limit l) cause follow = refl
  none_rose held held' never run.Generation cause follow = refl
  none_rose held held' never (run.Report r) cause follow = refl

  pub is_free : (free : Bool) → (AsksDisk asked → free ≡ true) → (h : FindError) → HasCommandCause asked files disk now err err' h
      → (free ≡ true → reason_in h ≡ None) → reason_in h ≡ None
  is_free free asks (run.Files h) cause none = refl
  is_free free asks (run.Cut why) cause none = refl
  is_free free asks (run.Held why) cause none = none (asks (asks_disk asked cause.0))
  is_free free asks run.Disk cause none = refl
  is_free free asks run.Write cause none = refl
  is_free free asks (run.Limit l) cause none = refl
  is_free free asks run.Generation cause none = refl
  is_free free asks (run.Report r) cause none = refl
