-- What a run of a command writes, and the causes for which it stops.
use Rattle.std.specs.Prelude.{◌≡◌, ◌≢◌, ◌<◌, ◌⊎◌, ℕ, List, length, Option, None, Some, IfSome}
use Rattle.eql_outside.specs.Moments.{History}
use Rattle.eql_outside.specs.Moments as moments
use Rattle.eql_outside.specs.Outside.{AppendsSome}
use Rattle.eql_outside.specs.Written.{WroteAll}
use Rattle.eql_words.specs.declared.commands.Command.{Command}
use Rattle.eql_words.specs.declared.commands.Command.TheVariants as command
use Rattle.eql_words.specs.declared.commands.Find.{Find}
use Rattle.eql_runs.specs.Files.{Files}
use Rattle.eql_runs.specs.Refusals.{Names}
use Rattle.eql_runs.specs.Runs.{AsksDisk, files_for, GenerationsEnd, IfFound, IsFindAccepted, KeepsCuts, names_of, Prints, RefusesCut, Runs, Searches, shard_of, Trusts}
use Rattle.eql_runs.specs.Searches.{Search}
use Rattle.eql_runs.specs.Starts.{DiskHolds, OnDisk}
use Rattle.eql_runs.specs.Summaries.{Makes}
use Rattle.eql_inputs.specs.Errors as inputs
use Rattle.eql_inputs.specs.declared.error.InputError.{InputError}
use Rattle.eql_inputs.specs.declared.error.InputError.TheVariants as error
use Rattle.eql_find.specs.declared.error.FindError.{FindError}
use Rattle.eql_find.specs.declared.error.FindError.TheVariants as run
use Rattle.eql_find.specs.Finding.{GoesTooFar, ReportsFront}
use Rattle.eql_find.specs.Errors.{cut_refusal_of, limit_of}

-- what holds of the files over which a command runs, and of what the disk holds on which it keeps its state, where these are told
abbrev pub IfRun : Command → Option Files → Option History → (Files → OnDisk → Type 0) → Type 0
IfRun asked files disk fact =
    IfSome (files_for asked files) (λ fs. (on : OnDisk) → (AsksDisk asked → DiskHolds disk on) → fact fs on)

-- what the disk holds is trusted
abbrev pub IsTrustedBy : Command → Files → OnDisk → Type 0
IsTrustedBy (command.Find f) files on = Trusts f files on
IsTrustedBy (command.Check query fields) files on = Unit {0}
IsTrustedBy (command.Made hands events) files on = Unit {0}

-- neither files nor disk refuse the run; where the disk is trusted, it is one that writes
abbrev pub IsAcceptedBy : Command → Files → OnDisk → Type 0
IsAcceptedBy (command.Find f) files on = IsFindAccepted f files on
IsAcceptedBy (command.Check query fields) files on = (bytes : List ℕ) × (report : List ℕ) × Prints query fields files bytes report
IsAcceptedBy (command.Made hands events) files on = (bytes : List ℕ) × (report : List ℕ) × Makes events bytes report

-- where files and disk are known, and the disk is trusted, the run was one that writes bytes and a report, and where the sinks
-- tell too they got just these
abbrev pub RunsAll : Command → Option Files → Option History → (out out' err err' : Option (List ℕ)) → Type 0
RunsAll asked files disk out out' err err' =
    IfRun asked files disk (λ fs on. IsTrustedBy asked fs on
    → (bytes : List ℕ) × (report : List ℕ) × Runs asked fs on bytes report
    × WroteAll bytes out out' × WroteAll report err err')

-- where they are known and the output tells, it got nothing, or a front of the bytes
abbrev pub RunsSome : Command → Option Files → Option History → (out out' : Option (List ℕ)) → Type 0
RunsSome asked files disk out out' =
    IfRun asked files disk (λ fs on. IsTrustedBy asked fs on → IfSome out (λ w.
    (out' ≡ Some w)
    ⊎ ((bytes : List ℕ) × (report : List ℕ) × Runs asked fs on bytes report × AppendsSome w bytes out')))

-- where they are known, the run was one that writes bytes, and where the output tells it got just these
abbrev pub RunsListing : Command → Option Files → Option History → (out out' : Option (List ℕ)) → Type 0
RunsListing asked files disk out out' =
    IfRun asked files disk (λ fs on. IsTrustedBy asked fs on
    → (bytes : List ℕ) × (report : List ℕ) × Runs asked fs on bytes report × WroteAll bytes out out')

-- a search that keeps its state on a disk
pub record AsksFind (asked : Command) : Type 0 where
  pub find : Find
  pub is_find : asked ≡ command.Find find
  pub has_disk : find.checkpoint ≢ None

-- why the reading of the files that a command names stopped, or that memory ran out
abbrev pub HasFilesCause : Command → Option Files → InputError → Type 0
HasFilesCause asked files (error.Refused r) =
    (names : Names) × (names_of asked ≡ Some names) × inputs.HasInputCause names files (error.Refused r)
HasFilesCause asked files (error.Read name) =
    (names : Names) × (names_of asked ≡ Some names) × inputs.HasInputCause names files (error.Read name)
HasFilesCause asked files error.Memory = Unit {0}

-- why a run stopped, by its files, and by its disk before and now
abbrev pub HasCommandCause : Command → Option Files → (disk now : Option History) → (err err' : Option (List ℕ)) → FindError → Type 0
HasCommandCause asked files disk now err err' (run.Files h) = HasFilesCause asked files h
HasCommandCause asked files disk now err err' (run.Cut r) =
    (asks : AsksFind asked) × IfFound asks.find files disk (λ fs on. RefusesCut asks.find fs on (cut_refusal_of r))
HasCommandCause asked files disk now err err' (run.Held why) =
    (asks : AsksFind asked)
    × IfSome files (λ fs. (search : Search) × (texts : List (List ℕ)) × Searches asks.find fs search texts)
HasCommandCause asked files disk now err err' run.Disk =
    (asks : AsksFind asked)
    × IfSome files (λ fs. (search : Search) × (texts : List (List ℕ)) × Searches asks.find fs search texts)
HasCommandCause asked files disk now err err' run.Write = IfRun asked files disk (IsAcceptedBy asked)
HasCommandCause asked files disk now err err' (run.Limit l) =
    (find : Find) × (asked ≡ command.Find find) × (shard_of (limit_of l) < length find.shards)
    × IfFound find files disk (GoesTooFar find (limit_of l))
HasCommandCause asked files disk now err err' run.Generation =
    (asks : AsksFind asked) × IfFound asks.find files disk (IsFindAccepted asks.find) × GenerationsEnd disk now
HasCommandCause asked files disk now err err' (run.Report r) =
    (find : Find) × (asked ≡ command.Find find) × ReportsFront find files disk err err'

-- a command that keeps its state on a disk keeps its cuts there, and writes what they count, which is kept
abbrev pub KeepsDisk : Command → Option Files → (out out' kept kept' : Option (List ℕ)) → (disk now : Option History) → Type 0
KeepsDisk (command.Find f) files out out' kept kept' disk now =
    f.checkpoint ≢ None → moments.DiskTells (KeepsCuts f files out out' kept kept') disk now
KeepsDisk (command.Check query fields) files out out' kept kept' disk now = Unit {0}
KeepsDisk (command.Made hands events) files out out' kept kept' disk now = Unit {0}
