-- Why the reading of a command's files stops, in the words of runs.
use Rattle.std.specs.Prelude.{◌≡◌, ◌++◌, ℕ, List, Option, IfSome, codes}
use Rattle.eql_outside.specs.Outside.{Rose}
use Rattle.eql_outside.specs.Faults.{FaultsAreSame, RoseFor}
use Rattle.eql_runs.specs.Files.{Files}
use Rattle.eql_runs.specs.Refusals.{Names, Refusal, Refuses, refusal_text, printed_name}
use Rattle.eql_runs.specs.Refusals as run
use Rattle.eql_runs.specs.Runs.{IsNamed, NamesOwn, Reaches}
use Rattle.eql_inputs.specs.declared.error.Refused.{Refused}
use Rattle.eql_inputs.specs.declared.error.Refused.TheVariants as refused
use Rattle.eql_inputs.specs.declared.error.InputError.{InputError}
use Rattle.eql_inputs.specs.declared.error.InputError.TheVariants as error

-- the refusal of words and files
abbrev pub refusal_of : Refused → Refusal
refusal_of (refused.NoFile name) = run.no_file name.now
refusal_of (refused.Lex r) = run.lex r
refusal_of (refused.Parse r) = run.parse r
refusal_of (refused.Mapping r) = run.mapping r
refusal_of (refused.Broken r) = run.broken r

-- the status of a run that stops so
abbrev pub status_of : InputError → ℕ
status_of (error.Refused (refused.NoFile name)) = 1
status_of (error.Refused (refused.Lex r)) = 3
status_of (error.Refused (refused.Parse r)) = 3
status_of (error.Refused (refused.Mapping r)) = 3
status_of (error.Refused (refused.Broken r)) = 3
status_of (error.Read name) = 4
status_of error.Memory = 8

-- what is told of it
abbrev pub text_of : InputError → List ℕ
text_of (error.Refused r) = refusal_text (refusal_of r)
text_of (error.Read name) = codes "read fault: " ++ printed_name name.now ++ codes "\n"
text_of error.Memory = codes "out of memory\n"

-- its cause, in a run that names these files: it tells of a file of the command, and where the shelf
-- tells its files, the cause holds of them
abbrev pub HasInputCause : Names → Option Files → InputError → Type 0
HasInputCause names files (error.Refused r) =
    NamesOwn names (refusal_of r) × IfSome files (λ fs. Refuses names fs (refusal_of r))
HasInputCause names files (error.Read name) =
    IsNamed names name.now × IfSome files (λ fs. Reaches names fs name.now)
HasInputCause names files error.Memory = Unit {0}

-- it isn't a read fault
abbrev pub IsNoFault : InputError → Type 0
IsNoFault (error.Refused r) = Unit {0}
IsNoFault (error.Read name) = ⊥
IsNoFault error.Memory = Unit {0}

-- of a read fault the count of the file that it tells of rose, and no other; else none rose
abbrev pub FaultsFollow : InputError → (before now : List ℕ → ℕ) → Type 0
FaultsFollow (error.Refused r) before now = FaultsAreSame before now
FaultsFollow (error.Read name) before now = RoseFor name.now before now
FaultsFollow error.Memory before now = FaultsAreSame before now

-- the count of all read faults rose where one is returned, and nowhere else
abbrev pub CountFollows : InputError → (before now : ℕ) → Type 0
CountFollows (error.Refused r) before now = now ≡ before
CountFollows (error.Read name) before now = Rose before now
CountFollows error.Memory before now = now ≡ before

-- the count of absences rose where a file isn't there, and nowhere else
abbrev pub AbsencesFollow : InputError → (before now : ℕ) → Type 0
AbsencesFollow (error.Refused (refused.NoFile name)) before now = Rose before now
AbsencesFollow (error.Refused (refused.Lex r)) before now = now ≡ before
AbsencesFollow (error.Refused (refused.Parse r)) before now = now ≡ before
AbsencesFollow (error.Refused (refused.Mapping r)) before now = now ≡ before
AbsencesFollow (error.Refused (refused.Broken r)) before now = now ≡ before
AbsencesFollow (error.Read name) before now = now ≡ before
AbsencesFollow error.Memory before now = now ≡ before
