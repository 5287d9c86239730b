-- What a run of `check` writes, and the causes for which it stops.
use Rattle.std.specs.Prelude.{◌≡◌, ◌⊎◌, ℕ, List, [], Option, Some, IfSome}
use Rattle.eql_outside.specs.Outside.{AppendsSome}
use Rattle.eql_outside.specs.Written.{WroteAll}
use Rattle.eql_runs.specs.Files.{Files}
use Rattle.eql_runs.specs.Runs.{Prints}
use Rattle.eql_inputs.specs.Errors as inputs
use Rattle.eql_inputs.specs.declared.error.InputError.TheVariants as error
use Rattle.eql_inputs.specs.Steps.{naming}
use Rattle.eql_find.specs.declared.error.FindError.{FindError}
use Rattle.eql_find.specs.declared.error.FindError.TheVariants as run

-- where the shelf tells its files, the run was one that writes a canonical text, and where the output tells too it got just this
abbrev pub PrintsAll : (query fields : List ℕ) → Option Files → (out out' : Option (List ℕ)) → Type 0
PrintsAll query fields files out out' =
    IfSome files (λ fs.
    (bytes : List ℕ) × (report : List ℕ) × Prints query fields fs bytes report × WroteAll bytes out out')

-- where both tell, the output got nothing, or a front of the text
abbrev pub PrintsSome : (query fields : List ℕ) → Option Files → (out out' : Option (List ℕ)) → Type 0
PrintsSome query fields files out out' =
    IfSome files (λ fs. IfSome out (λ w.
    (out' ≡ Some w)
    ⊎ ((bytes : List ℕ) × (report : List ℕ) × Prints query fields fs bytes report × AppendsSome w bytes out')))

-- why a run stopped
abbrev pub HasPrintCause : (query fields : List ℕ) → Option Files → FindError → Type 0
HasPrintCause query fields files (run.Files h) = inputs.HasInputCause (naming query fields []) files h
HasPrintCause query fields files (run.Cut why) = ⊥
HasPrintCause query fields files (run.Held why) = ⊥
HasPrintCause query fields files run.Disk = ⊥
HasPrintCause query fields files run.Write =
    IfSome files (λ fs. (bytes : List ℕ) × (report : List ℕ) × Prints query fields fs bytes report)
HasPrintCause query fields files (run.Limit l) = ⊥
HasPrintCause query fields files run.Generation = ⊥
HasPrintCause query fields files (run.Report r) = ⊥

-- writing the text stopped: the output failed, or memory ran out
abbrev pub StopsWriting : FindError → Type 0
StopsWriting (run.Files (error.Refused r)) = ⊥
StopsWriting (run.Files (error.Read name)) = ⊥
StopsWriting (run.Files error.Memory) = Unit {0}
StopsWriting (run.Cut why) = ⊥
StopsWriting (run.Held why) = ⊥
StopsWriting run.Disk = ⊥
StopsWriting run.Write = Unit {0}
StopsWriting (run.Limit l) = ⊥
StopsWriting run.Generation = ⊥
StopsWriting (run.Report r) = ⊥
