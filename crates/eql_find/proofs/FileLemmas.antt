-- What a error of files says of counts, in the words of a run.
use Rattle.std.proofs.Common.{◌≡◌, ℕ, List, Err}
use Rattle.eql_inputs.specs.declared.error.InputError.{InputError}
use Rattle.eql_inputs.specs.declared.error.InputError.TheVariants as error
use Rattle.eql_inputs.specs.Errors as inputs
use Rattle.eql_find.specs.declared.error.FindError.TheVariants as run
use Rattle.eql_find.specs.Errors.{DiskFollows, FaultsFollow, IsLeftBy, OutFollows}

-- where one file at most failed, the faults of its name rose
pub file_faults : (h : InputError) (before now : List ℕ → ℕ) → inputs.FaultsFollow h before now → FaultsFollow {A = Unit {0}} (Err (run.Files h)) before now
file_faults (error.Refused r) before now faults = faults
file_faults (error.Read name) before now faults = record { rose = faults.rose; counts = faults.counts }
file_faults error.Memory before now faults = faults

left_same : (h : InputError) (before now : ℕ) → now ≡ before → IsLeftBy h before now
left_same (error.Refused r) before now same = same
left_same (error.Read name) before now same = tt
left_same error.Memory before now same = same

pub file_disk : (h : InputError) (before now : ℕ) → now ≡ before → DiskFollows {A = Unit {0}} (Err (run.Files h)) before now
file_disk h before now same = left_same h before now same

pub file_out : (h : InputError) (before now : ℕ) → now ≡ before → OutFollows {A = Unit {0}} (Err (run.Files h)) before now
file_out h before now same = left_same h before now same
