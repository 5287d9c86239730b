-- What a run of `made` lists and writes.
use Rattle.std.specs.Prelude.{◌≡◌, ℕ, List, Option, Some}
use Rattle.eql_outside.specs.Written.{WroteAll, WroteFront}
use Rattle.eql_outside.specs.declared.refused.OutRefused.TheVariants as refused_by
use Rattle.eql_runs.specs.Made.{made_texts}
use Rattle.eql_runs.specs.Searches.{listing_of, Search}
use Rattle.eql_runs.specs.Summaries.{IsMadeSearch, Makes}
use Rattle.eql_inputs.specs.declared.error.InputError.TheVariants as error
use Rattle.eql_find.specs.declared.error.FindError.{FindError}
use Rattle.eql_find.specs.declared.error.FindError.TheVariants as run

-- a sink got the listing of the search over so many made events
abbrev pub IsMadeListing : (events : ℕ) → Option (List ℕ) → Type 0
IsMadeListing events written =
    (search : Search) × IsMadeSearch search × (written ≡ Some (listing_of search (made_texts events)))

-- a run stopped for want of memory
abbrev pub IsWant : FindError → Type 0
IsWant (run.Files (error.Refused r)) = ⊥
IsWant (run.Files (error.Read name)) = ⊥
IsWant (run.Files error.Memory) = Unit {0}
IsWant (run.Cut why) = ⊥
IsWant (run.Held why) = ⊥
IsWant run.Disk = ⊥
IsWant run.Write = ⊥
IsWant (run.Limit l) = ⊥
IsWant run.Generation = ⊥
IsWant (run.Report refused_by.Failed) = ⊥
IsWant (run.Report refused_by.Memory) = Unit {0}

-- the output got what a run over so many events writes
abbrev pub MakesAll : (events : ℕ) → (out out' : Option (List ℕ)) → Type 0
MakesAll events out out' =
    (bytes : List ℕ) × (report : List ℕ) × Makes events bytes report × WroteAll bytes out out'

-- the output got a front of that, which may be nothing
abbrev pub MakesFront : (events : ℕ) → (out out' : Option (List ℕ)) → Type 0
MakesFront events out out' =
    (bytes : List ℕ) × (report : List ℕ) × Makes events bytes report × WroteFront bytes out out'
