-- What is opened and read of a file: all of it, and its first bytes.
use Rattle.std.specs.Prelude.{◌≡◌, ◌≢◌, ◌≤◌, ◌<◌, ◌++◌, ℕ, List, [], take, drop, length, Option, Some, None, IfSome, Result, Err}
use Rattle.eql_outside.specs.Outside.{file_named}
use Rattle.eql_outside.specs.Unfailing.{IsUnfailing}
use Rattle.eql_outside.specs.declared.refused.OutRefused.{OutRefused}
use Rattle.eql_outside.specs.declared.refused.OutRefused.TheVariants as refused
use Rattle.eql_outside.specs.declared.source.Source as sources
use Rattle.eql_runs.specs.Files.{Files}

-- this is left of a source over the file of this name: all of it
pub record IsWhole (name : List ℕ) (files : Files) (left : Option (List ℕ)) : Type 0 where
  pub text : List ℕ
  pub there : file_named name files ≡ Some text
  pub left_is : left ≡ Some text

-- the same, where the shelf tells its files
abbrev pub IsWholeFile : List ℕ → Option Files → Option (List ℕ) → Type 0
IsWholeFile name files left = IfSome files (λ fs. IsWhole name fs left)

-- the bytes are the first of the file of this name, as many of them as are kept at most
pub record IsFileFront (name : List ℕ) (files : Files) (most : ℕ) (bytes : List ℕ) : Type 0 where
  pub text : List ℕ
  pub there : file_named name files ≡ Some text
  pub front : bytes ≡ take most text

-- the same, where the shelf tells its files
abbrev pub IsFrontOf : List ℕ → Option Files → ℕ → List ℕ → Type 0
IsFrontOf name files most bytes = IfSome files (λ fs. IsFileFront name fs most bytes)

-- no file has this name, where the shelf tells its files
abbrev pub IsMissing : List ℕ → Option Files → Type 0
IsMissing name files = IfSome files (λ fs. file_named name fs ≡ None)

-- where the source tells, the bytes are the first of those that were left
abbrev pub TakesFront : Option (List ℕ) → ℕ → List ℕ → Type 0
TakesFront left most bytes = IfSome left (λ all. bytes ≡ take most all)

-- of these bytes at most so many were taken, and the others are left
pub record TookOf (all : List ℕ) (most : ℕ) (left : Option (List ℕ)) : Type 0 where
  pub n : ℕ
  pub few : n ≤ most
  pub left_is : left ≡ Some (drop n all)

-- the same, where the source tells
abbrev pub TakesAtMost : ℕ → (left left_now : Option (List ℕ)) → Type 0
TakesAtMost most left left_now = IfSome left (λ all. TookOf all most left_now)

-- a call took of a source so many bytes at most, and returned that it failed where it did. The source keeps its name, and
-- where no take of it fails it goes on so
pub record ReadsSource {A S : Type 0} (source : sources.Ghosts S) (most : ℕ) (old new : S) (answer : Result A OutRefused) : Type 0 where
  pub takes : TakesAtMost most (source.left old) (source.left new)
  pub failed : answer ≡ Err refused.Failed → 0 < source.fault_count new
  pub steady : answer ≢ Err refused.Failed → source.fault_count new ≡ source.fault_count old
  pub named : source.lent_as new ≡ source.lent_as old
  pub unfailing : IsUnfailing (source.fault_plan old) → (answer ≢ Err refused.Failed) × IsUnfailing (source.fault_plan new)

-- the next n bytes of a source were put at the end of a text
pub record HasTaken (all : List ℕ) (left : Option (List ℕ)) (before after : List ℕ) : Type 0 where
  pub n : ℕ
  pub there : n ≤ length all
  pub left_is : left ≡ Some (drop n all)
  pub text : after ≡ before ++ take n all

-- the same, where the source tells
abbrev pub HasRead : (left left_now : Option (List ℕ)) → (before after : List ℕ) → Type 0
HasRead left left_now before after = IfSome left (λ all. HasTaken all left_now before after)

-- where the source tells, nothing is left
abbrev pub IsAtEnd : Option (List ℕ) → Type 0
IsAtEnd left = IfSome left (λ all. all ≡ [])
