-- Why a disk isn't handed out though nothing failed: which files are in use, what an answer about a lock means, and how often that was.
use Rattle.std.specs.Prelude.{◌≡◌, ◌⊎◌, ℕ, List, Contains}
use Rattle.std.specs.declared.fs.TryLockError.{TryLockError}
use Rattle.std.specs.declared.fs.TryLockError.TheVariants.{Error, WouldBlock}
use Rattle.eql_outside.specs.declared.disk.Area.{Area}
use Rattle.eql_outside.specs.declared.disk.Area.TheVariants.{A, B}
use Rattle.eql_outside.specs.declared.holding.FileId.{FileId}
use Rattle.eql_outside.specs.declared.holding.HeldCounts.{HeldCounts}
use Rattle.eql_outside.specs.declared.refused.DiskHeld.{DiskHeld}
use Rattle.eql_outside.specs.declared.refused.DiskHeld.TheVariants.{Busy, Shared}
use Rattle.eql_outside.specs.declared.refused.DiskRefused.{DiskRefused}
use Rattle.eql_outside.specs.declared.refused.DiskRefused.TheVariants.{Held, Failed}

-- how often it was for this reason
abbrev pub held_in : HeldCounts → DiskHeld → ℕ
held_in counts Busy = counts.busy
held_in counts (Shared A) = counts.first
held_in counts (Shared B) = counts.second

-- of the files of the two areas, that of this one is in use: the first was lent, or, where it wasn't, the second was or is the first
abbrev pub IsShared : List FileId → FileId → FileId → Area → Type 0
IsShared lent first second A = Contains lent first
IsShared lent first second B = (¬ Contains lent first) × (Contains lent second ⊎ (second ≡ first))

-- why a disk isn't handed out whose lock wasn't given: another run has it, or the call failed
abbrev pub refusal_of : TryLockError → DiskRefused
refusal_of WouldBlock = Held Busy
refusal_of (Error e) = Failed
