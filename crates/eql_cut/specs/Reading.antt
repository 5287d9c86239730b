-- What a reader of the code returns.
use Rattle.std.specs.Prelude.{◌≡◌, ℕ, Option, Some, None, Result, Ok, Err, Vec, List}
use Rattle.eql_cut.specs.declared.reader.CutRefused.{CutRefused}
use Rattle.eql_cut.specs.declared.reader.CutRefused.TheVariants as cut
use Rattle.std.specs.declared.alloc.Global.{Global}
use Rattle.eql_cut.specs.Formats.{Format, times, whole}

-- reading gives nothing, unless memory ran out
abbrev pub Refuses : {A : Type 0} → Option A → CutRefused → Type 0
Refuses read cut.Memory = Unit {0}
Refuses read (cut.Damaged at) = read ≡ None

-- the result is what reading gives, from what was left to what is left
abbrev pub Reads : {A : Type 0} → Format A → Result A CutRefused → List ℕ → List ℕ → Type 0
Reads f (Ok a) old new = f.read old ≡ Some (a, new)
Reads f (Err e) old new = Refuses (f.read old) e

-- the same of a list of values
abbrev pub ReadsList : {A : Type 0} → Format (List A) → Result (Vec A Global) CutRefused → List ℕ → List ℕ → Type 0
ReadsList f (Ok v) old new = f.read old ≡ Some (v.items, new)
ReadsList f (Err e) old new = Refuses (f.read old) e

-- and of so many of them
abbrev pub ReadsTimes : {A : Type 0} → Format A → ℕ → Result (Vec A Global) CutRefused → List ℕ → List ℕ → Type 0
ReadsTimes f n (Ok v) old new = times f.read n old ≡ Some (v.items, new)
ReadsTimes f n (Err e) old new = Refuses (times f.read n old) e

-- the result is what all of the bytes spell
abbrev pub Answers : {A : Type 0} → Format A → Result A CutRefused → List ℕ → Type 0
Answers f (Ok a) bytes = whole f bytes ≡ Some a
Answers f (Err e) bytes = Refuses (whole f bytes) e

-- what is said of a refusal that isn't for want of memory
abbrev pub IfDamaged : CutRefused → Type 0 → Type 0
IfDamaged cut.Memory P = Unit {0}
IfDamaged (cut.Damaged at) P = P
