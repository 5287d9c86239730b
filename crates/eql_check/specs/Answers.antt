-- What the parts of the check return.
use Rattle.std.specs.Prelude.{◌≡◌, ℕ, List, ◌++◌, Bool, ◌&&◌, Option, Some, None, ⊤}
use Rattle.std.specs.declared.result.Result.{Result}
use Rattle.std.specs.declared.result.Result.TheVariants.{Ok, Err}
use Rattle.eql_values.specs.declared.value.Kind.{Kind}
use Rattle.eql_check.specs.declared.refused.CheckRefused.{CheckRefused}
use Rattle.eql_check.specs.declared.refused.CheckRefused.TheVariants.{Memory}
use Rattle.eql_check.specs.FirstBroken.{AllFound, all_bool}

-- the value or the broken rule, or else want of memory
abbrev pub Answers : {A : Type 0} → Result A CheckRefused → Result A CheckRefused → Type 0
Answers (Err Memory) wanted = Unit {0}
Answers got wanted = got ≡ wanted

-- whether all of a list may be Boolean
abbrev pub bools_of : AllFound → Result Bool CheckRefused
bools_of (Ok ks) = Ok (all_bool ks)
bools_of (Err e) = Err e

abbrev pub with_bool : Bool → Result Bool CheckRefused → Result Bool CheckRefused
with_bool b (Ok c) = Ok (b && c)
with_bool b (Err e) = Err e

-- these kinds before others
abbrev pub kinds_before : List (Option Kind) → AllFound → AllFound
kinds_before ks (Ok more) = Ok (ks ++ more)
kinds_before ks (Err e) = Err e

-- no rule is broken, or this one is, or else memory ran out
abbrev pub Judges : Result ⊤ CheckRefused → Option CheckRefused → Type 0
Judges (Ok u) broken = broken ≡ None
Judges (Err Memory) broken = Unit {0}
Judges (Err rule) broken = broken ≡ Some rule

-- the used fields where no rule is broken
abbrev pub fields_or : Option CheckRefused → List (List ℕ × Kind) → Result (List (List ℕ × Kind)) CheckRefused
fields_or None fields = Ok fields
fields_or (Some rule) fields = Err rule
