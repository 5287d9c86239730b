-- The values of the fields so far.
use Rattle.std.specs.Prelude.{List, ◌++◌, Result, Ok, Err}
use Rattle.eql_values.specs.declared.cut.Reason.{Reason}
use Rattle.eql_values.specs.declared.value.Value.{Value}

-- these values before those of the fields that are left
abbrev pub behind_values : List Value → Result (List Value) Reason → Result (List Value) Reason
behind_values values (Err r) = Err r
behind_values values (Ok rest) = Ok (values ++ rest)
