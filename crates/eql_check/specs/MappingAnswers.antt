-- What the reading of a mapping returns.
use Rattle.std.specs.Prelude.{◌≡◌}
use Rattle.std.specs.declared.result.Result.TheVariants.{Err}
use Rattle.eql_check.specs.declared.mapping.MapRefused.TheVariants.{Memory}
use Rattle.eql_check.specs.Mappings.{MapRead}

-- this mapping or this refusal, or else want of memory
abbrev pub Reads : MapRead → MapRead → Type 0
Reads (Err Memory) wanted = Unit {0}
Reads got wanted = got ≡ wanted
