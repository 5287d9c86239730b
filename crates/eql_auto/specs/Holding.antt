-- A pending sequence with its key.
use Rattle.std.specs.Prelude.{ℕ, List}
use Rattle.eql_values.specs.declared.found.Holder.{Holder}
use Rattle.eql_values.specs.declared.order.OrderKey.{OrderKey}
use Rattle.eql_values.specs.declared.value.Value.{Value}

-- the chain of a stage, with a key
abbrev pub holder_of : List Value → ℕ × List OrderKey → Holder
holder_of key s = record { key = key; stage = s.0; chain = s.1 }
