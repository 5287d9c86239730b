-- Operators whose addresses and blocks were read beforehand.
use Rattle.std.specs.Prelude.{ℕ, List, Bool, true, false, Option, Some, None, ◌==◌, not}
use Rattle.std.specs.List.{list_any, filter_map}
use Rattle.eql_values.specs.declared.value.Value.{Value}
use Rattle.eql_values.specs.declared.value.Value.TheVariants as value
use Rattle.eql_text.specs.Addresses.{in_block}
use Rattle.eql_text.specs.declared.addresses.Block.{Block}
use Rattle.eql_query.specs.declared.expr.CmpOp.{CmpOp}
use Rattle.eql_query.specs.declared.expr.CmpOp.TheVariants.{Eq, Ne}
use Rattle.eql_check.specs.Functions.{address_of}
use Rattle.eql_check.specs.Comparisons.{compares, is_among}

-- the addresses that literals are or write
abbrev pub addresses_in : List Value → List ℕ
addresses_in list = filter_map address_of list

abbrev pub in_one : Option ℕ → List Block → Value
in_one None blocks = value.Null
in_one (Some ip) blocks = value.Bool (list_any (in_block ip) blocks)

-- whether the address that a value is or writes lies in one of the blocks
abbrev pub is_in_blocks : Value → List Block → Value
is_in_blocks v blocks = in_one (address_of v) blocks

-- `==`, and with the flag its `!=`
abbrev pub equality : (negated : Bool) → CmpOp
equality false = Eq
equality true = Ne

-- turned round where the flag says so
abbrev pub turned_if : (negated : Bool) → Bool → Bool
turned_if false b = b
turned_if true b = not b

-- a value beside a text that writes this address
abbrev pub equals_address : (negated : Bool) → Value → Value → ℕ → Value
equals_address negated (value.Ip other) text ip = value.Bool (turned_if negated (other == ip))
equals_address negated v text ip = compares false (equality negated) v text

-- a list test, where an address is looked for among the addresses that the literals are or write
abbrev pub is_among_read : (fold negated : Bool) → Value → List Value → List ℕ → Value
is_among_read fold negated (value.Ip ip) list addresses = value.Bool (turned_if negated (list_any (λ other. ip == other) addresses))
is_among_read fold negated v list addresses = is_among fold negated v list
