use Rattle.std.proofs.Common.{◌≡◌, ◌<◌, ◌^◌, drop}
use Rattle.eql_lexer.specs.Bytes.{hex_number}
use Rattle.eql_lexer.proofs.number.hex_number_of.Given as goal

abbrev pub invariant-loop-b : goal.invariant-loop-b
invariant-loop-b l = (hex_number l.n (drop l.b-index l.digits) ≡ hex_number 0 l.digits) × (l.n < 16 ^ l.b-index)
