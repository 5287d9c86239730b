use Rattle.eql_lexer.proofs.Numbers.{hex_digits}
use Rattle.eql_lexer.proofs.escape.leading_unicode.Goals as goal

pub hex_number_of-code-requires-clause-digits : goal.hex_number_of-code-requires-clause-digits
hex_number_of-code-requires-clause-digits c = hex_digits c.in_ok-b.more.now c.hex_len-len.result c.hex_len-len.ensures.value
