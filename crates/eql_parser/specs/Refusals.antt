-- The refusal that a stop of the parser becomes.
use Rattle.std.specs.Prelude.{List}
use Rattle.eql_lexer.specs.declared.token.Token.{Token}
use Rattle.eql_parser.specs.declared.refusal.ParseRefused.{ParseRefused}
use Rattle.eql_parser.specs.declared.refusal.ParseRefused.TheVariants as refused
use Rattle.eql_parser.specs.declared.parser.stop.Stop.{Stop}
use Rattle.eql_parser.specs.declared.parser.stop.Stop.TheVariants as stop
use Rattle.eql_parser.specs.Places.{place}

abbrev pub refusal_of : List Token → Stop → ParseRefused
refusal_of tokens stop.Memory = refused.Memory
refusal_of tokens (stop.Syntax left) = refused.Syntax (place tokens left)
refusal_of tokens (stop.LeftOut word left) = refused.LeftOut word (place tokens left)
refusal_of tokens (stop.TooDeep left) = refused.TooDeep (place tokens left)
refusal_of tokens (stop.TooOpen left) = refused.TooDeep (place tokens left)
