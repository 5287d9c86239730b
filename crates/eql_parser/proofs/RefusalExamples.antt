-- Worked examples of causes: where texts can't go on, computed.
use Rattle.std.proofs.Common.{ℕ, List, [], ◌∷◌, refl, codes}
use Rattle.std.specs.Prelude.{pos}
use Rattle.eql_lexer.specs.declared.token.Sign.TheVariants as sign
use Rattle.eql_lexer.specs.declared.token.Tok.{Tok}
use Rattle.eql_lexer.specs.declared.token.Tok.TheVariants as tok
use Rattle.eql_lexer.specs.declared.token.Token.{Token}
use Rattle.eql_parser.specs.Refusing.{IsPlainSyntax, IsLeftOutAt}
use Rattle.eql_parser.specs.Reading.{Syntax, LeftOut, separated, dotted, chain_from, unary, neg, expr}
use Rattle.eql_parser.specs.QueryReading.{pipes}
use Rattle.eql_parser.proofs.Refusals.{cause}

abbrev placed : Tok → (start end : ℕ) → Token
placed what start end = record { tok = what; start = start; end = end }

-- any where a
abbrev when_a : List Token → List Token
when_a ts = placed (tok.Word (codes "any")) 0 3 ∷ placed (tok.Word (codes "where")) 4 9 ∷ placed (tok.Word (codes "a")) 10 11 ∷ ts

-- any where a == b == c
abbrev chained : List Token
chained = when_a (placed (tok.Sign sign.Equal) 12 14 ∷ placed (tok.Word (codes "b")) 15 16 ∷ placed (tok.Sign sign.Equal) 17 19 ∷ placed (tok.Word (codes "c")) 20 21 ∷ [])

-- a query begins with the tokens before the second `==`, and none with those through it
second_comparison : IsPlainSyntax chained 17
unfolding lib.Utf8.encode separated dotted chain_from unary neg expr pipes
second_comparison = cause chained (Syntax 2) refl

-- any where a ==
abbrev cut_short : List Token
cut_short = when_a (placed (tok.Sign sign.Equal) 12 14 ∷ [])

-- some query begins so, and this is none
early_end : IsPlainSyntax cut_short 14
unfolding lib.Utf8.encode separated dotted chain_from unary neg expr pipes
early_end = cause cut_short (Syntax 0) refl

-- any where a regex "b"
abbrev matched : List Token
matched = when_a (placed (tok.Word (codes "regex")) 12 17 ∷ placed (tok.Str (codes "b")) 18 21 ∷ [])

-- a pattern could stand there
regex_left_out : IsLeftOutAt matched (codes "regex") 12
unfolding lib.Utf8.encode separated dotted chain_from unary neg expr pipes
regex_left_out = cause matched (LeftOut (codes "regex") 2) refl

-- any where number("1", 2)
abbrev based : List Token
based =
    placed (tok.Word (codes "any")) 0 3 ∷ placed (tok.Word (codes "where")) 4 9 ∷ placed (tok.Word (codes "number")) 10 16 ∷ placed (tok.Sign sign.Open) 16 17
    ∷ placed (tok.Str (codes "1")) 17 20 ∷ placed (tok.Sign sign.Comma) 20 21 ∷ placed (tok.Num (pos 2)) 22 23 ∷ placed (tok.Sign sign.Close) 23 24 ∷ []

-- its folding form could stand there
base_left_out : IsLeftOutAt based (codes "number") 10
unfolding lib.Utf8.encode separated dotted chain_from unary neg expr pipes
base_left_out = cause based (LeftOut (codes "number") 6) refl
