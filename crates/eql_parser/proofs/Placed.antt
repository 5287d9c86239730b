-- Bytes that are tokens one after another spell tokens with their places.
use Rattle.std.proofs.Common.{◌≡◌, ℕ, ◌-◌, ◌≤◌, List, [], ◌∷◌, map, length, refl, ap, arith}
use Rattle.eql_lexer.specs.declared.token.Tok.{Tok}
use Rattle.eql_lexer.specs.declared.token.Token.{Token}
use Rattle.eql_lexer.specs.Blanks.{gap}
use Rattle.eql_lexer.specs.Spelling.{AreTokensTo}
use Rattle.eql_lexer.proofs.Tails.{tail_within, gap_tail}
use Rattle.eql_lexer.proofs.Places.{lexeme_within}
use Rattle.eql_parser.specs.Kinds.{kind, kinds}
use Rattle.eql_parser.proofs.Spelt.{Lexes}

pub placed : (n : ℕ) (text : List ℕ) (ts : List Tok) → length text ≤ n → Lexes text ts → (us : List Token) × (stop : List ℕ) × AreTokensTo n text us stop × (gap stop ≡ []) × (map kind ts ≡ kinds us)
placed n text [] h k = ([], text, refl, k, refl)
placed n text (t ∷ ts) h k =
    let gaps = tail_within text (gap text) (gap_tail text) in
    let less = lexeme_within (gap text) t k.0 k.1 in
    let more = placed n k.0 ts (omega (arith, gaps, less, h)) k.2 in
    (record { tok = t; start = n - length (gap text); end = n - length k.0 } ∷ more.0, more.1, (k.0, k.1, omega (arith, gaps, h), omega (arith, gaps, less, h), more.2), more.3, ap (λ ks. kind t ∷ ks) more.4)
