-- Which tokens a text spells.
use Rattle.std.specs.Prelude.{◌≡◌, ℕ, pos, ◌+◌, ◌<◌, ◌^◌, List, [], ◌∷◌, ◌++◌, length, drop, take, true, false, ◌⊎◌, Some, if◌then◌else◌}
use Rattle.std.specs.List.{take_while, prefix_len}
use Rattle.std.specs.Str.{chars}
use Rattle.eql_lexer.specs.declared.token.Tok.{Tok}
use Rattle.eql_lexer.specs.declared.token.Tok.TheVariants as tok
use Rattle.eql_lexer.specs.declared.token.Token.{Token}
use Rattle.eql_lexer.specs.Bytes.{is_digit, is_letter, is_word, begins, begins_fraction, number}
use Rattle.eql_lexer.specs.Blanks.{gap}
use Rattle.eql_lexer.specs.Signs.{spelling, grows}
use Rattle.eql_lexer.specs.Strings.{IsContent, triple, before_triple, quoted_name, is_name}

-- how many bytes go on with a word: letters, digits and `_`, and at most one `~`
abbrev pub word_more : List ℕ → ℕ
word_more bs = prefix_len is_word bs + (if begins 126 (drop (prefix_len is_word bs) bs) then 1 else 0)

-- a text behind `"""`, the string that ends at the next `"""`, and what follows
abbrev pub IsRawString : List ℕ → List ℕ → List ℕ → Type 0
IsRawString bs s rest =
    (s ≡ chars (take (before_triple bs) bs)) × (triple (drop (before_triple bs) bs) ≡ true) × (rest ≡ drop 3 (drop (before_triple bs) bs))

-- a text behind a quote, the string that ends at the closing quote of its line, and what follows
abbrev pub IsLineString : List ℕ → List ℕ → List ℕ → Type 0
IsLineString bs s rest = (bytes : List ℕ) × IsContent bs bytes rest × (s ≡ chars bytes)

-- a text behind a backtick, the name that ends at the closing one on its line, and what follows
abbrev pub IsQuotedName : List ℕ → List ℕ → List ℕ → Type 0
IsQuotedName bs s rest = (bytes : List ℕ) × (quoted_name bs ≡ Some (bytes, rest)) × (is_name (quoted_name bs) ≡ true) × (s ≡ chars bytes)

-- The text begins with the token and leaves the rest: a case for each kind of token, and the longest of its kind.
abbrev pub IsLexeme : List ℕ → Tok → List ℕ → Type 0
IsLexeme [] t rest = ⊥
IsLexeme (b ∷ bs) (tok.Word w) rest = (is_letter b ≡ true) × (w ≡ b ∷ take (word_more bs) bs) × (rest ≡ drop (word_more bs) bs)
IsLexeme (b ∷ bs) (tok.Back w) rest = (b ≡ 96) × IsQuotedName bs w rest
IsLexeme (b ∷ bs) (tok.Str s) rest =
    (b ≡ 34) × (((triple (b ∷ bs) ≡ true) × IsRawString (drop 2 bs) s rest) ⊎ ((triple (b ∷ bs) ≡ false) × IsLineString bs s rest))
IsLexeme (b ∷ bs) (tok.Num n) rest =
    (is_digit b ≡ true) × (n ≡ pos (number 0 (b ∷ take_while is_digit bs))) × (number 0 (b ∷ take_while is_digit bs) < 2 ^ 63)
    × (rest ≡ drop (prefix_len is_digit bs) bs) × (begins_fraction rest ≡ false)
IsLexeme (b ∷ bs) (tok.Sign x) rest = (b ∷ bs ≡ spelling x ++ rest) × (grows x rest ≡ false)

-- Of a text of n bytes: the tokens from here up to a place, each behind white space and comments, with where it starts
-- and where it ends.
abbrev pub AreTokensTo : ℕ → List ℕ → List Token → List ℕ → Type 0
AreTokensTo n text [] stop = stop ≡ text
AreTokensTo n text (t ∷ ts) stop =
    (rest : List ℕ) × IsLexeme (gap text) t.tok rest × (t.start + length (gap text) ≡ n) × (t.end + length rest ≡ n) × AreTokensTo n rest ts stop

-- the text spells these tokens, and nothing but white space and comments follows them
abbrev pub Spells : List ℕ → List Token → Type 0
Spells text ts = (stop : List ℕ) × AreTokensTo (length text) text ts stop × (gap stop ≡ [])
