-- Worked examples, computed.
use Rattle.std.specs.Prelude.{◌≡◌, false, true, Some, None, refl, codes}
use Rattle.eql_lexer.specs.declared.token.Sign.TheVariants.{AtLeast, Greater}
use Rattle.eql_lexer.specs.Blanks.{gap}
use Rattle.eql_lexer.specs.Signs.{sign_at}
use Rattle.eql_lexer.specs.Escapes.{escape}
use Rattle.eql_lexer.specs.Strings.{before_triple, is_closed, quoted_name, is_name}

-- a comment is passed over to its first end
comment : gap (codes " /***/a") ≡ codes "a"
unfolding lib.Utf8.encode
comment = refl

-- a comment that isn't closed is left standing
open_comment : gap (codes " /*/") ≡ codes "/*/"
unfolding lib.Utf8.encode
open_comment = refl

-- the longest sign
at_least : sign_at (codes ">=1") ≡ Some AtLeast
unfolding lib.Utf8.encode
at_least = refl

greater : sign_at (codes "> =") ≡ Some Greater
unfolding lib.Utf8.encode
greater = refl

-- a character by its number, and a number that names none
by_number : escape (codes "u{e9}x") ≡ Some (233, codes "x")
unfolding lib.Utf8.encode
by_number = refl

no_character : escape (codes "u{d800}x") ≡ None
unfolding lib.Utf8.encode
no_character = refl

-- a doubled backtick is one
doubled : quoted_name (codes "a``b` c") ≡ Some (codes "a`b", codes " c")
unfolding lib.Utf8.encode
doubled = refl

-- an empty name is none
empty_name : is_name (quoted_name (codes "`")) ≡ false
unfolding lib.Utf8.encode
empty_name = refl

-- a raw string ends at the first three quotes
raw : before_triple (codes "a\"\"\"\"") ≡ 1
unfolding lib.Utf8.encode
raw = refl

-- a quote behind a backslash closes nothing
not_closed : is_closed (codes "a\\\"") ≡ false
unfolding lib.Utf8.encode
not_closed = refl

is_closed_behind_two : is_closed (codes "a\\\\\"") ≡ true
unfolding lib.Utf8.encode
is_closed_behind_two = refl
