-- The JSON that bytes are.
use Rattle.std.specs.Prelude.{◌≡◌, ℕ, List, [], ◌∷◌, Option, Some, None, if◌then◌else◌, true, codes, refl}
use Rattle.std.specs.Str.{is_utf8, chars}
use Rattle.serde_json.specs.Data.{Data, boolean, string, object, no_members, member}
use Rattle.serde_json.specs.Read.{read}
use Rattle.serde_json.proofs.OnLiterals.{serde_json_on_literals}

-- what `serde_json` reads in the bytes, or none
abbrev pub json_of : List ℕ → Option Data
json_of bytes = if is_utf8 bytes then read bytes else None

-- of a name that is written twice the last value stays
an_object : json_of (codes " {\"a\" : 1, \"a\": true} ") ≡ Some (object (member (codes "a") (boolean true) no_members))
unfolding serde_json_on_literals is_utf8 chars
an_object = refl

-- a text in quotes may have escapes
a_text : json_of (codes "\"\\u0061\"") ≡ Some (string (codes "a"))
unfolding serde_json_on_literals is_utf8 chars
a_text = refl

-- nothing, a value that is cut short, two values, and bytes that are no UTF-8
nothing : json_of [] ≡ None
unfolding serde_json_on_literals is_utf8 chars
nothing = refl

cut_short : json_of (codes "{\"a\":1") ≡ None
unfolding serde_json_on_literals is_utf8 chars
cut_short = refl

two_values : json_of (codes "1 2") ≡ None
unfolding serde_json_on_literals is_utf8 chars
two_values = refl

not_utf8 : json_of (34 ∷ 255 ∷ 34 ∷ []) ≡ None
unfolding serde_json_on_literals is_utf8 chars
not_utf8 = refl
