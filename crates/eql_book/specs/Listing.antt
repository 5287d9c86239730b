-- The bytes of a listing: a line for each match.
use Rattle.std.specs.Prelude.{◌≡◌, ℕ, pos, ◌/◌, ◌%◌, Bool, true, false, if◌then◌else◌, List, [], ◌∷◌, ◌++◌, map, None, encode_utf8_all, codes, refl}
use Rattle.std.specs.List.{flat_map}
use Rattle.std.specs.Fmt.{decimal, digits}
use Rattle.std.specs.Str.{chars}
use Rattle.serde_json.specs.Data.{Data, null, boolean, number, string, array}
use Rattle.serde_json.specs.Find.{of_integer}
use Rattle.serde_json.specs.View.{items_of}
use Rattle.serde_json.specs.Written.{compact_text}
use Rattle.serde_json.proofs.OnLiterals.{serde_json_on_literals}
use Rattle.eql_values.specs.Shown.{hex_digit, is_hidden}
use Rattle.eql_values.specs.declared.order.OrderKey.{OrderKey}
use Rattle.eql_values.specs.declared.value.Value.{Value}
use Rattle.eql_values.specs.declared.value.Value.TheVariants as value
use Rattle.eql_values.specs.declared.found.Numbered.{Numbered}

-- an address as four numbers with dots between
abbrev pub ip_text : ℕ → List ℕ
ip_text ip =
    decimal (ip / 16777216) ++ codes "." ++ decimal (ip / 65536 % 256) ++ codes "."
    ++ decimal (ip / 256 % 256) ++ codes "." ++ decimal (ip % 256)

-- a value as JSON; an address is a text
abbrev pub json_value : Value → Data
json_value value.Null = null
json_value (value.Bool b) = boolean b
json_value (value.Long n) = number (of_integer n)
json_value (value.Text characters) = string (encode_utf8_all characters)
json_value (value.Ip ip) = string (ip_text ip)

-- the values of a key as a compact JSON array
abbrev pub key_json : List Value → List ℕ
key_json key = compact_text (array (items_of (map json_value key)))

-- a character of a string by its number, as JSON has it
abbrev pub json_escape : ℕ → List ℕ
json_escape c = codes "\\u" ++ hex_digit (c / 4096) ∷ hex_digit (c / 256 % 16) ∷ hex_digit (c / 16 % 16) ∷ hex_digit (c % 16) ∷ []

-- a character of that array as it is listed: by its number where it steers a terminal or turns the line. Such a one stands in a string.
abbrev pub json_char : ℕ → List ℕ
json_char c = if is_hidden c then json_escape c else c ∷ []

abbrev pub json_chars : List ℕ → List ℕ
json_chars = flat_map json_char

-- a key as it is listed: its array, without a character that steers a terminal
abbrev pub key_text : List Value → List ℕ
key_text key = encode_utf8_all (json_chars (chars (key_json key)))

-- an event of a match: a space, its shard, a colon and its line, and with the flag `@` and its
-- place
abbrev pub event_text : Bool → OrderKey → List ℕ
event_text places event =
    codes " " ++ decimal event.shard ++ codes ":" ++ decimal event.line
    ++ (if places then codes "@" ++ decimal event.at else [])

-- a match: its number, a space, its key and its events
abbrev pub match_text : Bool → Numbered → List ℕ
match_text places n =
    decimal n.number ++ codes " " ++ key_text n.found.key
    ++ flat_map (event_text places) n.found.chain

-- the line of a match, with its line feed
abbrev pub match_line : Bool → Numbered → List ℕ
match_line places n = match_text places n ++ codes "\n"

-- the listing of numbered matches
abbrev pub listing : Bool → List Numbered → List ℕ
listing places list = flat_map (match_line places) list

abbrev at_line : ℕ → OrderKey
at_line line = record { ts = pos 0; tie = None; shard = 0; line = line; at = 0 }

-- the first match, without key values, and the twelfth, with the key of the number 7 and of a field
-- that is missing
without_key :
    match_line false (record {
      number = 1;
      found = record { key = []; chain = at_line 2 ∷ at_line 4 ∷ at_line 19 ∷ [] };
    })
    ≡ codes "1 [] 0:2 0:4 0:19\n"
unfolding digits chars lib.Utf8.encode
without_key = refl

with_key :
    match_text false (record {
      number = 12;
      found = record { key = value.Long (pos 7) ∷ value.Null ∷ []; chain = at_line 2 ∷ at_line 4 ∷ [] };
    })
    ≡ codes "12 [7,null] 0:2 0:4"
unfolding digits chars lib.Utf8.encode
with_key = refl

-- a mark that turns the line, a control character beyond ASCII, a separator of lines; a quote and a letter beyond ASCII stay as JSON has them
hidden :
    key_text (value.Text (97 ∷ 8238 ∷ 98 ∷ []) ∷ value.Text (133 ∷ 127 ∷ []) ∷ value.Text (8232 ∷ []) ∷ value.Text (34 ∷ 233 ∷ []) ∷ [])
    ≡ codes "[\"a\\u202eb\",\"\\u0085\\u007f\",\"\\u2028\",\"\\\"" ++ 195 ∷ 169 ∷ codes "\"]"
unfolding serde_json_on_literals chars lib.Utf8.encode
hidden = refl

-- with places an event tells the bytes of the shard before its line
with_places :
    event_text true (record { ts = pos 0; tie = None; shard = 3; line = 5; at = 120 })
    ≡ codes " 3:5@120"
unfolding digits lib.Utf8.encode
with_places = refl
