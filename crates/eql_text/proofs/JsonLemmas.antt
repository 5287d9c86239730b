-- What `json_of` is, by whether the bytes are UTF-8.
use Rattle.std.proofs.Common.{◌≡◌, ℕ, List, Bool, true, false, None, refl, if◌then◌else◌}
use Rattle.std.specs.Str.{is_utf8, IsUtf8}
use Rattle.std.proofs.lemmas.Str.{IsUtf8-from_is_utf8, is_utf8-from_IsUtf8}
use Rattle.serde_json.specs.Read.{read}
use Rattle.eql_text.specs.Json.{json_of}

none_by_test : (bytes : List ℕ) (test : Bool) → is_utf8 bytes ≡ test → (IsUtf8 bytes → read bytes ≡ None) → (if test then read bytes else None) ≡ None
none_by_test bytes true is none = none (IsUtf8-from_is_utf8 bytes is)
none_by_test bytes false is none = refl

pub json_of-none : (bytes : List ℕ) → (IsUtf8 bytes → read bytes ≡ None) → json_of bytes ≡ None
json_of-none bytes none = none_by_test bytes (is_utf8 bytes) refl none

pub json_of-utf8 : (bytes : List ℕ) → IsUtf8 bytes → json_of bytes ≡ read bytes
json_of-utf8 bytes utf8 = rw (is_utf8-from_IsUtf8 bytes utf8) refl
