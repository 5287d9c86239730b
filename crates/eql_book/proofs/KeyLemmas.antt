-- Keys have no number with a fraction, so their text is stated.
use Rattle.std.proofs.Common.{◌≡◌, ℕ, List, [], ◌∷◌, map, false, pos, negsuc, refl, ap, ◌∙◌, codes, Vec, Global}
use Rattle.std.specs.Str.{chars}
use Rattle.serde_json.specs.Data.{array}
use Rattle.serde_json.specs.View.{view, items_of}
use Rattle.serde_json.specs.Written.{has_float, items_have_float, compact_text}
use Rattle.serde_json.specs.declared.value.Value.{Value as Json, Array}
use Rattle.serde_json.proofs.Views.{view-Array}
use Rattle.eql_values.specs.declared.value.Value.{Value}
use Rattle.eql_values.specs.declared.value.Value.TheVariants as value
use Rattle.eql_book.specs.Listing.{json_value, key_json, key_text}

no_float : (k : Value) → has_float (json_value k) ≡ false
no_float value.Null = refl
no_float (value.Bool b) = refl
no_float (value.Long (pos n)) = refl
no_float (value.Long (negsuc n)) = refl
no_float (value.Text t) = refl
no_float (value.Ip ip) = refl

no_floats : (key : List Value) → items_have_float (items_of (map json_value key)) ≡ false
no_floats [] = refl
no_floats (k ∷ key) = rw (no_float k) (no_floats key)

pub printed : (v : Vec Json Global) (key : List Value) (b : List ℕ) → map view v.items ≡ map json_value key
    → (has_float (view (Array v)) ≡ false → b ≡ compact_text (view (Array v))) → b ≡ key_json key
printed v key b same h =
    let seen : view (Array v) ≡ array (items_of (map json_value key)) = view-Array v ∙ ap (λ ds. array (items_of ds)) same in
    h (ap has_float seen ∙ no_floats key) ∙ ap compact_text seen

-- no values
pub none_text : key_text [] ≡ codes "[]"
unfolding chars lib.Utf8.encode
none_text = refl
