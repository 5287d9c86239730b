-- What the slots of an object have is what is said of the object.
use Rattle.std.proofs.Common.{◌≡◌, ℕ, Bool, true, false, List, [], ◌∷◌, map, Option, Some, None, refl, ap, ap₂, ◌∙◌, length, suc, ◌≤◌, String, string_bytes, encode_utf8_all, if◌then◌else◌, arith}
use Rattle.std.specs.declared.alloc.Global.{Global}
use Rattle.std.proofs.lemmas.List.{length-map}
use Rattle.std.specs.Str.{chars}
use Rattle.serde_json.specs.Data.{Data}
use Rattle.eql_values.specs.declared.value.Kind.{Kind}
use Rattle.eql_lines.specs.Objects.{is_object}
use Rattle.eql_lines.specs.Reach.{Scalar, text, whole, fractional, truth, reach, over}
use Rattle.eql_lines.specs.Found.{Found, found_all, nothing, found_of, found_at, only_found, only_by, is_no_scalar}
use Rattle.eql_lines.specs.Lines.{line_of, AreFilled}
use Rattle.eql_lines.specs.Paths.{path_at}
use Rattle.eql_lines.specs.Times.{time_of}
use Rattle.eql_lines.specs.Values.{only, only_tie, only_value, ValueOf, value_and, values_of, texts_in}
use Rattle.eql_lines.specs.Reading.{event_from, object_read, json_read, tie_of, time_path, category_path}
use Rattle.eql_lines.specs.Gathered.{only_time, time_found, tie_found, values_found, event_found, event_in_slots, line_in_slots}
use Rattle.eql_lines.specs.WantedPaths.{tie_path, wanted_paths}
use Rattle.eql_lines.specs.declared.line.Line.{Line}
use Rattle.eql_lines.specs.declared.line.Line.TheVariants.{NotJson, NotObject, Object}
use Rattle.eql_lines.specs.declared.slots.Slot.{Slot}
use Rattle.eql_lines.specs.declared.wanted.LineRead.TheVariants.{Bad}
use Rattle.eql_values.specs.declared.cut.Reason.TheVariants as bad
use Rattle.eql_lines.specs.declared.wanted.Wanted.{Wanted}
use Rattle.eql_lines.proofs.Alone.{shape_is, texts_are, all_texts}

only_is : (ss : List Scalar) → only_found (found_all nothing ss) ≡ only ss
only_is [] = refl
only_is (text t ∷ []) = refl
only_is (whole z ∷ []) = refl
only_is (fractional ∷ []) = refl
only_is (truth b ∷ []) = refl
only_is (s ∷ t ∷ ss) = ap (λ x. only_by x (found_all nothing (s ∷ t ∷ ss)).texts) (shape_is (s ∷ t ∷ ss))

time_is : (ss : List Scalar) → time_found (found_all nothing ss) ≡ time_of ss
time_is [] = refl
time_is (text t ∷ []) = refl
time_is (whole z ∷ []) = refl
time_is (fractional ∷ []) = refl
time_is (truth b ∷ []) = refl
time_is (s ∷ t ∷ ss) = ap (λ x. only_time (is_no_scalar x) (only_by x (found_all nothing (s ∷ t ∷ ss)).texts)) (shape_is (s ∷ t ∷ ss))

texts_in_is : (ss : List Scalar) → map chars (all_texts ss) ≡ texts_in ss
texts_in_is [] = refl
texts_in_is (text t ∷ ss) = ap (λ ts. chars t ∷ ts) (texts_in_is ss)
texts_in_is (whole z ∷ ss) = texts_in_is ss
texts_in_is (fractional ∷ ss) = texts_in_is ss
texts_in_is (truth b ∷ ss) = texts_in_is ss

categories_are : (ss : List Scalar) → map chars (found_all nothing ss).texts ≡ texts_in ss
categories_are ss = ap (λ ts. map chars ts) (texts_are ss) ∙ texts_in_is ss

-- what the slot of a path has once an object is read
abbrev pub reached : Data → List ℕ → Found
reached line path = found_all nothing (reach line path)

values_are : (line : Data) (fields : List (List ℕ × Kind)) → values_found fields (map (reached line) (map (λ f. encode_utf8_all f.0) fields)) ≡ values_of fields line
values_are line [] = refl
values_are line ((name, k) ∷ fields) =
    ap (λ s. value_and (only_value k s) (values_found fields (map (reached line) (map (λ f. encode_utf8_all f.0) fields)))) (only_is (reach line (encode_utf8_all name)))
    ∙ ap (λ vs. value_and (ValueOf k (reach line (encode_utf8_all name))) vs) (values_are line fields)

tie_is : (line : Data) (tie : Option (List ℕ)) → tie_found tie (reached line (tie_path tie)) ≡ tie_of tie line
tie_is line None = refl
tie_is line (Some name) = ap only_tie (only_is (reach line (encode_utf8_all name)))

pub event_is : (wanted : Wanted) (line : Data) → event_found wanted (map (reached line) (wanted_paths wanted)) ≡ object_read wanted line
event_is wanted line =
    let times = time_is (reach line time_path) in
    let ties = tie_is line wanted.tie in
    let values = values_are line wanted.fields in
    let texts = categories_are (reach line category_path) in
    ap (λ t. event_from t (tie_found wanted.tie (reached line (tie_path wanted.tie))) (values_found wanted.fields (map (reached line) (map (λ f. encode_utf8_all f.0) wanted.fields))) (map chars (reached line category_path).texts)) times
    ∙ ap (λ t. event_from (time_of (reach line time_path)) t (values_found wanted.fields (map (reached line) (map (λ f. encode_utf8_all f.0) wanted.fields))) (map chars (reached line category_path).texts)) ties
    ∙ ap (λ vs. event_from (time_of (reach line time_path)) (tie_of wanted.tie line) vs (map chars (reached line category_path).texts)) values
    ∙ ap (λ ts. event_from (time_of (reach line time_path)) (tie_of wanted.tie line) (values_of wanted.fields line) ts) texts

-- the slots as a list
pub filled_list : (line : Data) (paths : List (String Global)) (slots : List Slot) → length slots ≡ length paths
    → ((i : ℕ) → found_at slots i ≡ found_all nothing (over (reach line) (path_at paths i)))
    → map found_of slots ≡ map (reached line) (map string_bytes paths)
filled_list line [] [] same filled = refl
filled_list line [] (s ∷ slots) same filled = absurd (omega (arith, same))
filled_list line (p ∷ paths) [] same filled = absurd (omega (arith, same))
filled_list line (p ∷ paths) (s ∷ slots) same filled =
    ap₂ (λ f fs. f ∷ fs) (filled 0) (filled_list line paths slots (omega (arith, same)) (λ i. filled (suc i)))

-- where the fields have slots, the slots are those of the event
by_slots : (wanted : Wanted) (slots : List Slot) → 3 ≤ length slots → event_in_slots wanted slots ≡ event_found wanted (map found_of slots)
by_slots wanted [] many = absurd (omega (arith, many))
by_slots wanted (a ∷ []) many = absurd (omega (arith, many))
by_slots wanted (a ∷ b ∷ []) many = absurd (omega (arith, many))
by_slots wanted (a ∷ b ∷ c ∷ rest) many = refl

by_object : (wanted : Wanted) (line : Data) (slots : List Slot) (b : Bool) → Object ≡ (if b then Object else NotObject)
    → 3 ≤ length slots → map found_of slots ≡ map (reached line) (wanted_paths wanted)
    → event_in_slots wanted slots ≡ (if b then object_read wanted line else Bad bad.NotObject)
by_object wanted line slots true is many filled = by_slots wanted slots many ∙ ap (event_found wanted) filled ∙ event_is wanted line
by_object wanted line slots false is many filled = cc

-- of a line that is an object
object_line_is : (wanted : Wanted) (json : Option Data) (paths : List (String Global)) (slots : List Slot) → Object ≡ line_of json
    → map string_bytes paths ≡ wanted_paths wanted → length slots ≡ length paths → AreFilled paths slots json → 3 ≤ length slots
    → event_in_slots wanted slots ≡ json_read wanted json
object_line_is wanted None paths slots is named same filled many = cc
object_line_is wanted (Some line) paths slots is named same filled many =
    by_object wanted line slots (is_object line) is many (filled_list line paths slots same (filled line refl) ∙ ap (map (reached line)) named)

no_object : (b : Bool) (wanted : Wanted) (line : Data) → NotObject ≡ (if b then Object else NotObject)
    → Bad bad.NotObject ≡ (if b then object_read wanted line else Bad bad.NotObject)
no_object false wanted line is = refl
no_object true wanted line is = cc

-- of a line that is JSON and no object
no_object_is : (wanted : Wanted) (json : Option Data) → NotObject ≡ line_of json → Bad bad.NotObject ≡ json_read wanted json
no_object_is wanted None is = cc
no_object_is wanted (Some line) is = no_object (is_object line) wanted line is

by_json : (b : Bool) → NotJson ≡ (if b then Object else NotObject) → ⊥
by_json true is = cc
by_json false is = cc

-- of a line that is no JSON
no_json_is : (wanted : Wanted) (json : Option Data) → NotJson ≡ line_of json → Bad bad.NotJson ≡ json_read wanted json
no_json_is wanted None is = refl
no_json_is wanted (Some line) is = absurd (by_json (is_object line) is)

three_at_least : (wanted : Wanted) (paths : List (String Global)) (slots : List Slot) → map string_bytes paths ≡ wanted_paths wanted → length slots ≡ length paths → 3 ≤ length slots
three_at_least wanted paths slots named same =
    let mapped = length-map paths string_bytes in
    let whole = ap length named in
    omega (arith, mapped, whole, same)

-- what a line is, from what its walk tells and finds
pub line_is : (line : Line) (wanted : Wanted) (json : Option Data) (paths : List (String Global)) (slots : List Slot) → line ≡ line_of json
    → map string_bytes paths ≡ wanted_paths wanted → length slots ≡ length paths → AreFilled paths slots json
    → line_in_slots line wanted slots ≡ json_read wanted json
line_is NotJson wanted json paths slots is named same filled = no_json_is wanted json is
line_is NotObject wanted json paths slots is named same filled = no_object_is wanted json is
line_is Object wanted json paths slots is named same filled = object_line_is wanted json paths slots is named same filled (three_at_least wanted paths slots named same)
