-- The list of words, option by option.
use Rattle.std.proofs.Common.{◌≡◌, ℕ, ◌<◌, ◌≤◌, true, false, cond, List, [], ◌∷◌, ◌++◌, length, Option, Some, None, String, string_bytes, refl, sym, ap, ◌∙◌, append_assoc, arith}
use Rattle.std.specs.Prelude.{not}
use Rattle.std.specs.declared.alloc.Global.{Global}
use Rattle.std.specs.List.{list_all}
use Rattle.std.proofs.lemmas.Bool.{cond-true, cond-false}
use Rattle.std.proofs.lemmas.List.{append-nil}
use Rattle.std.proofs.lemmas.List.Folds.{list_all-map}
use Rattle.eql_words.specs.declared.options.OptionName.{OptionName}
use Rattle.eql_words.specs.declared.options.Form.{Form}
use Rattle.eql_words.specs.declared.options.Form.TheVariants as form
use Rattle.eql_words.specs.declared.line.Front.{Front}
use Rattle.eql_words.specs.declared.line.Front.TheVariants as front
use Rattle.eql_words.specs.Words.{Word, bytes_of, is_dashed, is_name, are_plain}
use Rattle.eql_words.specs.Spelling.{Setting, Parts, before, form_of, line_from, line_of}
use Rattle.eql_words.specs.Fronts.{IsFront}

-- options in front of a line
abbrev pub behind : List Setting → Option Parts → Option Parts
behind given None = None
behind given (Some parts) = Some (record { given = given ++ parts.given; plain = parts.plain })

pub behind_start : (o : Option Parts) → o ≡ behind [] o
behind_start None = refl
behind_start (Some parts) = refl

abbrev with_plain : List Word → List Setting → Option Parts
with_plain plain given = Some (record { given = given; plain = plain })

pub behind_more : (given : List Setting) (setting : Setting) (o : Option Parts) → behind given (before setting o) ≡ behind (given ++ setting ∷ []) o
behind_more given setting None = refl
behind_more given setting (Some parts) = ap (with_plain parts.plain) (sym (append_assoc given (setting ∷ []) parts.given))

pub line_more : (whole rest after : Option Parts) (given : List Setting) (setting : Setting) → whole ≡ behind given rest
    → rest ≡ before setting after → whole ≡ behind (given ++ setting ∷ []) after
line_more whole rest after given setting w r = w ∙ (ap (behind given) r ∙ behind_more given setting after)

pub line_ends : (whole rest : Option Parts) (given : List Setting) (plain : List Word) → whole ≡ behind given rest
    → rest ≡ Some (record { given = []; plain = plain }) → Some (record { given = given; plain = plain }) ≡ whole
line_ends whole rest given plain w r = sym (w ∙ (ap (behind given) r ∙ ap (with_plain plain) (append-nil given)))

pub line_faulty : (whole rest : Option Parts) (given : List Setting) → whole ≡ behind given rest → rest ≡ None → None ≡ whole
line_faulty whole rest given w r = sym (w ∙ ap (behind given) r)

abbrev Strings : Type 0
Strings = List (String Global)

-- an option that waits for its value
pub no_value : (name : OptionName) (words : Strings) → length words ≡ 0 → line_from (Some name) (bytes_of words) ≡ None
unfolding line_from
no_value name [] e = refl
no_value name (word ∷ words) e = absurd (omega arith)

pub dashed_value : (name : OptionName) (words : Strings) (value : String Global) (after : Strings) → words ≡ value ∷ after
    → is_dashed (string_bytes value) ≡ true → line_from (Some name) (bytes_of words) ≡ None
unfolding line_from
dashed_value name words value after e d =
    ap (λ (ws : Strings). line_from (Some name) (bytes_of ws)) e
    ∙ cond-true (is_dashed (string_bytes value)) None (before (name, string_bytes value) (line_of (bytes_of after))) d

pub plain_value : (name : OptionName) (words : Strings) (value : String Global) (after : Strings) → words ≡ value ∷ after
    → is_dashed (string_bytes value) ≡ false
    → line_from (Some name) (bytes_of words) ≡ before (name, string_bytes value) (line_of (bytes_of after))
unfolding line_from
plain_value name words value after e d =
    ap (λ (ws : Strings). line_from (Some name) (bytes_of ws)) e
    ∙ cond-false (is_dashed (string_bytes value)) None (before (name, string_bytes value) (line_of (bytes_of after))) d

-- the words by the form of the first
abbrev pub by_form : Word → List Word → Form → Option Parts
by_form word words f = elim f [
  | form.Ends ↦ Some (record { given = []; plain = words })
  | form.Plain ↦ cond (are_plain words) (Some (record { given = []; plain = word ∷ words })) None
  | form.Whole setting ↦ before setting (line_of words)
  | form.Opens name ↦ line_from (Some name) words
  | form.Faulty ↦ None
]

pub line_by_form : (word : Word) (words : List Word) → line_of (word ∷ words) ≡ by_form word words (form_of word)
unfolding line_from
line_by_form word words = refl

pub line_at : (words : Strings) (word : String Global) (after : Strings) (f : Form) → words ≡ word ∷ after
    → f ≡ form_of (string_bytes word) → line_of (bytes_of words) ≡ by_form (string_bytes word) (bytes_of after) f
line_at words word after f e h =
    ap (λ (ws : Strings). line_of (bytes_of ws)) e
    ∙ (line_by_form (string_bytes word) (bytes_of after) ∙ ap (by_form (string_bytes word) (bytes_of after)) (sym h))

pub line_of_none : (words : Strings) → length words ≡ 0 → line_of (bytes_of words) ≡ Some (record { given = []; plain = bytes_of words })
unfolding line_from
line_of_none [] e = refl
line_of_none (word ∷ words) e = absurd (omega arith)

pub plain_test : (words : Strings) → are_plain (bytes_of words) ≡ list_all (λ word. not (is_dashed (string_bytes word))) words
plain_test words = list_all-map (λ (word : Word). not (is_dashed word)) (λ (word : String Global). string_bytes word) words

pub name_test : (words : Strings) → list_all is_name (bytes_of words) ≡ list_all (λ word. is_name (string_bytes word)) words
name_test words = list_all-map is_name (λ (word : String Global). string_bytes word) words

pub at_plain : (words : Strings) (word : String Global) (after : Strings) → words ≡ word ∷ after
    → form.Plain ≡ form_of (string_bytes word) → true ≡ list_all (λ word. not (is_dashed (string_bytes word))) after
    → line_of (bytes_of words) ≡ Some (record { given = []; plain = bytes_of words })
at_plain words word after e h p =
    line_at words word after form.Plain e h
    ∙ (cond-true (are_plain (bytes_of after)) _ None (plain_test after ∙ sym p) ∙ ap (λ (ws : Strings). with_plain (bytes_of ws) []) (sym e))

pub at_mixed : (words : Strings) (word : String Global) (after : Strings) → words ≡ word ∷ after
    → form.Plain ≡ form_of (string_bytes word) → false ≡ list_all (λ word. not (is_dashed (string_bytes word))) after
    → line_of (bytes_of words) ≡ None
at_mixed words word after e h p =
    line_at words word after form.Plain e h ∙ cond-false (are_plain (bytes_of after)) _ None (plain_test after ∙ sym p)

-- a list of more words that is the same line begins with the same
pub front_same : (parts other : Option Parts) (count more : ℕ) (f : Front) → parts ≡ other → count ≤ more
    → IsFront other count f → IsFront parts more f
front_same parts other count more (front.Setting setting after) e le h = (e ∙ h.0, omega arith)
front_same parts other count more (front.Plain plain) e le h = e ∙ h
front_same parts other count more front.Faulty e le h = e ∙ h

pub shorter : (words : Strings) (word : String Global) (after : Strings) → words ≡ word ∷ after → length after < length words
shorter words word after e =
    let same : length words ≡ length (word ∷ after) = ap (λ (ws : Strings). length ws) e in
    omega arith
