-- Fields entered one by one, and some after others.
use Rattle.std.proofs.Common.{◌≡◌, ℕ, List, [], ◌∷◌, Bool, true, false, refl, sym, ap, ◌∙◌, if◌then◌else◌, String, string_bytes, encode_utf8_all}
use Rattle.std.specs.declared.alloc.Global.{Global}
use Rattle.std.specs.Ordering.{nat_cmp, is_eq}
use Rattle.std.specs.Cmp.Lexicographic.{slice_cmp}
use Rattle.std.specs.Str.{chars}
use Rattle.std.specs.String.{string_eq}
use Rattle.std.proofs.lemmas.Map.Text.{is_eq-slice_cmp}
use Rattle.std.proofs.lemmas.Str.{encodes-chars, IsUtf8-string_bytes}
use Rattle.indexmap.specs.IndexMap.{insert_entry}
use Rattle.eql_values.specs.declared.value.Kind.{Kind}
use Rattle.eql_values.specs.Orders.{text_eq}
use Rattle.eql_check.specs.Entering.{use_field}
use Rattle.eql_check.specs.Entries.{fields_in_entries}

-- strings are equal where their characters are
same_text : (a b : String Global) → text_eq (chars (string_bytes a)) (chars (string_bytes b)) ≡ string_eq a b
same_text a b =
    ap (λ bs. is_eq (slice_cmp nat_cmp bs (encode_utf8_all (chars (string_bytes b))))) (encodes-chars (string_bytes a) (IsUtf8-string_bytes a))
    ∙ ap (λ cs. is_eq (slice_cmp nat_cmp (string_bytes a) cs)) (encodes-chars (string_bytes b) (IsUtf8-string_bytes b))
    ∙ is_eq-slice_cmp (string_bytes a) (string_bytes b)

by_test : (e : String Global × Kind) (k : Kind) (es : List (String Global × Kind)) (fs gs : List (List ℕ × Kind)) (s : String Global) (b : Bool) →
    fields_in_entries (insert_entry string_eq es s k) ≡ gs → fields_in_entries es ≡ fs →
    fields_in_entries (if b then (e.0, k) ∷ es else e ∷ insert_entry string_eq es s k)
    ≡ (if b then (chars (string_bytes e.0), k) ∷ fs else (chars (string_bytes e.0), e.1) ∷ gs)
by_test e k es fs gs s true h i = ap (λ xs. (chars (string_bytes e.0), k) ∷ xs) i
by_test e k es fs gs s false h i = ap (λ xs. (chars (string_bytes e.0), e.1) ∷ xs) h

-- an entry is entered as a field is used
pub entered : (entries : List (String Global × Kind)) (name : String Global) (k : Kind) →
    fields_in_entries (insert_entry string_eq entries name k) ≡ use_field (fields_in_entries entries) (chars (string_bytes name)) k
entered [] name k = refl
entered (e ∷ es) name k =
    by_test e k es (fields_in_entries es) (use_field (fields_in_entries es) (chars (string_bytes name)) k) name (string_eq name e.0) (entered es name k) refl
    ∙ ap (λ b. if b then (chars (string_bytes e.0), k) ∷ fields_in_entries es else (chars (string_bytes e.0), e.1) ∷ use_field (fields_in_entries es) (chars (string_bytes name)) k)
    (sym (same_text name e.0))
