-- The names of a mapping ascend, and are found by halves.
use Rattle.std.proofs.Common.{◌≡◌, inl, inr, ℕ, zero, suc, ◌<◌, ◌≤◌, List, [], ◌∷◌, length, get_or, false, Option, Some, None, refl, sym, ap, ◌∙◌, subst, arith, String, string_bytes, encode_utf8_all}
use Rattle.std.specs.declared.alloc.Global.{Global}
use Rattle.std.specs.declared.result.Result.TheVariants.{Ok, Err}
use Rattle.std.specs.declared.cmp.Ordering.{Ordering}
use Rattle.std.specs.declared.cmp.Ordering.TheVariants.{Less, Equal, Greater}
use Rattle.std.specs.Ordering.{nat_cmp, is_eq, ordering_index}
use Rattle.std.specs.Cmp.Lexicographic.{slice_cmp}
use Rattle.std.specs.List.{AllByRecursion}
use Rattle.std.specs.List.Sorted.{IsStrictlySortedBy, IsNonDecreasingBy, IsBinarySearchResult}
use Rattle.std.specs.Map.{keys_of}
use Rattle.std.specs.Str.{chars}
use Rattle.std.specs.String.{string_cmp}
use Rattle.std.proofs.lemmas.Bool.{cases_lt, cond-true, cond-false}
use Rattle.std.proofs.lemmas.Map.Keys.{sorted_head, sorted_tail}
use Rattle.std.proofs.lemmas.Str.{encodes-chars, IsUtf8-string_bytes}
use Rattle.serde_json.specs.View.{view, members_view}
use Rattle.serde_json.specs.declared.value.Value.{Value}
use Rattle.eql_values.specs.declared.value.Kind.{Kind}
use Rattle.eql_values.specs.Orders.{text_cmp, text_eq}
use Rattle.eql_values.specs.Totals.{text_cmp_total}
use Rattle.eql_values.proofs.Same.{text_same}
use Rattle.eql_check.specs.Kinds.{kind_at}
use Rattle.eql_check.specs.Mappings.{MapRead, field_before, fields_of, kind_named, NamesAscend, AreInOrder}

abbrev Fields : Type 0
Fields = List (List ℕ × Kind)

-- strings are ordered as their characters are
same_order : (a b : String Global) → string_cmp a b ≡ text_cmp (chars (string_bytes a)) (chars (string_bytes b))
same_order a b =
    sym (ap (λ bs. slice_cmp nat_cmp bs (encode_utf8_all (chars (string_bytes b)))) (encodes-chars (string_bytes a) (IsUtf8-string_bytes a))
    ∙ ap (λ cs. slice_cmp nat_cmp (string_bytes a) cs) (encodes-chars (string_bytes b) (IsUtf8-string_bytes b)))

-- the fields of an object have the names of its entries
data AreNames : List (String Global × Value) → Fields → Type 0 where
  no_names : AreNames [] []
  more_names : {e : String Global × Value} {es : List (String Global × Value)} {k : Kind} {fields : Fields} → AreNames es fields →
      AreNames (e ∷ es) ((chars (string_bytes e.0), k) ∷ fields)

abbrev read_as : Fields → MapRead
read_as fields = Ok fields

before_parts : (name : List ℕ) (o : Option Kind) (rest : MapRead) (fields : Fields) → read_as fields ≡ field_before name o rest →
    (k : Kind) × (more : Fields) × (read_as more ≡ rest) × (fields ≡ (chars name, k) ∷ more)
before_parts name None rest fields e = cc
before_parts name (Some k) (Ok more) fields e = (k, more, refl, cc)
before_parts name (Some k) (Err refused) fields e = cc

are_names : (es : List (String Global × Value)) (fields : Fields) → read_as fields ≡ fields_of (members_view es) → AreNames es fields
are_names [] fields e = subst (AreNames []) (cc) no_names
are_names (m ∷ es) fields e =
    let x = before_parts (string_bytes m.0) (kind_named (view m.1)) (fields_of (members_view es)) fields e in
    subst (AreNames (m ∷ es)) (sym x.3) (more_names (are_names es x.1 x.2))

as_many : {es : List (String Global × Value)} {fields : Fields} → AreNames es fields → length fields ≡ length es
as_many no_names = refl
as_many (more_names n) = ap suc (as_many n)

all_below : (s : String Global) {es : List (String Global × Value)} {fields : Fields} → AreNames es fields →
    AllByRecursion (λ y. string_cmp s y ≡ Less) (keys_of es) → AllByRecursion (λ y. text_cmp (chars (string_bytes s)) y ≡ Less) (keys_of fields)
all_below s no_names h = tt
all_below s (more_names {e} n) h = (sym (same_order s e.0) ∙ h.0, all_below s n h.1)

ascend : {es : List (String Global × Value)} {fields : Fields} → AreNames es fields → IsStrictlySortedBy string_cmp (keys_of es) → NamesAscend fields
unfolding IsStrictlySortedBy
ascend no_names h = tt
ascend (more_names {e} n) h = (all_below e.0 n h.0, ascend n h.1)

-- what is read of an object stands in order
pub in_order : (es : List (String Global × Value)) (fields : Fields) → read_as fields ≡ fields_of (members_view es) →
    IsStrictlySortedBy string_cmp (keys_of es) → length es ≤ 1024 → AreInOrder fields
in_order es fields e sorted few =
    let names = are_names es fields e in
    record { order = ascend names sorted; few = rw (as_many names) few }

-- by halves
below_at : (name : List ℕ) (fields : Fields) (i : ℕ) (d : List ℕ × Kind) → AllByRecursion (λ y. text_cmp name y ≡ Less) (keys_of fields) →
    i < length fields → text_cmp name (get_or fields i d).0 ≡ Less
below_at name [] i d h l = absurd (omega arith)
below_at name (field ∷ fields) zero d h l = h.0
below_at name (field ∷ fields) (suc i) d h l = below_at name fields i d h.1 (omega arith)

heads : (field : List ℕ × Kind) (fields : Fields) → NamesAscend (field ∷ fields) → AllByRecursion (λ y. text_cmp field.0 y ≡ Less) (keys_of fields)
heads field fields h = sorted_head text_cmp field.0 (keys_of fields) h

tails : (field : List ℕ × Kind) (fields : Fields) → NamesAscend (field ∷ fields) → NamesAscend fields
tails field fields h = sorted_tail text_cmp field.0 (keys_of fields) h

less_at : (fields : Fields) (i j : ℕ) (d : List ℕ × Kind) → NamesAscend fields → i < j → j < length fields →
    text_cmp (get_or fields i d).0 (get_or fields j d).0 ≡ Less
less_at [] i j d h l m = absurd (omega arith)
less_at (field ∷ fields) i zero d h l m = absurd (omega arith)
less_at (field ∷ fields) zero (suc j) d h l m = below_at field.0 fields j d (heads field fields h) (omega arith)
less_at (field ∷ fields) (suc i) (suc j) d h l m = less_at fields i j d (tails field fields h) (omega arith) (omega arith)

at_most_two : (o : Ordering) → ordering_index o ≤ 2
at_most_two Less = omega arith
at_most_two Equal = omega arith
at_most_two Greater = omega arith

ranks : (a b name : List ℕ) → text_cmp a b ≡ Less → (o : Ordering) → text_cmp b name ≡ o → ordering_index (text_cmp a name) ≤ ordering_index o
ranks a b name l Less e = let t = text_cmp_total in rw (t.trans a b name l e) (omega arith)
ranks a b name l Equal e = rw (subst (λ x. text_cmp a x ≡ Less) (text_same b name e) l) (omega arith)
ranks a b name l Greater e = at_most_two (text_cmp a name)

rises : (fields : Fields) (name : List ℕ) → NamesAscend fields → IsNonDecreasingBy (λ (field : List ℕ × Kind). ordering_index (text_cmp field.0 name)) fields
rises fields name h i j d l m =
    elim (cases_lt i j) [
      | inl below ↦ ranks (get_or fields i d).0 (get_or fields j d).0 name (less_at fields i j d h below m) (text_cmp (get_or fields j d).0 name) refl
      | inr above ↦ let same : i ≡ j = omega arith in rw same (omega arith)
    ]

found_at : (fields : Fields) (name : List ℕ) (i : ℕ) (d : List ℕ × Kind) → NamesAscend fields → i < length fields →
    text_cmp (get_or fields i d).0 name ≡ Equal → Some (get_or fields i d).1 ≡ kind_at fields name
found_at [] name i d h l e = absurd (omega arith)
found_at (field ∷ fields) name zero d h l e = sym (cond-true (text_eq field.0 name) (Some field.1) (kind_at fields name) (ap is_eq e))
found_at (field ∷ fields) name (suc i) d h l e =
    let other = subst (λ x. text_cmp field.0 x ≡ Less) (text_same (get_or fields i d).0 name e) (below_at field.0 fields i d (heads field fields h) (omega arith)) in
    found_at fields name i d (tails field fields h) (omega arith) e ∙ sym (cond-false (text_eq field.0 name) (Some field.1) (kind_at fields name) (ap is_eq other))

none_at : (fields : Fields) (name : List ℕ) → ((i : ℕ) (d : List ℕ × Kind) → i < length fields → is_eq (text_cmp (get_or fields i d).0 name) ≡ false) →
    None ≡ kind_at fields name
none_at [] name h = refl
none_at (field ∷ fields) name h =
    none_at fields name (λ i d l. h (suc i) d (omega arith))
    ∙ sym (cond-false (text_eq field.0 name) (Some field.1) (kind_at fields name) (h zero field (omega arith)))

-- what a search finds is the kind of the name
pub found : (fields : Fields) (name : List ℕ) (i : ℕ) (d : List ℕ × Kind) → NamesAscend fields → i < length fields →
    IsBinarySearchResult (λ (field : List ℕ × Kind). text_cmp field.0 name) fields (Ok i) → Some (get_or fields i d).1 ≡ kind_at fields name
found fields name i d h l r = found_at fields name i d h l (r d)

pub not_found : (fields : Fields) (name : List ℕ) (i : ℕ) → NamesAscend fields →
    IsBinarySearchResult (λ (field : List ℕ × Kind). text_cmp field.0 name) fields (Err i) → None ≡ kind_at fields name
not_found fields name i h r =
    let x = r (rises fields name h) in
    none_at fields name (λ j d l. elim (cases_lt j i) [ inl below ↦ ap is_eq (x.0 j d (omega arith) below) | inr above ↦ ap is_eq (x.1 j d above l) ])
