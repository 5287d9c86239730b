-- What is read of a list of tokens, by the first of them.
use Rattle.std.proofs.Common.{◌≡◌, ℕ, ◌-◌, ◌<◌, List, [], ◌∷◌, length, Bool, Option, Some, None, option_map, Result, OnOk, OnErr, Ok, Err, refl, ap, ◌∙◌, arith}
use Rattle.json.specs.Token.{Token}
use Rattle.json.specs.Json.{items, members, value, parse_map}
use Rattle.json.proofs.Grammar.{value_is, value-begin_array, value-begin_object}
use Rattle.serde_json.specs.Data.{Data, Num, null, boolean, number, string, array, object, no_members}
use Rattle.serde_json.specs.Read.{of_json, of_items, of_members, converted, number_of}
use Rattle.eql_lines.proofs.Reading.{converted-array, converted-object}

pub map_ok : {A E : Type 0} {P Q : Type 0} (r : Result A E) → (P → Q) → OnOk r P → OnOk r Q
map_ok (Ok a) f h = f h
map_ok (Err e) f h = tt

pub map_err : {A E : Type 0} {P Q : Type 0} (r : Result A E) → (P → Q) → OnErr r P → OnErr r Q
map_err (Ok a) f h = tt
map_err (Err e) f h = f h

pub on_err : {A E : Type 0} {P : Type 0} (r : Result A E) → P → OnErr r P
on_err (Ok a) h = tt
on_err (Err e) h = h

module _ (depth : ℕ) (all ts : List Token) where
  pub opened_array : 0 < depth → all ≡ Token.begin_array ∷ ts → converted of_json (value depth all) ≡ parse_map array (converted of_items (items (value (depth - 1)) (length ts) ts))
  opened_array h e = ap (converted of_json) (ap (value depth) e ∙ value-begin_array depth ts h) ∙ converted-array (items (value (depth - 1)) (length ts) ts)

  pub opened_object : 0 < depth → all ≡ Token.begin_object ∷ ts → converted of_json (value depth all) ≡ parse_map object (converted (λ ms. of_members ms no_members) (members (value (depth - 1)) (length ts) ts))
  opened_object h e = ap (converted of_json) (ap (value depth) e ∙ value-begin_object depth ts h) ∙ converted-object (members (value (depth - 1)) (length ts) ts)

  pub no_array : depth ≡ 0 → all ≡ Token.begin_array ∷ ts → converted of_json (value depth all) ≡ None
  unfolding value
  no_array h e = ap (λ d. converted of_json (value d all)) h ∙ ap (λ a. converted of_json (value 0 a)) e

  pub no_object : depth ≡ 0 → all ≡ Token.begin_object ∷ ts → converted of_json (value depth all) ≡ None
  unfolding value
  no_object h e = ap (λ d. converted of_json (value d all)) h ∙ ap (λ a. converted of_json (value 0 a)) e

  pub read_string : (s : List ℕ) → all ≡ Token.string s ∷ ts → converted of_json (value depth all) ≡ Some (string s, ts)
  read_string s e = ap (converted of_json) (ap (value depth) e ∙ value_is depth (Token.string s ∷ ts))

  pub read_boolean : (b : Bool) → all ≡ Token.boolean b ∷ ts → converted of_json (value depth all) ≡ Some (boolean b, ts)
  read_boolean b e = ap (converted of_json) (ap (value depth) e ∙ value_is depth (Token.boolean b ∷ ts))

  pub read_null : all ≡ Token.null ∷ ts → converted of_json (value depth all) ≡ Some (null, ts)
  read_null e = ap (converted of_json) (ap (value depth) e ∙ value_is depth (Token.null ∷ ts))

  pub read_number : (s : List ℕ) (n : Num) → all ≡ Token.number s ∷ ts → number_of s ≡ Some n → converted of_json (value depth all) ≡ Some (number n, ts)
  read_number s n e f = ap (converted of_json) (ap (value depth) e ∙ value_is depth (Token.number s ∷ ts)) ∙ ap (λ o. option_map {U = Data × List Token} (λ d. (d, ts)) (option_map number o)) f

  pub no_number : (s : List ℕ) → all ≡ Token.number s ∷ ts → number_of s ≡ None → converted of_json (value depth all) ≡ None
  no_number s e f = ap (converted of_json) (ap (value depth) e ∙ value_is depth (Token.number s ∷ ts)) ∙ ap (λ o. option_map {U = Data × List Token} (λ d. (d, ts)) (option_map number o)) f

pub read_nothing : (depth : ℕ) (all : List Token) → all ≡ [] → converted of_json (value depth all) ≡ None
read_nothing depth all e = ap (converted of_json) (ap (value depth) e ∙ value_is depth [])

-- a number that was read, or none, behind a function
pub some_before : {A B : Type 0} (f : A → B) (o : Option A) (b : B) → Some b ≡ option_map f o → (a : A) × (o ≡ Some a) × (b ≡ f a)
some_before f None b e = absurd (cc)
some_before f (Some a) b e = (a, refl, grind (arith, e))

pub none_before_map : {A B : Type 0} (f : A → B) (o : Option A) → None ≡ option_map f o → o ≡ None
none_before_map f None e = refl
none_before_map f (Some a) e = absurd (cc)
