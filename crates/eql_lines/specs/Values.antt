-- The values of fields.
use Rattle.std.specs.Prelude.{ℕ, ℤ, Bool, true, false, List, [], ◌∷◌, Option, Some, None, Result, Ok, Err, ◌==◌, if◌then◌else◌, codes, encode_utf8_all}
use Rattle.std.specs.List.{list_any}
use Rattle.std.specs.Fmt.{signed_decimal}
use Rattle.std.specs.Result.{result_map_both}
use Rattle.std.specs.Str.{chars, bytes_eq}
use Rattle.serde_json.specs.Data.{Data}
use Rattle.eql_values.specs.declared.cut.Reason.{Reason}
use Rattle.eql_values.specs.declared.cut.Reason.TheVariants as bad
use Rattle.eql_values.specs.declared.value.Kind.{Kind}
use Rattle.eql_values.specs.declared.value.Kind.TheVariants as kinds
use Rattle.eql_values.specs.declared.value.Value.{Value}
use Rattle.eql_values.specs.declared.value.Value.TheVariants as is
use Rattle.eql_text.specs.Numbers.{parse_long}
use Rattle.eql_text.specs.Addresses.{parse_ip4}
use Rattle.eql_text.specs.declared.numbers.LongRead.{LongRead}
use Rattle.eql_text.specs.declared.numbers.LongRead.TheVariants as read
use Rattle.eql_lines.specs.Times.{fits_long}
use Rattle.eql_lines.specs.Reach.{Scalar, text, whole, fractional, truth, reach}

-- the scalar, if it is the only one
abbrev pub only : List Scalar → Option Scalar
only [] = None
only (s ∷ []) = Some s
only (s ∷ t ∷ ss) = None

-- a keyword: a number by its decimal digits, a truth value by its word
abbrev pub as_text : Scalar → Result (List ℕ) Reason
as_text (text t) = Ok t
as_text (whole z) = Ok (signed_decimal z)
as_text fractional = Err bad.Fraction
as_text (truth b) = Ok (if b then codes "true" else codes "false")

abbrev pub by_long_read : LongRead → Result ℤ Reason
by_long_read (read.Long z) = Ok z
by_long_read read.Range = Err bad.Range
by_long_read read.NoLong = Err bad.Kind

-- a whole number of 64 signed bits
abbrev pub as_long : Scalar → Result ℤ Reason
as_long (text t) = by_long_read (parse_long (chars t))
as_long (whole z) = if fits_long z then Ok z else Err bad.Range
as_long fractional = Err bad.Fraction
as_long (truth b) = Err bad.Kind

-- a truth value
abbrev pub as_truth : Scalar → Result Bool Reason
as_truth (text t) = if bytes_eq t (codes "true") then Ok true else if bytes_eq t (codes "false") then Ok false else Err bad.Kind
as_truth (whole z) = Err bad.Kind
as_truth fractional = Err bad.Kind
as_truth (truth b) = Ok b

abbrev pub or_kind : Option ℕ → Result Value Reason
or_kind None = Err bad.Kind
or_kind (Some n) = Ok (is.Ip n)

-- an IPv4 address; a text with a colon (58) may be an IPv6 address, and is null
abbrev pub as_address : Scalar → Result Value Reason
as_address (text t) = if list_any (λ b. b == 58) t then Ok is.Null else or_kind (parse_ip4 (chars t))
as_address (whole z) = Err bad.Kind
as_address fractional = Err bad.Kind
as_address (truth b) = Err bad.Kind

-- a scalar by the kind of its field
abbrev pub scalar_value : Kind → Scalar → Result Value Reason
scalar_value kinds.Text s = result_map_both (λ t. is.Text (chars t)) (λ r. r) (as_text s)
scalar_value kinds.Long s = result_map_both (λ z. is.Long z) (λ r. r) (as_long s)
scalar_value kinds.Bool s = result_map_both (λ b. is.Bool b) (λ r. r) (as_truth s)
scalar_value kinds.Ip s = as_address s

abbrev pub only_value : Kind → Option Scalar → Result Value Reason
only_value kind None = Ok is.Null
only_value kind (Some s) = scalar_value kind s

-- the value of a field of this kind, by all that is reached under its name: null where nothing or several scalars are reached
abbrev pub ValueOf : Kind → List Scalar → Result Value Reason
ValueOf kind scalars = only_value kind (only scalars)

abbrev pub only_tie : Option Scalar → Result (Option ℤ) Reason
only_tie None = Ok None
only_tie (Some s) = result_map_both (λ z. Some z) (λ r. r) (as_long s)

-- a value before others, of which the first refusal is told
abbrev pub value_and : Result Value Reason → Result (List Value) Reason → Result (List Value) Reason
value_and (Err r) rest = Err r
value_and (Ok v) (Err r) = Err r
value_and (Ok v) (Ok vs) = Ok (v ∷ vs)

-- the values of these fields
abbrev pub values_of : List (List ℕ × Kind) → Data → Result (List Value) Reason
values_of [] line = Ok []
values_of ((name, k) ∷ fields) line = value_and (ValueOf k (reach line (encode_utf8_all name))) (values_of fields line)

-- the texts among scalars
abbrev pub texts_in : List Scalar → List (List ℕ)
texts_in [] = []
texts_in (text t ∷ ss) = chars t ∷ texts_in ss
texts_in (whole z ∷ ss) = texts_in ss
texts_in (fractional ∷ ss) = texts_in ss
texts_in (truth b ∷ ss) = texts_in ss
