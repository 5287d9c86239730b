-- The timestamps of events lie within the bound of timestamps.
use Rattle.std.proofs.Common.{◌≡◌, ℕ, ℤ, pos, negsuc, ◌*ℤ◌, Bool, true, false, nat_lt, length, List, [], ◌∷◌, Option, None, Some, IfSome, Result, Ok, Err, refl, arith, if◌then◌else◌}
use Rattle.std.proofs.lemmas.Int.{ints}
use Rattle.serde_json.specs.Data.{Data}
use Rattle.eql_values.specs.declared.cut.Reason.{Reason}
use Rattle.eql_values.specs.declared.cut.Reason.TheVariants.{BadTime, Long, NotObject}
use Rattle.eql_values.specs.declared.value.Value.{Value}
use Rattle.eql_values.specs.Reading.{IsTime, is_blank}
use Rattle.eql_text.specs.Json.{json_of}
use Rattle.eql_lines.specs.Objects.{is_object}
use Rattle.eql_lines.specs.Reach.{Scalar, text, whole, fractional, truth, reach}
use Rattle.eql_lines.specs.Times.{fits_long, or_bad, text_time, scalar_time, time_of}
use Rattle.eql_lines.specs.Values.{values_of, texts_in}
use Rattle.eql_lines.proofs.TextTimes.{text_in_time}
use Rattle.eql_lines.specs.Reading.{IsEventInTime, event_from, object_read, json_read, line_read, tie_of, time_path, category_path}
use Rattle.eql_lines.specs.declared.wanted.Wanted.{Wanted}
use Rattle.eql_lines.specs.declared.wanted.LineRead.{LineRead}
use Rattle.eql_lines.specs.declared.wanted.LineRead.TheVariants.{Blank, Bad}

-- a timestamp, if there is one, lies within the bound
abbrev pub IsTimeIfOk : Result ℤ Reason → Type 0
IsTimeIfOk (Ok n) = IsTime n
IsTimeIfOk (Err r) = Unit {0}

milli_time : (z : ℤ) → fits_long z ≡ true → IsTime (z *ℤ pos 1000000)
milli_time (pos n) fits = grind (arith, ints)
milli_time (negsuc n) fits = grind (arith, ints)

tested : (b : Bool) (n : ℤ) → (b ≡ true → IsTime n) → IsTimeIfOk (if b then Ok n else Err BadTime)
tested true n so = so refl
tested false n so = tt

or_bad_in_time : (o : Option ℤ) → IfSome o IsTime → IsTimeIfOk (or_bad o)
or_bad_in_time None is = tt
or_bad_in_time (Some n) is = is

scalar_in_time : (s : Scalar) → IsTimeIfOk (scalar_time s)
scalar_in_time (text t) = or_bad_in_time (text_time t) (text_in_time t)
scalar_in_time (whole z) = tested (fits_long z) (z *ℤ pos 1000000) (milli_time z)
scalar_in_time fractional = tt
scalar_in_time (truth b) = tt

all_in_time : (ss : List Scalar) → IsTimeIfOk (time_of ss)
all_in_time [] = tt
all_in_time (s ∷ []) = scalar_in_time s
all_in_time (s ∷ t ∷ ss) = tt

event_in_time : (ts : Result ℤ Reason) (tie : Result (Option ℤ) Reason) (values : Result (List Value) Reason) (categories : List (List ℕ))
    → IsTimeIfOk ts → IsEventInTime (event_from ts tie values categories)
event_in_time (Err r) tie values categories is = tt
event_in_time (Ok ts) (Err r) values categories is = tt
event_in_time (Ok ts) (Ok tie) (Err r) categories is = tt
event_in_time (Ok ts) (Ok tie) (Ok values) categories is = is

either : (test : Bool) (first second : LineRead) → IsEventInTime first → IsEventInTime second → IsEventInTime (if test then first else second)
either true first second h k = h
either false first second h k = k

object_in_time : (wanted : Wanted) (line : Data) → IsEventInTime (object_read wanted line)
object_in_time wanted line =
    event_in_time (time_of (reach line time_path)) (tie_of wanted.tie line) (values_of wanted.fields line) (texts_in (reach line category_path)) (all_in_time (reach line time_path))

pub json_in_time : (wanted : Wanted) (json : Option Data) → IsEventInTime (json_read wanted json)
json_in_time wanted None = tt
json_in_time wanted (Some line) = either (is_object line) (object_read wanted line) (Bad NotObject) (object_in_time wanted line) tt

-- every event that a line is has a timestamp within the bound
pub read_in_time : (wanted : Wanted) (bytes : List ℕ) → IsEventInTime (line_read wanted bytes)
read_in_time wanted bytes =
    let json = json_read wanted (json_of bytes) in
    let short = either (nat_lt 1048576 (length bytes)) (Bad Long) json tt (json_in_time wanted (json_of bytes)) in
    either (is_blank bytes) Blank (if nat_lt 1048576 (length bytes) then Bad Long else json) tt short
