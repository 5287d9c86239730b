-- The reading of a line: blank, an event, or a reason.
use Rattle.std.specs.Prelude.{ℕ, ℤ, List, length, nat_lt, if◌then◌else◌, Option, Some, None, Result, Ok, Err, codes, encode_utf8_all}
use Rattle.serde_json.specs.Data.{Data}
use Rattle.eql_values.specs.Reading.{is_blank, IsTime}
use Rattle.eql_values.specs.declared.cut.Reason.{Reason}
use Rattle.eql_values.specs.declared.cut.Reason.TheVariants.{Long, NotJson, NotObject}
use Rattle.eql_values.specs.declared.value.Value.{Value}
use Rattle.eql_text.specs.Json.{json_of}
use Rattle.eql_lines.specs.Objects.{is_object}
use Rattle.eql_lines.specs.Reach.{reach}
use Rattle.eql_lines.specs.Times.{time_of}
use Rattle.eql_lines.specs.Values.{only, only_tie, values_of, texts_in}
use Rattle.eql_lines.specs.declared.wanted.Wanted.{Wanted}
use Rattle.eql_lines.specs.declared.wanted.LineRead.{LineRead}
use Rattle.eql_lines.specs.declared.wanted.LineRead.TheVariants.{Blank, Event, Bad}

abbrev pub time_path : List ℕ
time_path = codes "@timestamp"

abbrev pub category_path : List ℕ
category_path = codes "event.category"

-- the tiebreaker; none where none is wanted or its field is null
abbrev pub tie_of : Option (List ℕ) → Data → Result (Option ℤ) Reason
tie_of None line = Ok None
tie_of (Some name) line = only_tie (only (reach line (encode_utf8_all name)))

-- an event, or the first reason: of the timestamp, of the tiebreaker, of the fields
abbrev pub event_from : Result ℤ Reason → Result (Option ℤ) Reason → Result (List Value) Reason → List (List ℕ) → LineRead
event_from (Err r) tie values categories = Bad r
event_from (Ok ts) (Err r) values categories = Bad r
event_from (Ok ts) (Ok tie) (Err r) categories = Bad r
event_from (Ok ts) (Ok tie) (Ok values) categories = Event (record { ts = ts; tie = tie; categories = categories; slots = values })

-- what an object is as a line
abbrev pub object_read : Wanted → Data → LineRead
object_read wanted line =
    event_from (time_of (reach line time_path)) (tie_of wanted.tie line) (values_of wanted.fields line) (texts_in (reach line category_path))

abbrev pub json_read : Wanted → Option Data → LineRead
json_read wanted None = Bad NotJson
json_read wanted (Some line) = if is_object line then object_read wanted line else Bad NotObject

-- what a line is
abbrev pub line_read : Wanted → List ℕ → LineRead
line_read wanted bytes =
    if is_blank bytes then Blank else if nat_lt 1048576 (length bytes) then Bad Long else json_read wanted (json_of bytes)

-- an event's timestamp lies within the bound of timestamps
abbrev pub IsEventInTime : LineRead → Type 0
IsEventInTime Blank = Unit {0}
IsEventInTime (Event fields) = IsTime fields.ts
IsEventInTime (Bad reason) = Unit {0}
