-- An event, from what the slots of a line have: of the timestamp, the categories, the tiebreaker, and of the fields in their order.
use Rattle.std.specs.Prelude.{ℕ, ℤ, Bool, if◌then◌else◌, List, [], ◌∷◌, map, drop, Option, Some, None, Result, Ok, Err}
use Rattle.std.specs.Str.{chars}
use Rattle.eql_values.specs.declared.cut.Reason.{Reason}
use Rattle.eql_values.specs.declared.cut.Reason.TheVariants.{NoTime, BadTime}
use Rattle.eql_values.specs.declared.value.Kind.{Kind}
use Rattle.eql_values.specs.declared.value.Value.{Value}
use Rattle.eql_lines.specs.Reach.{Scalar}
use Rattle.eql_lines.specs.Found.{Found, only_found, is_missing, found_at, found_of}
use Rattle.eql_lines.specs.Times.{scalar_time}
use Rattle.eql_lines.specs.Values.{only_value, only_tie, value_and}
use Rattle.eql_lines.specs.Reading.{event_from}
use Rattle.eql_values.specs.declared.cut.Reason.TheVariants as bad
use Rattle.eql_lines.specs.declared.line.Line.{Line}
use Rattle.eql_lines.specs.declared.line.Line.TheVariants as line
use Rattle.eql_lines.specs.declared.slots.Slot.{Slot}
use Rattle.eql_lines.specs.declared.wanted.Wanted.{Wanted}
use Rattle.eql_lines.specs.declared.wanted.LineRead.{LineRead}
use Rattle.eql_lines.specs.declared.wanted.LineRead.TheVariants.{Blank, Bad}

abbrev pub only_time : Bool → Option Scalar → Result ℤ Reason
only_time missing None = if missing then Err NoTime else Err BadTime
only_time missing (Some s) = scalar_time s

abbrev pub time_found : Found → Result ℤ Reason
time_found f = only_time (is_missing f) (only_found f)

abbrev pub tie_found : Option (List ℕ) → Found → Result (Option ℤ) Reason
tie_found None f = Ok None
tie_found (Some name) f = only_tie (only_found f)

abbrev pub value_found : Kind → Found → Result Value Reason
value_found kind f = only_value kind (only_found f)

abbrev pub values_found : List (List ℕ × Kind) → List Found → Result (List Value) Reason
values_found [] founds = Ok []
values_found (field ∷ fields) [] = Ok []
values_found (field ∷ fields) (f ∷ founds) = value_and (value_found field.1 f) (values_found fields founds)

abbrev pub event_found : Wanted → List Found → LineRead
event_found wanted (time ∷ category ∷ tie ∷ founds) =
    event_from (time_found time) (tie_found wanted.tie tie) (values_found wanted.fields founds) (map chars category.texts)
event_found wanted _ = Blank

-- the same by the slots
abbrev pub event_in_slots : Wanted → List Slot → LineRead
event_in_slots wanted slots =
    event_from (time_found (found_at slots 0)) (tie_found wanted.tie (found_at slots 2)) (values_found wanted.fields (map found_of (drop 3 slots)))
    (map chars (found_at slots 1).texts)

-- a line, from what its walk tells and what the slots have
abbrev pub line_in_slots : Line → Wanted → List Slot → LineRead
line_in_slots line.NotJson wanted slots = Bad bad.NotJson
line_in_slots line.NotObject wanted slots = Bad bad.NotObject
line_in_slots line.Object wanted slots = event_in_slots wanted slots
