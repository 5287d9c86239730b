-- Worked examples of timestamps, values and lines, computed.
use Rattle.std.specs.Prelude.{◌≡◌, pos, negsuc, [], ◌∷◌, true, None, Some, Ok, Err, refl, codes}
use Rattle.std.specs.Str.{is_utf8, chars}
use Rattle.std.specs.Fmt.{digits}
use Rattle.serde_json.proofs.OnLiterals.{serde_json_on_literals}
use Rattle.jiff_fmt.proofs.OnLiterals.{jiff_fmt_on_literals}
use Rattle.eql_text.specs.Addresses.{plain, parse_ip4}
use Rattle.eql_values.specs.declared.cut.Reason.TheVariants as bad
use Rattle.eql_values.specs.declared.value.Kind.TheVariants as kinds
use Rattle.eql_values.specs.declared.value.Value.TheVariants as is
use Rattle.eql_lines.specs.Reach.{text, whole, fractional, truth}
use Rattle.eql_lines.specs.Times.{text_time, time_of}
use Rattle.eql_lines.specs.Values.{ValueOf}
use Rattle.eql_lines.specs.Reading.{line_read}
use Rattle.eql_lines.specs.declared.wanted.Wanted.{Wanted}
use Rattle.eql_lines.specs.declared.wanted.LineRead.TheVariants.{Blank, Event, Bad}

-- timestamps in text: instants, with fractions and offsets
an_instant : text_time (codes "2024-05-01T08:00:00.123Z") ≡ Some (pos 1714550400123000000)
unfolding text_time jiff_fmt_on_literals
an_instant = refl

nine_places : text_time (codes "2024-05-01T08:00:00.000000001Z") ≡ Some (pos 1714550400000000001)
unfolding text_time jiff_fmt_on_literals
nine_places = refl

at_an_offset : text_time (codes "2024-05-01T08:00:00+02:00") ≡ Some (pos 1714543200000000000)
unfolding text_time jiff_fmt_on_literals
at_an_offset = refl

leap_second : text_time (codes "2016-12-31T23:59:60Z") ≡ Some (pos 1483228799000000000)
unfolding text_time jiff_fmt_on_literals
leap_second = refl

before_the_epoch : text_time (codes "1969-12-31T23:59:59.999999Z") ≡ Some (negsuc 999)
unfolding text_time jiff_fmt_on_literals
before_the_epoch = refl

-- a text without an offset is the time of a clock in UTC, also where no instant could be; a date begins at midnight in UTC
no_offset : text_time (codes "2024-05-01T08:00:00") ≡ Some (pos 1714550400000000000)
unfolding text_time jiff_fmt_on_literals
no_offset = refl

last_clock : text_time (codes "9999-12-31T23:59:59") ≡ Some (pos 253402300799000000000)
unfolding text_time jiff_fmt_on_literals
last_clock = refl

a_day : text_time (codes "2024-05-01") ≡ Some (pos 1714521600000000000)
unfolding text_time jiff_fmt_on_literals
a_day = refl

-- a text with an offset is never read again without it
beyond_with_offset : text_time (codes "9999-12-31T23:59:59Z") ≡ None
unfolding text_time jiff_fmt_on_literals
beyond_with_offset = refl

offset_without_time : text_time (codes "2024-05-01+02:00") ≡ None
unfolding text_time jiff_fmt_on_literals
offset_without_time = refl

a_month : text_time (codes "2024-05") ≡ None
unfolding text_time jiff_fmt_on_literals
a_month = refl

-- timestamps by what is reached: milliseconds to both ends of 64 signed bits, and exactly one scalar
last_millis : time_of (whole (pos 9223372036854775807) ∷ []) ≡ Ok (pos 9223372036854775807000000)
last_millis = refl

beyond_millis : time_of (whole (pos 9223372036854775808) ∷ []) ≡ Err bad.BadTime
beyond_millis = refl

no_time : time_of [] ≡ Err bad.NoTime
no_time = refl

two_times : time_of (whole (pos 1) ∷ whole (pos 1) ∷ []) ≡ Err bad.BadTime
two_times = refl

-- values of fields: none or several scalars are null
null_keyword : ValueOf kinds.Text [] ≡ Ok is.Null
null_keyword = refl

several_keywords : ValueOf kinds.Text (text (codes "a") ∷ text (codes "a") ∷ []) ≡ Ok is.Null
several_keywords = refl

number_keyword : ValueOf kinds.Text (whole (negsuc 6) ∷ []) ≡ Ok (is.Text (codes "-7"))
unfolding chars digits
number_keyword = refl

truth_keyword : ValueOf kinds.Text (truth true ∷ []) ≡ Ok (is.Text (codes "true"))
unfolding chars
truth_keyword = refl

fraction_keyword : ValueOf kinds.Text (fractional ∷ []) ≡ Err bad.Fraction
fraction_keyword = refl

text_long : ValueOf kinds.Long (text (codes "-12") ∷ []) ≡ Ok (is.Long (negsuc 11))
unfolding chars
text_long = refl

long_beyond : ValueOf kinds.Long (whole (pos 9223372036854775808) ∷ []) ≡ Err bad.Range
long_beyond = refl

truth_long : ValueOf kinds.Long (truth true ∷ []) ≡ Err bad.Kind
truth_long = refl

text_truth : ValueOf kinds.Bool (text (codes "true") ∷ []) ≡ Ok (is.Bool true)
text_truth = refl

fraction_truth : ValueOf kinds.Bool (fractional ∷ []) ≡ Err bad.Kind
fraction_truth = refl

address : ValueOf kinds.Ip (text (codes "10.0.0.1") ∷ []) ≡ Ok (is.Ip 167772161)
unfolding chars plain parse_ip4
address = refl

long_address : ValueOf kinds.Ip (text (codes "::1") ∷ []) ≡ Ok is.Null
long_address = refl

number_address : ValueOf kinds.Ip (whole (pos 1) ∷ []) ≡ Err bad.Kind
number_address = refl

-- lines, with a keyword, a number and a tiebreaker wanted
abbrev wants : Wanted
wants = record { fields = (codes "user.name", kinds.Text) ∷ (codes "pid", kinds.Long) ∷ []; tie = Some (codes "seq") }

an_event : line_read wants (codes "{\"@timestamp\":7,\"seq\":3,\"event\":{\"category\":[\"a\",1,\"b\"]},\"user\":{\"name\":\"u\"}}")
    ≡ Event (record { ts = pos 7000000; tie = Some (pos 3); categories = codes "a" ∷ codes "b" ∷ []; slots = is.Text (codes "u") ∷ is.Null ∷ [] })
unfolding serde_json_on_literals is_utf8 chars
an_event = refl

-- the last value of a repeated name stands
repeated : line_read wants (codes "{\"@timestamp\":true,\"pid\":1.5,\"pid\":2,\"@timestamp\":8}")
    ≡ Event (record { ts = pos 8000000; tie = None; categories = []; slots = is.Null ∷ is.Long (pos 2) ∷ [] })
unfolding serde_json_on_literals is_utf8 chars
repeated = refl

-- the first reason in their order: of the timestamp, of the tiebreaker, of the fields in their order
time_first : line_read wants (codes "{\"user.name\":1.5,\"seq\":1.5,\"@timestamp\":true}") ≡ Bad bad.BadTime
unfolding serde_json_on_literals is_utf8 chars
time_first = refl

tie_next : line_read wants (codes "{\"user.name\":1.5,\"seq\":true,\"@timestamp\":7}") ≡ Bad bad.Kind
unfolding serde_json_on_literals is_utf8 chars
tie_next = refl

fields_last : line_read wants (codes "{\"pid\":true,\"user.name\":1.5,\"@timestamp\":7}") ≡ Bad bad.Fraction
unfolding serde_json_on_literals is_utf8 chars
fields_last = refl

without_time : line_read wants (codes "{\"seq\":true}") ≡ Bad bad.NoTime
unfolding serde_json_on_literals is_utf8 chars
without_time = refl

no_object : line_read wants (codes "[{\"@timestamp\":true}]") ≡ Bad bad.NotObject
unfolding serde_json_on_literals is_utf8 chars
no_object = refl

no_json : line_read wants (codes "{\"@timestamp\":true") ≡ Bad bad.NotJson
unfolding serde_json_on_literals is_utf8 chars
no_json = refl

a_blank : line_read wants (codes " \t\r") ≡ Blank
unfolding serde_json_on_literals
a_blank = refl
