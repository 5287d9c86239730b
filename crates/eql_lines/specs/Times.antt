-- Timestamps, in nanoseconds since the epoch. `jiff` reads the texts; its grammar is that of Temporal (RFC 9557).
use Rattle.std.specs.Prelude.{ℕ, ◌^◌, ℤ, pos, negsuc, ◌*ℤ◌, Bool, nat_lt, List, [], ◌∷◌, Option, Some, None, Result, Ok, Err, if◌then◌else◌}
use Rattle.jiff_core.specs.declared.error.Error.{Error}
use Rattle.jiff_core.specs.declared.error.Error.TheVariants.{Missing}
use Rattle.jiff_core.specs.declared.error.Part.TheVariants as part
use Rattle.jiff_fmt.specs.Temporal.{parse_timestamp, parse_datetime, parse_date, parts_nanos, midnight, DateParts, TimeParts}
use Rattle.eql_values.specs.declared.cut.Reason.{Reason}
use Rattle.eql_values.specs.declared.cut.Reason.TheVariants.{NoTime, BadTime}
use Rattle.eql_lines.specs.declared.times.Lack.{Lack}
use Rattle.eql_lines.specs.declared.times.Lack.TheVariants.{Offset, Time, Other}
use Rattle.eql_lines.specs.Reach.{Scalar, text, whole, fractional, truth}

-- the number fits 64 signed bits
abbrev pub fits_long : ℤ → Bool
fits_long (pos n) = nat_lt n (2 ^ 63)
fits_long (negsuc n) = nat_lt n (2 ^ 63)

-- the time of a clock in UTC that shows this date and time of day
abbrev pub of_clock : Result (DateParts × TimeParts) Error → Option ℤ
of_clock (Ok p) = Some (parts_nanos p.0 p.1)
of_clock (Err e) = None

-- the midnight in UTC that begins this day
abbrev pub of_day : Result DateParts Error → Option ℤ
of_day (Ok d) = Some (parts_nanos d midnight)
of_day (Err e) = None

-- what a text lacks that isn't an instant
abbrev pub lack_of : Error → Lack
lack_of (Missing part.Offset) = Offset
lack_of (Missing part.Time) = Time
lack_of _ = Other

-- where only the offset is missing, the text is the time of a clock in UTC, and where the time of day is missing, it is a day
abbrev pub by_lack : Lack → List ℕ → Option ℤ
by_lack Offset bytes = of_clock (parse_datetime bytes)
by_lack Time bytes = of_day (parse_date bytes)
by_lack Other bytes = None

-- by the reading of a text as an instant
abbrev pub by_instant : Result ℤ Error → List ℕ → Option ℤ
by_instant (Ok n) bytes = Some n
by_instant (Err e) bytes = by_lack (lack_of e) bytes

-- the time that a text names
unfoldable pub text_time : List ℕ → Option ℤ
text_time bytes = by_instant (parse_timestamp bytes) bytes

abbrev pub or_bad : Option ℤ → Result ℤ Reason
or_bad None = Err BadTime
or_bad (Some n) = Ok n

-- the time that a scalar names: a whole number is one of milliseconds, and fits 64 signed bits
abbrev pub scalar_time : Scalar → Result ℤ Reason
scalar_time (text t) = or_bad (text_time t)
scalar_time (whole z) = if fits_long z then Ok (z *ℤ pos 1000000) else Err BadTime
scalar_time fractional = Err BadTime
scalar_time (truth b) = Err BadTime

-- the timestamp of an event, by all that is reached under its name
abbrev pub time_of : List Scalar → Result ℤ Reason
time_of [] = Err NoTime
time_of (s ∷ []) = scalar_time s
time_of (s ∷ t ∷ ss) = Err BadTime
