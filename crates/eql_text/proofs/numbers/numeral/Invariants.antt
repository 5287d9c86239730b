use Rattle.std.proofs.Common.{◌≡◌, ◌<◌, ◌^◌, length}
use denote.Text.{Utf8}
use denote.Shadow.{shadow}
use Rattle.std.specs.Option.{option_map}
use Rattle.std.specs.Str.{chars}
use Rattle.eql_text.specs.Numbers.{numeral, capped_number}
use Rattle.eql_text.proofs.Reading.{read_on}
use Rattle.eql_text.proofs.numbers.numeral.Given as goal

abbrev pub invariant-loop-c : goal.invariant-loop-c
invariant-loop-c l =
    shadow (Utf8 l.rest)
    × (read_on l.base l.value (chars l.rest) ≡ option_map capped_number (numeral l.base (chars l.text)))
    × (l.value < 2 ^ 64)

abbrev pub decreases-loop-c : goal.decreases-loop-c
decreases-loop-c l = length l.rest
