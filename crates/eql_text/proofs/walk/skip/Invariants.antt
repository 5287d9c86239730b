use Rattle.std.proofs.Common.{◌≡◌, ◌≤◌, ◌+◌, length, drop}
use denote.Text.{Utf8}
use denote.Shadow.{shadow}
use Rattle.std.specs.Str.{chars}
use Rattle.eql_text.proofs.walk.skip.Given as goal

abbrev pub invariant-loop-place : goal.invariant-loop-place
invariant-loop-place l =
    shadow (Utf8 l.rest)
    × (chars l.rest ≡ drop l.place (chars l.text))
    × (l.place ≤ length (chars l.text))
    × (l.place + length l.rest ≤ length l.text)
