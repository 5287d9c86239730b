use Rattle.std.proofs.Common.{◌≡◌, ◌-◌, ◌≤◌, ◌+◌, take, length}
use denote.Text.{Utf8}
use denote.Shadow.{shadow}
use Rattle.std.specs.Str.{chars}
use Rattle.eql_text.proofs.repeats.back.Given as goal

abbrev pub invariant-loop-place : goal.invariant-loop-place
invariant-loop-place l =
    shadow (Utf8 l.front)
    × (l.front ≡ take (length l.front) l.text)
    × (length l.front ≤ length l.text)
    × (length (chars l.front) + l.place ≡ length (chars l.text) - length (chars l.rest))
