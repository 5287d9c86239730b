use Rattle.std.proofs.Common.{◌≡◌, ◌≤◌, length, drop}
use denote.Text.{Utf8}
use denote.Shadow.{shadow}
use Rattle.std.specs.Str.{chars}
use Rattle.eql_text.specs.Comparing.{starts}
use Rattle.eql_text.proofs.walk.strip.Given as goal

-- what is left of the text begins with what is left to be found exactly when the text begins with all of it
abbrev pub invariant-loop-d : goal.invariant-loop-d
invariant-loop-d l =
    shadow (Utf8 l.rest) × shadow (Utf8 l.wanted)
    × (starts l.fold (chars l.rest) (chars l.wanted) ≡ starts l.fold (chars l.text) (chars l.front))
    × (drop (length (chars l.wanted)) (chars l.rest) ≡ drop (length (chars l.front)) (chars l.text))
    × (length l.rest ≤ length l.text)

abbrev pub decreases-loop-d : goal.decreases-loop-d
decreases-loop-d l = length l.wanted
