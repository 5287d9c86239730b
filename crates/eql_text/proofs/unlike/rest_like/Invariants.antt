use Rattle.std.proofs.Common.{◌≡◌, ◌≤◌, ◌+◌, ◌∷◌, ℕ, List, length, drop}
use denote.Text.{Utf8}
use denote.Shadow.{shadow}
use Rattle.std.specs.Str.{chars}
use Rattle.eql_text.specs.Placing.{place_from}
use Rattle.eql_text.proofs.unlike.rest_like.Given as goal

abbrev pub invariant-loop-c : goal.invariant-loop-c
invariant-loop-c l =
    shadow (Utf8 l.rest)
    × ((n : ℕ) (t : List ℕ) → place_from l.fold n (chars l.text) (l.first ∷ t) ≡ place_from l.fold (n + l.passed) (chars l.rest) (l.first ∷ t))
    × (chars l.rest ≡ drop l.passed (chars l.text))
    × (l.passed + length l.rest ≤ length l.text)

abbrev pub decreases-loop-c : goal.decreases-loop-c
decreases-loop-c l = length l.rest
