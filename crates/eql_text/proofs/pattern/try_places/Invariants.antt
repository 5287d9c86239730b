use Rattle.std.proofs.Common.{◌≡◌, ◌∷◌, ◌++◌, ℕ, List, length}
use denote.Text.{Utf8}
use denote.Shadow.{shadow}
use Rattle.std.specs.Str.{chars}
use Rattle.eql_text.specs.Comparing.{any_end}
use Rattle.eql_text.specs.Wildcards.{wildcard}
use Rattle.eql_text.proofs.pattern.try_places.Given as goal

abbrev pub invariant-places : goal.invariant-places
invariant-places l =
    shadow (Utf8 l.rest)
    × ((q : List ℕ) → any_end (wildcard l.fold (chars l.part ++ (42 ∷ q))) (chars l.rest) ≡ any_end (wildcard l.fold (chars l.part ++ (42 ∷ q))) (chars l.text))

abbrev pub decreases-places : goal.decreases-places
decreases-places l = length l.rest
