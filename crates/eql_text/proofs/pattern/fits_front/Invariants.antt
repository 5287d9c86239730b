use Rattle.std.proofs.Common.{◌≡◌, length, drop}
use denote.Text.{Utf8}
use denote.Shadow.{shadow}
use Rattle.std.specs.Str.{chars}
use Rattle.eql_text.specs.Fronts.{begins_fit}
use Rattle.eql_text.proofs.pattern.fits_front.Given as goal

abbrev pub invariant-loop-d : goal.invariant-loop-d
invariant-loop-d l =
    shadow (Utf8 l.rest) × shadow (Utf8 l.wanted)
    × (begins_fit l.fold (chars l.rest) (chars l.wanted) ≡ begins_fit l.fold (chars l.text) (chars l.part))
    × (drop (length (chars l.wanted)) (chars l.rest) ≡ drop (length (chars l.part)) (chars l.text))

abbrev pub decreases-loop-d : goal.decreases-loop-d
decreases-loop-d l = length l.wanted
