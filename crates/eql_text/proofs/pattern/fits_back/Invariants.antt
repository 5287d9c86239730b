use Rattle.std.proofs.Common.{◌≡◌, length}
use denote.Text.{Utf8}
use denote.Shadow.{shadow}
use Rattle.std.specs.Str.{chars}
use Rattle.eql_text.specs.Comparing.{any_end}
use Rattle.eql_text.specs.Wildcards.{wildcard}
use Rattle.eql_text.proofs.Fitting.{NoStar}
use Rattle.eql_text.proofs.pattern.fits_back.Given as goal

abbrev pub invariant-loop-before_wanted : goal.invariant-loop-before_wanted
invariant-loop-before_wanted l =
    shadow (Utf8 l.rest) × shadow (Utf8 l.wanted)
    × NoStar (chars l.wanted)
    × (any_end (wildcard l.fold (chars l.wanted)) (chars l.rest) ≡ any_end (wildcard l.fold (chars l.pattern)) (chars l.text))

abbrev pub decreases-loop-before_wanted : goal.decreases-loop-before_wanted
decreases-loop-before_wanted l = length l.wanted
