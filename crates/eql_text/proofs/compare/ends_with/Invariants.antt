use Rattle.std.proofs.Common.{◌≡◌, length}
use denote.Text.{Utf8}
use denote.Shadow.{shadow}
use Rattle.std.specs.Str.{chars}
use Rattle.eql_text.specs.Comparing.{ends}
use Rattle.eql_text.proofs.compare.ends_with.Given as goal

abbrev pub invariant-loop-before_wanted : goal.invariant-loop-before_wanted
invariant-loop-before_wanted l =
    shadow (Utf8 l.rest) × shadow (Utf8 l.wanted)
    × (ends l.fold (chars l.rest) (chars l.wanted) ≡ ends l.fold (chars l.text) (chars l.back))

abbrev pub decreases-loop-before_wanted : goal.decreases-loop-before_wanted
decreases-loop-before_wanted l = length l.wanted
