use Rattle.std.proofs.Common.{length}
use denote.Text.{Utf8}
use denote.Shadow.{shadow}
use Rattle.std.specs.Str.{chars}
use Rattle.eql_text.specs.Repeats.{IsLaid, Meets, seen_text}
use Rattle.eql_text.proofs.repeats.meet.Given as goal

abbrev pub invariant-loop-d : goal.invariant-loop-d
invariant-loop-d l =
    shadow (Utf8 l.ahead) × shadow (Utf8 l.left)
    × IsLaid l.t l.fn.laid.window.now l.ahead l.left l.met
    × Meets (seen_text l.fold (chars l.fn.laid.window.now)) (seen_text l.fold (chars l.t)) l.met

abbrev pub decreases-loop-d : goal.decreases-loop-d
decreases-loop-d l = length l.left
