use Rattle.std.proofs.Common.{◌≡◌, ◌≤◌, length, drop}
use Rattle.std.specs.Str.{chars}
use Rattle.eql_text.specs.Repeats.{seen_text, listed_runs, IsKnown, Meets, IsLaid}
use Rattle.eql_text.proofs.repeats.Runs.of.Given as goal

abbrev pub invariant-places : goal.invariant-places
invariant-places l = record {
  room : l.runs.count ≤ 16;
  known : IsKnown (seen_text l.fold (chars l.t)) (listed_runs l.runs) l.runs.below;
  window : chars l.laid.window.now ≡ drop l.runs.below (chars l.t);
  within : l.runs.below ≤ length (chars l.t);
  laid : IsLaid l.t l.laid.window.now l.laid.ahead.now l.laid.left.now l.laid.met;
  meets : Meets (seen_text l.fold (chars l.laid.window.now)) (seen_text l.fold (chars l.t)) l.laid.met;
}

abbrev pub decreases-places : goal.decreases-places
decreases-places l = length l.laid.window.now
