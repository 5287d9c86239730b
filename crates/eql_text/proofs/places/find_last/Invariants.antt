use Rattle.std.proofs.Common.{◌≡◌, ◌≤◌, ◌+◌, length}
use Rattle.std.specs.Option.{option_or}
use Rattle.std.specs.Str.{chars}
use Rattle.eql_text.specs.Placing.{last_place_from}
use Rattle.eql_text.specs.Repeats.{seen_text, Meets, IsLaid}
use Rattle.eql_text.proofs.places.find_last.Given as goal

abbrev pub invariant-places : goal.invariant-places
invariant-places l = record {
  laid : IsLaid l.t l.laid.window.now l.laid.ahead.now l.laid.left.now l.laid.met;
  meets : Meets (seen_text l.fold (chars l.laid.window.now)) (seen_text l.fold (chars l.t)) l.laid.met;
  last : option_or (last_place_from l.fold l.place (chars l.laid.window.now) (chars l.t)) l.found ≡ last_place_from l.fold 0 (chars l.s) (chars l.t);
  within : l.place + length l.laid.window.now ≤ length l.s;
}

abbrev pub decreases-places : goal.decreases-places
decreases-places l = length l.laid.window.now
