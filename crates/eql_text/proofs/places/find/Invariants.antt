use Rattle.std.proofs.Common.{◌≡◌, ◌≤◌, ◌+◌, ◌-◌, length, drop}
use Rattle.std.specs.Str.{chars}
use Rattle.eql_text.specs.Placing.{place_from}
use Rattle.eql_text.specs.Repeats.{seen_text, Meets, IsLaid}
use Rattle.eql_text.proofs.places.find.Given as goal

abbrev pub invariant-places : goal.invariant-places
invariant-places l = record {
  laid : IsLaid l.t l.laid.window.now l.laid.ahead.now l.laid.left.now l.laid.met;
  meets : Meets (seen_text l.fold (chars l.laid.window.now)) (seen_text l.fold (chars l.t)) l.laid.met;
  found : place_from l.fold l.place (chars l.laid.window.now) (chars l.t) ≡ place_from l.fold l.start (chars l.s) (chars l.t);
  rest : chars l.laid.window.now ≡ drop (l.place - l.start) (chars l.s);
  after : l.start ≤ l.place;
  within : l.place + length l.laid.window.now ≤ l.start + length l.s;
}

abbrev pub decreases-places : goal.decreases-places
decreases-places l = length l.laid.window.now
