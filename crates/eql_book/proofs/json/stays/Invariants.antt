use Rattle.std.proofs.Common.{◌≡◌}
use Rattle.eql_book.specs.Listing.{json_chars}
use Rattle.eql_book.proofs.json.stays.Given as goal

abbrev pub invariant-loop-c : goal.invariant-loop-c
invariant-loop-c l = json_chars l.yielded ≡ l.yielded
