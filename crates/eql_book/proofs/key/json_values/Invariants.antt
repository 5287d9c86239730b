use Rattle.std.proofs.Common.{◌≡◌, take, map}
use Rattle.serde_json.specs.View.{view}
use Rattle.eql_book.specs.Listing.{json_value}
use Rattle.eql_book.proofs.key.json_values.Given as goal

abbrev pub invariant-loop-value : goal.invariant-loop-value
invariant-loop-value l = map view l.list.items ≡ map json_value (take l.value-index l.key)
