use Rattle.std.proofs.Common.{◌≡◌, ◌++◌}
use Rattle.std.specs.Prelude.{encode_utf8_all, string_bytes}
use Rattle.eql_book.specs.Listing.{json_chars}
use Rattle.eql_book.proofs.json.push_chars.Given as goal

abbrev pub invariant-loop-c : goal.invariant-loop-c
invariant-loop-c l = string_bytes l.line ≡ string_bytes l.fn.line ++ encode_utf8_all (json_chars l.yielded)
