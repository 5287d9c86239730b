use Rattle.std.proofs.Common.{◌≡◌, ◌++◌}
use Rattle.std.specs.Prelude.{encode_utf8_all, string_bytes}
use Rattle.eql_values.specs.Shown.{shown_text}
use Rattle.eql_values.proofs.shown.push_shown.Given as goal

abbrev pub invariant-loop-c : goal.invariant-loop-c
invariant-loop-c l = string_bytes l.line ≡ string_bytes l.fn.line ++ encode_utf8_all (shown_text l.yielded)
