use Rattle.std.proofs.Common.{◌≡◌, string_bytes}
use Rattle.eql_runs.specs.Made.{made_text}
use Rattle.eql_summary.proofs.texts.text_of.Given as goal

abbrev pub invariant-loop-event : goal.invariant-loop-event
invariant-loop-event l = string_bytes l.lines ≡ made_text l.text l.event
