use Rattle.std.proofs.Common.{◌≡◌, Some, drop, string_bytes}
use Rattle.std.specs.Str.{chars}
use Rattle.eql_check.specs.Functions.{joined_texts, texts_of}
use Rattle.eql_operators.proofs.calls.concat.Given as goal

abbrev pub invariant-loop-place : goal.invariant-loop-place
invariant-loop-place g l =
    joined_texts (Some (chars (string_bytes l.text))) (texts_of (drop l.place (g.A.Arguments.values l.args))) ≡ texts_of (g.A.Arguments.values l.args)
