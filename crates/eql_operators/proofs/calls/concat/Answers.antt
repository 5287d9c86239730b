use Rattle.std.proofs.Common.{◌≡◌, ap, ◌∙◌, Some, None, true, if◌then◌else◌, string_bytes, rules}
use Rattle.std.specs.Str.{chars}
use Rattle.eql_check.specs.Functions.{texts_of}
use Rattle.eql_operators.proofs.Joining.{joined_empty, goes_on}
use Rattle.eql_operators.proofs.calls.concat.Goals as goal

pub loop-place-init : goal.loop-place-init
loop-place-init g c = joined_empty (string_bytes c.new-text.result) (texts_of (g.A.Arguments.values c.args.args.now)) c.new-text.ensures.bytes

pub loop-place-preserved : goal.loop-place-preserved
loop-place-preserved g c =
    let has : c.in_ok-append.field-0 ≡ true = search rules in
    goes_on (chars (string_bytes c.loop-place.text)) (chars (string_bytes c.append.new.text)) (g.A.Arguments.values c.args.args.now) c.loop-place.place c.at.result.now
    (texts_of (g.A.Arguments.values c.args.args.now)) (search rules) c.at.ensures
    (c.in_ok-append.ensures ∙ ap (λ h. if h then Some (chars (string_bytes c.append.new.text)) else None) has) c.loop-place.invariant
