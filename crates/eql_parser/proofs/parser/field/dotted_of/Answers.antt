use Rattle.std.proofs.Common.{◌-◌, length, arith, ap}
use Rattle.std.specs.Str.{chars}
use Rattle.std.proofs.lemmas.Str.{IsUtf8-string_bytes}
use Rattle.eql_parser.specs.Kinds.{kinds}
use Rattle.eql_parser.specs.Reading.{dotted}
use Rattle.eql_parser.proofs.Defaults.{length_kinds}
use Rattle.eql_parser.proofs.Names.{dot_refused, dots_end, dot_turn, dot_lengths, chars_dotted}
use Rattle.eql_parser.proofs.parser.field.dotted_of.Goals as goal

pub loop-behind-init : goal.loop-behind-init
loop-behind-init c =
    let tokens = c.args.tokens.now in
    (length (kinds tokens), omega (arith, length_kinds tokens), ap (λ w. dotted (length (kinds tokens)) (chars w) (kinds tokens)) c.in_ok-name.ensures.ok)

pub returns-in_default-part_at : goal.returns-in_default-part_at
returns-in_default-part_at c =
    let left = c.loop-behind.invariant in
    dot_refused left.0 _ c.loop-behind.rest.now c.in-Some.behind.now _ left.1 left.2 c.in-Some.ensures c.in_default-part_at.ensures

pub loop-behind-smaller : goal.loop-behind-smaller
loop-behind-smaller c =
    let long = dot_lengths c.loop-behind.rest.now c.in-Some-part_at.more.now _ _ c.in-Some.ensures c.in-Some-part_at.ensures.1 in
    omega arith

pub loop-behind-preserved : goal.loop-behind-preserved
loop-behind-preserved c =
    let left = c.loop-behind.invariant in
    let long = dot_lengths c.loop-behind.rest.now c.in-Some-part_at.more.now _ _ c.in-Some.ensures c.in-Some-part_at.ensures.1 in (
      left.0 - 1,
      omega arith,
      dot_turn left.0 (left.0 - 1) _ _ _ _ _ _ _ (omega arith) left.2 c.in-Some.ensures c.in-Some-part_at.ensures
          (chars_dotted _ _ _ _ (IsUtf8-string_bytes c.loop-behind.name) (IsUtf8-string_bytes c.push.new.self) c.in_ok-push.ensures.bytes c.in_ok-push_str.ensures.bytes),
    )

pub returns : goal.returns
returns c =
    let left = c.loop-behind.invariant in
    dots_end left.0 _ _ _ _ left.2 c.in_default.ensures c.of.ensures
