use Rattle.std.proofs.Common.{◌≡◌, ◌-◌, ◌≤◌, ◌∷◌, [], length, take, drop, sym, ap, ◌∙◌, subst, arith, rules}
use Rattle.std.specs.Str.{chars, IsUtf8}
use Rattle.std.proofs.lemmas.Str.{IsCharBoundary-from_drop, IsCharBoundary-from_take}
use Rattle.std.proofs.lemmas.List.{length-append, take-take}
use Rattle.eql_text.proofs.Characters.{ending_at, chars_cut, chars_behind}
use Rattle.eql_text.proofs.repeats.back.Goals as goal

pub range-front-requires-clause-end_boundary : goal.range-front-requires-clause-end_boundary
range-front-requires-clause-end_boundary c =
    IsCharBoundary-from_drop c.args.text.now (length c.args.text.now - length c.args.rest.now) (omega arith)
    (subst IsUtf8 c.requires.ending.is c.utf8.rest)

pub loop-place-init : goal.loop-place-init
loop-place-init c =
    let text = c.args.text.now in
    let front = c.range-front.result.now in
    let size : length front ≡ length text - length c.args.rest.now = omega (arith, c.range-front.ensures.len) in
    let whole : length text - length c.args.rest.now - 0 ≡ length front = omega arith in
    let is : front ≡ take (length front) text = c.range-front.ensures.value ∙ ap (λ k. take k text) whole in
    let rest : c.args.rest.now ≡ drop (length front) text = c.requires.ending.is ∙ ap (λ k. drop k text) (sym size) in (
      c.range-front.utf8,
      is,
      omega arith,
      omega (arith, ap length (chars_cut text front c.args.rest.now c.range-front.utf8 is rest), length-append (chars front) (chars c.args.rest.now)),
    )

pub range_from-requires : goal.range_from-requires
range_from-requires c h =
    IsCharBoundary-from_take c.args.text.now (length c.loop-place.front.now) c.utf8.text c.loop-place.invariant.2
    (subst IsUtf8 c.loop-place.invariant.1 c.loop-place.invariant.0)

pub returns-clause-ending : goal.returns-clause-ending
returns-clause-ending c =
    ending_at c.args.text.now c.range_from.result.now (length c.loop-place.front.now) c.loop-place.invariant.2 c.range_from.ensures.value

pub returns-clause-rest : goal.returns-clause-rest
returns-clause-rest c =
    chars_behind c.args.text.now c.loop-place.front.now c.range_from.result.now _ c.loop-place.invariant.0 c.loop-place.invariant.1 c.range_from.ensures.value
    (omega (arith, c.loop-place.invariant.3))

pub loop-place-preserved : goal.loop-place-preserved
loop-place-preserved c =
    let before = c.in-Some.before.now in
    let front = c.loop-place.front.now in
    let less : length before ≤ length front = omega (arith, c.in-Some.ensures.shorter) in (
      search rules,
      c.in-Some.ensures.front ∙ ap (take (length before)) c.loop-place.invariant.1 ∙ take-take (length before) (length front) c.args.text.now less,
      omega (arith, c.loop-place.invariant.2),
      omega (arith, c.loop-place.invariant.3, ap length c.in-Some.ensures.characters, length-append (chars before) (c.in-Some.field-0-1 ∷ [])),
    )
