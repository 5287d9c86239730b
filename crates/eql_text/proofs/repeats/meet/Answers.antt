use Rattle.std.proofs.Common.{length, sym, ap, ◌∙◌, arith, rules}
use Rattle.std.specs.Str.{chars}
use Rattle.std.proofs.lemmas.List.{length-drop}
use Rattle.eql_text.proofs.Characters.{fewer_chars}
use Rattle.eql_text.proofs.Laying.{laid_more, meets_more, stops_unlike, stops_window, stops_whole}
use Rattle.eql_text.proofs.repeats.meet.Goals as goal
use Rattle.eql_text.proofs.repeats.meet.Goals.{in-Some+in_default-first_char, in-Some+in-Some-first_char+then-not-same, in_default}

pub overflow_add-met : goal.overflow_add-met
overflow_add-met c =
    omega (
      arith,
      c.loop-d.invariant.2.within,
      ap length c.loop-d.invariant.2.left,
      length-drop c.loop-d.met (chars c.args.t.now),
      ap length c.in-Some.ensures.characters,
      fewer_chars c.args.t.now c.utf8.t,
    )

pub loop-d-preserved : goal.loop-d-preserved
loop-d-preserved c = (
  search rules,
  search rules,
  laid_more _ _ _ _ _ _ _ _ _ c.loop-d.invariant.2 c.in-Some.ensures.characters c.in-Some-first_char.ensures.characters c.in-Some.ensures.ending,
  meets_more _ _ _ _ _ _ _ _ _ _ c.loop-d.invariant.2 c.loop-d.invariant.3 c.in-Some.ensures.characters c.in-Some-first_char.ensures.characters
      (sym c.same.ensures ∙ c.if-not-same.false),
)

pub returns-clause-stops : goal.returns-clause-stops
returns-clause-stops c = elim c.match-first_char.branch [
  | in-Some+in_default-first_char w ↦ stops_window c.args.fold _ _ _ _ _ c.loop-d.invariant.2 w.in_default-first_char.ensures.characters
  | in-Some+in-Some-first_char+then-not-same w ↦
      stops_unlike c.args.fold _ _ _ _ _ _ _ _ _ c.loop-d.invariant.2 w.in-Some.ensures.characters w.in-Some-first_char.ensures.characters
      (sym w.same.ensures ∙ w.if-not-same.true)
  | in_default w ↦ stops_whole c.args.fold _ _ _ _ _ c.loop-d.invariant.2 w.in_default.ensures.characters
]
