use Rattle.std.proofs.Common.{◌≡◌, ◌+◌, ◌-◌, length, drop, ap, ◌∙◌, arith}
use Rattle.std.specs.Str.{chars}
use Rattle.std.proofs.lemmas.List.{length-drop, drop-drop}
use Rattle.eql_text.specs.Repeats.{listed_runs}
use Rattle.eql_text.proofs.Characters.{fewer_chars}
use Rattle.eql_text.proofs.Searching.{met_next, met_within, known_next}
use Rattle.eql_text.proofs.repeats.Runs.of.Goals as goal

pub note-requires-clause-fits : goal.note-requires-clause-fits
note-requires-clause-fits c =
    omega (
      arith,
      met_within c.args.fold (chars c.places.laid.window.now) (chars c.args.t.now) c.meet-met.result.met c.meet-met.ensures.meets,
      ap length c.places.invariant.window,
      length-drop c.places.runs.below (chars c.args.t.now),
      c.places.invariant.within,
      fewer_chars c.args.t.now c.utf8.t,
    )

pub returns-in_default-move_on-clause-known : goal.returns-in_default-move_on-clause-known
returns-in_default-move_on-clause-known c =
    (known_next c.args.fold _ _ _ _ _ _ _ _ c.places.invariant.known c.meet-met.ensures.meets c.meet-met.ensures.stops c.places.invariant.window
    (c.note.ensures.noted c.if-not-note.false) (c.note.ensures.below c.if-not-note.false) c.step-step.ensures.by).0

pub overflow_sub-runs : goal.overflow_sub-runs
overflow_sub-runs c =
    (known_next c.args.fold _ _ _ _ _ _ _ _ c.places.invariant.known c.meet-met.ensures.meets c.meet-met.ensures.stops c.places.invariant.window
    (c.note.ensures.noted c.if-not-note.false) (c.note.ensures.below c.if-not-note.false) c.step-step.ensures.by).1

pub overflow_add-runs : goal.overflow_add-runs
overflow_add-runs c =
    omega (
      arith,
      ap length c.places.invariant.window,
      length-drop c.places.runs.below (chars c.args.t.now),
      c.places.invariant.within,
      c.note.ensures.below c.if-not-note.false,
      c.in-Some-move_on.ensures.enough,
      ap length (ap chars c.meet-met.ensures.window),
      fewer_chars c.args.t.now c.utf8.t,
    )

pub returns-then-next-runs-clause-known : goal.returns-then-next-runs-clause-known
returns-then-next-runs-clause-known c =
    (known_next c.args.fold _ _ _ _ _ _ _ _ c.places.invariant.known c.meet-met.ensures.meets c.meet-met.ensures.stops c.places.invariant.window
    (c.note.ensures.noted c.if-not-note.false) (c.note.ensures.below c.if-not-note.false) c.step-step.ensures.by).2

pub places-smaller : goal.places-smaller
places-smaller c =
    let next = known_next c.args.fold _ _ _ _ _ _ _ _ c.places.invariant.known c.meet-met.ensures.meets c.meet-met.ensures.stops c.places.invariant.window
    (c.note.ensures.noted c.if-not-note.false) (c.note.ensures.below c.if-not-note.false) c.step-step.ensures.by in
    omega (arith, next.1, c.in-Some-move_on.ensures.shorter, ap length c.meet-met.ensures.window)

pub places-preserved : goal.places-preserved
places-preserved c =
    let next = known_next c.args.fold _ _ _ _ _ _ _ _ c.places.invariant.known c.meet-met.ensures.meets c.meet-met.ensures.stops c.places.invariant.window
    (c.note.ensures.noted c.if-not-note.false) (c.note.ensures.below c.if-not-note.false) c.step-step.ensures.by in
    let by = c.step-step.result.by in
    let at = c.places.runs.below in
    let window = chars c.places.laid.window.now in
    let t = chars c.args.t.now in
    let rest : chars c.in-Some-move_on.next.window.now ≡ drop by window = c.in-Some-move_on.ensures.window ∙ ap (drop by) (ap chars c.meet-met.ensures.window) in
    let there : at + by ≡ c.note.new.self.below + (by - 1) = omega (arith, next.1, c.note.ensures.below c.if-not-note.false) in
    record {
      room = c.note.ensures.room;
      known = next.2;
      window = rest ∙ ap (drop by) c.places.invariant.window ∙ drop-drop by at t ∙ ap (λ k. drop k t) there;
      within = omega (arith, there, ap length c.places.invariant.window, length-drop at t, c.places.invariant.within, c.in-Some-move_on.ensures.enough, ap length (ap chars c.meet-met.ensures.window));
      laid = c.in-Some-move_on.ensures.laid;
      meets = met_next c.args.fold window (chars c.in-Some-move_on.next.window.now) t (listed_runs c.note.new.self) c.note.new.self.below c.meet-met.result.met by c.in-Some-move_on.next.met
          next.0 c.meet-met.ensures.meets c.step-step.ensures.by (c.in-Some-move_on.ensures.met ∙ c.step-step.ensures.kept) rest;
    }
