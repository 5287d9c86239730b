use Rattle.std.proofs.Common.{◌≡◌, ◌+◌, ◌-◌, ◌≤◌, ◌<◌, length, drop, sym, ap, ◌∙◌, arith}
use Rattle.std.specs.Str.{chars}
use Rattle.std.proofs.lemmas.List.{drop-drop}
use Rattle.eql_text.specs.Placing.{place_from}
use Rattle.eql_text.specs.Repeats.{listed_runs, move_by}
use Rattle.eql_text.proofs.Finding.{place_here}
use Rattle.eql_text.proofs.Laying.{met_whole, met_part}
use Rattle.eql_text.proofs.Repeating.{move_positive}
use Rattle.eql_text.proofs.Searching.{met_next, none_before, place_jump, place_none}
use Rattle.eql_text.proofs.places.find.Goals as goal

pub returns-then-ended-clause-place : goal.returns-then-ended-clause-place
returns-then-ended-clause-place c =
    let all = met_whole c.args.fold _ _ _ _ _ c.meet-met.ensures.laid c.meet-met.ensures.meets (sym c.ended.ensures ∙ c.if-ended.true) in
    sym (place_here c.args.fold c.places.place (chars c.places.laid.window.now) (chars c.args.t.now) (sym all.1)) ∙ c.places.invariant.found

pub returns-then-ended-clause-after : goal.returns-then-ended-clause-after
returns-then-ended-clause-after c =
    let all = met_whole c.args.fold _ _ _ _ _ c.meet-met.ensures.laid c.meet-met.ensures.meets (sym c.ended.ensures ∙ c.if-ended.true) in
    c.meet-met.ensures.laid.ahead ∙ ap (λ k. drop k (chars c.places.laid.window.now)) all.0
    ∙ ap (drop (length (chars c.args.t.now))) c.places.invariant.rest
    ∙ drop-drop (length (chars c.args.t.now)) (c.places.place - c.args.start) (chars c.args.s.now)

pub returns-in_err-next-clause-place : goal.returns-in_err-next-clause-place
returns-in_err-next-clause-place c =
    let window = chars c.places.laid.window.now in
    let t = chars c.args.t.now in
    let rs = listed_runs c.of-runs.result in
    let below = c.of-runs.result.below in
    let m = c.meet-met.result.met in
    let no_place = none_before c.args.fold window t rs below m c.of-runs.ensures.known c.meet-met.ensures.meets
    (met_part c.args.fold _ _ _ _ _ c.meet-met.ensures.laid c.meet-met.ensures.stops (sym c.ended.ensures ∙ c.if-ended.false)) in
    let short : length window < move_by rs below m = omega (arith, c.in_err-next.ensures.enough, c.step-step.ensures.by, ap length (ap chars c.meet-met.ensures.window)) in
    rw c.from_residual.ensures (sym (place_none c.args.fold c.places.place (move_by rs below m) window t no_place short) ∙ c.places.invariant.found)

pub places-smaller : goal.places-smaller
places-smaller c =
    let positive = move_positive _ _ _ c.meet-met.result.met c.of-runs.ensures.known in
    omega (
      arith,
      c.in_ok-next.ensures.shorter,
      c.pass_unlike-near.ensures.shorter,
      positive,
      c.step-step.ensures.by,
      ap length c.meet-met.ensures.window,
    )

pub places-preserved : goal.places-preserved
places-preserved c =
    let window = chars c.places.laid.window.now in
    let next = chars c.in_ok-next.next.window.now in
    let near = chars c.pass_unlike-near.result.laid.window.now in
    let t = chars c.args.t.now in
    let rs = listed_runs c.of-runs.result in
    let below = c.of-runs.result.below in
    let m = c.meet-met.result.met in
    let by = c.step-step.result.by in
    let passed = c.pass_unlike-near.result.passed in
    let start = c.args.start in
    let place = c.places.place in
    let no_place = none_before c.args.fold window t rs below m c.of-runs.ensures.known c.meet-met.ensures.meets
    (met_part c.args.fold _ _ _ _ _ c.meet-met.ensures.laid c.meet-met.ensures.stops (sym c.ended.ensures ∙ c.if-ended.false)) in
    let rest : next ≡ drop by window = c.in_ok-next.ensures.window ∙ ap (drop by) (ap chars c.meet-met.ensures.window) in
    let enough : by ≤ length window = omega (arith, c.in_ok-next.ensures.enough, ap length (ap chars c.meet-met.ensures.window)) in
    let is : by ≡ move_by rs below m = c.step-step.ensures.by in
    let beyond : place + by + passed ≡ place + (by + passed) = omega arith in
    let there : place - start + by + passed ≡ place + (by + passed) - start = omega (arith, c.places.invariant.after) in
    record {
      laid = c.pass_unlike-near.ensures.laid;
      meets = c.pass_unlike-near.ensures.meets;
      found =
          ap (λ j. place_from c.args.fold j near t) (sym beyond)
          ∙ sym (c.pass_unlike-near.ensures.found (place + by))
          ∙ ap (λ s. place_from c.args.fold (place + by) s t) rest
          ∙ sym (place_jump c.args.fold place by window t (λ e l. no_place e (omega arith)) enough) ∙ c.places.invariant.found;
      rest =
          c.pass_unlike-near.ensures.rest ∙ ap (drop passed) (rest ∙ ap (drop by) c.places.invariant.rest)
          ∙ ap (drop passed) (drop-drop by (place - start) (chars c.args.s.now))
          ∙ drop-drop passed (place - start + by) (chars c.args.s.now)
          ∙ ap (λ k. drop k (chars c.args.s.now)) there;
      after = omega (arith, c.places.invariant.after);
      within = omega (
        arith,
        c.places.invariant.within,
        c.in_ok-next.ensures.shorter,
        c.pass_unlike-near.ensures.shorter,
        ap length c.meet-met.ensures.window,
      );
    }

pub pass_unlike-near-requires-clause-meets : goal.pass_unlike-near-requires-clause-meets
pass_unlike-near-requires-clause-meets c =
    let window = chars c.places.laid.window.now in
    let next = chars c.in_ok-next.next.window.now in
    let t = chars c.args.t.now in
    let rest : next ≡ drop c.step-step.result.by window = c.in_ok-next.ensures.window ∙ ap (drop c.step-step.result.by) (ap chars c.meet-met.ensures.window) in
    met_next c.args.fold window next t (listed_runs c.of-runs.result) c.of-runs.result.below c.meet-met.result.met c.step-step.result.by c.in_ok-next.next.met
    c.of-runs.ensures.known c.meet-met.ensures.meets c.step-step.ensures.by (c.in_ok-next.ensures.met ∙ c.step-step.ensures.kept) rest
