use Rattle.std.proofs.Common.{◌≡◌, ◌+◌, ◌≤◌, ◌<◌, cond, Some, length, drop, sym, ap, ◌∙◌, arith}
use Rattle.std.specs.Option.{option_or}
use Rattle.std.specs.Str.{chars}
use Rattle.eql_text.specs.Comparing.{starts}
use Rattle.eql_text.specs.Placing.{last_place_from}
use Rattle.eql_text.specs.Repeats.{listed_runs, move_by}
use Rattle.eql_text.proofs.Laying.{met_whole, met_part}
use Rattle.eql_text.proofs.Repeating.{move_positive}
use Rattle.eql_text.proofs.Searching.{met_next, none_behind, not_true, last_on, last_end}
use Rattle.eql_text.proofs.places.find_last.Goals as goal
use Rattle.eql_text.proofs.places.find_last.Goals.{then-ended, else-ended}

pub returns-in_default : goal.returns-in_default
returns-in_default c =
    let window = chars c.places.laid.window.now in
    let t = chars c.args.t.now in
    let rs = listed_runs c.of-runs.result in
    let below = c.of-runs.result.below in
    let m = c.meet-met.result.met in
    let found : c.if-ended.found ≡ cond (starts c.args.fold window t) (Some c.places.place) c.places.found = elim c.if-ended.branch [
      | then-ended w ↦
          let all = met_whole c.args.fold _ _ _ _ _ c.meet-met.ensures.laid c.meet-met.ensures.meets (sym c.ended.ensures ∙ w.if-ended.true) in
          w.found-is ∙ sym (ap (λ b. cond b (Some c.places.place) c.places.found) all.1)
      | else-ended w ↦
          let no = not_true _ (met_part c.args.fold _ _ _ _ _ c.meet-met.ensures.laid c.meet-met.ensures.stops (sym c.ended.ensures ∙ w.if-ended.false)) in
          w.found-is ∙ sym (ap (λ b. cond b (Some c.places.place) c.places.found) no)
    ] in
    let positive = move_positive _ _ _ m c.of-runs.ensures.known in
    let short : length window < move_by rs below m = omega (arith, c.in_default.ensures.enough, c.step-step.ensures.by, ap length (ap chars c.meet-met.ensures.window)) in
    record {
      place = found
          ∙ sym (last_end c.args.fold c.places.place (move_by rs below m) window t c.places.found
          (none_behind c.args.fold window t rs below m c.of-runs.ensures.known c.meet-met.ensures.meets) positive short)
          ∙ c.places.invariant.last;
    }

pub places-smaller : goal.places-smaller
places-smaller c =
    let positive = move_positive _ _ _ c.meet-met.result.met c.of-runs.ensures.known in
    omega (arith, c.in-Some.ensures.shorter, positive, c.step-step.ensures.by, ap length c.meet-met.ensures.window)

pub places-preserved : goal.places-preserved
places-preserved c =
    let window = chars c.places.laid.window.now in
    let next = chars c.in-Some.next.window.now in
    let t = chars c.args.t.now in
    let rs = listed_runs c.of-runs.result in
    let below = c.of-runs.result.below in
    let m = c.meet-met.result.met in
    let by = c.step-step.result.by in
    let found : c.if-ended.found ≡ cond (starts c.args.fold window t) (Some c.places.place) c.places.found = elim c.if-ended.branch [
      | then-ended w ↦
          let all = met_whole c.args.fold _ _ _ _ _ c.meet-met.ensures.laid c.meet-met.ensures.meets (sym c.ended.ensures ∙ w.if-ended.true) in
          w.found-is ∙ sym (ap (λ b. cond b (Some c.places.place) c.places.found) all.1)
      | else-ended w ↦
          let no = not_true _ (met_part c.args.fold _ _ _ _ _ c.meet-met.ensures.laid c.meet-met.ensures.stops (sym c.ended.ensures ∙ w.if-ended.false)) in
          w.found-is ∙ sym (ap (λ b. cond b (Some c.places.place) c.places.found) no)
    ] in
    let is : by ≡ move_by rs below m = c.step-step.ensures.by in
    let positive = move_positive _ _ _ m c.of-runs.ensures.known in
    let rest : next ≡ drop by window = c.in-Some.ensures.window ∙ ap (drop by) (ap chars c.meet-met.ensures.window) in
    let enough : by ≤ length window = omega (arith, c.in-Some.ensures.enough, ap length (ap chars c.meet-met.ensures.window)) in
    let none = none_behind c.args.fold window t rs below m c.of-runs.ensures.known c.meet-met.ensures.meets in
    record {
      laid = c.in-Some.ensures.laid;
      meets = met_next c.args.fold window next t rs below m by c.in-Some.next.met c.of-runs.ensures.known c.meet-met.ensures.meets is
          (c.in-Some.ensures.met ∙ c.step-step.ensures.kept) rest;
      last =
          ap (λ s. option_or (last_place_from c.args.fold (c.places.place + by) s t) c.if-ended.found) rest
          ∙ ap (λ f. option_or (last_place_from c.args.fold (c.places.place + by) (drop by window) t) f) found
          ∙ sym (last_on c.args.fold c.places.place by window t c.places.found (λ e p l. none e p (omega arith)) (omega arith) enough)
          ∙ c.places.invariant.last;
      within = omega (arith, c.places.invariant.within, c.in-Some.ensures.shorter, ap length c.meet-met.ensures.window);
    }
