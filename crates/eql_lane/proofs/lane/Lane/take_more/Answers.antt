use Rattle.std.proofs.Common.{◌≤◌, ◌+◌, ℕ, Result, rules, Option, None, Ok, Err, refl, sym, ap, ◌∙◌, subst, arith}
use Rattle.std.proofs.lemmas.Grind.{common_steps}
use Rattle.eql_digest.specs.declared.digest.Digest.{Digest}
use Rattle.eql_lane.specs.declared.buffer.LongLine.{LongLine}
use Rattle.eql_lane.specs.declared.buffer.FillRefused.{FillRefused}
use Rattle.eql_lane.specs.Buffers.{IsFront, IsOneLine}
use Rattle.eql_lane.specs.Judging.{cut_with}
use Rattle.eql_lane.specs.declared.step.Step.{Step}
use Rattle.eql_lane.specs.Lanes.{LaneState}
use Rattle.eql_lane.specs.Views.{LaneView, IsLane}
use Rattle.eql_lane.specs.Feeding.{Steps}
use Rattle.eql_lane.proofs.Stepping.{few_shown, few_bytes, out_of_lines, none_read, took_lane, took_step, again, refused_lane, not_failed, all_taken, end_lane, end_over, of_text, tells}
use Rattle.eql_lane.specs.declared.step.Step.TheVariants as step
use Rattle.eql_lane.proofs.lane.Lane.take_more.Goals as goal

pub shorten-requires-clause-one : goal.shorten-requires-clause-one
shorten-requires-clause-one g c = subst (λ (v : LaneView g.row.S.Denot g.row.L.Denot). IsOneLine v.buffer.unread) (sym c.self.view_is) c.requires.one

pub finish-ended-requires-clause-front : goal.finish-ended-requires-clause-front
finish-ended-requires-clause-front g c =
    let s = c.shorten.ensures.stands c.self.invariant.pending c.self.invariant.stands in
    (s.front, subst (λ (o : Option LongLine). IsFront o s.front) (sym c.fill.ensures.long) s.is_front)

pub finish-ended-requires-clause-short : goal.finish-ended-requires-clause-short
finish-ended-requires-clause-short g c =
    let lane = end_lane None (g.S.Source.left c.self.inside.source) c.self.inside.buffer c.self.inside.kept c.self.inside.taken c.self.invariant (ap (λ (v : LaneView g.row.S.Denot g.row.L.Denot). v.state.cut.closed) c.self.view_is ∙ c.requires.was_open) c.shorten.new.self c.fill.new.self (g.S.Source.left c.fill.new.source) c.in-Ok-eq0.field-0 (omega (arith, c.in-Ok-eq0.field-0-test))
    (c.shorten.ensures.stands c.self.invariant.pending c.self.invariant.stands) c.shorten.ensures.few c.shorten.ensures.digest c.in-Ok-eq0.ensures.filled c.fill.ensures.long c.fill.ensures.digest in
    few_shown None (g.S.Source.left c.fill.new.source) c.fill.new.self c.self.inside.kept c.self.inside.taken c.self.inside.shard (g.L.LineReader.read_of c.self.inside.reader) lane c.fill.new.self lane.stands

pub finish-ended-requires-clause-bytes : goal.finish-ended-requires-clause-bytes
finish-ended-requires-clause-bytes g c =
    let lane = end_lane None (g.S.Source.left c.self.inside.source) c.self.inside.buffer c.self.inside.kept c.self.inside.taken c.self.invariant (ap (λ (v : LaneView g.row.S.Denot g.row.L.Denot). v.state.cut.closed) c.self.view_is ∙ c.requires.was_open) c.shorten.new.self c.fill.new.self (g.S.Source.left c.fill.new.source) c.in-Ok-eq0.field-0 (omega (arith, c.in-Ok-eq0.field-0-test))
    (c.shorten.ensures.stands c.self.invariant.pending c.self.invariant.stands) c.shorten.ensures.few c.shorten.ensures.digest c.in-Ok-eq0.ensures.filled c.fill.ensures.long c.fill.ensures.digest in
    few_bytes None (g.S.Source.left c.fill.new.source) c.fill.new.self c.self.inside.kept c.self.inside.taken c.self.inside.shard (g.L.LineReader.read_of c.self.inside.reader) lane c.fill.new.self lane.stands

pub invariant_of-self-in-Ok-eq0 : goal.invariant_of-self-in-Ok-eq0
invariant_of-self-in-Ok-eq0 g c =
    (end_over None (g.S.Source.left c.self.inside.source) c.self.inside.buffer c.self.inside.kept c.self.inside.taken c.self.invariant (ap (λ (v : LaneView g.row.S.Denot g.row.L.Denot). v.state.cut.closed) c.self.view_is ∙ c.requires.was_open) c.shorten.new.self c.fill.new.self (g.S.Source.left c.fill.new.source) c.in-Ok-eq0.field-0 (omega (arith, c.in-Ok-eq0.field-0-test))
    (c.shorten.ensures.stands c.self.invariant.pending c.self.invariant.stands) c.shorten.ensures.few c.shorten.ensures.digest c.in-Ok-eq0.ensures.filled c.fill.ensures.long c.fill.ensures.digest
    c.self.inside.shard (g.L.LineReader.read_of c.self.inside.reader) c.self.inside.given (g.S.Source.fault_count c.self.inside.source) (g.S.Source.fault_count c.fill.new.source) (c.in-Ok-eq0.ensures.steady (λ e. cc)) c.shorten.ensures.one c.fill.ensures.silent
    (c.in-Ok-eq0.ensures.end (ap (λ (n : ℕ). Ok n) c.in-Ok-eq0.field-0-test)) c.finish-ended.result c.finish-ended.new.buffer c.finish-ended.new.kept (first_of (search rules, grind (arith, common_steps)))
    c.finish-ended.ensures.none c.finish-ended.ensures.last c.finish-ended.ensures.some c.finish-ended.ensures.rest c.finish-ended.ensures.unchanged).lane

pub returns-in-Ok-eq0-clause-steps : goal.returns-in-Ok-eq0-clause-steps
returns-in-Ok-eq0-clause-steps g c =
    let old : LaneView g.row.S.Denot g.row.L.Denot = record { source = c.self.inside.source; reader = c.self.inside.reader; shard = c.self.inside.shard; slack = c.self.inside.kept.slack; buffer = c.self.inside.buffer; places = c.self.inside.places; state = record { cut = cut_with c.self.inside.buffer.digest c.self.inside.kept; taken = c.self.inside.taken; given = c.self.inside.given; faults = g.S.Source.fault_count c.self.inside.source } } in
    let new : LaneView g.row.S.Denot g.row.L.Denot = record { source = c.fill.new.source; reader = c.finish-ended.new.reader; shard = c.self.inside.shard; slack = c.finish-ended.new.kept.slack; buffer = c.finish-ended.new.buffer; places = c.self.inside.places; state = record { cut = cut_with c.finish-ended.new.buffer.digest c.finish-ended.new.kept; taken = c.self.inside.taken; given = c.self.inside.given; faults = g.S.Source.fault_count c.fill.new.source } } in
    subst (λ (v : LaneView g.row.S.Denot g.row.L.Denot). Steps g.S.Source.left g.L.LineReader.read_of v c.end_step.result new) c.self.view_is
    (subst (λ (s : Step). Steps g.S.Source.left g.L.LineReader.read_of old s new) (sym c.end_step.ensures)
    (λ text told.
    let lane : IsLane text (g.S.Source.left c.self.inside.source) c.self.inside.buffer (cut_with c.self.inside.buffer.digest c.self.inside.kept) c.self.inside.taken = of_text text (g.S.Source.left c.self.inside.source) c.self.inside.buffer (cut_with c.self.inside.buffer.digest c.self.inside.kept) c.self.inside.taken c.self.invariant told in
    let done = end_over text (g.S.Source.left c.self.inside.source) c.self.inside.buffer c.self.inside.kept c.self.inside.taken lane (ap (λ (v : LaneView g.row.S.Denot g.row.L.Denot). v.state.cut.closed) c.self.view_is ∙ c.requires.was_open) c.shorten.new.self c.fill.new.self (g.S.Source.left c.fill.new.source) c.in-Ok-eq0.field-0 (omega (arith, c.in-Ok-eq0.field-0-test))
    (c.shorten.ensures.stands lane.pending lane.stands) c.shorten.ensures.few c.shorten.ensures.digest c.in-Ok-eq0.ensures.filled c.fill.ensures.long c.fill.ensures.digest
    c.self.inside.shard (g.L.LineReader.read_of c.self.inside.reader) c.self.inside.given (g.S.Source.fault_count c.self.inside.source) (g.S.Source.fault_count c.fill.new.source) (c.in-Ok-eq0.ensures.steady (λ e. cc)) c.shorten.ensures.one c.fill.ensures.silent
    (c.in-Ok-eq0.ensures.end (ap (λ (n : ℕ). Ok n) c.in-Ok-eq0.field-0-test)) c.finish-ended.result c.finish-ended.new.buffer c.finish-ended.new.kept (first_of (search rules, grind (arith, common_steps)))
    c.finish-ended.ensures.none c.finish-ended.ensures.last c.finish-ended.ensures.some c.finish-ended.ensures.rest c.finish-ended.ensures.unchanged in
    record { did = done.step; keeps = tells text (g.S.Source.left c.fill.new.source) c.finish-ended.new.buffer (cut_with c.finish-ended.new.buffer.digest c.finish-ended.new.kept) c.self.inside.taken done.lane }))

pub invariant_of-self-in-Ok : goal.invariant_of-self-in-Ok
invariant_of-self-in-Ok g c =
    let few : c.in-Ok.n ≤ c.min-most.result = c.in-Ok.ensures.few in
    took_lane None (g.S.Source.left c.self.inside.source) c.self.inside.buffer c.self.inside.kept c.self.inside.taken c.self.invariant (ap (λ (v : LaneView g.row.S.Denot g.row.L.Denot). v.state.cut.closed) c.self.view_is ∙ c.requires.was_open) c.shorten.new.self c.fill.new.self (g.S.Source.left c.fill.new.source) c.in-Ok.n
    (c.shorten.ensures.stands c.self.invariant.pending c.self.invariant.stands) c.shorten.ensures.few c.shorten.ensures.digest (omega (arith, few, c.min-most.ensures, c.min.ensures))
    (omega (arith, few, c.min-most.ensures, c.min.ensures, c.self.invariant.bytes)) c.in-Ok.ensures.filled c.fill.ensures.long c.fill.ensures.digest

pub returns-in-Ok-clause-steps : goal.returns-in-Ok-clause-steps
returns-in-Ok-clause-steps g c =
    let few : c.in-Ok.n ≤ c.min-most.result = c.in-Ok.ensures.few in
    let some : 1 ≤ c.in-Ok.n = first_of (omega (arith, c.in-Ok.n-test), search rules, grind (arith, common_steps)) in
    let new : LaneView g.row.S.Denot g.row.L.Denot = record { source = c.fill.new.source; reader = c.self.inside.reader; shard = c.self.inside.shard; slack = c.self.inside.kept.slack; buffer = c.fill.new.self; places = c.self.inside.places; state = record { cut = cut_with c.fill.new.self.digest c.self.inside.kept; taken = (c.self.inside.taken + c.in-Ok.n); given = c.self.inside.given; faults = g.S.Source.fault_count c.fill.new.source } } in
    subst (λ (v : LaneView g.row.S.Denot g.row.L.Denot). Steps g.S.Source.left g.L.LineReader.read_of v (step.Took c.in-Ok.n) new) c.self.view_is
    (λ text told.
    let lane : IsLane text (g.S.Source.left c.self.inside.source) c.self.inside.buffer (cut_with c.self.inside.buffer.digest c.self.inside.kept) c.self.inside.taken = of_text text (g.S.Source.left c.self.inside.source) c.self.inside.buffer (cut_with c.self.inside.buffer.digest c.self.inside.kept) c.self.inside.taken c.self.invariant told in
    let next : IsLane text (g.S.Source.left c.fill.new.source) c.fill.new.self (cut_with c.fill.new.self.digest c.self.inside.kept) (c.self.inside.taken + c.in-Ok.n) = took_lane text (g.S.Source.left c.self.inside.source) c.self.inside.buffer c.self.inside.kept c.self.inside.taken lane (ap (λ (v : LaneView g.row.S.Denot g.row.L.Denot). v.state.cut.closed) c.self.view_is ∙ c.requires.was_open) c.shorten.new.self c.fill.new.self (g.S.Source.left c.fill.new.source) c.in-Ok.n
    (c.shorten.ensures.stands lane.pending lane.stands) c.shorten.ensures.few c.shorten.ensures.digest (omega (arith, few, c.min-most.ensures, c.min.ensures))
    (omega (arith, few, c.min-most.ensures, c.min.ensures, c.self.invariant.bytes)) c.in-Ok.ensures.filled c.fill.ensures.long c.fill.ensures.digest in
    record {
      did = took_step text (g.S.Source.left c.self.inside.source) c.self.inside.buffer c.self.inside.kept c.self.inside.taken lane (ap (λ (v : LaneView g.row.S.Denot g.row.L.Denot). v.state.cut.closed) c.self.view_is ∙ c.requires.was_open) c.self.inside.shard (g.L.LineReader.read_of c.self.inside.reader) c.self.inside.given (g.S.Source.fault_count c.self.inside.source) (g.S.Source.fault_count c.fill.new.source) c.fill.new.self (g.S.Source.left c.fill.new.source) c.in-Ok.n
          (c.fill.ensures.digest ∙ c.shorten.ensures.digest) some (c.in-Ok.ensures.steady (λ e. cc)) next;
      keeps = tells text (g.S.Source.left c.fill.new.source) c.fill.new.self (cut_with c.fill.new.self.digest c.self.inside.kept) (c.self.inside.taken + c.in-Ok.n) next;
    })

pub count-requires : goal.count-requires
count-requires g c = record { short = few_shown None (g.S.Source.left c.self.inside.source) c.self.inside.buffer c.self.inside.kept c.self.inside.taken c.self.inside.shard (g.L.LineReader.read_of c.self.inside.reader) c.self.invariant c.shorten.new.self (c.shorten.ensures.stands c.self.invariant.pending c.self.invariant.stands) }

pub returns-then-count-gt0-clause-steps : goal.returns-then-count-gt0-clause-steps
returns-then-count-gt0-clause-steps g c =
    let new : LaneView g.row.S.Denot g.row.L.Denot = record { source = c.self.inside.source; reader = c.self.inside.reader; shard = c.self.inside.shard; slack = c.self.inside.kept.slack; buffer = c.shorten.new.self; places = c.self.inside.places; state = record { cut = cut_with c.shorten.new.self.digest c.self.inside.kept; taken = c.self.inside.taken; given = c.self.inside.given; faults = g.S.Source.fault_count c.self.inside.source } } in
    subst (λ (v : LaneView g.row.S.Denot g.row.L.Denot). Steps g.S.Source.left g.L.LineReader.read_of v step.Lines new) c.self.view_is
    (λ text told.
    let lane : IsLane text (g.S.Source.left c.self.inside.source) c.self.inside.buffer (cut_with c.self.inside.buffer.digest c.self.inside.kept) c.self.inside.taken = of_text text (g.S.Source.left c.self.inside.source) c.self.inside.buffer (cut_with c.self.inside.buffer.digest c.self.inside.kept) c.self.inside.taken c.self.invariant told in
    record {
      did = (
        ap (λ (d : Digest). let x : LaneState = record { cut = cut_with d c.self.inside.kept; taken = c.self.inside.taken; given = c.self.inside.given; faults = g.S.Source.fault_count c.self.inside.source } in x) c.shorten.ensures.digest,
        out_of_lines text (g.S.Source.left c.self.inside.source) c.self.inside.buffer c.self.inside.kept c.self.inside.taken c.self.inside.shard (g.L.LineReader.read_of c.self.inside.reader) lane c.self.inside.given (g.S.Source.fault_count c.self.inside.source) c.shorten.new.self (c.shorten.ensures.stands lane.pending lane.stands) (omega (arith, c.if-count-gt0.true, c.count.ensures)) (omega (arith, c.if-lines.true, c.lines.ensures)),
      );
      keeps = tells text (g.S.Source.left c.self.inside.source) c.shorten.new.self (cut_with c.shorten.new.self.digest c.self.inside.kept) c.self.inside.taken (again text (g.S.Source.left c.self.inside.source) c.self.inside.buffer c.self.inside.kept c.self.inside.taken c.self.inside.shard (g.L.LineReader.read_of c.self.inside.reader) lane c.shorten.new.self (c.shorten.ensures.stands lane.pending lane.stands) c.shorten.ensures.few c.shorten.ensures.digest);
    })

pub returns-in-Err-Failed-clause-steps : goal.returns-in-Err-Failed-clause-steps
returns-in-Err-Failed-clause-steps g c =
    let new : LaneView g.row.S.Denot g.row.L.Denot = record { source = c.fill.new.source; reader = c.self.inside.reader; shard = c.self.inside.shard; slack = c.self.inside.kept.slack; buffer = c.fill.new.self; places = c.self.inside.places; state = record { cut = cut_with c.fill.new.self.digest c.self.inside.kept; taken = c.self.inside.taken; given = c.self.inside.given; faults = g.S.Source.fault_count c.fill.new.source } } in
    subst (λ (v : LaneView g.row.S.Denot g.row.L.Denot). Steps g.S.Source.left g.L.LineReader.read_of v step.Failed new) c.self.view_is
    (λ text told.
    let lane : IsLane text (g.S.Source.left c.self.inside.source) c.self.inside.buffer (cut_with c.self.inside.buffer.digest c.self.inside.kept) c.self.inside.taken = of_text text (g.S.Source.left c.self.inside.source) c.self.inside.buffer (cut_with c.self.inside.buffer.digest c.self.inside.kept) c.self.inside.taken c.self.invariant told in
    record {
      did = (
        none_read text (g.S.Source.left c.self.inside.source) c.self.inside.buffer c.self.inside.kept c.self.inside.taken c.self.inside.shard (g.L.LineReader.read_of c.self.inside.reader) lane c.self.inside.given (g.S.Source.fault_count c.self.inside.source) (g.S.Source.fault_count c.fill.new.source) c.fill.new.self (c.fill.ensures.digest ∙ c.shorten.ensures.digest) c.fill.ensures.counts (ap (λ (v : LaneView g.row.S.Denot g.row.L.Denot). v.state.cut.closed) c.self.view_is ∙ c.requires.was_open),
        (ap (λ (v : LaneView g.row.S.Denot g.row.L.Denot). v.state.cut.closed) c.self.view_is ∙ c.requires.was_open),
        refl,
        c.in-Err-Failed.ensures.cause (ap (λ (e : FillRefused). let r : Result ℕ FillRefused = Err e in r) c.in-Err-Failed.field-0-is),
      );
      keeps = tells text (g.S.Source.left c.fill.new.source) c.fill.new.self (cut_with c.fill.new.self.digest c.self.inside.kept) c.self.inside.taken (refused_lane text (g.S.Source.left c.self.inside.source) (g.S.Source.left c.fill.new.source) c.self.inside.buffer c.self.inside.kept c.self.inside.taken lane c.shorten.new.self c.fill.new.self
          (c.shorten.ensures.stands lane.pending lane.stands) c.shorten.ensures.few c.shorten.ensures.digest c.in-Err-Failed.ensures.kept.0 c.fill.ensures.long c.fill.ensures.digest c.in-Err-Failed.ensures.kept.1);
    })

pub returns-in-Err-Memory-clause-steps : goal.returns-in-Err-Memory-clause-steps
returns-in-Err-Memory-clause-steps g c =
    let new : LaneView g.row.S.Denot g.row.L.Denot = record { source = c.fill.new.source; reader = c.self.inside.reader; shard = c.self.inside.shard; slack = c.self.inside.kept.slack; buffer = c.fill.new.self; places = c.self.inside.places; state = record { cut = cut_with c.fill.new.self.digest c.self.inside.kept; taken = c.self.inside.taken; given = c.self.inside.given; faults = g.S.Source.fault_count c.fill.new.source } } in
    let is = c.in-Err-Memory.field-0-is in
    subst (λ (v : LaneView g.row.S.Denot g.row.L.Denot). Steps g.S.Source.left g.L.LineReader.read_of v step.Memory new) c.self.view_is
    (λ text told.
    let lane : IsLane text (g.S.Source.left c.self.inside.source) c.self.inside.buffer (cut_with c.self.inside.buffer.digest c.self.inside.kept) c.self.inside.taken = of_text text (g.S.Source.left c.self.inside.source) c.self.inside.buffer (cut_with c.self.inside.buffer.digest c.self.inside.kept) c.self.inside.taken c.self.invariant told in
    record {
      did = λ i. let x : LaneState = record {
        cut = cut_with ((c.fill.ensures.digest ∙ c.shorten.ensures.digest) i) c.self.inside.kept;
        taken = c.self.inside.taken;
        given = c.self.inside.given;
        faults = c.in-Err-Memory.ensures.steady (λ e. not_failed c.in-Err-Memory.field-0 is e) i;
      } in x;
      keeps = tells text (g.S.Source.left c.fill.new.source) c.fill.new.self (cut_with c.fill.new.self.digest c.self.inside.kept) c.self.inside.taken (refused_lane text (g.S.Source.left c.self.inside.source) (g.S.Source.left c.fill.new.source) c.self.inside.buffer c.self.inside.kept c.self.inside.taken lane c.shorten.new.self c.fill.new.self
          (c.shorten.ensures.stands lane.pending lane.stands) c.shorten.ensures.few c.shorten.ensures.digest c.in-Err-Memory.ensures.kept.0 c.fill.ensures.long c.fill.ensures.digest c.in-Err-Memory.ensures.kept.1);
    })

pub returns-then-most-eq0-clause-steps : goal.returns-then-most-eq0-clause-steps
returns-then-most-eq0-clause-steps g c =
    let new : LaneView g.row.S.Denot g.row.L.Denot = record { source = c.self.inside.source; reader = c.self.inside.reader; shard = c.self.inside.shard; slack = c.self.inside.kept.slack; buffer = c.shorten.new.self; places = c.self.inside.places; state = record { cut = cut_with c.shorten.new.self.digest c.self.inside.kept; taken = c.self.inside.taken; given = c.self.inside.given; faults = g.S.Source.fault_count c.self.inside.source } } in
    subst (λ (v : LaneView g.row.S.Denot g.row.L.Denot). Steps g.S.Source.left g.L.LineReader.read_of v step.Bytes new) c.self.view_is
    (λ text told.
    let lane : IsLane text (g.S.Source.left c.self.inside.source) c.self.inside.buffer (cut_with c.self.inside.buffer.digest c.self.inside.kept) c.self.inside.taken = of_text text (g.S.Source.left c.self.inside.source) c.self.inside.buffer (cut_with c.self.inside.buffer.digest c.self.inside.kept) c.self.inside.taken c.self.invariant told in
    record {
      did = (ap (λ (d : Digest). let x : LaneState = record { cut = cut_with d c.self.inside.kept; taken = c.self.inside.taken; given = c.self.inside.given; faults = g.S.Source.fault_count c.self.inside.source } in x) c.shorten.ensures.digest, all_taken c.args.room c.min.result c.min-most.result c.self.inside.taken c.requires.some c.min.ensures c.min-most.ensures c.if-most-eq0.true lane.bytes);
      keeps = tells text (g.S.Source.left c.self.inside.source) c.shorten.new.self (cut_with c.shorten.new.self.digest c.self.inside.kept) c.self.inside.taken (again text (g.S.Source.left c.self.inside.source) c.self.inside.buffer c.self.inside.kept c.self.inside.taken c.self.inside.shard (g.L.LineReader.read_of c.self.inside.reader) lane c.shorten.new.self (c.shorten.ensures.stands lane.pending lane.stands) c.shorten.ensures.few c.shorten.ensures.digest);
    })
