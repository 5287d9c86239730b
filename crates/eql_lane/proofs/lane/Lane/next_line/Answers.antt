use Rattle.std.proofs.Common.{None, sym, ap, ◌∙◌, subst, arith}
use Rattle.eql_lane.specs.Buffers.{HasFeedAt}
use Rattle.eql_lane.specs.Judging.{cut_with}
use Rattle.eql_lane.specs.declared.step.Step.{Step}
use Rattle.eql_lane.specs.Views.{LaneView, IsLane}
use Rattle.eql_lane.specs.Feeding.{Steps}
use Rattle.eql_lane.proofs.Stepping.{line_done, of_text, tells}
use Rattle.eql_lane.proofs.lane.Lane.next_line.Goals as goal

pub invariant_of-self : goal.invariant_of-self
invariant_of-self g c =
    (line_done None (g.S.Source.left c.self.inside.source) c.self.inside.buffer c.self.inside.kept c.self.inside.taken c.self.inside.shard (g.L.LineReader.read_of c.self.inside.reader) c.self.invariant c.self.inside.given (g.S.Source.fault_count c.self.inside.source)
    (ap (λ (v : LaneView g.row.S.Denot g.row.L.Denot). v.state.cut.closed) c.self.view_is ∙ c.requires.was_open) c.args.end (subst (λ (v : LaneView g.row.S.Denot g.row.L.Denot). HasFeedAt c.args.end v.buffer.unread) (sym c.self.view_is) c.requires.feed)
    (omega (arith, c.self.invariant.lines, c.if-lines.false)) c.read_line-read.result c.read_line-read.new.buffer c.read_line-read.new.kept
    (c.read_line-read.ensures.read c.self.invariant.stands.front c.self.invariant.stands.is_front) c.read_line-read.ensures.rest c.read_line-read.ensures.unchanged).lane

pub returns-clause-steps : goal.returns-clause-steps
returns-clause-steps g c =
    let old : LaneView g.row.S.Denot g.row.L.Denot = record { source = c.self.inside.source; reader = c.self.inside.reader; shard = c.self.inside.shard; slack = c.self.inside.kept.slack; buffer = c.self.inside.buffer; places = c.self.inside.places; state = record { cut = cut_with c.self.inside.buffer.digest c.self.inside.kept; taken = c.self.inside.taken; given = c.self.inside.given; faults = g.S.Source.fault_count c.self.inside.source } } in
    let new : LaneView g.row.S.Denot g.row.L.Denot = record { source = c.self.inside.source; reader = c.read_line-read.new.reader; shard = c.self.inside.shard; slack = c.read_line-read.new.kept.slack; buffer = c.read_line-read.new.buffer; places = c.self.inside.places; state = record { cut = cut_with c.read_line-read.new.buffer.digest c.read_line-read.new.kept; taken = c.self.inside.taken; given = c.self.inside.given; faults = g.S.Source.fault_count c.self.inside.source } } in
    subst (λ (v : LaneView g.row.S.Denot g.row.L.Denot). Steps g.S.Source.left g.L.LineReader.read_of v c.line_step.result new) c.self.view_is
    (subst (λ (s : Step). Steps g.S.Source.left g.L.LineReader.read_of old s new) (sym c.line_step.ensures)
    (λ text told.
    let lane : IsLane text (g.S.Source.left c.self.inside.source) c.self.inside.buffer (cut_with c.self.inside.buffer.digest c.self.inside.kept) c.self.inside.taken = of_text text (g.S.Source.left c.self.inside.source) c.self.inside.buffer (cut_with c.self.inside.buffer.digest c.self.inside.kept) c.self.inside.taken c.self.invariant told in
    let done = line_done text (g.S.Source.left c.self.inside.source) c.self.inside.buffer c.self.inside.kept c.self.inside.taken c.self.inside.shard (g.L.LineReader.read_of c.self.inside.reader) lane c.self.inside.given (g.S.Source.fault_count c.self.inside.source)
    (ap (λ (v : LaneView g.row.S.Denot g.row.L.Denot). v.state.cut.closed) c.self.view_is ∙ c.requires.was_open) c.args.end (subst (λ (v : LaneView g.row.S.Denot g.row.L.Denot). HasFeedAt c.args.end v.buffer.unread) (sym c.self.view_is) c.requires.feed)
    (omega (arith, c.self.invariant.lines, c.if-lines.false)) c.read_line-read.result c.read_line-read.new.buffer c.read_line-read.new.kept
    (c.read_line-read.ensures.read lane.stands.front lane.stands.is_front) c.read_line-read.ensures.rest c.read_line-read.ensures.unchanged in
    record { did = done.step; keeps = tells text (g.S.Source.left c.self.inside.source) c.read_line-read.new.buffer (cut_with c.read_line-read.new.buffer.digest c.read_line-read.new.kept) c.self.inside.taken done.lane }))
