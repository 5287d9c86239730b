use Rattle.std.proofs.Common.{◌≡◌, List, ℕ, Option, None, refl, ap, ◌∙◌, subst}
use Rattle.eql_values.specs.declared.order.Mark.{Mark}
use Rattle.eql_values.specs.Marks.{low_of}
use Rattle.eql_lane.specs.Judging.{cut_with}
use Rattle.eql_lane.specs.Views.{LaneView, IsTextOf, setting_of}
use Rattle.eql_lane.specs.Lanes.{LaneState, Takes, lesser, low}
use Rattle.eql_lane.proofs.Stepping.{kept_lane, of_text, tells}
use Rattle.eql_lane.proofs.lane.Lane.take.Goals as goal

pub invariant_of-self-in-Ok : goal.invariant_of-self-in-Ok
invariant_of-self-in-Ok g c = kept_lane None (g.S.Source.left c.self.inside.source) c.self.inside.buffer c.self.inside.kept c.take_below.new.self c.self.inside.taken c.least-bound.result c.self.invariant (c.in-Ok.ensures {u = tt}).kept

pub returns-in-Ok-clause-step : goal.returns-in-Ok-clause-step
returns-in-Ok-clause-step g c =
    let bound : c.least-bound.result ≡ lesser c.args.mark (low_of c.self.inside.kept.closed c.self.inside.kept.slack c.self.inside.kept.best) = c.least-bound.ensures ∙ ap (lesser c.args.mark) c.low-low.ensures in
    let new : LaneState = record { cut = cut_with c.self.inside.buffer.digest c.take_below.new.self; taken = c.self.inside.taken; given = c.greatest-self-inside.result; faults = g.S.Source.fault_count c.self.inside.source } in
    let old : LaneState = record { cut = cut_with c.self.inside.buffer.digest c.self.inside.kept; taken = c.self.inside.taken; given = c.self.inside.given; faults = g.S.Source.fault_count c.self.inside.source } in
    let did : Takes old c.least-bound.result c.in-Ok.items new = record {
      items_are = (c.in-Ok.ensures {u = tt}).items;
      cut = ap (cut_with c.self.inside.buffer.digest) (c.in-Ok.ensures {u = tt}).kept;
      given = c.greatest-self-inside.ensures;
      taken = refl;
      faults = refl;
    } in
    λ text. subst (λ (v : LaneView g.row.S.Denot g.row.L.Denot). Takes v.state (lesser c.args.mark (low (setting_of g.L.LineReader.read_of text v) v.state)) c.in-Ok.items new) c.self.view_is
    (subst (λ (m : Mark). Takes old m c.in-Ok.items new) bound did)

pub returns-in-Ok-clause-keeps : goal.returns-in-Ok-clause-keeps
returns-in-Ok-clause-keeps g c =
    let new : LaneView g.row.S.Denot g.row.L.Denot = record { source = c.self.inside.source; reader = c.self.inside.reader; shard = c.self.inside.shard; slack = c.take_below.new.self.slack; buffer = c.self.inside.buffer; places = c.self.inside.places; state = record { cut = cut_with c.self.inside.buffer.digest c.take_below.new.self; taken = c.self.inside.taken; given = c.greatest-self-inside.result; faults = g.S.Source.fault_count c.self.inside.source } } in
    subst (λ (v : LaneView g.row.S.Denot g.row.L.Denot). (text : Option (List ℕ)) → IsTextOf g.S.Source.left text v → IsTextOf g.S.Source.left text new) c.self.view_is
    (λ text told. tells text (g.S.Source.left c.self.inside.source) c.self.inside.buffer (cut_with c.self.inside.buffer.digest c.take_below.new.self) c.self.inside.taken
    (kept_lane text (g.S.Source.left c.self.inside.source) c.self.inside.buffer c.self.inside.kept c.take_below.new.self c.self.inside.taken c.least-bound.result
    (of_text text (g.S.Source.left c.self.inside.source) c.self.inside.buffer (cut_with c.self.inside.buffer.digest c.self.inside.kept) c.self.inside.taken c.self.invariant told) (c.in-Ok.ensures {u = tt}).kept))
