use Rattle.std.proofs.Common.{◌≡◌, true, drop, [], List, ℕ, Option, subst}
use Rattle.std.specs.Prelude.{IfSome}
use Rattle.eql_lane.specs.Judging.{cut_with}
use Rattle.eql_lane.specs.Views.{LaneView, IsTextOf, setting_of}
use Rattle.eql_lane.specs.Lanes.{IsState}
use Rattle.eql_lane.proofs.Stepping.{is_state, ended_text, of_text}
use Rattle.eql_lane.proofs.lane.Lane.stands.Goals as goal

pub returns-clause-state : goal.returns-clause-state
returns-clause-state g c = subst (λ (v : LaneView g.row.S.Denot g.row.L.Denot). (text : Option (List ℕ)) → IsTextOf g.S.Source.left text v → IsState (setting_of g.L.LineReader.read_of text v) v.state) c.self.view_is
    (λ text told. is_state text (g.S.Source.left c.self.inside.source) c.self.inside.buffer c.self.inside.kept c.self.inside.taken c.self.inside.shard (g.L.LineReader.read_of c.self.inside.reader)
    (of_text text (g.S.Source.left c.self.inside.source) c.self.inside.buffer (cut_with c.self.inside.buffer.digest c.self.inside.kept) c.self.inside.taken c.self.invariant told) c.self.inside.given (g.S.Source.fault_count c.self.inside.source))

pub returns-clause-ended : goal.returns-clause-ended
returns-clause-ended g c = subst (λ (v : LaneView g.row.S.Denot g.row.L.Denot). (text : Option (List ℕ)) → IsTextOf g.S.Source.left text v → v.state.cut.closed ≡ true → IfSome text (λ t. drop v.state.cut.offset t ≡ [])) c.self.view_is
    (λ text told. ended_text text (g.S.Source.left c.self.inside.source) c.self.inside.buffer (cut_with c.self.inside.buffer.digest c.self.inside.kept) c.self.inside.taken
    (of_text text (g.S.Source.left c.self.inside.source) c.self.inside.buffer (cut_with c.self.inside.buffer.digest c.self.inside.kept) c.self.inside.taken c.self.invariant told))
