use Rattle.std.proofs.Common.{IfErr, IfOk, subst}
use Rattle.eql_conductor.specs.Benches.{PartPlays, WasNotPlayed}
use Rattle.eql_lock_row.specs.Rows.{ChangesAt}
use Rattle.eql_hub.specs.Hands.{HandView, HubView, IsHandOf}
use Rattle.eql_hub.specs.Turns.{IsPartTurn, is_open_part}
use Rattle.eql_lock_bench.specs.Locked.{Answers, known_by}
use Rattle.eql_lock_bench.proofs.PartRuns.{part_says}
use Rattle.eql_lock_bench.proofs.Keeps.{part_keeps}
use Rattle.eql_lock_bench.proofs.Placed.{changes_answered, never_busy}
use Rattle.eql_lock_bench.proofs.bench.LockBenchBench.part.Goals as goal

pub told-requires : goal.told-requires
told-requires g c =
    let changed = c.call_part-answer.ensures.played in
    never_busy IsPartTurn is_open_part c.args.op c.call_part-answer.result changed.before changed.after changed.changes.0

pub invariant_of-self : goal.invariant_of-self
invariant_of-self g c =
    let call = c.call_part-answer in
    let hub_is = c.self.invariant.0 in (
      hub_is,
      part_keeps g.S.Source.left g.S.Source.lent_as g.S.Source.fault_plan g.L.LineReader.read_of g.T.LockOpening.text
          g.T.LockOpening.hub g.T.LockOpening.hand c.self.inside.hand call.new.hand (subst (λ (hub : HubView). IsHandOf hub call.new.hand) hub_is call.ensures.own) c.self.invariant.1
          c.args.p c.args.op call.result call.ensures.played call.ensures.lanes,
    )

pub returns-clause-played : goal.returns-clause-played
returns-clause-played g c =
    let call = c.call_part-answer in
    let says = part_says g.S.Source.left g.S.Source.lent_as g.S.Source.fault_plan g.L.LineReader.read_of g.T.LockOpening.text
    c.args.p c.args.op c.self.inside.hand call.new.hand call.ensures.lanes c.self.invariant.1.first.parts call.result c.told.result c.told.ensures call.ensures.played in
    subst (λ (hand : HandView _ _). IfOk c.told.result (λ reply. PartPlays c.args.p c.args.op reply (known_by g.S.Source.left g.S.Source.lent_as g.S.Source.fault_plan g.L.LineReader.read_of g.T.LockOpening.text hand) (known_by g.S.Source.left g.S.Source.lent_as g.S.Source.fault_plan g.L.LineReader.read_of g.T.LockOpening.text call.new.hand)))
    c.self.view_is says.played

pub returns-clause-not_played : goal.returns-clause-not_played
returns-clause-not_played g c =
    let call = c.call_part-answer in
    let says = part_says g.S.Source.left g.S.Source.lent_as g.S.Source.fault_plan g.L.LineReader.read_of g.T.LockOpening.text
    c.args.p c.args.op c.self.inside.hand call.new.hand call.ensures.lanes c.self.invariant.1.first.parts call.result c.told.result c.told.ensures call.ensures.played in
    subst (λ (hand : HandView _ _). IfErr c.told.result (λ by. WasNotPlayed by (known_by g.S.Source.left g.S.Source.lent_as g.S.Source.fault_plan g.L.LineReader.read_of g.T.LockOpening.text hand) (known_by g.S.Source.left g.S.Source.lent_as g.S.Source.fault_plan g.L.LineReader.read_of g.T.LockOpening.text call.new.hand)))
    c.self.view_is says.not_played

pub returns-clause-call : goal.returns-clause-call
returns-clause-call g c =
    let call = c.call_part-answer in
    subst (λ (hand : HandView _ _). ChangesAt c.args.p (Answers IsPartTurn is_open_part c.args.op c.told.result) hand.parts.views call.new.hand.parts.views) c.self.view_is
    (changes_answered IsPartTurn is_open_part c.args.op call.result c.told.result c.args.p c.self.inside.hand.parts.views call.new.hand.parts.views c.told.ensures call.ensures.played)
