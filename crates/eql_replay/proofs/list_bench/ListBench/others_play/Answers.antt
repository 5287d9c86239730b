use Rattle.std.proofs.Common.{◌<◌, ◌≤◌, ◌+◌, List, length, refl, sym, ap, arith, rules, subst}
use Rattle.eql_conductor.specs.Benches.{WasNotPlayed}
use Rattle.eql_conductor.specs.declared.bench.NotPlayed.TheVariants.{Memory}
use Rattle.eql_replay.specs.declared.foreign.Foreign.{Foreign}
use Rattle.eql_replay.specs.Listed.{BenchView, bench_known}
use Rattle.eql_replay.specs.Opened.{list_at}
use Rattle.eql_replay.specs.Pools.{ForeignsPlay}
use Rattle.eql_replay.proofs.Keeps.{others_keep, list_is, list_past}
use Rattle.eql_replay.proofs.Others.{others_alone}
use Rattle.eql_replay.proofs.list_bench.ListBench.others_play.Goals as goal

pub invariant_of-self : goal.invariant_of-self
invariant_of-self g c =
    let old = c.self.inside in
    let before = c.if-self-len.true in let count = c.len.ensures in
    let inside : old.calls < length old.plays.items = search rules in
    let few : old.calls + 1 ≤ length g.T.Opening.plays = let e = ap length c.self.invariant.1 in omega (arith, inside, e) in
    let list = list_is g.T.Opening.plays old.plays.items old.calls c.index.result.now c.self.invariant.1 inside c.index.ensures in (
      others_keep g.S.Source.left g.S.Source.lent_as g.S.Source.fault_plan g.L.LineReader.read_of g.T.Opening.lanes g.T.Opening.text g.T.Opening.plays
          (record { pool = old.pool; calls = old.calls; notes = old.notes }) c.play_all.new.self (old.calls + 1) c.self.invariant.0 few
          (rw list c.play_all.ensures),
      c.self.invariant.1,
    )

pub returns-then-self-len-clause-others : goal.returns-then-self-len-clause-others
returns-then-self-len-clause-others g c =
    let old = c.self.inside in
    let before = c.if-self-len.true in let count = c.len.ensures in
    let inside : old.calls < length old.plays.items = search rules in
    let list = list_is g.T.Opening.plays old.plays.items old.calls c.index.result.now c.self.invariant.1 inside c.index.ensures in
    subst (λ (b : BenchView _ _). ForeignsPlay g.S.Source.left g.S.Source.lent_as g.S.Source.fault_plan g.L.LineReader.read_of (list_at g.T.Opening.plays b.calls) b.pool c.play_all.new.self) c.self.view_is
    (rw list c.play_all.ensures)

pub returns-then-self-len-clause-alone : goal.returns-then-self-len-clause-alone
returns-then-self-len-clause-alone g c =
    let old = c.self.inside in
    subst (λ (b : BenchView _ _). WasNotPlayed Memory (bench_known g.L.LineReader.read_of g.T.Opening.text b) (bench_known g.L.LineReader.read_of g.T.Opening.text (record { pool = c.play_all.new.self; calls = old.calls + 1; notes = old.notes }))) c.self.view_is
    (others_alone g.S.Source.left g.S.Source.lent_as g.S.Source.fault_plan g.L.LineReader.read_of g.T.Opening.text old.notes c.index.result.now old.pool c.play_all.new.self
    c.self.invariant.0.texts c.play_all.ensures)

pub returns-else-self-len-clause-others : goal.returns-else-self-len-clause-others
returns-else-self-len-clause-others g c =
    let old = c.self.inside in
    let past = c.if-self-len.false in let count = c.len.ensures in
    let behind : length old.plays.items ≤ old.calls = search rules in
    let list = list_past g.T.Opening.plays old.plays.items old.calls c.self.invariant.1 behind in
    subst (λ (b : BenchView _ _). ForeignsPlay g.S.Source.left g.S.Source.lent_as g.S.Source.fault_plan g.L.LineReader.read_of (list_at g.T.Opening.plays b.calls) b.pool b.pool) c.self.view_is
    (subst (λ (fs : List Foreign). ForeignsPlay g.S.Source.left g.S.Source.lent_as g.S.Source.fault_plan g.L.LineReader.read_of fs old.pool old.pool) (sym list) refl)
