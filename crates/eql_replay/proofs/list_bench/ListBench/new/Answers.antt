use Rattle.eql_replay.proofs.Keeps.{begins}
use Rattle.eql_replay.proofs.list_bench.ListBench.new.Goals as goal

pub invariant_of-result : goal.invariant_of-result
invariant_of-result g c = (
  begins g.S.Source.left g.S.Source.lent_as g.S.Source.fault_plan g.L.LineReader.read_of g.T.Opening.lanes g.T.Opening.text g.T.Opening.plays
      c.args.lanes.items c.args.parts.items c.args.plays.items c.new.result c.new-2.result
      c.new.ensures c.new-2.ensures c.requires.opening.0 c.requires.opening.1 c.requires.few_lanes c.requires.few_parts c.requires.fit c.requires.texts,
  c.requires.opening.1,
)
