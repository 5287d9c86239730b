use Rattle.std.proofs.Common.{◌∙◌}
use Rattle.eql_merge.proofs.groups.merge_all.Goals as goal

pub loop-first-preserved : goal.loop-first-preserved
loop-first-preserved g c = record {
  ascend = c.in_ok-lists.ensures.ascend;
  apart = c.in_ok-lists.ensures.apart;
  firsts = λ test one. c.loop-first.invariant.firsts test one ∙ c.in_ok-lists.ensures.all test one;
}
