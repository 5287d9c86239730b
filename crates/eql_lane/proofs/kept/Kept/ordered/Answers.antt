use Rattle.std.proofs.Common.{◌≡◌, subst, sym}
use Rattle.eql_lane.specs.Judging.{KeptView}
use Rattle.eql_values.specs.Accepted.{sorted_items}
use Rattle.eql_lane.proofs.HeldLemmas.{sorted_whole}
use Rattle.eql_lane.proofs.kept.Kept.ordered.Goals as goal

pub returns : goal.returns
returns c = subst (λ (k : KeptView). sorted_items k.items ≡ k.items) c.self.view_is (sym (sorted_whole c.self.inside.held c.ordered.ensures))
