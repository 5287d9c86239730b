use Rattle.eql_cut.specs.Placing.{orders_in}
use Rattle.eql_cut.proofs.Setting.{each_named}
use Rattle.eql_cut.proofs.placed_laws.events_are_named.Goals as goal

pub returns : goal.returns
returns c = λ cut. each_named (orders_in cut)
