use Rattle.eql_cut.proofs.HavePlaces.{named_were_read}
use Rattle.eql_cut.proofs.placed_laws.named_lines_were_read.Goals as goal

pub returns : goal.returns
returns c = named_were_read c.events_and_keys_stay.ensures.events c.pipes_go_on.ensures.kept c.late.ensures.of_all
