use Rattle.eql_lines.proofs.EventTimes.{read_in_time}
use Rattle.eql_lines.proofs.laws.events_are_in_time.Goals as goal

pub returns : goal.returns
returns c = read_in_time
