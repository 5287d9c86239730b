use Rattle.std.proofs.Common.{rules}
use Rattle.eql_stages.proofs.reader.PlanReaderLineReader.read.Goals as goal

pub returns-in_ok-routes-in-Event-clause-got : goal.returns-in_ok-routes-in-Event-clause-got
returns-in_ok-routes-in-Event-clause-got c = search rules
