use Rattle.eql_parser.proofs.Parsed.{query_or_refused as law}
use Rattle.eql_parser.proofs.laws.query_or_refused.Goals as goal

pub returns : goal.returns
returns c = law
