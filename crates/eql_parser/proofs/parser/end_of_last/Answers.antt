use Rattle.std.proofs.Common.{sym}
use Rattle.eql_parser.proofs.Parsed.{end_from_start}
use Rattle.eql_parser.proofs.parser.end_of_last.Goals as goal

pub loop-rest-init : goal.loop-rest-init
loop-rest-init c = sym (end_from_start c.args.tokens.now)
