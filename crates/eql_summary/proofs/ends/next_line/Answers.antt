use Rattle.eql_summary.proofs.LineLemmas.{next_found, next_none}
use Rattle.eql_summary.proofs.ends.next_line.Goals as goal

pub returns-in-Some-clause-lines : goal.returns-in-Some-clause-lines
returns-in-Some-clause-lines c = next_found c.memchr.result c.in-Some.end c.args.text.now c.memchr.ensures c.in-Some.is

pub returns-in-None-clause-lines : goal.returns-in-None-clause-lines
returns-in-None-clause-lines c = next_none c.memchr.result c.args.text.now c.is_empty.result c.memchr.ensures c.in-None.is c.is_empty.ensures c.if-is_empty.false
