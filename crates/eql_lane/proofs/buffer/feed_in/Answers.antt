use Rattle.eql_lane.proofs.Feeds.{found_if, found_none}
use Rattle.eql_lane.proofs.buffer.feed_in.Goals as goal

pub returns-clause-found : goal.returns-clause-found
returns-clause-found c = found_if c.memchr.result c.args.bytes.now c.memchr.ensures

pub returns-clause-none : goal.returns-clause-none
returns-clause-none c = found_none c.memchr.result c.args.bytes.now c.memchr.ensures
