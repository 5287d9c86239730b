use Rattle.eql_lane.proofs.Digesting.{added}
use Rattle.eql_lane.proofs.buffer.digest_with.Goals as goal

pub returns-clause-digest : goal.returns-clause-digest
returns-clause-digest c = added c.args.digest c.add.new.self c.requires.0 c.args.bytes.now c.requires.1 (c.add.ensures c.requires.0 c.requires.1)
