use Rattle.eql_part.proofs.Indexing.{place_noted}
use Rattle.eql_part.proofs.index.put_in.Goals as goal

pub returns-in-Some-clause-noted : goal.returns-in-Some-clause-noted
returns-in-Some-clause-noted c = λ _. place_noted c.args.bucket.now c.in-Some.at c.args.hash c.args.place (c.in-Some.ensures {u = tt}) c.requires
