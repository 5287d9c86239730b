use Rattle.eql_text.proofs.Splitting.{cut_is}
use Rattle.eql_text.proofs.pattern.cut.Goals as goal

pub returns : goal.returns
returns c = cut_is c.args.at c.args.text.now c.split_once.result c.requires c.utf8.text c.split_once.ensures.cases
