use Rattle.eql_text.proofs.Splitting.{cuts}
use Rattle.eql_text.proofs.addresses.split_once_at.Goals as goal

pub returns : goal.returns
returns c = cuts c.args.separator c.args.text.now c.split_once.result c.requires c.utf8.text c.split_once.ensures.cases
