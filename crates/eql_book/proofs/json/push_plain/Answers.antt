use Rattle.std.proofs.Common.{◌∙◌}
use Rattle.eql_book.proofs.JsonLemmas.{whole_stays}
use Rattle.eql_book.proofs.json.push_plain.Goals as goal

pub returns : goal.returns
returns c = c.in_ok-push_str.ensures.bytes ∙ whole_stays _ c.args.text.now c.utf8.text c.requires
