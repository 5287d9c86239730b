use Rattle.std.proofs.Common.{◌∙◌}
use Rattle.eql_text.proofs.Characters.{is_empty_chars}
use Rattle.eql_text.proofs.walk.ended.Goals as goal

pub returns : goal.returns
returns c = c.is_empty.ensures ∙ is_empty_chars c.args.text.now c.utf8.text
