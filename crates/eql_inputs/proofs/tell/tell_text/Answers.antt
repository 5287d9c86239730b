use Rattle.eql_inputs.proofs.ToldLemmas.{wrote_front}
use Rattle.eql_inputs.proofs.tell.tell_text.Goals as goal

pub returns-clause-told : goal.returns-clause-told
returns-clause-told g c = wrote_front _ _ _ _ c.write.ensures.ok c.write.ensures.prefix
