use Rattle.eql_resume.proofs.Begun.{rest_bare}
use Rattle.eql_resume.proofs.beginning.begin_lifted.Goals as goal

pub invariant_of-result : goal.invariant_of-result
invariant_of-result c = ((λ is. rest_bare c.args.cut c.requires.unplaced), tt)
