use Rattle.eql_ckdisk.proofs.RunLemmas.{go_on}
use Rattle.eql_ckdisk.proofs.laws.puts_go_on.Goals as goal

pub returns : goal.returns
returns c = go_on c.crashes_leave_images.ensures.images
