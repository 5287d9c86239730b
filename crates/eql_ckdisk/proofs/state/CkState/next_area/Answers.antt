use Rattle.std.proofs.Common.{rules}
use Rattle.eql_ckdisk.proofs.state.CkState.next_area.Goals as goal

pub returns-in-A : goal.returns-in-A
returns-in-A c = search rules
