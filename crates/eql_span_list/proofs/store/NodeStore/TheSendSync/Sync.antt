use denote.RattleType.{RattleType}
use denote.Param.Send.{IsSync}
use Rattle.eql_span_list.specs.contracts.store.NodeStore.{the_row}
use Rattle.eql_span_list.proofs.Crosses.{NodeStore-sync}

pub sync : (T : RattleType) → IsSync T → IsSync (the_row T)
sync = NodeStore-sync
