use denote.RattleType.{RattleType}
use denote.Param.Send.{IsSend}
use Rattle.eql_span_list.specs.contracts.store.NodeStore.{the_row}
use Rattle.eql_span_list.proofs.Crosses.{NodeStore-send}

pub send : (T : RattleType) → IsSend T → IsSend (the_row T)
send = NodeStore-send
