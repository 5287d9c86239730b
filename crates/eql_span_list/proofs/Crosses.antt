-- A store crosses threads where its values do: it owns nothing but its nodes, and their blocks may be freed anywhere.
use Rattle.std.specs.Prelude.{List, [], ◌∷◌}
use mir.Raw.{raw}
use base.Shift.{Keyless}
use denote.RattleType.{RattleType}
use denote.Memory.{lone}
use denote.Struct.Struct.{exits_of}
use denote.Struct.Owning.{shape, fields, to}
use denote.Param.Send.{IsSend, IsSync, Common, AllSend, owning_send, struct_send, struct_sync, sendable}
use Rattle.std.proofs.Crossing.{frees as crossing}
use Rattle.std_alloc.proofs.SendSync.{quiet, lies, seen}
use Rattle.eql_span_list.specs.PlacedNode.{PlacedNode}
use Rattle.eql_span_list.specs.Ownership.{heap, nodes_own, nodes_lent}
use Rattle.eql_span_list.specs.contracts.node.Node.{the_row as node_row}
use Rattle.eql_span_list.proofs.node.Node.TheSendSync.{the_send, the_sync}
use Rattle.eql_span_list.specs.contracts.store.NodeStore as store

module _ (T : RattleType) where
  owns-Keyless : IsSend T → (ns : List (PlacedNode T.Denot)) → Keyless (nodes_own T ns)
  owns-Keyless s [] = tt
  owns-Keyless s (n ∷ ns) = ((lies (node_row T) (the_send T s) n.place n.node, crossing.frees heap (raw (lone (node_row T).mir)) n.place), owns-Keyless s ns)

  lent-Common : IsSync T → (ns : List (PlacedNode T.Denot)) → Common (nodes_lent T ns)
  lent-Common y [] κ = tt
  lent-Common y (n ∷ ns) κ = (seen (node_row T) (the_sync T y) n.place n.node κ, lent-Common y ns κ)

  pub NodeStore-send : IsSend T → IsSend (store.the_row T)
  NodeStore-send s =
      let O = store.the_type T in let all : AllSend (fields O) = (search sendable, tt) in
      owning_send O all (λ d. owns-Keyless s d.nodes) (λ k. quiet (to O) (exits_of k (fields O)) ((struct_send (shape O) all).leaving k))

  pub NodeStore-sync : IsSync T → IsSync (store.the_row T)
  NodeStore-sync y = let O = store.the_type T in record {
    shared = λ d b o κ. ((struct_sync (shape O) (search sendable, tt)).shared (to O d) b o κ, lent-Common y d.nodes κ);
  }
