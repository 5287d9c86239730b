-- A `&` to a store reaches each node. Assumes `Logic`.
use mathlib.Core.List.{[], ◌++◌}
use contract.BorrowLft.{meet_⊑_left, ⊑_meet}
use denote.RattleType.{RattleType}
use denote.RawPtr.{RawPtr}
use denote.Param.Laws.{Laws}
use denote.Param.Shared.{copy_shared}
use denote.Struct.Laws.{field_copy}
use denote.Struct.Lending.{of_Lends}
use Rattle.core.specs.contracts.marker.PhantomData as marker
use Rattle.eql_span_list.specs.contracts.store.NodeStore as C
use Rattle.eql_span_list.proofs.store.NodeStore.TheLaw.Statement.{statement}
use Rattle.eql_span_list.proofs.Sharing.{nodes_lent_laws, Lends-nodes}

pub shares : (T : RattleType) (L : Laws T) → statement T L
shares T L = of_Lends (C.struct T) (C.the_codes T.Denot T.coded (marker.the_row RawPtr).coded) (C.the_heap T) (C.the_lent T)
    (λ d p. nodes_lent_laws T L d.nodes) (copy_shared (marker.the_field RawPtr) (field_copy (marker.the_type RawPtr) tt), tt)
    (λ M 𝓤 𝓛 d p. Lends-nodes T L 𝓛 (C.the_row T).lives (⊑_meet (C.the_row T).lives (T.lives ++ []) (T.lives ++ []) (meet_⊑_left (T.lives ++ []) []) (meet_⊑_left (T.lives ++ []) [])) d.nodes)
