-- From a borrow of a store comes a `&` to each of its nodes. Assumes `Logic`.
use mathlib.Core.List.{List, [], ◌∷◌}
use mir.Raw.{raw}
use seplogic.Ra.Ura.{Ura}
use base.Fml.{Lft, ftrue, Incl}
use base.Fraction.{full_share}
use types.Logic.{Logic}
use denote.RattleType.{RattleType}
use denote.Memory.{lone}
use denote.Param.Laws.{Laws}
use denote.RawPtr.{lies_at}
use denote.Sharing.{ShrLaws}
use denote.SharingLaws.{beside_shr_laws, nothing_shr_laws}
use denote.Shares.{Shares-less}
use denote.Struct.Lending.{Lends, lent_at, lent_at_shr_laws, Lends-lies, Lends-first, Lends-both, Lends-nothing}
use Rattle.eql_span_list.specs.PlacedNode.{PlacedNode}
use Rattle.eql_span_list.specs.Ownership.{frees, node_owns, nodes_own, nodes_lent}
use Rattle.eql_span_list.specs.contracts.node.Node.{the_row as node_row}
use Rattle.eql_span_list.proofs.node.Node.TheLaws.{the_row_laws as node_laws}

module _ (T : RattleType) (L : Laws T) where
  abbrev N : RattleType
  N = node_row T

  pub nodes_lent_laws : (ns : List (PlacedNode T.Denot)) → ShrLaws (nodes_lent T ns)
  nodes_lent_laws [] = nothing_shr_laws
  nodes_lent_laws (n ∷ ns) = beside_shr_laws _ _ (lent_at_shr_laws N (node_laws T L).shr_laws n.place n.node) (nodes_lent_laws ns)

  module _ {M : Type 1} {𝓤 : Ura M} (𝓛 : Logic 𝓤) (l : Lft) (inc : Incl l N.lives) where
    pub Lends-nodes : (ns : List (PlacedNode T.Denot)) → Lends 𝓛 (nodes_own T ns) (nodes_lent T ns) l
    Lends-nodes [] = Lends-nothing 𝓛 ftrue l
    Lends-nodes (n ∷ ns) =
        Lends-both 𝓛 (node_owns T n) (nodes_own T ns) (lent_at N n.place n.node) (nodes_lent T ns) l
        (Lends-first 𝓛 (lies_at N full_share n.place n.node) (frees (raw (lone N.mir)) n.place) (lent_at N n.place n.node) l
        (Lends-lies 𝓛 N l n.place n.node (Shares-less 𝓛 N N.lives l inc ((node_laws T L).shares 𝓛) n.node)))
        (Lends-nodes ns)
