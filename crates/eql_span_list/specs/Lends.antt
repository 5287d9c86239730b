-- What a store ends as, once a `&mut` to one of its nodes has ended.
use Rattle.std.specs.Borrow.{Fml, RattleType, MutBor, Lends}
use mathlib.Core.Path.{sym, subst}
use denote.RawPtr.{Ptr}
use Rattle.eql_span_list.specs.PlacedNode.{IsApart, with_node, places-edit_at}
use Rattle.eql_span_list.specs.declared.node.Node.{Node}
use Rattle.eql_span_list.specs.declared.store.NodeStore.{NodeStore}
use Rattle.eql_span_list.specs.contracts.node.Node.{the_row as node_row}
use Rattle.eql_span_list.specs.contracts.store.NodeStore.{the_row}

-- the same store with w as the node at p
abbrev pub with_at : {T : Type 0} → NodeStore T → Ptr → Node T → NodeStore T
with_at b p w = record { marker = b.marker; nodes = with_node p w b.nodes; apart = subst IsApart (sym (places-edit_at p (λ _. w) b.nodes)) b.apart }

-- once r has ended, the store is the one that was borrowed with the last value of r as the node at p
abbrev pub lends_node : (T : RattleType) → MutBor (NodeStore T.Denot) → Ptr → MutBor (Node T.Denot) → Fml
lends_node T b p r = Lends (the_row T) (node_row T) b r (with_at b.now p)
