-- What a store owns, and what a `&` to it lends, for values of the type whose row is T.
use Rattle.std.specs.Prelude.{List, [], ◌∷◌}
use mir.Syntax.{Ty}
use base.Fml.{Lft, Fml, ftrue, fsep}
use denote.RawPtr.{Ptr}
use denote.RattleType.{RattleType}
use denote.Sharing.{nothing, beside}
use denote.Struct.Lending.{lent_at}
use Rattle.std_heap.specs.declared.Global.{Global}
use Rattle.std_heap.specs.contracts.GlobalAllocator.TheImpl.{ghosts}
use Rattle.std_alloc.specs.Box.Ownership.{box_owns}
use Rattle.eql_span_list.specs.PlacedNode.{PlacedNode}
use Rattle.eql_span_list.specs.contracts.node.Node.{the_row as node_row}

-- all handles of the heap are this one
abbrev pub heap : Global
heap = record { memory = record { seal = tt } }

-- the right to free a block
abbrev pub frees : Ty → Ptr → Fml
frees = ghosts.dealloc_token heap

module _ (T : RattleType) where
  -- a node owns what lies in its block, and the right to free the block
  abbrev pub node_owns : PlacedNode T.Denot → Fml
  node_owns n = box_owns frees (node_row T) n.place n.node

  -- the nodes own each their own
  abbrev pub nodes_own : List (PlacedNode T.Denot) → Fml
  nodes_own [] = ftrue
  nodes_own (n ∷ ns) = fsep (node_owns n) (nodes_own ns)

  -- through a `&`, each node is lent as long as the borrow lasts
  abbrev pub nodes_lent : List (PlacedNode T.Denot) → Lft → Fml
  nodes_lent [] = nothing
  nodes_lent (n ∷ ns) = beside (lent_at (node_row T) n.place n.node) (nodes_lent ns)
