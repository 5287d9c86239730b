-- The nodes of a store: where each lies, and what lies there.
use Rattle.std.specs.Prelude.{◌≡◌, Bool, true, false, ◌&&◌, ◌==◌, cond, List, [], ◌∷◌, ◌++◌, map}
use Rattle.std.specs.List.{IsDistinct, IsDistinct-prop}
use denote.RawPtr.{Ptr, block_ptr, null_ptr}
use Rattle.eql_span_list.specs.declared.node.Node.{Node}

-- whether two pointers are the same: one block and one offset in it, or null
abbrev pub same_pointer : Ptr → Ptr → Bool
same_pointer (block_ptr b o) (block_ptr c p) = (b == c) && (o == p)
same_pointer (block_ptr b o) null_ptr = false
same_pointer null_ptr (block_ptr c p) = false
same_pointer null_ptr null_ptr = true

-- no place comes twice
abbrev pub IsApart : List Ptr → Type 0
IsApart = IsDistinct same_pointer

pub IsApart-prop : (ps : List Ptr) → IsProp (IsApart ps)
IsApart-prop = IsDistinct-prop same_pointer

-- a node and its place
pub record PlacedNode (T : Type 0) : Type 0 where
  pub place : Ptr
  pub node : Node T

module _ {T : Type 0} where
  abbrev pub placed_node : Ptr → Node T → PlacedNode T
  placed_node p n = record { place = p; node = n }

  -- where the nodes lie, in order
  abbrev pub places : List (PlacedNode T) → List Ptr
  places = map (λ n. n.place)

  -- a node lies at p
  abbrev pub HasNodeAt : List (PlacedNode T) → Ptr → Type 0
  HasNodeAt ns p = (xs : List (PlacedNode T)) × (n : PlacedNode T) × (ys : List (PlacedNode T)) × (ns ≡ xs ++ n ∷ ys) × (n.place ≡ p)

  -- P holds of the node at p, with the nodes in front of it and those behind it
  abbrev pub HoldsAtNode : List (PlacedNode T) → Ptr → (List (PlacedNode T) → PlacedNode T → List (PlacedNode T) → Type 0) → Type 0
  HoldsAtNode ns p P = (xs : List (PlacedNode T)) (n : PlacedNode T) (ys : List (PlacedNode T)) → ns ≡ xs ++ n ∷ ys → n.place ≡ p → P xs n ys

  -- the nodes, with f of the one at p in its place
  unfoldable pub edit_at : Ptr → (Node T → Node T) → List (PlacedNode T) → List (PlacedNode T)
  edit_at p f = map (λ n. placed_node n.place (cond (same_pointer n.place p) (f n.node) n.node))

  -- an edit moves no node
  pub places-edit_at : (p : Ptr) (f : Node T → Node T) (ns : List (PlacedNode T)) → places (edit_at p f ns) ≡ places ns
  unfolding edit_at
  places-edit_at p f [] = λ i. []
  places-edit_at p f (n ∷ ns) = λ i. n.place ∷ places-edit_at p f ns i

  -- the nodes, with w as the one at p
  abbrev pub with_node : Ptr → Node T → List (PlacedNode T) → List (PlacedNode T)
  with_node p w = edit_at p (λ _. w)
