-- How the nodes of a list point to one another.
use Rattle.std.specs.Prelude.{◌≡◌, List, [], ◌∷◌, map}
use Rattle.std.specs.declared.option.Option.{Option}
use Rattle.std.specs.declared.option.Option.TheVariants.{None, Some}
use Rattle.eql_span_list.specs.declared.node.Ticket.{Ticket}
use Rattle.eql_span_list.specs.PlacedNode.{PlacedNode, HasNodeAt, edit_at}

module _ {T : Type 0} where
  -- the ticket that names a node
  abbrev pub ticket_of : PlacedNode T → Ticket
  ticket_of n = record { pointer = n.place }

  -- what contracts see of the nodes
  abbrev pub entries : List (PlacedNode T) → List (Ticket × T)
  entries = map (λ n. (ticket_of n, n.node.value))

  -- the nodes follow b and go before a, each names its neighbours, and they begin with f and end with e
  abbrev pub IsRun : Option Ticket → List (PlacedNode T) → Option Ticket → Option Ticket → Option Ticket → Type 0
  IsRun b [] f e a = (f ≡ a) × (e ≡ b)
  IsRun b (n ∷ ns) f e a = (f ≡ Some (ticket_of n)) × (n.node.previous ≡ b) × IsRun (Some (ticket_of n)) ns n.node.next e a

  -- the nodes are a whole list, whose first is f and whose last is e
  abbrev pub IsChain : List (PlacedNode T) → Option Ticket → Option Ticket → Type 0
  IsChain ns f e = IsRun None ns f e None

  -- the ticket, where there is one, names a node
  abbrev pub NamesNode : List (PlacedNode T) → Option Ticket → Type 0
  NamesNode ns None = Unit {0}
  NamesNode ns (Some t) = HasNodeAt ns t.pointer

  -- the nodes, with a as what follows the one that is named
  abbrev pub next_set : Option Ticket → Option Ticket → List (PlacedNode T) → List (PlacedNode T)
  next_set None a ns = ns
  next_set (Some t) a ns = edit_at t.pointer (λ n. record n { next = a }) ns

  -- the nodes, with b as what goes before the one that is named
  abbrev pub previous_set : Option Ticket → Option Ticket → List (PlacedNode T) → List (PlacedNode T)
  previous_set None b ns = ns
  previous_set (Some t) b ns = edit_at t.pointer (λ n. record n { previous = b }) ns

-- an end of the list: a, where no node stands beyond it, and else e as it was
abbrev pub end_set : Option Ticket → Option Ticket → Option Ticket → Option Ticket
end_set None a e = a
end_set (Some t) a e = e
