-- What a caller sees of a list: its entries, each a ticket and the value that it names, first to last.
use Rattle.std.specs.Prelude.{◌≡◌, ◌≢◌, List, ◌∷◌, ◌++◌}
use Rattle.eql_span_list.specs.declared.node.Ticket.{Ticket}

module _ {T : Type 0} where
  -- the ticket names the value
  abbrev pub Names : List (Ticket × T) → Ticket → T → Type 0
  Names l t x = (xs : List (Ticket × T)) × (ys : List (Ticket × T)) × (l ≡ xs ++ (t, x) ∷ ys)

  -- the ticket is in the list
  abbrev pub HasTicket : List (Ticket × T) → Ticket → Type 0
  HasTicket l t = (x : T) × Names l t x

  -- P holds of the value that t names, with the entries in front of it and those behind it
  abbrev pub HoldsAtTicket : List (Ticket × T) → Ticket → (List (Ticket × T) → T → List (Ticket × T) → Type 0) → Type 0
  HoldsAtTicket l t P = (xs : List (Ticket × T)) (x : T) (ys : List (Ticket × T)) → l ≡ xs ++ (t, x) ∷ ys → P xs x ys

  -- no entry has the ticket
  abbrev pub IsAbsent : List (Ticket × T) → Ticket → Type 0
  IsAbsent l t = HoldsAtTicket l t (λ _ _ _. ⊥)

  -- each ticket stands once: no other entry has it
  abbrev pub HasDistinctTickets : List (Ticket × T) → Type 0
  HasDistinctTickets l = (t : Ticket) → HoldsAtTicket l t (λ xs _ ys. IsAbsent (xs ++ ys) t)

  -- every ticket of the old list but t names in the new one what it named
  abbrev pub KeepsOthers : List (Ticket × T) → List (Ticket × T) → Ticket → Type 0
  KeepsOthers old new t = (u : Ticket) (x : T) → u ≢ t → Names old u x → Names new u x

  -- the list begins with the value
  abbrev pub HasFirst : List (Ticket × T) → T → Type 0
  HasFirst l x = (t : Ticket) × (ys : List (Ticket × T)) × (l ≡ (t, x) ∷ ys)

  -- the new list is the old one but for its first entry, whose value is x
  abbrev pub PopsFirst : List (Ticket × T) → List (Ticket × T) → T → Type 0
  PopsFirst old new x = (t : Ticket) × (old ≡ (t, x) ∷ new)
