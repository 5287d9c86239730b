-- What the entries of a list tell of its nodes, and the nodes of the entries.
use Rattle.std.proofs.Common.{◌≡◌, List, [], ◌∷◌, ◌++◌, refl, sym, ap, ◌∙◌, subst}
use Rattle.std.specs.declared.option.Option.{Option}
use Rattle.std.specs.declared.option.Option.TheVariants.{None, Some}
use Rattle.eql_span_list.specs.declared.node.Node.{Node}
use Rattle.eql_span_list.specs.declared.node.Ticket.{Ticket}
use Rattle.eql_span_list.specs.PlacedNode.{PlacedNode, places, IsApart, HasNodeAt, HoldsAtNode}
use Rattle.eql_span_list.specs.Entries.{HasTicket, IsAbsent, KeepsOthers, HasDistinctTickets}
use Rattle.eql_span_list.specs.Chain.{ticket_of, entries, IsChain}
use Rattle.eql_span_list.proofs.Cuts.{cons_parts, nil_ne_cut, cut_other}
use Rattle.eql_span_list.proofs.Apart.{IsFresh, not_fresh, apart_fresh}
use Rattle.eql_span_list.proofs.Relinked.{Taken, taken, entries-append}

-- tickets that are equal point to one place
abbrev pointers : {s t : Ticket} → s ≡ t → s.pointer ≡ t.pointer
pointers e = ap (λ (u : Ticket). u.pointer) e

module _ {T : Type 0} where
  -- where the entries are cut at one, the nodes are cut at its node
  entries_cut : (ns : List (PlacedNode T)) (us : List (Ticket × T)) (t : Ticket) (x : T) (vs : List (Ticket × T)) → entries ns ≡ us ++ (t, x) ∷ vs
      → (xs : List (PlacedNode T)) × (n : PlacedNode T) × (ys : List (PlacedNode T)) × (ns ≡ xs ++ n ∷ ys) × (entries xs ≡ us) × ((ticket_of n ≡ t) × (n.node.value ≡ x)) × (entries ys ≡ vs)
  entries_cut [] us t x vs e = absurd (nil_ne_cut us (t, x) vs e)
  entries_cut (n ∷ ns) [] t x vs e =
      let here = cons_parts (ticket_of n, n.node.value) (t, x) (entries ns) vs e in
      ([], n, ns, refl, refl, (ap (λ (p : Ticket × T). p.0) here.0, ap (λ (p : Ticket × T). p.1) here.0), here.1)
  entries_cut (n ∷ ns) (u ∷ us) t x vs e =
      let here = cons_parts (ticket_of n, n.node.value) u (entries ns) (us ++ (t, x) ∷ vs) e in let on = entries_cut ns us t x vs here.1 in
      (n ∷ on.0, on.1, on.2, ap (λ l. n ∷ l) on.3, (λ i. here.0 i ∷ on.4 i), on.5, on.6)

  -- a list with no entry has no node
  pub entries_none : (ns : List (PlacedNode T)) → entries ns ≡ [] → ns ≡ []
  entries_none [] e = refl
  entries_none (n ∷ ns) e = cc

  -- the first entry of a list that begins with a ticket
  pub first_entry : (ns : List (PlacedNode T)) (l : List (Ticket × T)) (f e : Option Ticket) (t : Ticket) → entries ns ≡ l → IsChain ns f e → f ≡ Some t
      → (n : PlacedNode T) × (ys : List (PlacedNode T)) × (ns ≡ n ∷ ys) × (n.place ≡ t.pointer) × (l ≡ (t, n.node.value) ∷ entries ys)
  first_entry [] l f e t seen chain is = let wrong : None ≡ Some t = sym chain.0 ∙ is in cc
  first_entry (n ∷ ns) l f e t seen chain is =
      let both : Some (ticket_of n) ≡ Some t = sym chain.0 ∙ is in let same : ticket_of n ≡ t = cc in
      (n, ns, refl, pointers same, sym seen ∙ (λ i. (same i, n.node.value) ∷ entries ns))

  -- a list that begins with no ticket is empty
  pub no_entry : (ns : List (PlacedNode T)) (l : List (Ticket × T)) (f e : Option Ticket) → entries ns ≡ l → IsChain ns f e → f ≡ None → l ≡ []
  no_entry [] l f e seen chain is = sym seen
  no_entry (n ∷ ns) l f e seen chain is = let wrong : Some (ticket_of n) ≡ None = sym chain.0 ∙ is in cc

  -- a ticket of the list names a node
  pub named_node : (ns : List (PlacedNode T)) (l : List (Ticket × T)) (t : Ticket) → entries ns ≡ l → HasTicket l t → HasNodeAt ns t.pointer
  named_node ns l t seen has = let at = entries_cut ns has.1.0 t has.0 has.1.1 (seen ∙ has.1.2) in (at.0, at.1, at.2, at.3, pointers at.5.0)

  -- what is left once the node that a ticket names is out, which leaves ms
  pub taken_entry : (ns : List (PlacedNode T)) (f e : Option Ticket) (ms : List (PlacedNode T)) (v w : Node T) (us : List (Ticket × T)) (t : Ticket) (x : T) (vs : List (Ticket × T)) → IsChain ns f e
      → IsApart (places ns) → HoldsAtNode ns t.pointer (λ xs n ys. (ms ≡ xs ++ ys) × (w ≡ n.node)) → v ≡ w → entries ns ≡ us ++ (t, x) ∷ vs → Taken ms v f e (us ++ vs) × (v.value ≡ x)
  taken_entry ns f e ms v w us t x vs chain apart out is cut =
      let at = entries_cut ns us t x vs cut in let left = out at.0 at.1 at.2 at.3 (pointers at.5.0) in
      (subst (λ l. Taken ms v f e l) (λ i. at.4 i ++ at.6 i) (taken ns f e ms v at.0 at.1 at.2 chain apart at.3 (left.0, is ∙ left.1)), ap (λ (n : Node T). n.value) (is ∙ left.1) ∙ at.5.1)

  -- the ticket of a node names no other node
  pub absent_others : (us : List (PlacedNode T)) (n : PlacedNode T) (vs : List (PlacedNode T)) → IsApart (places (us ++ n ∷ vs)) → IsAbsent (entries us ++ entries vs) (ticket_of n)
  absent_others us n vs d xs x ys e =
      let at = entries_cut (us ++ vs) xs (ticket_of n) x ys (entries-append us vs ∙ e) in
      not_fresh n.place at.0 at.1 at.2 (subst (IsFresh n.place) at.3 (apart_fresh us n vs d)) (pointers at.5.0)

  -- where the entry of a ticket is out, the other tickets name what they named
  pub others_kept : (l us : List (Ticket × T)) (t : Ticket) (x : T) (vs : List (Ticket × T)) → l ≡ us ++ (t, x) ∷ vs → KeepsOthers l (us ++ vs) t
  others_kept l us t x vs cut u y differs names =
      cut_other us (t, x) vs names.0 (u, y) names.1 (sym cut ∙ names.2) (λ same. differs (ap (λ (p : Ticket × T). p.0) (sym same)))

  -- nodes that lie apart have tickets of their own
  pub distinct_entries : (ns : List (PlacedNode T)) (l : List (Ticket × T)) → entries ns ≡ l → IsApart (places ns) → HasDistinctTickets l
  distinct_entries ns l seen d t xs x ys e =
      let at = entries_cut ns xs t x ys (seen ∙ e) in
      subst (λ (z : List (Ticket × T) × List (Ticket × T) × Ticket). IsAbsent (z.0 ++ z.1) z.2) (λ i. (at.4 i, at.6 i, at.5.0 i))
      (absent_others at.0 at.1 at.2 (subst (λ l. IsApart (places l)) at.3 d))
