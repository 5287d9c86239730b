-- What is taken for the routes of an event, and given back.
use Rattle.std.proofs.Common.{◌≡◌, ℕ, List, [], ◌∷◌, ◌++◌, map, Option, Some, None, refl, sym, ap, ◌∙◌}
use Rattle.std.specs.List.{cons_option}
use Rattle.std.specs.Option.{option_to_list}
use Rattle.std.proofs.lemmas.List.{append-nil, append_assoc, map-append}
use Rattle.std.proofs.lemmas.List.Elements.{filter_map-append}
use Rattle.eql_values.specs.declared.order.OrderKey.{OrderKey}
use Rattle.eql_values.specs.declared.item.Route.{Route}
use Rattle.eql_span_list.specs.declared.node.Ticket.{Ticket}
use Rattle.eql_span_list.specs.Entries.{HasTicket, HoldsAtTicket}
use Rattle.eql_part.specs.declared.listing.Start.{Start}
use Rattle.eql_part.specs.declared.prepared.Prepared.{Prepared}
use Rattle.eql_part.specs.Links.{Listed, begun_by}
use Rattle.eql_part.specs.Routed.{ArePrepared, IsPrepared, all_begun, tickets_in}
use Rattle.eql_part.proofs.Linking.{ticket}
use Rattle.eql_part.proofs.Stepped.{begun_tickets}

-- entries with one ticket are one entry
pub one_entry : (es : List Listed) (t : Ticket) → map ticket es ≡ t ∷ [] → (start : Start) × (es ≡ (t, start) ∷ [])
one_entry [] t e = cc
one_entry (x ∷ []) t e = let same : x.0 ≡ t = cc in (x.1, λ i. (same i, x.1) ∷ [])
one_entry (x ∷ y ∷ es) t e = let wrong : map ticket (y ∷ es) ≡ [] = cc in cc

no_entry : (es : List Listed) → map ticket es ≡ [] → es ≡ []
no_entry [] e = refl
no_entry (x ∷ es) e = cc

-- a list whose image falls into two does so itself
pub split_tickets : (es : List Listed) (ts us : List Ticket) → map ticket es ≡ ts ++ us → (xs : List Listed) × (ys : List Listed) × (es ≡ xs ++ ys) × (map ticket xs ≡ ts) × (map ticket ys ≡ us)
split_tickets es [] us e = ([], es, refl, refl, e)
split_tickets [] (t ∷ ts) us e = cc
split_tickets (x ∷ es) (t ∷ ts) us e =
    let same : x.0 ≡ t = cc in let rest : map ticket es ≡ ts ++ us = cc in
    let on = split_tickets es ts us rest in
    (x ∷ on.0, on.1, ap (λ (l : List Listed). x ∷ l) on.2, (λ i. same i ∷ on.3 i), on.4)

-- the last entry of a list is that of the ticket
pub last_has : (list base begun : List Listed) (t : Ticket) → list ≡ base ++ begun → map ticket begun ≡ t ∷ [] → HasTicket list t
last_has list base begun t is tickets = let one = one_entry begun t tickets in (one.0, (base, [], is ∙ ap (λ (l : List Listed). base ++ l) one.1))

pub last_off : (list after base begun : List Listed) (t : Ticket) (start : Start) → HoldsAtTicket list t (λ xs x ys. (after ≡ xs ++ ys) × (start ≡ x)) → list ≡ base ++ begun → map ticket begun ≡ t ∷ [] → after ≡ base
last_off list after base begun t start taken is tickets =
    let one = one_entry begun t tickets in
    (taken base one.0 [] (is ∙ ap (λ (l : List Listed). base ++ l) one.1)).0 ∙ append-nil base

pub none_off : (list base begun : List Listed) → list ≡ base ++ begun → map ticket begun ≡ [] → list ≡ base
none_off list base begun is none = is ∙ ap (λ (l : List Listed). base ++ l) (no_entry begun none) ∙ append-nil base

tickets_one : (o : Option Ticket) → cons_option o [] ≡ option_to_list o
tickets_one None = refl
tickets_one (Some t) = refl

pub tickets_push : (ps : List Prepared) (p : Prepared) → tickets_in (ps ++ p ∷ []) ≡ tickets_in ps ++ option_to_list p.begun
tickets_push ps p =
    filter_map-append (λ (ready : Prepared). ready.begun) ps (p ∷ []) ∙ ap (λ (l : List Ticket). tickets_in ps ++ l) (tickets_one p.begun)

-- the last of what was taken, and what was taken before it
pub last_taken : (list base begun : List Listed) (items ps : List Prepared) (p : Prepared) → items ≡ ps ++ p ∷ [] → list ≡ base ++ begun → map ticket begun ≡ tickets_in items
    → (xs : List Listed) × (ys : List Listed) × (list ≡ (base ++ xs) ++ ys) × (map ticket xs ≡ tickets_in ps) × (map ticket ys ≡ option_to_list p.begun)
last_taken list base begun items ps p popped is tickets =
    let split = split_tickets begun (tickets_in ps) (option_to_list p.begun) (tickets ∙ ap tickets_in popped ∙ tickets_push ps p) in
    (split.0, split.1, is ∙ ap (λ (l : List Listed). base ++ l) split.2 ∙ sym (append_assoc base split.0 split.1), split.3, split.4)

-- and what is left without the last
pub last_given : (list after base begun : List Listed) (items ps : List Prepared) (p : Prepared)
    → ((base begun : List Listed) → list ≡ base ++ begun → map ticket begun ≡ option_to_list p.begun → after ≡ base) → items ≡ ps ++ p ∷ [] → list ≡ base ++ begun → map ticket begun ≡ tickets_in items
    → (left : List Listed) × (after ≡ base ++ left) × (map ticket left ≡ tickets_in ps)
last_given list after base begun items ps p off popped is tickets =
    let split = last_taken list base begun items ps p popped is tickets in
    (split.0, off (base ++ split.0) split.1 split.2 split.4, split.3)

-- nothing was taken
pub none_taken : (list base begun : List Listed) (items : List Prepared) → items ≡ [] → list ≡ base ++ begun → map ticket begun ≡ tickets_in items → list ≡ base
none_taken list base begun items none is tickets = none_off list base begun is (tickets ∙ ap tickets_in none)

-- what is taken for one more route
pub prepared_more : (m : ℕ) (rs : List Route) (ps : List Prepared) (r : Route) (p : Prepared) → ArePrepared m rs ps → IsPrepared m r p → ArePrepared m (rs ++ r ∷ []) (ps ++ p ∷ [])
prepared_more m [] [] r p h one = (one, tt)
prepared_more m [] (q ∷ ps) r p h one = absurd h
prepared_more m (s ∷ rs) [] r p h one = absurd h
prepared_more m (s ∷ rs) (q ∷ ps) r p h one = (h.0, prepared_more m rs ps r p h.1 one)

pub begun_more : (m : ℕ) (order : OrderKey) (rs : List Route) (ps : List Prepared) (r : Route) (p : Prepared) → ArePrepared m rs ps
    → all_begun order (rs ++ r ∷ []) (ps ++ p ∷ []) ≡ all_begun order rs ps ++ begun_by order r p.begun
begun_more m order [] [] r p h = append-nil (begun_by order r p.begun)
begun_more m order [] (q ∷ ps) r p h = absurd h
begun_more m order (s ∷ rs) [] r p h = absurd h
begun_more m order (s ∷ rs) (q ∷ ps) r p h =
    ap (λ (l : List Listed). begun_by order s q.begun ++ l) (begun_more m order rs ps r p h.1)
    ∙ sym (append_assoc (begun_by order s q.begun) (all_begun order rs ps) (begun_by order r p.begun))

-- the tickets of what is begun are those that were taken
pub all_tickets : (m : ℕ) (order : OrderKey) (rs : List Route) (ps : List Prepared) → ArePrepared m rs ps → map ticket (all_begun order rs ps) ≡ tickets_in ps
all_tickets m order [] [] h = refl
all_tickets m order [] (q ∷ ps) h = absurd h
all_tickets m order (s ∷ rs) [] h = absurd h
all_tickets m order (s ∷ rs) (q ∷ ps) h =
    map-append ticket (begun_by order s q.begun) (all_begun order rs ps)
    ∙ (λ i. begun_tickets order s q.begun i ++ all_tickets m order rs ps h.1 i) ∙ first_of q.begun (tickets_in ps)
  where
    first_of : (o : Option Ticket) (ts : List Ticket) → option_to_list o ++ ts ≡ cons_option o ts
    first_of None ts = refl
    first_of (Some t) ts = refl
