-- What becomes of the links as the machine of one key changes.
use Rattle.std.proofs.Common.{◌≡◌, ◌≢◌, ◌⊎◌, ℕ, suc, List, ◌++◌, map, Option, Some, sym, ap, ◌∙◌, subst, inl, inr}
use Rattle.std.specs.Prelude.{All}
use Rattle.std.specs.List.{Contains}
use Rattle.std.proofs.lemmas.List.{map-append}
use Rattle.std.proofs.lemmas.List.Elements.{All-append, All-contains, Contains-append_left}
use Rattle.eql_values.specs.declared.value.Value.{Value}
use Rattle.eql_auto.specs.Machine.{Machine, Sequence, slot_at, tags_of}
use Rattle.eql_span_list.specs.declared.node.Ticket.{Ticket}
use Rattle.eql_span_list.specs.Entries.{Names, HasTicket, HasDistinctTickets}
use Rattle.eql_part.specs.KeyTables.{KeepsOtherKeys, KeepsSequences, machine_of, sequence_of, sequences_in}
use Rattle.eql_part.specs.Links.{Listed, Differ, IsLinked, LeaveList, start_of}
use Rattle.eql_part.proofs.Rows.{Row}
use Rattle.eql_part.proofs.Differing.{differ_append, differ_left}
use Rattle.eql_part.proofs.Linking.{each_holds, ticket, ticket_entry, relinked}
use Rattle.eql_part.proofs.Tagging.{tag_slot, slot_tag}

-- the same sequences are linked alike
pub linked_alike : (old new : List (Row Ticket)) (begun list : List Listed) → KeepsSequences old new → IsLinked begun (sequences_in old) list → IsLinked begun (sequences_in new) list
linked_alike old new begun list same linked =
    subst (λ (at : List Value → ℕ → Option (Sequence Ticket)). IsLinked begun at list) (λ i q k. sym (same q k) i) linked

module _ (old : List (Row Ticket)) (key : List Value) (machine : Machine Ticket) (found : machine_of old key ≡ Some machine) where
  at_key : (k : ℕ) → sequences_in old key k ≡ slot_at machine.slots k
  at_key k = ap (λ (o : Option (Machine Ticket)). sequence_of o k) found

  pub at_has : (t : Ticket) → Contains (tags_of machine.slots) t → (k : ℕ) × (s : Sequence Ticket) × (sequences_in old key k ≡ Some s) × (s.1 ≡ t)
  at_has t c = let s = tag_slot machine.slots t c in (suc s.0, s.1, at_key (suc s.0) ∙ s.2, s.3)

  at_in : (k : ℕ) (s : Sequence Ticket) → sequences_in old key k ≡ Some s → Contains (tags_of machine.slots) s.1
  at_in k s is = slot_tag machine.slots k s (sym (at_key k) ∙ is)

  -- the tickets of the key are on the list, and are distinct
  module _ (news begun list : List Listed) (linked : IsLinked (news ++ begun) (sequences_in old) list) where
    pub all_listed : All (HasTicket list) (map ticket news ++ tags_of machine.slots)
    all_listed =
        All-append (HasTicket list) (map ticket news) (tags_of machine.slots)
        (each_holds (HasTicket list) (map ticket news) (λ t c.
        let e = ticket_entry news t c in
        (e.0, All-contains (λ (e : Listed). Names list e.0 e.1) (news ++ begun) (t, e.0) linked.begun_listed (Contains-append_left news begun (t, e.0) e.1))))
        (each_holds (HasTicket list) (tags_of machine.slots) (λ t c.
        let s = at_has t c in
        (start_of key s.1, subst (λ (u : Ticket). Names list u (start_of key s.1)) s.3 (linked.pending_listed key s.0 s.1 s.2))))

    pub all_differ : Differ (tags_of machine.slots) → Differ (map ticket news ++ tags_of machine.slots)
    all_differ h =
        differ_append (map ticket news) (tags_of machine.slots) (differ_left (map ticket news) (map ticket begun) (subst Differ (map-append ticket news begun) linked.begun_differ)) h
        (λ t c d.
        let e = ticket_entry news t c in let s = at_has t d in
        All-contains (λ (e : Listed). e.0 ≢ s.1.1) (news ++ begun) (t, e.0) (linked.apart key s.0 s.1 s.2) (Contains-append_left news begun (t, e.0) e.1) (sym s.3))

-- the machine of the key is another, whose sequences come from those before and what is begun
pub linked_onward : (old new : List (Row Ticket)) (key : List Value) (machine w : Machine Ticket) (news begun list after : List Listed)
    → machine_of old key ≡ Some machine → machine_of new key ≡ Some w → KeepsOtherKeys key old new → All (λ (e : Listed). e.1.key ≡ key) news
    → ((k : ℕ) (s : Sequence Ticket) → slot_at w.slots k ≡ Some s
    → ((j : ℕ) × (r : Sequence Ticket) × (slot_at machine.slots j ≡ Some r) × (r.1 ≡ s.1) × (start_of key r ≡ start_of key s)) ⊎ Contains news (s.1, start_of key s))
    → LeaveList (map ticket news ++ tags_of machine.slots) (tags_of w.slots) list after → Differ (tags_of machine.slots) → HasDistinctTickets list
    → IsLinked (news ++ begun) (sequences_in old) list → IsLinked begun (sequences_in new) after
linked_onward old new key machine w news begun list after found now others here come leave differ distinct linked =
    relinked begun news (sequences_in old) (sequences_in new) list after key (tags_of machine.slots) (tags_of w.slots) leave.0 linked distinct
    (λ q k e. ap (λ (o : Option (Machine Ticket)). sequence_of o k) (others q e)) here come_from
    (at_has new key w now) (at_in new key w now) (at_has old key machine found) (at_in old key machine found)
    leave.1 (all_differ old key machine found news begun list linked differ) leave.2
  where
    come_from : (k : ℕ) (s : Sequence Ticket) → sequences_in new key k ≡ Some s
        → ((j : ℕ) × (r : Sequence Ticket) × (sequences_in old key j ≡ Some r) × (r.1 ≡ s.1) × (start_of key r ≡ start_of key s)) ⊎ Contains news (s.1, start_of key s)
    come_from k s is = elim (come k s (sym (at_key new key w now k) ∙ is)) [
      | inl r ↦ inl (r.0, r.1, at_key old key machine found r.0 ∙ r.2, r.3, r.4)
      | inr n ↦ inr n
    ]
