-- Sequences that are put on the list, and are in no machine yet.
use Rattle.std.proofs.Common.{◌≡◌, ◌≢◌, ◌⊎◌, ◌≤◌, ℕ, ℤ, ◌≤ℤ◌, List, [], ◌∷◌, ◌++◌, map, length, Option, Some, None, refl, sym, ap, ◌∙◌, subst, arith, inl, inr}
use Rattle.std.specs.Prelude.{All, IfSome}
use Rattle.std.specs.List.{Contains}
use Rattle.std.specs.Option.{option_map}
use Rattle.std.specs.Cmp.{int_cmp_is}
use Rattle.std.specs.Ordering.{int_cmp, ordering_then}
use Rattle.std.specs.declared.cmp.Ordering.{Ordering}
use Rattle.std.specs.declared.cmp.Ordering.TheVariants.{Less, Equal, Greater}
use Rattle.std.proofs.lemmas.Int.{ints, by_lt_z}
use Rattle.std.proofs.lemmas.List.{append_assoc}
use Rattle.std.proofs.lemmas.List.Elements.{All-nil, All-cons, All-head, All-tail, All-append, All-weaker, Contains-append_right}
use Rattle.eql_values.specs.declared.order.OrderKey.{OrderKey}
use Rattle.eql_values.specs.declared.value.Value.{Value}
use Rattle.eql_values.specs.declared.item.Route.{Route}
use Rattle.eql_values.specs.OrderKeys.{order_cmp}
use Rattle.eql_auto.specs.Machine.{Machine, Sequence, AllAreBefore}
use Rattle.eql_span_list.specs.declared.node.Ticket.{Ticket}
use Rattle.eql_span_list.specs.Entries.{Names, HasDistinctTickets}
use Rattle.eql_part.specs.declared.listing.Start.{Start}
use Rattle.eql_part.specs.declared.prepared.Prepared.{Prepared}
use Rattle.eql_part.specs.KeyTables.{IsLaterAt, IsOf, AreOf, machine_of, sequence_of, sequences_in, slots_in}
use Rattle.eql_part.specs.Links.{Listed, Sequences, Differ, IsLinked, IsPending, TimesAscend, begun_by, first_time, start_of}
use Rattle.eql_part.specs.Routed.{all_begun}
use Rattle.eql_part.proofs.Rows.{Row}
use Rattle.eql_part.proofs.Naming.{names_left, names_right, names_here, names_cases, names_none, names_from_contains}
use Rattle.eql_part.proofs.Differing.{differ_nil, differ_cons}
use Rattle.eql_part.proofs.Turned.{found_of, slots_are}
use Rattle.eql_part.proofs.Linking.{each_holds, ticket, ticket_entry}

-- of a list with distinct tickets no entry is named again by what comes after it
apart_in : (xs ys : List Listed) → HasDistinctTickets (xs ++ ys) → (t : Ticket) (v w : Start) → Names xs t v → Names ys t w → ⊥
apart_in xs ys d t v w h k =
    let absent = d t h.0 v (h.1 ++ ys) (ap (λ (l : List Listed). l ++ ys) h.2 ∙ append_assoc h.0 ((t, v) ∷ h.1) ys) in
    let there = names_right h.0 (h.1 ++ ys) t w (names_right h.1 ys t w k) in
    absent there.0 w there.1 there.2

distinct_right : (xs ys : List Listed) → HasDistinctTickets (xs ++ ys) → HasDistinctTickets ys
distinct_right xs ys d t p x q e u y v f =
    let absent = d t (xs ++ p) x q (ap (λ (l : List Listed). xs ++ l) e ∙ sym (append_assoc xs p ((t, x) ∷ q))) in
    let there : Names (xs ++ (p ++ q)) t y = names_right xs (p ++ q) t y (u, v, f) in
    absent there.0 y there.1 (append_assoc xs p q ∙ there.2)

pub contains_from_names : (l : List Listed) (t : Ticket) (v : Start) → Names l t v → Contains l (t, v)
contains_from_names l t v h = subst (λ (z : List Listed). Contains z (t, v)) (sym h.2) (Contains-append_right h.0 ((t, v) ∷ h.1) (t, v) (0, omega arith, refl))

tickets_differ : (es : List Listed) → HasDistinctTickets es → Differ (map ticket es)
tickets_differ [] d = differ_nil
tickets_differ (e ∷ es) d =
    differ_cons e.0 (map ticket es)
    (λ c. let f = ticket_entry es e.0 c in apart_in (e ∷ []) es d e.0 e.1 f.0 (names_here [] e.0 e.1) (names_from_contains es e.0 f.0 f.1))
    (tickets_differ es (distinct_right (e ∷ []) es d))

-- the entries of a list come at this time or before
abbrev pub UpTo : ℤ → List Listed → Type 0
UpTo time = All (λ (e : Listed). e.1.time ≤ℤ time)

-- the entries have this time
abbrev pub AllAt : ℤ → List Listed → Type 0
AllAt time = All (λ (e : Listed). e.1.time ≡ time)

ascend_at : (time : ℤ) (es : List Listed) → AllAt time es → TimesAscend es
ascend_at time [] h = tt
ascend_at time (e ∷ es) h = (
  All-weaker (λ (f : Listed). f.1.time ≡ time) (λ (f : Listed). e.1.time ≤ℤ f.1.time)
      (λ f same. let here = All-head (λ (e : Listed). e.1.time ≡ time) e es h in omega (arith, ints)) es (All-tail (λ (e : Listed). e.1.time ≡ time) e es h),
  ascend_at time es (All-tail (λ (e : Listed). e.1.time ≡ time) e es h),
)

pub ascend_append : (time : ℤ) (xs ys : List Listed) → TimesAscend xs → UpTo time xs → AllAt time ys → TimesAscend (xs ++ ys)
ascend_append time [] ys h up at = ascend_at time ys at
ascend_append time (x ∷ xs) ys h up at =
    let here = All-head (λ (e : Listed). e.1.time ≤ℤ time) x xs up in (
      All-append (λ (f : Listed). x.1.time ≤ℤ f.1.time) xs ys h.0
          (All-weaker (λ (f : Listed). f.1.time ≡ time) (λ (f : Listed). x.1.time ≤ℤ f.1.time) (λ f same. omega (arith, ints)) ys at),
      ascend_append time xs ys h.1 (All-tail (λ (e : Listed). e.1.time ≤ℤ time) x xs up) at,
    )

-- more sequences are on the list, with times that are no earlier
pub linked_more : (at : Sequences) (list begun after : List Listed) (time : ℤ) → IsLinked [] at list → after ≡ list ++ begun → HasDistinctTickets after → UpTo time list → AllAt time begun → IsLinked begun at after
linked_more at list begun after time linked is distinct up ats = record {
  pending_listed = λ key k s there. subst (λ (l : List Listed). Names l s.1 (start_of key s)) (sym is) (names_left list begun s.1 (start_of key s) (linked.pending_listed key k s there));
  begun_listed = subst (λ (l : List Listed). All (λ (e : Listed). Names l e.0 e.1) begun) (sym is)
      (each_holds (λ (e : Listed). Names (list ++ begun) e.0 e.1) begun (λ e c. names_right list begun e.0 e.1 (names_from_contains begun e.0 e.1 c)));
  no_other = λ t start named. one_of t start (names_cases list begun t start (subst (λ (l : List Listed). Names l t start) is named));
  apart = λ key k s there. each_holds (λ (e : Listed). e.0 ≢ s.1) begun
      (λ e c same. apart_in list begun (subst HasDistinctTickets is distinct) s.1 (start_of key s) e.1 (linked.pending_listed key k s there)
      (subst (λ (u : Ticket). Names begun u e.1) same (names_from_contains begun e.0 e.1 c)));
  begun_differ = tickets_differ begun (distinct_right list begun (subst HasDistinctTickets is distinct));
  ascends = subst TimesAscend (sym is) (ascend_append time list begun linked.ascends up ats);
}
  where
    old : (t : Ticket) (start : Start) → IsPending at t start ⊎ Contains {X = Listed} [] (t, start) → IsPending at t start ⊎ Contains begun (t, start)
    old t start (inl p) = inl p
    old t start (inr c) = let in' = c.1 in absurd (omega arith)

    one_of : (t : Ticket) (start : Start) → Names list t start ⊎ Names begun t start → IsPending at t start ⊎ Contains begun (t, start)
    one_of t start (inl l) = old t start (linked.no_other t start l)
    one_of t start (inr r) = inr (contains_from_names begun t start r)

-- what an event begins is at its time
pub begun_at : (order : OrderKey) (routes : List Route) (more : List Prepared) → AllAt order.ts (all_begun order routes more)
begun_at order [] more = All-nil (λ (e : Listed). e.1.time ≡ order.ts)
begun_at order (route ∷ routes) [] = All-nil (λ (e : Listed). e.1.time ≡ order.ts)
begun_at order (route ∷ routes) (ready ∷ more) =
    All-append (λ (e : Listed). e.1.time ≡ order.ts) (begun_by order route ready.begun) (all_begun order routes more) (one ready.begun) (begun_at order routes more)
  where
    one : (o : Option Ticket) → AllAt order.ts (begun_by order route o)
    one None = All-nil (λ (e : Listed). e.1.time ≡ order.ts)
    one (Some t) = All-cons (λ (e : Listed). e.1.time ≡ order.ts) _ [] refl (All-nil (λ (e : Listed). e.1.time ≡ order.ts))

head_greater : (o r : Ordering) → o ≡ Greater → ordering_then o r ≡ Less → ⊥
head_greater Less r e f = cc
head_greater Equal r e f = cc
head_greater Greater r e f = cc

not_after : (a b : OrderKey) → order_cmp a b ≡ Less → a.ts ≤ℤ b.ts
not_after a b less = by_lt_z b.ts a.ts (λ lt. absurd (head_greater (int_cmp a.ts b.ts) _ (sym (int_cmp_is a.ts b.ts Greater lt)) less)) (λ le. le)

first_before : (order : OrderKey) (c : List OrderKey) → 1 ≤ length c → AllAreBefore order c → first_time c ≤ℤ order.ts
first_before order [] h before = absurd (omega arith)
first_before order (first ∷ rest) h before = not_after first order (All-head (λ (before : OrderKey). order_cmp before order ≡ Less) first rest before)

-- a pending sequence has an event
pub sequence_filled : (m : ℕ) (span : Option ℤ) (es : List (Row Ticket)) → AreOf m span es → (key : List Value) (k : ℕ) (s : Sequence Ticket) → sequences_in es key k ≡ Some s → 1 ≤ length s.0
sequence_filled m span es of key k s is = by (machine_of es key) refl is
  where
    by : (o : Option (Machine Ticket)) → machine_of es key ≡ o → sequence_of o k ≡ Some s → 1 ≤ length s.0
    by None e there = cc
    by (Some machine) e there = (found_of m span es key machine of e).filled k s there

-- an event after all that is pending comes at the times on the list or later
pub later_up : (m : ℕ) (span : Option ℤ) (es : List (Row Ticket)) (order : OrderKey) (list : List Listed) → AreOf m span es → IsLinked [] (sequences_in es) list → ((key : List Value) → IsLaterAt order es key) → UpTo order.ts list
later_up m span es order list of linked later =
    each_holds (λ (e : Listed). e.1.time ≤ℤ order.ts) list (λ e c. by e (linked.no_other e.0 e.1 (names_from_contains list e.0 e.1 c)))
  where
    by : (e : Listed) → IsPending (sequences_in es) e.0 e.1 ⊎ Contains {X = Listed} [] (e.0, e.1) → e.1.time ≤ℤ order.ts
    by e (inl (k, s, there, t, same)) =
        let chain : slots_in es e.1.key k ≡ Some s.0 = slots_are (machine_of es e.1.key) k ∙ ap (option_map (λ (s : Sequence Ticket). s.0)) there in
        subst (λ (x : Start). x.time ≤ℤ order.ts) same
        (first_before order s.0 (sequence_filled m span es of e.1.key k s there) (subst (λ (o : Option (List OrderKey)). IfSome o (AllAreBefore order)) chain (later e.1.key k)))
    by e (inr c) = let in' = c.1 in absurd (omega arith)

-- there is nothing at the start
pub none_of : (m : ℕ) (span : Option ℤ) (es : List (Row Ticket)) → es ≡ [] → AreOf m span es
none_of m span es none = subst (AreOf m span) (sym none) (All-nil (IsOf m span))

nothing : IsLinked [] (λ key k. None) []
nothing = record {
  pending_listed = λ key k s is. cc;
  begun_listed = All-nil (λ (e : Listed). Names [] e.0 e.1);
  no_other = λ t start named. absurd (names_none t start named);
  apart = λ key k s is. cc;
  begun_differ = differ_nil;
  ascends = tt;
}

pub none_linked : (es : List (Row Ticket)) (list : List Listed) → es ≡ [] → list ≡ [] → IsLinked [] (sequences_in es) list
none_linked es list none empty = subst (λ (l : List (Row Ticket)). IsLinked [] (sequences_in l) list) (sym none) (subst (IsLinked [] (λ key k. None)) (sym empty) nothing)
