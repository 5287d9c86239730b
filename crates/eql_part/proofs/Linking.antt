-- What becomes of the links between the machines and the list as the sequences of one key go on.
use Rattle.std.proofs.Common.{◌≡◌, ◌≢◌, ◌⊎◌, ℕ, zero, suc, Bool, true, false, List, [], ◌∷◌, ◌++◌, map, Some, refl, sym, ap, ◌∙◌, subst, arith, inl, inr}
use Rattle.std.specs.Prelude.{All}
use Rattle.std.specs.List.{Contains}
use Rattle.std.specs.List.Sorted.{IsPermutation}
use Rattle.std.proofs.lemmas.List.{map-append}
use Rattle.std.proofs.lemmas.List.Elements.{All-contains, All-contains_itself, Contains-append_left, Contains-append_right, Contains-append_cases}
use Rattle.std.proofs.lemmas.List.Sorted.{IsPermutation-sym, Contains-permutation}
use Rattle.eql_values.specs.declared.value.Value.{Value}
use Rattle.eql_values.specs.Orders.{key_cmp, key_eq}
use Rattle.eql_values.specs.Totals.{key_cmp_total}
use Rattle.eql_values.proofs.Same.{key_same}
use Rattle.eql_laws.proofs.Facts.{is_equal}
use Rattle.eql_auto.specs.Machine.{Sequence}
use Rattle.eql_span_list.specs.declared.node.Ticket.{Ticket}
use Rattle.eql_span_list.specs.Entries.{Names, HasDistinctTickets}
use Rattle.eql_part.specs.declared.listing.Start.{Start}
use Rattle.eql_part.specs.Links.{Listed, Sequences, Differ, IsPending, IsLinked, IsWithout, start_of}
use Rattle.std.specs.Ordering.{is_eq}
use Rattle.eql_part.proofs.Rows.{own_reverse}
use Rattle.eql_part.proofs.Naming.{names_one}
use Rattle.eql_part.proofs.Differing.{differ_permutation, differ_right, differ_across}

-- a key is itself
pub own_key : (key q : List Value) → q ≡ key → key_eq key q ≡ true
own_key key q e =
    ap (λ (p : List Value). key_eq key p) e ∙ ap is_eq (own_reverse (key_cmp key key) (key_cmp_total.antisymm key key))

pub same_key : (key q : List Value) → key_eq key q ≡ true → key ≡ q
same_key key q e = key_same key q (is_equal (key_cmp key q) e)

-- what holds of each element
pub each_holds : {X : Type 0} (P : X → Type 0) (xs : List X) → ((x : X) → Contains xs x → P x) → All P xs
each_holds P xs gives k d l = gives _ (All-contains_itself xs k d l)

abbrev pub ticket : Listed → Ticket
ticket e = e.0

-- a ticket of entries names one of them
pub ticket_entry : (es : List Listed) (t : Ticket) → Contains (map ticket es) t → (start : Start) × Contains es (t, start)
ticket_entry [] t c = let in' = c.1 in absurd (omega arith)
ticket_entry (e ∷ es) t (zero, l, is) = (e.1, (0, omega arith, ap (λ (u : Ticket). (u, e.1)) is))
ticket_entry (e ∷ es) t (suc k, l, is) = let on = ticket_entry es t (k, omega arith, is) in (on.0, (suc on.1.0, (let in' = on.1.1 in omega arith), on.1.2))

pub entry_ticket : (es : List Listed) (e : Listed) → Contains es e → Contains (map ticket es) e.0
entry_ticket [] e c = let in' = c.1 in absurd (omega arith)
entry_ticket (x ∷ es) e (zero, l, is) = (0, omega arith, ap ticket is)
entry_ticket (x ∷ es) e (suc k, l, is) = let on = entry_ticket es e (k, omega arith, is) in (suc on.0, (let in' = on.1 in omega arith), on.2)

-- the sequences of one key went on: those of the tickets before, and those begun, are those that are there now and those that are gone
module _ (begun news : List Listed) (at now : Sequences) (list after : List Listed) (key : List Value) (tags tags_now gone : List Ticket)
    (linked : IsLinked (news ++ begun) at list) (distinct : HasDistinctTickets list)
    (others : (q : List Value) (k : ℕ) → key_eq key q ≡ false → now q k ≡ at q k)
    (here : All (λ (e : Listed). e.1.key ≡ key) news)
    (come : (k : ℕ) (s : Sequence Ticket) → now key k ≡ Some s
    → ((j : ℕ) × (r : Sequence Ticket) × (at key j ≡ Some r) × (r.1 ≡ s.1) × (start_of key r ≡ start_of key s)) ⊎ Contains news (s.1, start_of key s))
    (now_has : (t : Ticket) → Contains tags_now t → (k : ℕ) × (s : Sequence Ticket) × (now key k ≡ Some s) × (s.1 ≡ t))
    (now_in : (k : ℕ) (s : Sequence Ticket) → now key k ≡ Some s → Contains tags_now s.1)
    (at_has : (t : Ticket) → Contains tags t → (k : ℕ) × (s : Sequence Ticket) × (at key k ≡ Some s) × (s.1 ≡ t))
    (at_in : (k : ℕ) (s : Sequence Ticket) → at key k ≡ Some s → Contains tags s.1)
    (moves : IsPermutation (gone ++ tags_now) (map ticket news ++ tags)) (differ : Differ (map ticket news ++ tags)) (without : IsWithout list gone after) where
  differ_now : Differ (gone ++ tags_now)
  differ_now = differ_permutation (map ticket news ++ tags) (gone ++ tags_now) (IsPermutation-sym (gone ++ tags_now) (map ticket news ++ tags) moves) differ

  not_gone : (t : Ticket) → Contains tags_now t → Contains gone t → ⊥
  not_gone t c g = differ_across gone tags_now differ_now t g c

  new_listed : (e : Listed) → Contains news e → Names list e.0 e.1
  new_listed e c = All-contains (λ (e : Listed). Names list e.0 e.1) (news ++ begun) e linked.begun_listed (Contains-append_left news begun e c)

  -- a ticket that is gone named a sequence of the key
  gone_here : (t : Ticket) → Contains gone t → (start : Start) × Names list t start × (start.key ≡ key)
  gone_here t g =
      elim (Contains-append_cases (map ticket news) tags t (Contains-permutation (gone ++ tags_now) (map ticket news ++ tags) t moves (Contains-append_left gone tags_now t g))) [
        | inl n ↦ let e = ticket_entry news t n in (e.0, new_listed (t, e.0) e.1, All-contains (λ (e : Listed). e.1.key ≡ key) news (t, e.0) here e.1)
        | inr o ↦ let s = at_has t o in (start_of key s.1, subst (λ (u : Ticket). Names list u (start_of key s.1)) s.3 (linked.pending_listed key s.0 s.1 s.2), refl)
      ]

  not_other : (q : List Value) (t : Ticket) (start : Start) → key_eq key q ≡ false → Names list t start → start.key ≡ q → Contains gone t → ⊥
  not_other q t start other named is g =
      let was = gone_here t g in
      let same = names_one list distinct t start was.0 named was.1 in
      let wrong = own_key key q (sym is ∙ ap (λ (x : Start). x.key) same ∙ was.2) in
      cc

  listed_now : (q : List Value) (k : ℕ) (s : Sequence Ticket) → now q k ≡ Some s → Names list s.1 (start_of q s)
  listed_now q k s is = by_key (key_eq key q) refl
    where
      by_key : (b : Bool) → key_eq key q ≡ b → Names list s.1 (start_of q s)
      by_key false e = linked.pending_listed q k s (sym (others q k e) ∙ is)
      by_key true e =
          let same = same_key key q e in
          subst (λ (p : List Value). Names list s.1 (start_of p s)) same
          (elim (come k s (ap (λ (p : List Value). now p k) same ∙ is)) [
            | inl old ↦ subst (λ (x : Listed). Names list x.0 x.1) (λ i. (old.3 i, old.4 i)) (linked.pending_listed key old.0 old.1 old.2)
            | inr new ↦ new_listed (s.1, start_of key s) new
          ])

  stays_listed : (q : List Value) (k : ℕ) (s : Sequence Ticket) → now q k ≡ Some s → Contains gone s.1 → ⊥
  stays_listed q k s is g = by_key (key_eq key q) refl
    where
      by_key : (b : Bool) → key_eq key q ≡ b → ⊥
      by_key false e = not_other q s.1 (start_of q s) e (listed_now q k s is) refl g
      by_key true e = not_gone s.1 (now_in k s (ap (λ (p : List Value). now p k) (same_key key q e) ∙ is)) g

  pending_now : (q : List Value) (k : ℕ) (s : Sequence Ticket) → now q k ≡ Some s → Names after s.1 (start_of q s)
  pending_now q k s is = without.stays s.1 (start_of q s) (listed_now q k s is) (stays_listed q k s is)

  -- a begun one is none of the key's
  begun_apart : (e : Listed) → Contains begun e → Contains gone e.0 → ⊥
  begun_apart e c g =
      elim (Contains-append_cases (map ticket news) tags e.0 (Contains-permutation (gone ++ tags_now) (map ticket news ++ tags) e.0 moves (Contains-append_left gone tags_now e.0 g))) [
        | inl n ↦ differ_across (map ticket news) (map ticket begun) (subst Differ (map-append ticket news begun) linked.begun_differ) e.0 n (entry_ticket begun e c)
        | inr o ↦ let s = at_has e.0 o in
            All-contains (λ (e : Listed). e.0 ≢ s.1.1) (news ++ begun) e (linked.apart key s.0 s.1 s.2) (Contains-append_right news begun e c) (sym s.3)
      ]

  begun_now : All (λ (e : Listed). Names after e.0 e.1) begun
  begun_now = each_holds (λ (e : Listed). Names after e.0 e.1) begun
      (λ e c. without.stays e.0 e.1 (All-contains (λ (e : Listed). Names list e.0 e.1) (news ++ begun) e linked.begun_listed (Contains-append_right news begun e c)) (begun_apart e c))

  -- a ticket of the key that isn't gone is there now
  still_here : (t : Ticket) (start : Start) → Names after t start → start.key ≡ key → Contains (map ticket news ++ tags) t → IsPending now t start
  still_here t start named is c =
      elim (Contains-append_cases gone tags_now t (Contains-permutation (map ticket news ++ tags) (gone ++ tags_now) t (IsPermutation-sym (gone ++ tags_now) (map ticket news ++ tags) moves) c)) [
        | inl g ↦ absurd (without.left t start named g)
        | inr n ↦ let s = now_has t n in
            let same : start_of key s.1 ≡ start = names_one list distinct t (start_of key s.1) start (subst (λ (u : Ticket). Names list u (start_of key s.1)) s.3 (listed_now key s.0 s.1 s.2)) (without.was t start named) in
            (s.0, s.1, ap (λ (p : List Value). now p s.0) is ∙ s.2, s.3, ap (λ (p : List Value). start_of p s.1) is ∙ same)
      ]

  no_other_now : (t : Ticket) (start : Start) → Names after t start → IsPending now t start ⊎ Contains begun (t, start)
  no_other_now t start named =
      elim (linked.no_other t start (without.was t start named)) [
        | inl old ↦ inl (pending old (key_eq key start.key) refl)
        | inr new ↦ elim (Contains-append_cases news begun (t, start) new) [
          | inl n ↦ inl (still_here t start named (All-contains (λ (e : Listed). e.1.key ≡ key) news (t, start) here n) (Contains-append_left (map ticket news) tags t (entry_ticket news (t, start) n)))
          | inr b ↦ inr b
        ]
      ]
    where
      pending : IsPending at t start → (b : Bool) → key_eq key start.key ≡ b → IsPending now t start
      pending old false e = (old.0, old.1, others start.key old.0 e ∙ old.2, old.3, old.4)
      pending old true e =
          let same = same_key key start.key e in
          still_here t start named (sym same)
          (Contains-append_right (map ticket news) tags t (subst (Contains tags) old.3 (at_in old.0 old.1 (ap (λ (p : List Value). at p old.0) same ∙ old.2))))

  apart_now : (q : List Value) (k : ℕ) (s : Sequence Ticket) → now q k ≡ Some s → All (λ (e : Listed). e.0 ≢ s.1) begun
  apart_now q k s is = by_key (key_eq key q) refl
    where
      by_key : (b : Bool) → key_eq key q ≡ b → All (λ (e : Listed). e.0 ≢ s.1) begun
      by_key false e = each_holds (λ (e : Listed). e.0 ≢ s.1) begun
          (λ x c. All-contains (λ (e : Listed). e.0 ≢ s.1) (news ++ begun) x (linked.apart q k s (sym (others q k e) ∙ is)) (Contains-append_right news begun x c))
      by_key true e = each_holds (λ (e : Listed). e.0 ≢ s.1) begun
          (λ x c. elim (come k s (ap (λ (p : List Value). now p k) (same_key key q e) ∙ is)) [
            | inl old ↦ subst (λ (u : Ticket). x.0 ≢ u) old.3 (All-contains (λ (e : Listed). e.0 ≢ old.1.1) (news ++ begun) x (linked.apart key old.0 old.1 old.2) (Contains-append_right news begun x c))
            | inr new ↦ λ f. differ_across (map ticket news) (map ticket begun) (subst Differ (map-append ticket news begun) linked.begun_differ) s.1 (entry_ticket news (s.1, start_of key s) new)
                (subst (Contains (map ticket begun)) f (entry_ticket begun x c))
          ])

  pub relinked : IsLinked begun now after
  relinked = record {
    pending_listed = pending_now;
    begun_listed = begun_now;
    no_other = no_other_now;
    apart = apart_now;
    begun_differ = differ_right (map ticket news) (map ticket begun) (subst Differ (map-append ticket news begun) linked.begun_differ);
    ascends = without.order linked.ascends;
  }
