-- Where the sequences of a machine come from: an event that it plays, a time that it is emptied up to, and a sequence that is put.
use Rattle.std.proofs.Common.{◌≡◌, ◌⊎◌, ◌<◌, ◌≤◌, ℕ, zero, suc, ℤ, Bool, true, false, cond, List, [], ◌∷◌, ◌++◌, map, length, Option, Some, None, refl, sym, ap, ◌∙◌, subst, arith, inl, inr}
use Rattle.std.specs.Prelude.{All, ◌&&◌, ◌||◌, not}
use Rattle.std.specs.List.{Contains}
use Rattle.std.specs.Option.{option_map, option_to_list}
use Rattle.std.proofs.lemmas.Bool.{cases_lt}
use Rattle.std.proofs.lemmas.List.{get_or_past, length-append}
use Rattle.std.proofs.lemmas.List.Elements.{All-nil, All-cons}
use Rattle.eql_values.specs.declared.order.OrderKey.{OrderKey}
use Rattle.eql_values.specs.declared.value.Value.{Value}
use Rattle.eql_values.specs.declared.item.KeyEvent.{KeyEvent}
use Rattle.eql_values.specs.declared.item.Route.{Route}
use Rattle.eql_values.specs.Chains.{fits_after, in_time}
use Rattle.eql_values.specs.Ordered.{found_or}
use Rattle.eql_auto.specs.Machine.{Sequence, slot_at, slot_after, went_on}
use Rattle.eql_span_list.specs.declared.node.Ticket.{Ticket}
use Rattle.eql_part.specs.Links.{Listed, begun_by, first_time, start_of}

-- nothing is at a stage past the slots
pub past_slots : {T : Type 0} (slots : List (Option (Sequence T))) (k : ℕ) (s : Sequence T) → slot_at slots k ≡ Some s → (1 ≤ k) × (k < suc (length slots))
past_slots slots zero s is = cc
past_slots slots (suc k) s is = elim (cases_lt k (length slots)) [
  | inl below ↦ (omega arith, omega arith)
  | inr past ↦ let wrong = sym (get_or_past slots k None past) ∙ is in cc
]

-- where a sequence comes from: from one of these slots, as it was or with one more event, or it is begun
abbrev pub ComesFrom : OrderKey → Option Ticket → List (Option (Sequence Ticket)) → Sequence Ticket → Type 0
ComesFrom order tag slots s =
    ((j : ℕ) × (r : Sequence Ticket) × (slot_at slots j ≡ Some r) × ((r ≡ s) ⊎ ((r.0 ++ order ∷ [], r.1) ≡ s))) ⊎ ((t : Ticket) × (tag ≡ Some t) × ((order ∷ [], t) ≡ s))

module _ (order : OrderKey) (tag : Option Ticket) (slots : List (Option (Sequence Ticket))) (s : Sequence Ticket) where
  kept_one : (b : Bool) (k : ℕ) → cond b None (slot_at slots k) ≡ Some s → ComesFrom order tag slots s
  kept_one true k is = cc
  kept_one false k is = inl (k, s, is, inl refl)

  begun_one : (b : Bool) (o : Option Ticket) (rest : Option (Sequence Ticket)) → tag ≡ o → (rest ≡ Some s → ComesFrom order tag slots s)
      → found_or (cond b (option_map (λ (t : Ticket). (order ∷ [], t)) o) None) rest ≡ Some s → ComesFrom order tag slots s
  begun_one true (Some t) rest e kept is = inr (t, e, cc)
  begun_one true None rest e kept is = kept is
  begun_one false o rest e kept is = kept is

  went_one : (b : Bool) (span : Option ℤ) (j : ℕ) (o : Option (Sequence Ticket)) (rest : Option (Sequence Ticket)) → slot_at slots j ≡ o → (rest ≡ Some s → ComesFrom order tag slots s)
      → found_or (cond b (went_on span order o) None) rest ≡ Some s → ComesFrom order tag slots s
  went_one false span j o rest e kept is = kept is
  went_one true span j None rest e kept is = kept is
  went_one true span j (Some r) rest e kept is = timely (in_time span r.0 order.ts) is
    where
      timely : (c : Bool) → found_or (cond c (Some (r.0 ++ order ∷ [], r.1)) None) rest ≡ Some s → ComesFrom order tag slots s
      timely true f = inl (j, r, e, inr cc)
      timely false f = kept f

  pub after_comes : (span : Option ℤ) (key_event : KeyEvent) (k : ℕ) → key_event.order ≡ order → slot_after span tag key_event slots k ≡ Some s → ComesFrom order tag slots s
  after_comes span key_event zero e is = kept_one (fits_after 0 key_event || key_event.until) 0 is
  after_comes span key_event (suc zero) e is =
      begun_one (fits_after 0 key_event) tag (cond (fits_after 1 key_event || key_event.until) None (slot_at slots 1)) refl (kept_one (fits_after 1 key_event || key_event.until) 1)
      (subst (λ (x : OrderKey). found_or (cond (fits_after 0 key_event) (option_map (λ (t : Ticket). (x ∷ [], t)) tag) None) (cond (fits_after 1 key_event || key_event.until) None (slot_at slots 1)) ≡ Some s) e is)
  after_comes span key_event (suc (suc k)) e is =
      went_one (fits_after (suc k) key_event && not key_event.until) span (suc k) (slot_at slots (suc k)) (cond (fits_after (suc (suc k)) key_event || key_event.until) None (slot_at slots (suc (suc k)))) refl
      (kept_one (fits_after (suc (suc k)) key_event || key_event.until) (suc (suc k)))
      (subst (λ (x : OrderKey). found_or (cond (fits_after (suc k) key_event && not key_event.until) (went_on span x (slot_at slots (suc k))) None) (cond (fits_after (suc (suc k)) key_event || key_event.until) None (slot_at slots (suc (suc k)))) ≡ Some s) e is)

-- one more event at the end doesn't change the first
same_first : (c : List OrderKey) (order : OrderKey) → 1 ≤ length c → first_time (c ++ order ∷ []) ≡ first_time c
same_first [] order h = absurd (omega arith)
same_first (first ∷ rest) order h = refl

module _ (key : List Value) (slots : List (Option (Sequence Ticket))) (filled : (k : ℕ) (s : Sequence Ticket) → slot_at slots k ≡ Some s → 1 ≤ length s.0) where
  -- a sequence has the ticket, the first timestamp and the key of what it comes from
  pub same_start : (order : OrderKey) (route : Route) (tag : Option Ticket) (s : Sequence Ticket) → route.key ≡ key → ComesFrom order tag slots s
      → ((j : ℕ) × (r : Sequence Ticket) × (slot_at slots j ≡ Some r) × (r.1 ≡ s.1) × (start_of key r ≡ start_of key s)) ⊎ Contains (begun_by order route tag) (s.1, start_of key s)
  same_start order route tag s of (inl (j, r, is, inl same)) = inl (j, r, is, ap (λ (x : Sequence Ticket). x.1) same, ap (start_of key) same)
  same_start order route tag s of (inl (j, r, is, inr more)) =
      inl (j, r, is, ap (λ (x : Sequence Ticket). x.1) more, (λ i. record { time = sym (same_first r.0 order (filled j r is)) i; key = key }) ∙ ap (start_of key) more)
  same_start order route tag s of (inr (t, is, new)) =
      inr (subst (λ (o : Option Ticket). Contains (begun_by order route o) (s.1, start_of key s)) (sym is)
      (0, omega arith, (λ i. (t, record { time = order.ts; key = of i })) ∙ ap (λ (x : Sequence Ticket). (x.1, start_of key x)) new))

  -- and it has an event
  pub still_filled : (order : OrderKey) (tag : Option Ticket) (s : Sequence Ticket) → ComesFrom order tag slots s → 1 ≤ length s.0
  still_filled order tag s (inl (j, r, is, inl same)) = subst (λ (x : Sequence Ticket). 1 ≤ length x.0) same (filled j r is)
  still_filled order tag s (inl (j, r, is, inr more)) =
      let len = length-append r.0 (order ∷ []) in subst (λ (x : Sequence Ticket). 1 ≤ length x.0) more (omega arith)
  still_filled order tag s (inr (t, is, new)) = subst (λ (x : Sequence Ticket). 1 ≤ length x.0) new (omega arith)

-- the tickets of what is begun
pub begun_tickets : (order : OrderKey) (route : Route) (tag : Option Ticket) → map (λ (e : Listed). e.0) (begun_by order route tag) ≡ option_to_list tag
begun_tickets order route None = refl
begun_tickets order route (Some t) = refl

-- and its key
pub begun_here : (order : OrderKey) (route : Route) (tag : Option Ticket) → All (λ (e : Listed). e.1.key ≡ route.key) (begun_by order route tag)
begun_here order route None = All-nil (λ (e : Listed). e.1.key ≡ route.key)
begun_here order route (Some t) = All-cons (λ (e : Listed). e.1.key ≡ route.key) _ [] refl (All-nil (λ (e : Listed). e.1.key ≡ route.key))
