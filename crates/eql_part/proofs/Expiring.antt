-- What becomes of the sequences of a key as those that are no longer alive are dropped.
use Rattle.std.proofs.Common.{◌≡◌, ◌⊎◌, ◌<◌, ◌≤◌, ◌+◌, ◌-◌, ◌*◌, ℕ, zero, suc, ℤ, Bool, true, false, cond, List, [], ◌∷◌, ◌++◌, map, length, take, get_or, Option, Some, None, refl, sym, ap, ◌∙◌, subst, arith, inl, inr}
use Rattle.std.specs.Prelude.{All}
use Rattle.std.specs.List.{Contains, cons_option, sum_by}
use Rattle.std.specs.Map.{set_value, values_of}
use Rattle.std.specs.Option.{option_map}
use Rattle.std.specs.BTreeMap.{is_at}
use Rattle.std.proofs.Math.Nat.{mul-le-mul_left}
use Rattle.std.proofs.lemmas.List.{length-append, length-map, take_more, take_all}
use Rattle.std.proofs.lemmas.List.Elements.{filter_map-append, All-contains}
use Rattle.std.proofs.lemmas.List.Sums.{sum_by-cons}
use Rattle.std.proofs.lemmas.Map.Entries.{sum_by-set_value}
use Rattle.eql_values.specs.declared.order.OrderKey.{OrderKey}
use Rattle.eql_values.specs.declared.found.Holder.{Holder}
use Rattle.eql_values.specs.declared.value.Value.{Value}
use Rattle.eql_values.specs.Chains.{in_time}
use Rattle.eql_values.specs.Matching.{stages_to}
use Rattle.eql_values.specs.Orders.{key_cmp, key_eq}
use Rattle.eql_laws.specs.Alive.{alive_at}
use Rattle.eql_auto.specs.Machine.{Machine, Sequence, alive_in, chains_of, chains_to, slot_at, stage_chains, tags_of}
use Rattle.eql_span_list.specs.declared.node.Ticket.{Ticket}
use Rattle.eql_span_list.specs.Entries.{Names, HasDistinctTickets}
use Rattle.eql_part.specs.declared.listing.Start.{Start}
use Rattle.eql_part.specs.KeyTables.{AreOf, KeepsOtherKeys, holders_in, holders_of, machine_of, sequence_of, sequences_in, slots_in, slots_of}
use Rattle.eql_part.specs.Links.{BeginsStale, IsLinked, IsOneOf, IsPending, Listed, Sequences, first_time, is_early, start_of}
use Rattle.eql_part.proofs.Rows.{Row}
use Rattle.eql_part.proofs.Naming.{names_here, names_one}
use Rattle.eql_part.proofs.Linking.{same_key}
use Rattle.eql_part.proofs.Onward.{at_has}
use Rattle.eql_part.proofs.Joining.{contains_from_names, sequence_filled}
use Rattle.eql_part.proofs.Turned.{slots_are}

-- a chain is in time where its first timestamp is
pub in_time_early : (span : Option ℤ) (c : List OrderKey) (now : ℤ) → 1 ≤ length c → in_time span c now ≡ is_early span (first_time c) now
in_time_early None c now h = refl
in_time_early (Some span) [] now h = absurd (omega arith)
in_time_early (Some span) (first ∷ rest) now h = refl

module _ {T : Type 0} where
  tags_append : (xs ys : List (Option (Sequence T))) → tags_of (xs ++ ys) ≡ tags_of xs ++ tags_of ys
  tags_append [] ys = refl
  tags_append (None ∷ xs) ys = tags_append xs ys
  tags_append (Some s ∷ xs) ys = ap (λ (l : List T). s.1 ∷ l) (tags_append xs ys)

  one_chain : (n : ℕ) (o : Option (Sequence T))
      → length {A = ℕ × List OrderKey} (cons_option (option_map (λ (c : List OrderKey). (n, c)) (option_map (λ (s : Sequence T). s.0) o)) []) ≡ length (tags_of (o ∷ []))
  one_chain n None = refl
  one_chain n (Some s) = refl

  chains_up_to : (slots : List (Option (Sequence T))) (n : ℕ) → n ≤ length slots → length (chains_to slots n) ≡ length (tags_of (take n slots))
  chains_up_to slots zero le = refl
  chains_up_to slots (suc n) le =
      let more : suc n ≡ n + 1 = omega arith in
      ap length (filter_map-append {Y = ℕ × List OrderKey} (λ (k : ℕ). option_map (λ (c : List OrderKey). (k, c)) (chains_of slots k)) (stages_to n) (suc n ∷ []))
      ∙ length-append {A = ℕ × List OrderKey} (chains_to slots n) (cons_option (option_map (λ (c : List OrderKey). (suc n, c)) (chains_of slots (suc n))) [])
      ∙ (λ i. chains_up_to slots n (omega arith) i + one_chain (suc n) (get_or slots n None) i)
      ∙ sym (length-append (tags_of (take n slots)) (tags_of (get_or slots n None ∷ [])))
      ∙ sym (ap length (ap (λ (m : ℕ). tags_of (take m slots)) more ∙ ap tags_of (take_more slots n None (omega arith)) ∙ tags_append (take n slots) (get_or slots n None ∷ [])))

  -- there are as many pending sequences of a machine as tags
  pub chains_count : (slots : List (Option (Sequence T))) → length (stage_chains slots) ≡ length (tags_of slots)
  chains_count slots = chains_up_to slots (length slots) (omega arith) ∙ ap (λ (l : List (Option (Sequence T))). length (tags_of l)) (take_all (length slots) slots (omega arith))

  module _ (span : Option ℤ) (now : ℤ) where
    alive_slot_at : (slots : List (Option (Sequence T))) (k : ℕ) → get_or (map (alive_in span now) slots) k None ≡ alive_in span now (get_or slots k None)
    alive_slot_at [] k = refl
    alive_slot_at (s ∷ slots) zero = refl
    alive_slot_at (s ∷ slots) (suc k) = alive_slot_at slots k

    pub alive_slot : (slots : List (Option (Sequence T))) (k : ℕ) → slot_at (map (alive_in span now) slots) k ≡ alive_in span now (slot_at slots k)
    alive_slot slots zero = refl
    alive_slot slots (suc k) = alive_slot_at slots k

    chain_one : (b : Bool) (s : Sequence T) → option_map (λ (s : Sequence T). s.0) (cond b (Some s) None) ≡ cond b (Some s.0) None
    chain_one true s = refl
    chain_one false s = refl

    alive_chain : (o : Option (Sequence T)) → option_map (λ (s : Sequence T). s.0) (alive_in span now o) ≡ alive_at span now (option_map (λ (s : Sequence T). s.0) o)
    alive_chain None = refl
    alive_chain (Some s) = chain_one (in_time span s.0 now) s

    was_one : (b : Bool) (r s : Sequence T) → cond b (Some r) None ≡ Some s → Some r ≡ Some s
    was_one true r s e = e
    was_one false r s e = cc

    -- what is alive was there
    pub alive_was : (o : Option (Sequence T)) (s : Sequence T) → alive_in span now o ≡ Some s → o ≡ Some s
    alive_was None s e = e
    alive_was (Some r) s e = was_one (in_time span r.0 now) r s e

    no_more : (b : Bool) (s : Sequence T) (xs ys : List (Option (Sequence T))) → length (tags_of xs) ≤ length (tags_of ys) → length (tags_of (cond b (Some s) None ∷ xs)) ≤ suc (length (tags_of ys))
    no_more true s xs ys le = omega arith
    no_more false s xs ys le = omega arith

    tags_no_more : (slots : List (Option (Sequence T))) → length (tags_of (map (alive_in span now) slots)) ≤ length (tags_of slots)
    tags_no_more [] = omega arith
    tags_no_more (None ∷ slots) = tags_no_more slots
    tags_no_more (Some s ∷ slots) = no_more (in_time span s.0 now) s (map (alive_in span now) slots) slots (tags_no_more slots)

    less_one : (b : Bool) (s : Sequence T) (xs ys : List (Option (Sequence T))) → length (tags_of xs) < length (tags_of ys) → length (tags_of (cond b (Some s) None ∷ xs)) < suc (length (tags_of ys))
    less_one true s xs ys lt = omega arith
    less_one false s xs ys lt = omega arith

    fewer_at : (slots : List (Option (Sequence T))) (k : ℕ) (s : Sequence T) → get_or slots k None ≡ Some s → in_time span s.0 now ≡ false → length (tags_of (map (alive_in span now) slots)) < length (tags_of slots)
    fewer_at [] k s is dead = cc
    fewer_at (None ∷ slots) zero s is dead = cc
    fewer_at (None ∷ slots) (suc k) s is dead = fewer_at slots k s is dead
    fewer_at (Some r ∷ slots) zero s is dead =
        let same : r ≡ s = cc in
        let less = tags_no_more slots in
        subst (λ (b : Bool). length (tags_of (cond b (Some r) None ∷ map (alive_in span now) slots)) < suc (length (tags_of slots))) (sym (ap (λ (x : Sequence T). in_time span x.0 now) same ∙ dead)) (omega arith)
    fewer_at (Some r ∷ slots) (suc k) s is dead = less_one (in_time span r.0 now) r (map (alive_in span now) slots) slots (fewer_at slots k s is dead)

    -- where one isn't alive, fewer are left
    pub fewer_tags : (slots : List (Option (Sequence T))) (k : ℕ) (s : Sequence T) → slot_at slots k ≡ Some s → in_time span s.0 now ≡ false → length (tags_of (map (alive_in span now) slots)) < length (tags_of slots)
    fewer_tags slots zero s is dead = cc
    fewer_tags slots (suc k) s is dead = fewer_at slots k s is dead

twice_one : (span : Option ℤ) (now : ℤ) (c : List OrderKey) (b : Bool) → in_time span c now ≡ b → alive_at span now (cond b (Some c) None) ≡ cond b (Some c) None
twice_one span now c true e = ap (λ (x : Bool). cond x (Some c) None) e
twice_one span now c false e = refl

pub alive_twice : (span : Option ℤ) (now : ℤ) (o : Option (List OrderKey)) → alive_at span now (alive_at span now o) ≡ alive_at span now o
alive_twice span now None = refl
alive_twice span now (Some c) = twice_one span now c (in_time span c now) refl

-- how many sequences a machine has
abbrev pub count : Machine Ticket → ℕ
count machine = length (tags_of machine.slots)

holders_count : (es : List (Row Ticket)) → length (holders_in es) ≡ sum_by count (values_of es)
holders_count [] = refl
holders_count (e ∷ es) =
    length-append (holders_of e) (holders_in es)
    ∙ (λ i. (length-map {B = Holder} (stage_chains e.1.slots) (λ (s : ℕ × List OrderKey). record { key = e.0; stage = s.0; chain = s.1 }) ∙ chains_count e.1.slots) i + holders_count es i)
    ∙ sym (sum_by-cons count e.1 (values_of es))

-- a machine with fewer sequences in place of one
pub fewer_holders : (es new : List (Row Ticket)) (key : List Value) (machine w : Machine Ticket) → machine_of es key ≡ Some machine → new ≡ set_value (is_at (key_cmp key)) es w → count w < count machine
    → length (holders_in new) < length (holders_in es)
fewer_holders es new key machine w found is lt =
    let sums = sum_by-set_value count (is_at (key_cmp key)) es machine w found in
    let before = holders_count es in
    let after = ap (λ (l : List (Row Ticket)). length (holders_in l)) is ∙ holders_count (set_value (is_at (key_cmp key)) es w) in
    omega arith

-- the first on the list is pending
pub front_pending : (at : Sequences) (list : List Listed) (t : Ticket) (start : Start) (rest : List Listed) → IsLinked [] at list → list ≡ (t, start) ∷ rest → IsPending at t start
front_pending at list t start rest linked is =
    by (linked.no_other t start (subst (λ (l : List Listed). Names l t start) (sym is) (names_here rest t start)))
  where
    by : IsPending at t start ⊎ Contains {X = Listed} [] (t, start) → IsPending at t start
    by (inl p) = p
    by (inr c) = let in' = c.1 in absurd (omega arith)

front_stale : (span : Option ℤ) (now : ℤ) (list : List Listed) (t : Ticket) (start : Start) (rest : List Listed) → BeginsStale span now list → list ≡ (t, start) ∷ rest → is_early span start.time now ≡ false
front_stale span now list t start rest stale is =
    let both : (stale.0, stale.1) ∷ stale.2 ≡ (t, start) ∷ rest = sym stale.3 ∙ is in
    let same : (stale.0, stale.1) ≡ (t, start) = cc in
    sym (ap (λ (e : Listed). is_early span e.1.time now) same) ∙ stale.4

-- the sequence of the first on the list isn't alive
pub front_slot : (span : Option ℤ) (now : ℤ) (es : List (Row Ticket)) (machine : Machine Ticket) (list : List Listed) (t : Ticket) (start : Start) (rest : List Listed)
    → machine_of es start.key ≡ Some machine → ((k : ℕ) (s : Sequence Ticket) → slot_at machine.slots k ≡ Some s → 1 ≤ length s.0) → IsLinked [] (sequences_in es) list → BeginsStale span now list
    → list ≡ (t, start) ∷ rest → (k : ℕ) × (s : Sequence Ticket) × (slot_at machine.slots k ≡ Some s) × (in_time span s.0 now ≡ false)
front_slot span now es machine list t start rest found filled linked stale is =
    let p = front_pending (sequences_in es) list t start rest linked is in
    let there : slot_at machine.slots p.0 ≡ Some p.1 = sym (ap (λ (o : Option (Machine Ticket)). sequence_of o p.0) found) ∙ p.2 in (
      p.0,
      p.1,
      there,
      in_time_early span p.1.0 now (filled p.0 p.1 there) ∙ ap (λ (x : Start). is_early span x.time now) p.4 ∙ front_stale span now list t start rest stale is,
    )

-- what the list had of a sequence of a machine has its key
pub one_key : (es : List (Row Ticket)) (key : List Value) (machine : Machine Ticket) (list : List Listed) (start : Start) → machine_of es key ≡ Some machine → IsLinked [] (sequences_in es) list → HasDistinctTickets list
    → IsOneOf (tags_of machine.slots) list start → start.key ≡ key
one_key es key machine list start found linked distinct one =
    let s = at_has es key machine found one.0 one.1 in
    ap (λ (x : Start). x.key) (names_one list distinct one.0 start (start_of key s.1) one.2 (subst (λ (u : Ticket). Names list u (start_of key s.1)) s.3 (linked.pending_listed key s.0 s.1 s.2)))

-- what is alive of each key is the same
pub alive_same : (span : Option ℤ) (now : ℤ) (old new : List (Row Ticket)) (key : List Value) (machine w : Machine Ticket) → machine_of old key ≡ Some machine → machine_of new key ≡ Some w → KeepsOtherKeys key old new
    → w.slots ≡ map (alive_in span now) machine.slots → (q : List Value) (k : ℕ) → alive_at span now (slots_in new q k) ≡ alive_at span now (slots_in old q k)
alive_same span now old new key machine w found updated others is q k = by (key_eq key q) refl
  where
    by : (b : Bool) → key_eq key q ≡ b → alive_at span now (slots_in new q k) ≡ alive_at span now (slots_in old q k)
    by true e =
        let same = sym (same_key key q e) in
        ap (λ (p : List Value). alive_at span now (slots_in new p k)) same
        ∙ ap (λ (o : Option (Machine Ticket)). alive_at span now (slots_of o k)) updated
        ∙ ap (λ (l : List (Option (Sequence Ticket))). alive_at span now (chains_of l k)) is
        ∙ ap (λ (o : Option (Sequence Ticket)). alive_at span now (option_map (λ (s : Sequence Ticket). s.0) o)) (alive_slot span now machine.slots k)
        ∙ ap (alive_at span now) (alive_chain span now (slot_at machine.slots k))
        ∙ alive_twice span now (chains_of machine.slots k)
        ∙ sym (ap (λ (o : Option (Machine Ticket)). alive_at span now (slots_of o k)) found)
        ∙ sym (ap (λ (p : List Value). alive_at span now (slots_in old p k)) same)
    by false e = ap (λ (o : Option (Machine Ticket)). alive_at span now (slots_of o k)) (others q e)

-- one more is dropped for at most so many probes
pub one_dropped : (c steps now start left fewer all : ℕ) → now ≤ steps + c → fewer < left → steps + c * left ≤ start + c * all → now + c * fewer ≤ start + c * all
one_dropped c steps now start left fewer all one less before =
    let more : c * suc fewer ≤ c * left = mul-le-mul_left c less in
    let each : c * suc fewer ≡ c + c * fewer = grind arith in
    omega arith

-- the probes of all that was dropped
pub all_dropped : (c now start left all : ℕ) → left ≤ all → now + c * left ≤ start + c * all → now ≤ start + c * (all - left)
all_dropped c now start left all le h =
    let parts : all ≡ left + (all - left) = omega arith in
    let each : c * all ≡ c * left + c * (all - left) = ap (λ (n : ℕ). c * n) parts ∙ grind arith in
    omega arith

-- where the list is in time, so is all that is pending
pub all_alive : (m : ℕ) (span : Option ℤ) (now : ℤ) (es : List (Row Ticket)) (list : List Listed) → AreOf m span es → IsLinked [] (sequences_in es) list → All (λ (e : Listed). is_early span e.1.time now ≡ true) list
    → (q : List Value) (k : ℕ) → alive_at span now (slots_in es q k) ≡ slots_in es q k
all_alive m span now es list of linked early q k =
    ap (alive_at span now) (slots_are (machine_of es q) k) ∙ by (sequences_in es q k) refl ∙ sym (slots_are (machine_of es q) k)
  where
    by : (o : Option (Sequence Ticket)) → sequences_in es q k ≡ o → alive_at span now (option_map (λ (s : Sequence Ticket). s.0) o) ≡ option_map (λ (s : Sequence Ticket). s.0) o
    by None e = refl
    by (Some s) e =
        let named = linked.pending_listed q k s e in
        let timely = All-contains (λ (e : Listed). is_early span e.1.time now ≡ true) list (s.1, start_of q s) early (contains_from_names list s.1 (start_of q s) named) in
        ap (λ (b : Bool). cond b (Some s.0) None) (in_time_early span s.0 now (sequence_filled m span es of q k s e) ∙ timely)
