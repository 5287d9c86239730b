-- What becomes of the sequences of all keys as pending ones are put in.
use Rattle.std.proofs.Common.{◌≡◌, ◌≢◌, ◌⊎◌, ◌≤◌, ◌+◌, ◌-◌, ℕ, zero, suc, ℤ, ◌≤ℤ◌, Bool, true, false, eqb, List, [], ◌∷◌, ◌++◌, map, length, set, get_or, Option, Some, None, refl, sym, ap, ◌∙◌, subst, arith, inl, inr, T}
use Rattle.std.specs.Prelude.{All}
use Rattle.std.specs.List.{Contains}
use Rattle.std.specs.List.Sorted.{IsPermutation, IsSortedByKey}
use Rattle.std.specs.Option.{option_map}
use Rattle.std.specs.Ordering.{int_cmp, is_lt, nat_cmp, ordering_then}
use Rattle.std.specs.Cmp.{int_cmp_is, int_cmp_total, nat_cmp_is}
use Rattle.std.specs.FinMap.Entries.{below_all, is_sorted}
use Rattle.std.specs.declared.cmp.Ordering.TheVariants.{Less, Equal}
use Rattle.std.proofs.lemmas.Bool.{cases_eq, eqb-true, eqb-false, both_ways}
use Rattle.std.proofs.lemmas.Int.{by_lt_z}
use Rattle.std.proofs.lemmas.List.{get_or-set_same, get_or-set_other, map-append}
use Rattle.std.proofs.lemmas.List.Elements.{All-append, All-cons, All-contains, All-nil, Contains-append_left, Contains-push}
use Rattle.std.proofs.lemmas.List.Sorted.{ranks_by, sorted_far, IsPermutation-sym, Contains-permutation}
use Rattle.eql_values.specs.declared.found.Holder.{Holder}
use Rattle.eql_values.specs.declared.order.OrderKey.{OrderKey}
use Rattle.eql_values.specs.declared.value.Value.{Value}
use Rattle.eql_values.specs.Matching.{Slot, opening_of, slot_cmp}
use Rattle.eql_values.specs.Orders.{key_cmp, key_eq}
use Rattle.eql_values.specs.Totals.{key_cmp_total}
use Rattle.eql_laws.specs.Merging.{by_slot}
use Rattle.eql_laws.specs.Alive.{HoldersAreInOrder}
use Rattle.eql_laws.specs.OneEvent.{HoldersAreSame}
use Rattle.eql_laws.specs.Shapes.{OpeningFinds}
use Rattle.eql_laws.proofs.Facts.{is_less, left_holds, right_holds}
use Rattle.eql_auto.specs.Machine.{Sequence, slot_at}
use Rattle.eql_span_list.specs.declared.node.Ticket.{Ticket}
use Rattle.eql_part.specs.KeyTables.{holders_in, slots_in}
use Rattle.eql_part.specs.Links.{Differ, StartsRise, first_time, slot_of}
use Rattle.eql_part.proofs.Rows.{Row, own_reverse}
use Rattle.eql_part.proofs.Differing.{differ_nil, differ_cons, differ_across}
use Rattle.eql_part.proofs.Held.{opening_there}
use Rattle.eql_part.proofs.Linking.{each_holds, own_key, same_key}

-- what a function of an element gives is in the list of what it gives
pub contains_map : {X Y : Type 0} (f : X → Y) (xs : List X) (x : X) → Contains xs x → Contains (map f xs) (f x)
contains_map f [] x c = let in' = c.1 in absurd (omega arith)
contains_map f (y ∷ xs) x (zero, l, is) = (0, omega arith, ap f is)
contains_map f (y ∷ xs) x (suc k, l, is) = let on = contains_map f xs x (k, omega arith, is) in (suc on.0, (let in' = on.1 in omega arith), on.2)

module _ {T : Type 0} where
  -- the slots with a sequence put into that of a stage
  put_at : (slots : List (Option (Sequence T))) (stage k : ℕ) (v : Option (Sequence T)) → 1 ≤ stage → stage ≤ length slots → k ≡ stage → slot_at (set slots (stage - 1) v) k ≡ v
  put_at slots stage zero v low high e = absurd (omega arith)
  put_at slots stage (suc j) v low high e =
      let here : stage - 1 ≡ j = omega arith in
      ap (λ (n : ℕ). get_or (set slots n v) j None) here ∙ get_or-set_same slots j v None (omega arith)

  pub put_other : (slots : List (Option (Sequence T))) (stage k : ℕ) (v : Option (Sequence T)) → 1 ≤ stage → k ≢ stage → slot_at (set slots (stage - 1) v) k ≡ slot_at slots k
  put_other slots stage zero v low ne = refl
  put_other slots stage (suc j) v low ne = get_or-set_other slots (stage - 1) j v None (λ e. ne (omega arith))

  -- a slot without a chain has no sequence
  pub no_chain : (o : Option (Sequence T)) → ◌≡◌ {A = Option (List OrderKey)} (option_map (λ (s : Sequence T). s.0) o) None → o ≡ None
  no_chain None e = refl
  no_chain (Some s) e = cc

  pub put_here : (slots : List (Option (Sequence T))) (stage : ℕ) (v : Option (Sequence T)) → 1 ≤ stage → stage ≤ length slots → slot_at (set slots (stage - 1) v) stage ≡ v
  put_here slots stage v low high = put_at slots stage stage v low high refl

  pub put_cases : (slots : List (Option (Sequence T))) (stage k : ℕ) (v s : Sequence T) → 1 ≤ stage → stage ≤ length slots → slot_at (set slots (stage - 1) (Some v)) k ≡ Some s → (v ≡ s) ⊎ (slot_at slots k ≡ Some s)
  put_cases slots stage k v s low high is = elim (cases_eq k stage) [
    | inl e ↦ let both : Some v ≡ Some s = sym (put_at slots stage k (Some v) low high e) ∙ is in inl cc
    | inr ne ↦ inr (sym (put_other slots stage k (Some v) low ne) ∙ is)
  ]

-- pending sequences in order differ in key or stage
own_slot : (s : Slot) → slot_cmp s s ≡ Equal
own_slot s =
    (λ i. ordering_then (own_reverse (key_cmp s.0 s.0) (key_cmp_total.antisymm s.0 s.0) i) (nat_cmp s.1 s.1))
    ∙ sym (nat_cmp_is s.1 s.1 Equal refl)

none_below : (s : Slot) (hs : List Holder) → T (below_all slot_cmp s (map by_slot hs)) → Contains (map slot_of hs) s → ⊥
none_below s [] h c = let in' = c.1 in omega arith
none_below s (x ∷ hs) h (zero, l, is) =
    let less = is_less (slot_cmp s (slot_of x)) (left_holds (is_lt (slot_cmp s (slot_of x))) (below_all slot_cmp s (map by_slot hs)) h) in
    let own : slot_cmp s (slot_of x) ≡ Equal = ap (slot_cmp s) is ∙ own_slot s in
    cc
none_below s (x ∷ hs) h (suc k, l, is) = none_below s hs (right_holds (is_lt (slot_cmp s (slot_of x))) (below_all slot_cmp s (map by_slot hs)) h) (k, omega arith, is)

differ_sorted : (hs : List Holder) → T (is_sorted slot_cmp (map by_slot hs)) → Differ (map slot_of hs)
differ_sorted [] h = differ_nil
differ_sorted (x ∷ hs) h =
    let below = below_all slot_cmp (slot_of x) (map by_slot hs) in
    differ_cons (slot_of x) (map slot_of hs) (none_below (slot_of x) hs (left_holds below (is_sorted slot_cmp (map by_slot hs)) h))
    (differ_sorted hs (right_holds below (is_sorted slot_cmp (map by_slot hs)) h))

pub differ_in_order : (hs : List Holder) → HoldersAreInOrder hs → Differ (map slot_of hs)
differ_in_order hs order = differ_sorted hs (subst T (sym order) tt)

-- sorted by their first timestamps they ascend
not_less : (a b : ℤ) → is_lt (int_cmp a b) ≡ false → b ≤ℤ a
not_less a b e = by_lt_z a b (λ lt. let less = ap is_lt (sym (int_cmp_is a b Less lt)) in absurd (both_ways (is_lt (int_cmp a b)) e less)) (λ le. le)

pub rise_sorted : (hs : List Holder) → IsSortedByKey (λ (h : Holder). first_time h.chain) int_cmp hs → StartsRise hs
rise_sorted [] h = tt
rise_sorted (x ∷ hs) h =
    let time = λ (h : Holder). first_time h.chain in
    let test = λ (a b : Holder). is_lt (int_cmp (time a) (time b)) in (
      λ k d l. not_less (time (get_or hs k d)) (time x) (sorted_far test (ranks_by int_cmp_total time) (x ∷ hs) h 0 (suc k) d (omega arith) (omega arith)),
      rise_sorted hs (λ k d low high.
          let next : suc k + 1 ≡ suc (k + 1) = omega arith in
          subst (λ (n : ℕ). test (get_or (x ∷ hs) n d) (get_or hs k d) ≡ false) next (h (suc k) d (omega arith) (omega arith))),
    )

-- one more sequence is put in
module _ (old new : List (Row Ticket)) (done left : List Holder) (h : Holder) (differ : Differ (map slot_of (done ++ h ∷ left)))
    (there : All (λ (x : Holder). slots_in old x.key x.stage ≡ Some x.chain) done)
    (no_other : (q : List Value) (k : ℕ) (c : List OrderKey) → slots_in old q k ≡ Some c → Contains done (record { key = q; stage = k; chain = c })) where
  apart : (x : Holder) → Contains done x → slot_of x ≡ slot_of h → ⊥
  apart x c same =
      differ_across (map slot_of done) (slot_of h ∷ map slot_of left) (subst Differ (map-append slot_of done (h ∷ left)) differ) (slot_of h)
      (subst (Contains (map slot_of done)) same (contains_map slot_of done x c)) (0, omega arith, refl)

  pub still_empty : slots_in old h.key h.stage ≡ None
  still_empty = by (slots_in old h.key h.stage) refl
    where
      by : (o : Option (List OrderKey)) → slots_in old h.key h.stage ≡ o → o ≡ None
      by None e = refl
      by (Some c) e = absurd (apart (record { key = h.key; stage = h.stage; chain = c }) (no_other h.key h.stage c e) refl)

  module _ (here : slots_in new h.key h.stage ≡ Some h.chain) (others : (q : List Value) (k : ℕ) → (q ≡ h.key → k ≡ h.stage → ⊥) → slots_in new q k ≡ slots_in old q k) where
    pub there_now : All (λ (x : Holder). slots_in new x.key x.stage ≡ Some x.chain) (done ++ h ∷ [])
    there_now =
        let is = λ (x : Holder). slots_in new x.key x.stage ≡ Some x.chain in
        All-append is done (h ∷ [])
        (each_holds is done (λ x c. others x.key x.stage (λ e f. apart x c (λ i. (e i, f i))) ∙ All-contains (λ (x : Holder). slots_in old x.key x.stage ≡ Some x.chain) done x there c))
        (All-cons is h [] here (All-nil is))

    pub no_other_now : (q : List Value) (k : ℕ) (c : List OrderKey) → slots_in new q k ≡ Some c → Contains (done ++ h ∷ []) (record { key = q; stage = k; chain = c })
    no_other_now q k c is = by (key_eq h.key q) (eqb k h.stage) refl refl
      where
        old_one : (q ≡ h.key → k ≡ h.stage → ⊥) → Contains (done ++ h ∷ []) (record { key = q; stage = k; chain = c })
        old_one ne = Contains-append_left done (h ∷ []) (record { key = q; stage = k; chain = c }) (no_other q k c (sym (others q k ne) ∙ is))

        by : (a b : Bool) → key_eq h.key q ≡ a → eqb k h.stage ≡ b → Contains (done ++ h ∷ []) (record { key = q; stage = k; chain = c })
        by true true e f =
            let key = same_key h.key q e in let stage = sym (eqb-true k h.stage f) in
            let both : Some h.chain ≡ Some c = sym here ∙ (λ i. slots_in new (key i) (stage i)) ∙ is in
            let chain : h.chain ≡ c = cc in
            subst (Contains (done ++ h ∷ [])) (λ i. record { key = key i; stage = stage i; chain = chain i }) (Contains-push done h)
        by true false e f = old_one (λ same at. eqb-false k h.stage f at)
        by false b e f = old_one (λ same at. both_ways (key_eq h.key q) e (own_key h.key q same))

-- with all put in, a look-up finds what a look-up among them finds
pub put_is : HoldersAreSame → OpeningFinds → (holders sorted : List Holder) (new : List (Row Ticket)) → HoldersAreInOrder holders → HoldersAreInOrder (holders_in new) → ((key : List Value) (stage : ℕ) → opening_of (holders_in new) key stage ≡ slots_in new key stage)
    → IsPermutation holders sorted → All (λ (x : Holder). slots_in new x.key x.stage ≡ Some x.chain) sorted
    → ((q : List Value) (k : ℕ) (c : List OrderKey) → slots_in new q k ≡ Some c → Contains sorted (record { key = q; stage = k; chain = c })) → holders_in new ≡ holders
put_is same_holders opening_finds holders sorted new order order_new look_up moves there no_other =
    same_holders (holders_in new) holders order_new order (λ key stage. look_up key stage ∙ found key stage (slots_in new key stage) refl)
  where
    none : (key : List Value) (stage : ℕ) → slots_in new key stage ≡ None → (o : Option (List OrderKey)) → opening_of holders key stage ≡ o → None ≡ o
    none key stage e None f = refl
    none key stage e (Some c) f =
        let put = All-contains (λ (x : Holder). slots_in new x.key x.stage ≡ Some x.chain) sorted (record { key = key; stage = stage; chain = c }) there
        (Contains-permutation holders sorted (record { key = key; stage = stage; chain = c }) moves (opening_there holders key stage c f)) in
        let wrong : None ≡ Some c = sym e ∙ put in cc

    found : (key : List Value) (stage : ℕ) (o : Option (List OrderKey)) → slots_in new key stage ≡ o → slots_in new key stage ≡ opening_of holders key stage
    found key stage (Some c) e =
        let held = Contains-permutation sorted holders (record { key = key; stage = stage; chain = c }) (IsPermutation-sym holders sorted moves) (no_other key stage c e) in
        e ∙ sym (All-contains (λ (h : Holder). opening_of holders h.key h.stage ≡ Some h.chain) holders (record { key = key; stage = stage; chain = c }) (opening_finds holders order) held)
    found key stage None e = e ∙ none key stage e (opening_of holders key stage) refl
