-- What writing a slot does to what a table shows, and to its tags.
use Rattle.std.proofs.Common.{◌≡◌, ◌≢◌, ◌<◌, ◌+◌, ℕ, zero, suc, ℤ, Bool, true, false, cond, List, [], ◌∷◌, ◌++◌, length, set, get_or, Option, Some, None, replicate, refl, sym, ap, ◌∙◌, add-one, arith, rules, subst, IfSome, inl, inr}
use Rattle.std.specs.Prelude.{◌==◌, ◌&&◌, MatchBool}
use Rattle.std.specs.Option.{option_map, option_to_list}
use Rattle.std.specs.List.{cons_option}
use Rattle.std.specs.List.Sorted.{IsPermutation}
use Rattle.std.specs.Ordering.{is_lt}
use Rattle.std.specs.declared.cmp.Ordering.TheVariants.{Less}
use Rattle.std.proofs.lemmas.Bool.{cases_order, cases_lt}
use Rattle.std.proofs.lemmas.Bool.Decides.{nat_tests}
use Rattle.std.proofs.lemmas.List.{map-set, set-get_or, get_or-set_same, get_or-set_other, length-set, length-map, set_past, append_assoc}
use Rattle.std.proofs.lemmas.List.Elements.{filter_map-append}
use Rattle.std.proofs.lemmas.List.Sorted.{IsPermutation-trans, IsPermutation-append_right, IsPermutation-append_left, IsPermutation-append_comm}
use Rattle.std.proofs.Math.ListN.{get_or-map}
use Rattle.eql_values.specs.declared.order.OrderKey.{OrderKey}
use Rattle.eql_values.specs.Chains.{in_time}
use Rattle.eql_values.specs.Matching.{stages_to}
use Rattle.eql_values.specs.OrderKeys.{order_cmp, before_all, events_ascend, EventsAscend}
use Rattle.eql_values.specs.Ordered.{found_or}
use Rattle.eql_auto.specs.declared.table.Pending.{Pending}
use Rattle.eql_auto.specs.declared.table.Which.{Which}
use Rattle.eql_auto.specs.Machine.{Sequence, AllAreBefore, ComesAfter, tags_of, went_on, chains_of, chains_to}
use Rattle.eql_auto.specs.Moves.{chain_in, emptied_slot}
use Rattle.eql_auto.specs.Kept.{IsKept, sequence_view, sequence_views, AreKept}

-- an event that comes after all others of a chain goes on with it in order
before_push : (first event : OrderKey) (chain : List OrderKey) → before_all first chain ≡ true → order_cmp first event ≡ Less → before_all first (chain ++ event ∷ []) ≡ true
before_push first event [] h l = ap (λ o. is_lt o && true) l
before_push first event (next ∷ chain) h l = both (is_lt (order_cmp first next)) (before_all first chain) (before_all first (chain ++ event ∷ [])) h (λ g. before_push first event chain g l) where
  both : (a b d : Bool) → (a && b) ≡ true → (b ≡ true → d ≡ true) → (a && d) ≡ true
  both true b d h f = f h
  both false b d h f = h

pub ascend_push : (event : OrderKey) (chain : List OrderKey) → events_ascend chain ≡ true → AllAreBefore event chain → events_ascend (chain ++ event ∷ []) ≡ true
ascend_push event [] h l = refl
ascend_push event (first ∷ chain) h l =
    both (before_all first chain) (events_ascend chain) (before_all first (chain ++ event ∷ [])) (events_ascend (chain ++ event ∷ [])) h
    (λ g. before_push first event chain g (l 0 first (omega arith))) (λ g. ascend_push event chain g (λ k d below. l (suc k) d (omega arith))) where
      both : (a b c d : Bool) → (a && b) ≡ true → (a ≡ true → c ≡ true) → (b ≡ true → d ≡ true) → (c && d) ≡ true
      both true true c d h f g = ap (λ x. x && d) (f refl) ∙ g refl
      both true false c d h f g = cc
      both false b c d h f g = cc

empties : (b : Bool) (A B : Type 0) → MatchBool b A B → b ≡ false → B
empties true A B h e = cc
empties false A B h e = h

-- a chain comes out of the last place alone
pub comes_out : {X : Type 0} (m n : ℕ) (out x : X) → m ≡ n → out ≡ x → Some out ≡ cond (m == n) (Some x) None
comes_out m n out x at is = ap Some is ∙ same (m == n) (search (rules, nat_tests)) where
  same : (b : Bool) → b ≡ true → Some x ≡ cond b (Some x) None
  same true e = refl
  same false e = cc

pub stays_in : {X : Type 0} (m n : ℕ) (x : X) → m < n → None ≡ cond (m == n) (Some x) None
stays_in m n x before = apart (m == n) (search (rules, nat_tests)) where
  apart : (b : Bool) → b ≡ false → None ≡ cond b (Some x) None
  apart true e = cc
  apart false e = refl

abbrev at_stage : ℕ → List OrderKey → ℕ × List OrderKey
at_stage k chain = (k, chain)

-- past a list's end alone the default matters
pub get_or_any : {X : Type 0} (xs : List X) (i : ℕ) (d e : X) → i < length xs → get_or xs i d ≡ get_or xs i e
get_or_any [] i d e l = absurd (omega arith)
get_or_any (x ∷ xs) zero d e l = refl
get_or_any (x ∷ xs) (suc i) d e l = get_or_any xs i d e (omega arith)

module _ {T : Type 0} where
  -- the tag of a sequence, as a list of at most one
  abbrev pub tag_list : Option (Sequence T) → List T
  tag_list slot = option_to_list (option_map (λ s. s.1) slot)

  tags_cons : (x : Option (Sequence T)) (slots : List (Option (Sequence T))) → tags_of (x ∷ slots) ≡ tag_list x ++ tags_of slots
  tags_cons None slots = refl
  tags_cons (Some s) slots = refl

  -- two first parts may change places
  front_swap : (xs ys zs : List T) → IsPermutation (xs ++ (ys ++ zs)) (ys ++ (xs ++ zs))
  front_swap xs ys zs =
      subst (λ (l : List T). IsPermutation l (ys ++ (xs ++ zs))) (append_assoc xs ys zs)
      (subst (λ (l : List T). IsPermutation ((xs ++ ys) ++ zs) l) (append_assoc ys xs zs)
      (IsPermutation-append_left zs (xs ++ ys) (ys ++ xs) (IsPermutation-append_comm xs ys)))

  -- writing a slot: the tag that was there comes out, and the tag of what is written goes in
  pub tags_set : (slots : List (Option (Sequence T))) (i : ℕ) (v : Option (Sequence T)) → i < length slots
      → IsPermutation (tag_list (get_or slots i None) ++ tags_of (set slots i v)) (tag_list v ++ tags_of slots)
  tags_set [] i v l = absurd (omega arith)
  tags_set (x ∷ slots) zero v l =
      subst (λ (l : List T). IsPermutation (tag_list x ++ l) (tag_list v ++ tags_of (x ∷ slots))) (sym (tags_cons v slots))
      (subst (λ (l : List T). IsPermutation (tag_list x ++ (tag_list v ++ tags_of slots)) (tag_list v ++ l)) (sym (tags_cons x slots))
      (front_swap (tag_list x) (tag_list v) (tags_of slots)))
  tags_set (x ∷ slots) (suc i) v l =
      let old = get_or slots i None in let rest = tags_of (set slots i v) in
      let deeper = tags_set slots i v (omega arith) in
      subst (λ (l : List T). IsPermutation (tag_list old ++ l) (tag_list v ++ tags_of (x ∷ slots))) (sym (tags_cons x (set slots i v)))
      (subst (λ (l : List T). IsPermutation (tag_list old ++ (tag_list x ++ rest)) (tag_list v ++ l)) (sym (tags_cons x slots))
      (IsPermutation-trans _ (tag_list x ++ (tag_list old ++ rest)) _ (front_swap (tag_list old) (tag_list x) rest)
      (IsPermutation-trans _ (tag_list x ++ (tag_list v ++ tags_of slots)) _
      (IsPermutation-append_right (tag_list x) (tag_list old ++ rest) (tag_list v ++ tags_of slots) deeper)
      (front_swap (tag_list x) (tag_list v) (tags_of slots)))))

  -- what a slot shows
  pub shown_at : (slots : List (Option (Pending T))) (now : List (Option (Sequence T))) (i : ℕ) → sequence_views slots ≡ now
      → get_or now i None ≡ option_map sequence_view (get_or slots i None)
  shown_at slots now i v = ap (λ (l : List (Option (Sequence T))). get_or l i None) (sym v) ∙ get_or-map (option_map sequence_view) slots i None

  -- what a written table shows
  pub shown_set : (slots : List (Option (Pending T))) (now : List (Option (Sequence T))) (i : ℕ) (v : Option (Pending T)) → sequence_views slots ≡ now
      → sequence_views (set slots i v) ≡ set now i (option_map sequence_view v)
  shown_set slots now i v e = map-set (option_map sequence_view) slots i v ∙ ap (λ (l : List (Option (Sequence T))). set l i (option_map sequence_view v)) e

  pub shown_length : (slots : List (Option (Pending T))) (now : List (Option (Sequence T))) → sequence_views slots ≡ now → length slots ≡ length now
  shown_length slots now e = sym (length-map slots (option_map sequence_view)) ∙ ap length e

  tag_shown : (p : Option (Pending T)) → option_map (λ p. p.tag) p ≡ option_map (λ s. s.1) (option_map sequence_view p)
  tag_shown None = refl
  tag_shown (Some p) = refl

  -- the tags of a written table, where the tag that came out is this one
  pub tags_written : (slots new : List (Option (Pending T))) (now : List (Option (Sequence T))) (i : ℕ) (v older : Option (Pending T)) (out : Option T)
      → sequence_views slots ≡ now → i < length slots → new ≡ set slots i v → older ≡ get_or slots i None → out ≡ option_map (λ p. p.tag) older
      → IsPermutation (option_to_list out ++ tags_of (sequence_views new)) (tag_list (option_map sequence_view v) ++ tags_of now)
  tags_written slots new now i v older out e l w taken o =
      let out_is : option_to_list out ≡ tag_list (get_or now i None) =
      ap option_to_list (o ∙ ap (λ (q : Option (Pending T)). option_map (λ p. p.tag) q) taken ∙ tag_shown (get_or slots i None)) ∙ ap tag_list (sym (shown_at slots now i e)) in
      let new_is : sequence_views new ≡ set now i (option_map sequence_view v) = ap sequence_views w ∙ shown_set slots now i v e in
      let within : i < length now = subst (λ (n : ℕ). i < n) (shown_length slots now e) l in
      subst (λ (l : List T). IsPermutation (l ++ tags_of (sequence_views new)) (tag_list (option_map sequence_view v) ++ tags_of now)) (sym out_is)
      (subst (λ (l : List (Option (Sequence T))). IsPermutation (tag_list (get_or now i None) ++ tags_of l) (tag_list (option_map sequence_view v) ++ tags_of now)) (sym new_is)
      (tags_set now i (option_map sequence_view v) within))

  -- a table of empty slots
  pub shown_empty : (n : ℕ) → ◌≡◌ {A = List (Option (Sequence T))} (sequence_views {T = T} (replicate n None)) (replicate n None)
  shown_empty zero = refl
  shown_empty (suc n) = ap (λ (l : List (Option (Sequence T))). None ∷ l) (shown_empty n)

  none_of : (n i : ℕ) → ◌≡◌ {A = Option (Pending T)} (get_or (replicate n None) i None) None
  none_of zero i = refl
  none_of (suc n) zero = refl
  none_of (suc n) (suc i) = none_of n i

  pub empty_kept : (slots : List (Option (Pending T))) (n : ℕ) → slots ≡ replicate n None → AreKept slots
  empty_kept slots n e place =
      subst (λ (o : Option (Pending T)). IfSome o (IsKept (length slots) place)) (sym (ap (λ (l : List (Option (Pending T))). get_or l place None) e ∙ none_of n place)) tt

  -- one more empty slot
  pub empty_more : (slots new : List (Option (Pending T))) (n : ℕ) → slots ≡ replicate n None → new ≡ slots ++ None ∷ [] → new ≡ replicate (n + 1) None
  empty_more slots new n e pushed =
      subst (λ (m : ℕ). new ≡ replicate m None) (sym (add-one n)) (pushed ∙ ap (λ (l : List (Option (Pending T))). l ++ None ∷ []) e ∙ further n) where
        further : (n : ℕ) → ◌≡◌ {A = List (Option (Pending T))} (replicate n None ++ None ∷ []) (replicate (suc n) None)
        further zero = refl
        further (suc n) = ap (λ (l : List (Option (Pending T))). None ∷ l) (further n)

  pub empty_whole : (slots : List (Option (Pending T))) (m n : ℕ) → slots ≡ replicate m None → m ≡ n → slots ≡ replicate n None
  empty_whole slots m n e whole = subst (λ (k : ℕ). slots ≡ replicate k None) whole e

  -- a kept table stays so where a slot is written with what is kept
  pub kept_set : (slots new : List (Option (Pending T))) (i : ℕ) (v : Option (Pending T)) → AreKept slots → new ≡ set slots i v
      → IfSome v (IsKept (length slots) i) → AreKept new
  kept_set slots new i v all w h place =
      let same : length new ≡ length slots = ap length w ∙ length-set slots i v in
      subst (λ (n : ℕ). IfSome (get_or new place None) (IsKept n place)) (sym same)
      (subst (λ (l : List (Option (Pending T))). IfSome (get_or l place None) (IsKept (length slots) place)) (sym w) (written place)) where
        written : (place : ℕ) → IfSome (get_or (set slots i v) place None) (IsKept (length slots) place)
        written place = elim (cases_order place i) [
          | inl e ↦ elim (cases_lt i (length slots)) [
            | inl l ↦ subst (λ (o : Option (Pending T)). IfSome o (IsKept (length slots) place)) (sym (ap (λ (n : ℕ). get_or (set slots i v) n None) e ∙ get_or-set_same slots i v None l))
                (subst (λ (n : ℕ). IfSome v (IsKept (length slots) n)) (sym e) h)
            | inr g ↦ subst (λ (l : List (Option (Pending T))). IfSome (get_or l place None) (IsKept (length slots) place)) (sym (set_past slots i v g)) (all place)
          ]
          | inr o ↦ let apart : place ≢ i = λ e. elim o [ inl l ↦ absurd (omega arith) | inr l ↦ absurd (omega arith) ] in
              subst (λ (o : Option (Pending T)). IfSome o (IsKept (length slots) place)) (sym (get_or-set_other slots i place v None apart)) (all place)
        ]

  -- what a slot had is gone, and no other changed
  pub taken_tags : (slots new : List (Option (Pending T))) (now : List (Option (Sequence T))) (i : ℕ) (held : Pending T)
      → sequence_views slots ≡ now → i < length slots → new ≡ set slots i None → Some held ≡ get_or slots i None
      → IsPermutation (held.tag ∷ tags_of (sequence_views new)) (tags_of now)
  taken_tags slots new now i held e l w taken = tags_written slots new now i None (Some held) (Some held.tag) e l w taken refl

  -- taking out what a slot has leaves the table as long
  pub taken_length : (slots new : List (Option (Pending T))) (now : List (Option (Sequence T))) (i : ℕ) → sequence_views slots ≡ now → new ≡ set slots i None → length (sequence_views new) ≡ length now
  taken_length slots new now i e w = ap length (ap sequence_views w ∙ shown_set slots now i None e) ∙ length-set now i None

  -- where nothing moves on, no chain comes out
  none_out : (b : Bool) (o : Option (Sequence T)) → o ≡ None → ◌≡◌ {A = Option (List OrderKey)} None (cond b (chain_in o) None)
  none_out true o e = ap chain_in (sym e)
  none_out false o e = refl

  -- an empty slot has nothing to move on
  module _ (span : Option ℤ) (event : OrderKey) (slots new : List (Option (Pending T))) (now : List (Option (Sequence T))) (a k : ℕ)
      (e : sequence_views slots ≡ now) (taken : ◌≡◌ {A = Option (Pending T)} None (get_or slots a None)) where
    none_on : went_on span event (get_or now a None) ≡ None
    none_on = ap (went_on span event) (shown_at slots now a e ∙ ap (option_map sequence_view) (sym taken))

    pub nothing : new ≡ set slots a None → k ≡ a + 1
        → sequence_views new ≡ set (set now a None) k (found_or (went_on span event (get_or now a None)) (get_or now k None))
    nothing w next =
        let apart : k ≢ a = λ q. absurd (omega arith) in
        ap sequence_views w ∙ shown_set slots now a None e ∙ sym (set-get_or (set now a None) k None)
        ∙ ap (λ (o : Option (Sequence T)). set (set now a None) k o) (get_or-set_other now a k None None apart ∙ ap (λ (o : Option (Sequence T)). found_or o (get_or now k None)) (sym none_on))

    pub nothing_out : ◌≡◌ {A = Option (List OrderKey)} None (cond (k == length now) (chain_in (went_on span event (get_or now a None))) None)
    nothing_out = none_out (k == length now) (went_on span event (get_or now a None)) none_on

  module _ (span : Option ℤ) (event : OrderKey) (slots new : List (Option (Pending T))) (now : List (Option (Sequence T))) (a k : ℕ) (held : Pending T)
      (e : sequence_views slots ≡ now) (w : new ≡ set slots a None) (taken : Some held ≡ get_or slots a None) (next : k ≡ a + 1) where
    left_is : sequence_views new ≡ set now a None
    left_is = ap sequence_views w ∙ shown_set slots now a None e

    was : get_or now a None ≡ Some (sequence_view held)
    was = shown_at slots now a e ∙ ap (option_map sequence_view) (sym taken)

    -- a sequence that is too late leaves its slot
    pub dropped : in_time span held.events.items event.ts ≡ false
        → sequence_views new ≡ set (set now a None) k (found_or (went_on span event (get_or now a None)) (get_or now k None))
    dropped late =
        let apart : k ≢ a = λ q. absurd (omega arith) in
        let gone : went_on span event (get_or now a None) ≡ None = ap (went_on span event) was ∙ ap (λ b. cond b (Some (held.events.items ++ event ∷ [], held.tag)) None) late in
        left_is ∙ sym (set-get_or (set now a None) k None)
        ∙ ap (λ (o : Option (Sequence T)). set (set now a None) k o) (get_or-set_other now a k None None apart ∙ ap (λ (o : Option (Sequence T)). found_or o (get_or now k None)) (sym gone))

    pub dropped_out : in_time span held.events.items event.ts ≡ false → ◌≡◌ {A = Option (List OrderKey)} None (cond (k == length now) (chain_in (went_on span event (get_or now a None))) None)
    dropped_out late =
        none_out (k == length now) (went_on span event (get_or now a None))
        (ap (went_on span event) was ∙ ap (λ b. cond b (Some (held.events.items ++ event ∷ [], held.tag)) None) late)

    module _ (events : List OrderKey) (early : in_time span held.events.items event.ts ≡ true) (pushed : events ≡ held.events.items ++ event ∷ []) where
      -- what moved on
      pub goes_on : went_on span event (get_or now a None) ≡ Some (events, held.tag)
      goes_on = ap (went_on span event) was ∙ ap (λ b. cond b (Some (held.events.items ++ event ∷ [], held.tag)) None) early
          ∙ ap (λ (c : List OrderKey). Some (c, held.tag)) (sym pushed)

      pub carried : (after : List (Option (Sequence T))) → after ≡ set (sequence_views new) k (Some (events, held.tag))
          → after ≡ set (set now a None) k (found_or (went_on span event (get_or now a None)) (get_or now k None))
      carried after settled =
          settled ∙ ap (λ (l : List (Option (Sequence T))). set l k (Some (events, held.tag))) left_is
          ∙ ap (λ (o : Option (Sequence T)). set (set now a None) k (found_or o (get_or now k None))) (sym goes_on)

      pub carried_out : (out : Option (List OrderKey)) → out ≡ cond (k == length (sequence_views new)) (Some events) None
          → out ≡ cond (k == length now) (chain_in (went_on span event (get_or now a None))) None
      carried_out out settled =
          let len : length (sequence_views new) ≡ length now = ap length left_is ∙ length-set now a None in
          settled ∙ ap (λ n. cond (k == n) (Some events) None) len ∙ ap (λ (o : Option (Sequence T)). cond (k == length now) (chain_in o) None) (sym goes_on)

    -- the events with the new one ascend
    pub goes_in_order : (events : List OrderKey) → events ≡ held.events.items ++ event ∷ [] → EventsAscend held.events.items → ComesAfter event (get_or now a None) → EventsAscend events
    goes_in_order events pushed h later =
        let before : AllAreBefore event held.events.items = subst (λ (o : Option (Sequence T)). ComesAfter event o) was later in
        subst EventsAscend (sym pushed) (ascend_push event held.events.items h before)

  -- a sequence of a kept table
  pub kept_at : (slots : List (Option (Pending T))) (i : ℕ) (held : Pending T) → AreKept slots → Some held ≡ get_or slots i None → IsKept (length slots) i held
  kept_at slots i held all is = subst (λ (o : Option (Pending T)). IfSome o (IsKept (length slots) i)) (sym is) (all i)

  pub ascends_at : (slots : List (Option (Pending T))) (i : ℕ) (slot : Option (Pending T)) → AreKept slots → slot ≡ get_or slots i None
      → IfSome slot (λ p. EventsAscend p.events.items)
  ascends_at slots i None all is = tt
  ascends_at slots i (Some p) all is = (kept_at slots i p all is).ascends

  -- a written sequence with this chain
  pub wrote : (slots new : List (Option (Pending T))) (now : List (Option (Sequence T))) (i : ℕ) (p : Pending T) (chain : List OrderKey) → sequence_views slots ≡ now
      → new ≡ set slots i (Some p) → p.events.items ≡ chain → sequence_views new ≡ set now i (Some (chain, p.tag))
  wrote slots new now i p chain e w is = ap sequence_views w ∙ shown_set slots now i (Some p) e ∙ ap (λ (c : List OrderKey). set now i (Some (c, p.tag))) is

  no_tag : (o : Option (Pending T)) → ◌≡◌ {A = Option (Sequence T)} (option_map sequence_view o) None → ◌≡◌ {A = Option T} None (option_map (λ p. p.tag) o)
  no_tag None h = refl
  no_tag (Some p) h = cc

  pub wrote_tags : (slots new : List (Option (Pending T))) (now : List (Option (Sequence T))) (i : ℕ) (p : Pending T) → sequence_views slots ≡ now → i < length slots
      → new ≡ set slots i (Some p) → get_or now i None ≡ None → IsPermutation (tags_of (sequence_views new)) (p.tag ∷ tags_of now)
  wrote_tags slots new now i p e l w free =
      tags_written slots new now i (Some p) (get_or slots i None) None e l w refl (no_tag (get_or slots i None) (sym (shown_at slots now i e) ∙ free))

  -- a slot that an emptying leaves
  pub left_alone : (slots : List (Option (Pending T))) (now : List (Option (Sequence T))) (i : ℕ) (which : Which) (slot : Option (Pending T)) → sequence_views slots ≡ now
      → slot ≡ get_or slots i None → emptied_slot which (option_map sequence_view slot) ≡ option_map sequence_view slot → now ≡ set now i (emptied_slot which (get_or now i None))
  left_alone slots now i which slot e is h =
      let held : get_or now i None ≡ option_map sequence_view slot = shown_at slots now i e ∙ ap (option_map sequence_view) (sym is) in
      sym (set-get_or now i None) ∙ ap (λ (o : Option (Sequence T)). set now i o) (held ∙ sym h ∙ ap (emptied_slot which) (sym held))

  pub emptied_out : (slots new : List (Option (Pending T))) (now : List (Option (Sequence T))) (i : ℕ) (which : Which) (slot : Option (Pending T)) (spared : Bool)
      → sequence_views slots ≡ now → new ≡ set slots i None → slot ≡ get_or slots i None
      → MatchBool spared (emptied_slot which (option_map sequence_view slot) ≡ option_map sequence_view slot) (emptied_slot which (option_map sequence_view slot) ≡ None) → spared ≡ false
      → sequence_views new ≡ set now i (emptied_slot which (get_or now i None))
  emptied_out slots new now i which slot spared e w is h denied =
      let none : emptied_slot which (option_map sequence_view slot) ≡ None = empties spared _ _ h denied in
      ap sequence_views w ∙ shown_set slots now i None e
      ∙ ap (λ (o : Option (Sequence T)). set now i o) (sym (ap (emptied_slot which) (shown_at slots now i e ∙ ap (option_map sequence_view) (sym is)) ∙ none))

  -- the chains up to one more stage
  pub chains_more : (slots : List (Option (Pending T))) (now : List (Option (Sequence T))) (n k : ℕ) (slot : Option (Pending T)) → sequence_views slots ≡ now → k ≡ n + 1 → slot ≡ get_or slots n None
      → chains_to now n ++ option_to_list (option_map (λ p. (k, p.events.items)) slot) ≡ chains_to now k
  chains_more slots now n k slot e at is =
      let at' : k ≡ suc n = omega arith in
      let chain : chains_of now (suc n) ≡ option_map (λ p. p.events.items) slot =
      ap (option_map (λ s. s.0)) (shown_at slots now n e ∙ ap (option_map sequence_view) (sym is)) ∙ once slot in
      sym (ap (chains_to now) at' ∙ filter_map-append entry (stages_to n) (suc n ∷ [])
      ∙ ap (λ (o : Option (List OrderKey)). chains_to now n ++ cons_option (option_map (at_stage (suc n)) o) []) chain
      ∙ ap (λ (l : List (ℕ × List OrderKey)). chains_to now n ++ l) (one (suc n) slot)
      ∙ ap (λ (m : ℕ). chains_to now n ++ option_to_list (option_map (λ p. (m, p.events.items)) slot)) (sym at')) where
        entry : ℕ → Option (ℕ × List OrderKey)
        entry j = option_map (at_stage j) (chains_of now j)

        once : (o : Option (Pending T)) → option_map (λ s. s.0) (option_map sequence_view o) ≡ option_map (λ p. p.events.items) o
        once None = refl
        once (Some p) = refl

        one : (m : ℕ) (o : Option (Pending T)) → cons_option (option_map (at_stage m) (option_map (λ p. p.events.items) o)) [] ≡ option_to_list (option_map (λ p. (m, p.events.items)) o)
        one m None = refl
        one m (Some p) = refl
