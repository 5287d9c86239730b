-- Emptying, moving on and beginning are one key_event on all slots.
use Rattle.std.proofs.Common.{◌≡◌, ℕ, zero, suc, ◌<◌, ◌≤◌, ◌+◌, ℤ, Bool, true, false, cond, List, [], ◌∷◌, ◌++◌, Option, Some, None, refl, sym, ap, ◌∙◌, arith, subst, length, get_or, map, inl, inr, IfSome}
use Rattle.std.specs.Prelude.{not, ◌||◌, ◌&&◌, ◌==◌, is_some}
use Rattle.std.specs.Option.{option_map, option_or, option_to_list}
use Rattle.std.proofs.lemmas.Bool.Decides.{nat_tests}
use Rattle.std.proofs.lemmas.List.{get_or-set_same, get_or_past, length-map, length-append}
use Rattle.std.proofs.lemmas.List.Sorted.{IsPermutation-trans, IsPermutation-append_right, length_permutation}
use Rattle.std.proofs.lemmas.Bool.{cases_lt}
use Rattle.std.specs.List.{All}
use Rattle.std.specs.List.Sorted.{IsPermutation}
use Rattle.eql_values.specs.declared.order.OrderKey.{OrderKey}
use Rattle.eql_values.specs.declared.item.Mask.{Mask}
use Rattle.eql_values.specs.declared.item.KeyEvent.{KeyEvent}
use Rattle.eql_values.specs.Masks.{has_after}
use Rattle.eql_values.specs.Chains.{fits_after, in_time, chain, holder}
use Rattle.eql_values.specs.OrderKeys.{order_cmp}
use Rattle.eql_values.specs.Totals.{order_cmp_total}
use Rattle.std.specs.declared.cmp.Ordering.TheVariants.{Less}
use Rattle.eql_values.specs.Ordered.{found_or}
use Rattle.eql_laws.specs.Slots.{Slots, chain_moved_on, chain_coming, slots_after}
use Rattle.eql_laws.specs.Steps.{StepMovesSlots, StepMakesChain}
use Rattle.eql_auto.specs.Machine.{AllAreBefore, ComesAfter, Sequence, key_event_of, alive_in, arrived_at, chains_of, slot_at, slot_after, tags_of, went_on}
use Rattle.eql_auto.specs.Moves.{with_new_sequence, chain_in, coming_to, moved_to}
use Rattle.eql_auto.proofs.Written.{get_or_any}

module _ {T : Type 0} where
  at_none : (old : List (Option (Sequence T))) (i : ℕ) → ◌≡◌ {A = Option (Sequence T)} (get_or (map (λ _. None) old) i None) None
  at_none [] i = refl
  at_none (s ∷ old) zero = refl
  at_none (s ∷ old) (suc i) = at_none old i

  -- a slot of a table that was emptied at an end
  abbrev pub at_end_of : Bool → List (Option (Sequence T)) → List (Option (Sequence T))
  at_end_of until old = cond until (map (λ _. None) old) old

  slot_emptied : (until : Bool) (old : List (Option (Sequence T))) (k : ℕ) → slot_at (at_end_of until old) k ≡ cond until None (slot_at old k)
  slot_emptied true old zero = refl
  slot_emptied true old (suc i) = at_none old i
  slot_emptied false old k = refl

  pub emptied_length : (until : Bool) (old : List (Option (Sequence T))) → length (at_end_of until old) ≡ length old
  emptied_length true old = length-map old (λ _. None)
  emptied_length false old = refl

  kept_at_end : (b u : Bool) (o : Option (Sequence T)) → cond b None (cond u None o) ≡ cond (b || u) None o
  kept_at_end true u o = refl
  kept_at_end false true o = refl
  kept_at_end false false o = refl

  came_at_end : (span : Option ℤ) (event : OrderKey) (b u : Bool) (o : Option (Sequence T)) → cond b (went_on span event (cond u None o)) None ≡ cond (b && not u) (went_on span event o) None
  came_at_end span event true true o = refl
  came_at_end span event true false o = refl
  came_at_end span event false u o = refl

  -- beginning touches no later slot
  begun_later : (event : OrderKey) (tag : Option T) (slots : List (Option (Sequence T))) (j : ℕ) → slot_at (with_new_sequence event tag slots) (suc (suc j)) ≡ slot_at slots (suc (suc j))
  begun_later event None slots j = refl
  begun_later event (Some t) [] j = refl
  begun_later event (Some t) (s ∷ slots) j = refl

  pub begun_length : (event : OrderKey) (tag : Option T) (slots : List (Option (Sequence T))) → length (with_new_sequence event tag slots) ≡ length slots
  begun_length event None slots = refl
  begun_length event (Some t) [] = refl
  begun_length event (Some t) (s ∷ slots) = refl

  module _ (span : Option ℤ) (event : OrderKey) (mask : Mask) (until : Bool) (old emptied : List (Option (Sequence T))) (e : emptied ≡ at_end_of until old) where
    slot_was : (k : ℕ) → slot_at emptied k ≡ cond until None (slot_at old k)
    slot_was k = ap (λ (l : List (Option (Sequence T))). slot_at l k) e ∙ slot_emptied until old k

    came_to : (j : ℕ) → coming_to span event mask emptied (suc (suc j)) ≡ cond (has_after (suc j) mask && not until) (went_on span event (slot_at old (suc j))) None
    came_to j =
        ap (λ (o : Option (Sequence T)). cond (has_after (suc j) mask) (went_on span event o) None) (slot_was (suc j))
        ∙ came_at_end span event (has_after (suc j) mask) until (slot_at old (suc j))

    stayed : (k : ℕ) → cond (has_after k mask) None (slot_at emptied k) ≡ cond (has_after k mask || until) None (slot_at old k)
    stayed k = ap (λ (o : Option (Sequence T)). cond (has_after k mask) None o) (slot_was k) ∙ kept_at_end (has_after k mask) until (slot_at old k)

    pub turned : (tag : Option T) (advanced after : List (Option (Sequence T))) → is_some tag ≡ has_after 0 mask → length advanced ≡ length old
        → ((k : ℕ) → 1 ≤ k → k ≤ length old → slot_at advanced k ≡ moved_to span event mask emptied k) → after ≡ with_new_sequence event tag advanced
        → (k : ℕ) → 1 ≤ k → k < suc (length old) → slot_at after k ≡ slot_after span tag (key_event_of event mask until) old k
    turned tag advanced after tagged len is w zero low high = absurd (omega arith)
    turned (Some t) advanced after tagged len is w (suc zero) low high =
        ap (λ (l : List (Option (Sequence T))). slot_at l 1) w ∙ get_or-set_same advanced 0 (Some (event ∷ [], t)) None (omega arith)
        ∙ ap (λ b. found_or (cond b (Some (event ∷ [], t)) None) (cond (has_after 1 mask || until) None (slot_at old 1))) tagged
    turned None advanced after tagged len is w (suc zero) low high =
        ap (λ (l : List (Option (Sequence T))). slot_at l 1) w ∙ is 1 low (omega arith)
        ∙ ap (λ (o : Option (Sequence T)). found_or (cond (has_after 0 mask) None None) o) (stayed 1)
    turned tag advanced after tagged len is w (suc (suc j)) low high =
        ap (λ (l : List (Option (Sequence T))). slot_at l (suc (suc j))) w ∙ begun_later event tag advanced j ∙ is (suc (suc j)) low (omega arith)
        ∙ ap (λ (o : Option (Sequence T)). found_or o (cond (has_after (suc (suc j)) mask) None (slot_at emptied (suc (suc j))))) (came_to j)
        ∙ ap (λ (o : Option (Sequence T)). found_or (cond (has_after (suc j) mask && not until) (went_on span event (slot_at old (suc j))) None) o) (stayed (suc (suc j)))

    first_chain : (tag : Option T) (completed : Option (List OrderKey)) → is_some tag ≡ has_after 0 mask
        → completed ≡ chain_in (coming_to span event mask emptied (suc zero))
        → option_or (option_map (λ _. event ∷ []) tag) completed ≡ chain_in (arrived_at span tag (key_event_of event mask until) old (suc zero))
    first_chain (Some t) completed tagged is = ap (λ b. chain_in (cond b (Some (event ∷ [], t)) None)) tagged
    first_chain None completed tagged is = is

    -- the chain that is returned
    pub answered : (n : ℕ) (tag : Option T) (new completed answer : Option (List OrderKey)) → is_some tag ≡ has_after 0 mask
        → new ≡ cond (0 == n) (option_map (λ _. event ∷ []) tag) None → completed ≡ chain_in (coming_to span event mask emptied (suc n)) → answer ≡ option_or new completed
        → answer ≡ chain_in (arrived_at span tag (key_event_of event mask until) old (suc n))
    answered zero tag new completed answer tagged b is a = a ∙ ap (λ (o : Option (List OrderKey)). option_or o completed) b ∙ first_chain tag completed tagged is
    answered (suc n) tag new completed answer tagged b is a =
        let more : (0 == suc n) ≡ false = grind (arith, nat_tests) in
        a ∙ ap (λ (o : Option (List OrderKey)). option_or o completed) (b ∙ ap (λ t. cond t (option_map (λ _. event ∷ []) tag) None) more)
        ∙ is ∙ ap chain_in (came_to n)

  -- the chains of the slots go over as the laws say
  chain_cond : (b : Bool) (o : Option (Sequence T)) → chain_in (cond b o None) ≡ cond b (chain_in o) None
  chain_cond true o = refl
  chain_cond false o = refl

  chain_kept : (b : Bool) (o : Option (Sequence T)) → chain_in (cond b None o) ≡ cond b None (chain_in o)
  chain_kept true o = refl
  chain_kept false o = refl

  chain_or : (a b : Option (Sequence T)) → chain_in (found_or a b) ≡ found_or (chain_in a) (chain_in b)
  chain_or None b = refl
  chain_or (Some s) b = refl

  chain_moved : (span : Option ℤ) (key_event : KeyEvent) (o : Option (Sequence T)) → chain_in (went_on span key_event.order o) ≡ chain_moved_on span (chain_in o) key_event
  chain_moved span key_event None = refl
  chain_moved span key_event (Some s) = chain_cond (in_time span s.0 key_event.order.ts) (Some (s.0 ++ key_event.order ∷ [], s.1))

  chain_first : (key_event : KeyEvent) (tag : Option T) → is_some tag ≡ fits_after 0 key_event
      → chain_in (cond (fits_after 0 key_event) (option_map (λ t. (key_event.order ∷ [], t)) tag) None) ≡ cond (fits_after 0 key_event) (Some (key_event.order ∷ [])) None
  chain_first key_event (Some t) tagged = chain_cond (fits_after 0 key_event) (Some (key_event.order ∷ [], t))
  chain_first key_event None tagged =
      chain_cond (fits_after 0 key_event) None ∙ ap (λ b. cond b None None) (sym tagged) ∙ ap (λ b. cond b (Some (key_event.order ∷ [])) None) tagged

  pub chain_arrived : (span : Option ℤ) (tag : Option T) (key_event : KeyEvent) (old : List (Option (Sequence T))) (k : ℕ) → is_some tag ≡ fits_after 0 key_event
      → chain_in (arrived_at span tag key_event old k) ≡ chain_coming span (chains_of old) key_event k
  chain_arrived span tag key_event old zero tagged = refl
  chain_arrived span tag key_event old (suc zero) tagged = chain_first key_event tag tagged
  chain_arrived span tag key_event old (suc (suc k)) tagged =
      chain_cond (fits_after (suc k) key_event && not key_event.until) (went_on span key_event.order (slot_at old (suc k)))
      ∙ ap (λ (o : Option (List OrderKey)). cond (fits_after (suc k) key_event && not key_event.until) o None) (chain_moved span key_event (slot_at old (suc k)))

  pub chain_after : (span : Option ℤ) (tag : Option T) (key_event : KeyEvent) (old : List (Option (Sequence T))) (k : ℕ) → is_some tag ≡ fits_after 0 key_event
      → chain_in (slot_after span tag key_event old k) ≡ slots_after span (chains_of old) key_event k
  chain_after span tag key_event old k tagged =
      chain_or (arrived_at span tag key_event old k) (cond (fits_after k key_event || key_event.until) None (slot_at old k))
      ∙ (λ i. found_or (chain_arrived span tag key_event old k tagged i) (chain_kept (fits_after k key_event || key_event.until) (slot_at old k) i))

-- the laws look at a slot and the one before alone
arrived_alike : (span : Option ℤ) (s t : Slots) (key_event : KeyEvent) (k : ℕ) → ((j : ℕ) → 1 ≤ j → j < k → s j ≡ t j) → chain_coming span s key_event k ≡ chain_coming span t key_event k
arrived_alike span s t key_event zero same = refl
arrived_alike span s t key_event (suc zero) same = refl
arrived_alike span s t key_event (suc (suc k)) same = ap (λ (o : Option (List OrderKey)). cond (fits_after (suc k) key_event && not key_event.until) (chain_moved_on span o key_event) None) (same (suc k) (omega arith) (omega arith))

pub slots_go_on : StepMovesSlots → (span : Option ℤ) (opening s : Slots) (key_event : KeyEvent) (past : List KeyEvent) (k : ℕ) → 1 ≤ k → ((j : ℕ) → 1 ≤ j → j < suc k → s j ≡ holder span opening j past)
    → slots_after span s key_event k ≡ holder span opening k (key_event ∷ past)
slots_go_on law span opening s key_event past k low same =
    (λ i. found_or (arrived_alike span s (λ j. holder span opening j past) key_event k (λ j from below. same j from (omega arith)) i)
    (cond (fits_after k key_event || key_event.until) None (same k low (omega arith) i)))
    ∙ sym (law span opening k key_event past)

pub answer_goes_on : StepMakesChain → (span : Option ℤ) (opening s : Slots) (key_event : KeyEvent) (past : List KeyEvent) (m : ℕ) → ((j : ℕ) → 1 ≤ j → j < m → s j ≡ holder span opening j past)
    → chain_coming span s key_event m ≡ chain span opening m (key_event ∷ past)
answer_goes_on law span opening s key_event past m same =
    arrived_alike span s (λ j. holder span opening j past) key_event m same ∙ sym (law span opening m key_event past)

-- there are at most as many tags as slots
pub few_tags : {T : Type 0} (slots : List (Option (Sequence T))) → length (tags_of slots) ≤ length slots
few_tags [] = omega arith
few_tags (None ∷ slots) = let h = few_tags slots in omega arith
few_tags (Some s ∷ slots) = let h = few_tags slots in omega arith

-- without a span all are alive
pub all_alive : {T : Type 0} (reach : ℤ) (slots : List (Option (Sequence T))) → slots ≡ map (alive_in None reach) slots
all_alive reach [] = refl
all_alive reach (None ∷ slots) = ap (λ (l : List (Option (Sequence _))). None ∷ l) (all_alive reach slots)
all_alive reach (Some s ∷ slots) = ap (λ (l : List (Option (Sequence _))). Some s ∷ l) (all_alive reach slots)

-- an event that comes after all sequences comes after all that an end leaves
pub still_later : {T : Type 0} (event : OrderKey) (until : Bool) (old : List (Option (Sequence T))) → All (ComesAfter event) old
    → (k : ℕ) → ComesAfter event (get_or (at_end_of until old) k None)
still_later event true old all k = subst (λ (o : Option (Sequence _)). ComesAfter event o) (sym (at_none old k)) tt
still_later event false old all k = elim (cases_lt k (length old)) [
  | inl l ↦ all k None l
  | inr g ↦ subst (λ (o : Option (Sequence _)). ComesAfter event o) (sym (get_or_past old k None g)) tt
]

pub same_many : {T : Type 0} (a b c d : List T) → IsPermutation (a ++ b) (c ++ d) → length a + length b ≡ length c + length d
same_many a b c d p = sym (length-append a b) ∙ sym (length_permutation (a ++ b) (c ++ d) p) ∙ length-append c d

pub spare_left : {X : Type 0} (P : X → Type 0) (b : Bool) (o new : Option X) → new ≡ cond b None o → IfSome o P → IfSome new P
spare_left P b o new w h = subst (λ x. IfSome x P) (sym w) (left b) where
  left : (b : Bool) → IfSome (cond b None o) P
  left true = tt
  left false = h

pub tag_count : {T : Type 0} (tag : Option T) (b : Bool) → is_some tag ≡ b → length (option_to_list tag) ≡ cond b 1 0
tag_count None b e = ap (λ c. cond c 1 0) e
tag_count (Some t) b e = ap (λ c. cond c 1 0) e

pub total : (s0 s1 s2 s3 t one before all ended : ℕ) → s3 ≡ s2 + t → t ≡ one → s2 + one ≤ s1 + before → before ≡ all → s1 ≡ s0 + ended → s3 ≤ s0 + all + ended
total s0 s1 s2 s3 t one before all ended a b c d e = omega arith

-- what ceased in three steps
pub ceased_in_all : {T : Type 0} (tag tags0 tags1 tags2 tags3 gone1 gone2 gone3 : List T) → IsPermutation (gone1 ++ tags1) tags0 → IsPermutation (gone2 ++ tags2) (gone1 ++ tags1)
    → IsPermutation (gone3 ++ tags3) (tag ++ (gone2 ++ tags2)) → IsPermutation (gone3 ++ tags3) (tag ++ tags0)
ceased_in_all tag tags0 tags1 tags2 tags3 gone1 gone2 gone3 a b c =
    IsPermutation-trans _ (tag ++ (gone2 ++ tags2)) _ c
    (IsPermutation-append_right tag (gone2 ++ tags2) tags0 (IsPermutation-trans _ (gone1 ++ tags1) _ b a))

-- an event after one that comes after a sequence comes after it
later_still : {T : Type 0} (event next : OrderKey) (slot : Option (Sequence T)) → order_cmp event next ≡ Less → ComesAfter event slot → ComesAfter next slot
later_still event next None less h = tt
later_still event next (Some s) less h = λ k d l. order_cmp_total.trans (get_or s.0 k d) event next (h k d l) less

before_next : (event next : OrderKey) (chain : List OrderKey) → order_cmp event next ≡ Less → AllAreBefore event chain → AllAreBefore next (chain ++ event ∷ [])
before_next event next [] less h zero d l = less
before_next event next [] less h (suc k) d l = absurd (omega arith)
before_next event next (first ∷ chain) less h zero d l = order_cmp_total.trans first event next (h 0 d (omega arith)) less
before_next event next (first ∷ chain) less h (suc k) d l = before_next event next chain less (λ j e m. h (suc j) e (omega arith)) k d (omega arith)

later_cond : {T : Type 0} (event : OrderKey) (b : Bool) (o p : Option (Sequence T)) → ComesAfter event o → ComesAfter event p → ComesAfter event (cond b o p)
later_cond event true o p h g = h
later_cond event false o p h g = g

later_or : {T : Type 0} (event : OrderKey) (o p : Option (Sequence T)) → ComesAfter event o → ComesAfter event p → ComesAfter event (found_or o p)
later_or event None p h g = g
later_or event (Some s) p h g = h

module _ {T : Type 0} (span : Option ℤ) (next : OrderKey) (key_event : KeyEvent) (less : order_cmp key_event.order next ≡ Less) where
  later_went : (o : Option (Sequence T)) → ComesAfter key_event.order o → ComesAfter next (went_on span key_event.order o)
  later_went None h = tt
  later_went (Some s) h = later_cond next (in_time span s.0 key_event.order.ts) (Some (s.0 ++ key_event.order ∷ [], s.1)) None (before_next key_event.order next s.0 less h) tt

  later_new : (tag : Option T) → ComesAfter next (option_map (λ t. (key_event.order ∷ [], t)) tag)
  later_new None = tt
  later_new (Some t) = before_next key_event.order next [] less (λ k d l. absurd (omega arith))

  module _ (old : List (Option (Sequence T))) (all : All (ComesAfter key_event.order) old) where
    later_slot : (k : ℕ) → ComesAfter key_event.order (slot_at old k)
    later_slot zero = tt
    later_slot (suc i) = still_later key_event.order false old all i

    later_arrived : (tag : Option T) (k : ℕ) → ComesAfter next (arrived_at span tag key_event old k)
    later_arrived tag zero = tt
    later_arrived tag (suc zero) = later_cond next (fits_after 0 key_event) (option_map (λ t. (key_event.order ∷ [], t)) tag) None (later_new tag) tt
    later_arrived tag (suc (suc k)) =
        later_cond next (fits_after (suc k) key_event && not key_event.until) (went_on span key_event.order (slot_at old (suc k))) None (later_went (slot_at old (suc k)) (later_slot (suc k))) tt

    pub later_after : (tag : Option T) (k : ℕ) → ComesAfter next (slot_after span tag key_event old k)
    later_after tag k =
        later_or next (arrived_at span tag key_event old k) (cond (fits_after k key_event || key_event.until) None (slot_at old k)) (later_arrived tag k)
        (later_cond next (fits_after k key_event || key_event.until) None (slot_at old k) tt (later_still key_event.order next (slot_at old k) less (later_slot k)))

-- each slot of a list, by its stage
pub all_by_stage : {T : Type 0} (P : Option (Sequence T) → Type 0) (slots : List (Option (Sequence T))) → ((k : ℕ) → 1 ≤ k → k < suc (length slots) → P (slot_at slots k)) → All P slots
all_by_stage P slots h k d l = subst P (get_or_any slots k None d l) (h (suc k) (omega arith) (omega arith))
