-- Of two pending sequences of one key that at the greater stage has the lesser first event.
use Rattle.std.proofs.Common.{◌≡◌, ◌<◌, ℕ, zero, suc, ◌-◌, ℤ, Bool, true, false, cond, List, [], ◌∷◌, ◌++◌, map, length, Option, Some, None, refl, sym, ap, ◌∙◌, subst, arith, T, inl, inr, get_or}
use Rattle.std.specs.Prelude.{All, IfSome, ◌⊎◌, not, ◌&&◌, ◌||◌, nat_lt, nat_le}
use Rattle.std.specs.Cmp.{tied_itself}
use Rattle.std.specs.Ordering.{is_eq, is_lt, eq_by_cmp, ordering_reverse}
use Rattle.std.specs.declared.cmp.Ordering.{Ordering}
use Rattle.std.specs.declared.cmp.Ordering.TheVariants.{Less, Equal, Greater}
use Rattle.std.specs.FinMap.Entries.{is_sorted, below_all}
use Rattle.std.proofs.lemmas.List.{append-nil}
use Rattle.std.proofs.lemmas.Bool.Decides.{nat_tests}
use Rattle.std.proofs.lemmas.List.Elements.{All-nil, All-cons, All-head}
use Rattle.eql_values.specs.declared.order.OrderKey.{OrderKey}
use Rattle.eql_values.specs.declared.value.Value.{Value}
use Rattle.eql_values.specs.declared.item.KeyEvent.{KeyEvent}
use Rattle.eql_values.specs.declared.item.Item.{Item}
use Rattle.eql_values.specs.declared.found.Holder.{Holder}
use Rattle.eql_values.specs.Ascending.{Ascend}
use Rattle.eql_values.specs.Chains.{fits_after, in_time, holder}
use Rattle.eql_values.specs.Matching.{Slot, slot_cmp, onto, key_events_of, opening_of, held_after, after}
use Rattle.eql_values.specs.OrderKeys.{order_cmp}
use Rattle.eql_values.specs.Ordered.{found_or}
use Rattle.eql_laws.specs.Merging.{by_slot}
use Rattle.eql_laws.specs.Slots.{Slots, chain_moved_on, chain_coming, slots_after}
use Rattle.eql_laws.specs.Shapes.{IsReady, IsFull, FirstIsBefore, FirstsFall, OpeningFinds}
use Rattle.eql_laws.proofs.Stepping.{holder_step, holder_start}
use Rattle.eql_laws.proofs.Elements.{some_is}
use Rattle.eql_laws.proofs.Facts.{left_holds, right_holds}
use Rattle.eql_laws.proofs.Held.{find-after, slot_cmp_total}
use Rattle.eql_laws.proofs.Carried.{first_of, LeadsTo, all_held, key_events_lead, lead_onto}
use Rattle.eql_laws.proofs.Shaping.{ComesBefore, AscendsBefore, AscendsTo, AllBefore, alone, goes_to, made_before, still_before, before_before, ascending_rises, ready_openings, held_full}

pub when_some : {X : Type 0} (b : Bool) (o : Option X) (x : X) → cond b o None ≡ Some x → (b ≡ true) × (o ≡ Some x)
when_some true o x e = (refl, e)
when_some false o x e = cc

found_some : (a b : Option (List OrderKey)) (c : List OrderKey) → found_or a b ≡ Some c → (a ≡ Some c) ⊎ (b ≡ Some c)
found_some (Some y) b c e = inl e
found_some None b c e = inr e

kept_some : (f u : Bool) (o : Option (List OrderKey)) (c : List OrderKey) → cond (f || u) None o ≡ Some c → (f ≡ false) × (o ≡ Some c)
kept_some true u o c e = cc
kept_some false true o c e = cc
kept_some false false o c e = (refl, e)

fits_too : (f u : Bool) → (f && not u) ≡ true → f ≡ true
fits_too true u e = refl
fits_too false u e = cc

some_same : {X : Type 0} (x y : X) → Some x ≡ Some y → y ≡ x
some_same x y e = cc

module _ (span : Option ℤ) (slots : Slots) (item : KeyEvent) where
  -- the sequence was there, and the item didn't move it on
  record Kept (k : ℕ) (c : List OrderKey) : Type 0 where
    stays : fits_after (suc k) item ≡ false
    was : slots (suc k) ≡ Some c

  -- the sequence comes from the stage before
  record MovedOn (k : ℕ) (c : List OrderKey) : Type 0 where
    from : List OrderKey
    fits : fits_after (suc k) item ≡ true
    was : slots (suc k) ≡ Some from
    is : c ≡ from ++ item.order ∷ []

  -- how a sequence came to stage k + 1
  abbrev Came : ℕ → List OrderKey → Type 0
  Came zero c = Kept zero c ⊎ (c ≡ item.order ∷ [])
  Came (suc k) c = Kept (suc k) c ⊎ MovedOn k c

  moved_from : (k : ℕ) (o : Option (List OrderKey)) (c : List OrderKey) → slots (suc k) ≡ o → fits_after (suc k) item ≡ true → chain_moved_on span o item ≡ Some c → MovedOn k c
  moved_from k None c is fits e = cc
  moved_from k (Some from) c is fits e =
      record { from = from; fits = fits; was = is; is = some_same (from ++ item.order ∷ []) c (when_some (in_time span from item.order.ts) (Some (from ++ item.order ∷ [])) c e).1 }

  came_kept : (k : ℕ) (c : List OrderKey) → cond (fits_after (suc k) item || item.until) None (slots (suc k)) ≡ Some c → Kept k c
  came_kept k c e = let both = kept_some (fits_after (suc k) item) item.until (slots (suc k)) c e in record { stays = both.0; was = both.1 }

  came : (k : ℕ) (c : List OrderKey) → slots_after span slots item (suc k) ≡ Some c → Came k c
  came zero c e =
      elim (found_some (chain_coming span slots item 1) (cond (fits_after 1 item || item.until) None (slots 1)) c e) [
        | inl a ↦ inr (some_same (item.order ∷ []) c (when_some (fits_after 0 item) (Some (item.order ∷ [])) c a).1)
        | inr b ↦ inl (came_kept zero c b)
      ]
  came (suc k) c e =
      elim (found_some (chain_coming span slots item (suc (suc k))) (cond (fits_after (suc (suc k)) item || item.until) None (slots (suc (suc k)))) c e) [
        | inl a ↦ (let both = when_some (fits_after (suc k) item && not item.until) (chain_moved_on span (slots (suc k)) item) c a in
            inr (moved_from k (slots (suc k)) c refl (fits_too (fits_after (suc k) item) item.until both.0) both.1))
        | inr b ↦ inl (came_kept (suc k) c b)
      ]

first_on_left : (d c xs : List OrderKey) → FirstIsBefore d c → FirstIsBefore (d ++ xs) c
first_on_left [] c xs h = absurd h
first_on_left (e ∷ d) [] xs h = h
first_on_left (e ∷ d) (f ∷ c) xs h = h

first_on_right : (d c xs : List OrderKey) → FirstIsBefore d c → FirstIsBefore d (c ++ xs)
first_on_right [] c xs h = absurd h
first_on_right (e ∷ d) [] xs h = absurd h
first_on_right (e ∷ d) (f ∷ c) xs h = h

-- a sequence that has events, all before this one
first_before : (d : List OrderKey) (k : ℕ) (x : OrderKey) → length d ≡ suc k → AllBefore x d → FirstIsBefore d (x ∷ [])
first_before [] k x h lt = absurd (omega (arith, h))
first_before (e ∷ d) k x h lt = All-head (λ (event : OrderKey). order_cmp event x ≡ Less) e d lt

-- the first events fall with the stages
abbrev Falls : Slots → Type 0
Falls slots = (j k : ℕ) (c d : List OrderKey) → j < k → slots (suc j) ≡ Some c → slots (suc k) ≡ Some d → FirstIsBefore d c

module _ (span : Option ℤ) (slots : Slots) (item : KeyEvent) (falls : Falls slots)
    (full : (k : ℕ) → IfSome (slots (suc k)) (λ c. length c ≡ suc k)) (before : (k : ℕ) → IfSome (slots (suc k)) (AscendsBefore (Some item.order) (suc k))) where
  was_before : (k : ℕ) (d : List OrderKey) → slots (suc k) ≡ Some d → FirstIsBefore d (item.order ∷ [])
  was_before k d e =
      first_before d k item.order (some_is (λ (c : List OrderKey). length c ≡ suc k) (slots (suc k)) d e (full k))
      (some_is (AscendsBefore (Some item.order) (suc k)) (slots (suc k)) d e (before k)).1

  apart : (j k : ℕ) (b : Bool) → fits_after (suc j) item ≡ false → fits_after (suc k) item ≡ true → j < suc k → nat_lt j k ≡ b → j < k
  apart j k true no_fit fit lt e = grind (arith, nat_tests)
  apart j k false no_fit fit lt e =
      let same : j ≡ k = grind (arith, nat_tests) in
      let fits : fits_after (suc j) item ≡ true = ap (λ (n : ℕ). fits_after (suc n) item) same ∙ fit in cc

  falls_came : (j k : ℕ) (c d : List OrderKey) → j < k → Came span slots item j c → Came span slots item k d → FirstIsBefore d c
  falls_came zero zero c d lt a b = absurd (omega (arith, lt))
  falls_came (suc j) zero c d lt a b = absurd (omega (arith, lt))
  falls_came zero (suc k) c d lt (inl a) (inl b) = falls zero (suc k) c d lt a.was b.was
  falls_came zero (suc k) c d lt (inl a) (inr b) =
      subst (λ (l : List OrderKey). FirstIsBefore l c) (sym b.is)
      (first_on_left b.from c (item.order ∷ []) (falls zero k c b.from (apart zero k (nat_lt zero k) a.stays b.fits lt refl) a.was b.was))
  falls_came zero (suc k) c d lt (inr a) (inl b) = subst (λ (l : List OrderKey). FirstIsBefore d l) (sym a) (was_before (suc k) d b.was)
  falls_came zero (suc k) c d lt (inr a) (inr b) =
      subst (λ (l : List OrderKey). FirstIsBefore d l) (sym a)
      (subst (λ (l : List OrderKey). FirstIsBefore l (item.order ∷ [])) (sym b.is) (first_on_left b.from (item.order ∷ []) (item.order ∷ []) (was_before k b.from b.was)))
  falls_came (suc j) (suc k) c d lt (inl a) (inl b) = falls (suc j) (suc k) c d lt a.was b.was
  falls_came (suc j) (suc k) c d lt (inl a) (inr b) =
      subst (λ (l : List OrderKey). FirstIsBefore l c) (sym b.is)
      (first_on_left b.from c (item.order ∷ []) (falls (suc j) k c b.from (apart (suc j) k (nat_lt (suc j) k) a.stays b.fits lt refl) a.was b.was))
  falls_came (suc j) (suc k) c d lt (inr a) (inl b) =
      subst (λ (l : List OrderKey). FirstIsBefore d l) (sym a.is)
      (first_on_right d a.from (item.order ∷ []) (falls j (suc k) a.from d (omega (arith, lt)) a.was b.was))
  falls_came (suc j) (suc k) c d lt (inr a) (inr b) =
      subst (λ (l : List OrderKey). FirstIsBefore d l) (sym a.is)
      (subst (λ (l : List OrderKey). FirstIsBefore l (a.from ++ item.order ∷ [])) (sym b.is)
      (first_on_left b.from (a.from ++ item.order ∷ []) (item.order ∷ [])
      (first_on_right b.from a.from (item.order ∷ []) (falls j k a.from b.from (omega (arith, lt)) a.was b.was))))

  falls_stepped : Falls (slots_after span slots item)
  falls_stepped j k c d lt e f = falls_came j k c d lt (came span slots item j c e) (came span slots item k d f)

module _ (m : ℕ) (span : Option ℤ) (holders : List Holder) (items : List Item) (up : Ascend items) (ready : All (IsReady items) holders) (full : All IsFull holders) (first_falls : FirstsFall holders) where
  falls_held : (key : List Value) (bound : Option OrderKey) (past : List KeyEvent)
      → LeadsTo ComesBefore AscendsBefore AscendsTo alone goes_to made_before still_before before_before span (opening_of holders key) bound past
      → Falls (λ k. holder span (opening_of holders key) k past)
  falls_held key bound [] leads = λ j k c d lt e f.
      first_falls key (suc j) (suc k) c d (omega (arith, lt)) (sym (holder_start span (opening_of holders key) j) ∙ e) (sym (holder_start span (opening_of holders key) k) ∙ f)
  falls_held key bound (item ∷ past) leads = λ j k c d lt e f.
      falls_stepped span (λ j. holder span (opening_of holders key) j past) item (falls_held key (Some item.order) past leads.1)
      (held_full span holders full past key)
      (all_held ComesBefore AscendsBefore AscendsTo alone goes_to made_before still_before before_before span (opening_of holders key) (Some item.order) past leads.1)
      j k c d lt (sym (holder_step span (opening_of holders key) (suc j) item past) ∙ e) (sym (holder_step span (opening_of holders key) (suc k) item past) ∙ f)

  falls_after : (key : List Value) → Falls (held_after span (opening_of holders) items key)
  falls_after key =
      falls_held key None (key_events_of key (onto items []))
      (key_events_lead ComesBefore AscendsBefore AscendsTo alone goes_to made_before still_before before_before span (opening_of holders) key None (onto items [])
      (lead_onto ComesBefore AscendsBefore AscendsTo alone goes_to made_before still_before before_before span (opening_of holders) items [] []
      (subst (λ (l : List Item). (key : List Value) (k : ℕ) → IfSome (opening_of holders key (suc k)) (AscendsBefore (first_of l) (suc k))) (sym (append-nil items))
      (ready_openings holders items ready))
      (ascending_rises (items ++ []) (subst Ascend (sym (append-nil items)) up))))

  -- what the list has of a slot is what is held there
  is_held : (key : List Value) (k : ℕ) (c : List OrderKey) → opening_of (after m span holders items) key k ≡ Some c → held_after span (opening_of holders) items key k ≡ Some c
  is_held key k c e =
      (when_some (nat_lt 0 k && nat_le k (m - 1)) (held_after span (opening_of holders) items key k) c (sym (find-after m span holders items (key, k)) ∙ e)).1

  no_zero : (key : List Value) (c : List OrderKey) → opening_of (after m span holders items) key zero ≡ Some c → ⊥
  no_zero key c e =
      let never = (when_some (nat_lt 0 0 && nat_le 0 (m - 1)) (held_after span (opening_of holders) items key zero) c (sym (find-after m span holders items (key, zero)) ∙ e)).0 in cc

  falls_from : (key : List Value) (j k : ℕ) (c d : List OrderKey) → j < k
      → opening_of (after m span holders items) key j ≡ Some c → opening_of (after m span holders items) key k ≡ Some d → FirstIsBefore d c
  falls_from key zero k c d lt e f = absurd (no_zero key c e)
  falls_from key (suc j) zero c d lt e f = absurd (no_zero key d f)
  falls_from key (suc j) (suc k) c d lt e f = falls_after key j k c d (omega (arith, lt)) (is_held key (suc j) c e) (is_held key (suc k) d f)

-- of two pending sequences of one key that at the greater stage has the lesser first event, where it was so at the start
pub after_falls : (m : ℕ) (span : Option ℤ) (holders : List Holder) (items : List Item)
    → Ascend items → All (IsReady items) holders → All IsFull holders → FirstsFall holders → FirstsFall (after m span holders items)
after_falls m span holders items up ready full falls = falls_from m span holders items up ready full falls

-- a look-up in holders in order
reversed_less : (o : Ordering) → T (is_lt o) → is_eq (ordering_reverse o) ≡ false
reversed_less Less h = refl
reversed_less Equal h = absurd h
reversed_less Greater h = absurd h

less_than_all : (slot : Slot) (holders : List Holder) → T (below_all slot_cmp slot (map by_slot holders)) → All (λ (h : Holder). eq_by_cmp slot_cmp (h.key, h.stage) slot ≡ false) holders
less_than_all slot [] h = All-nil (λ (h : Holder). eq_by_cmp slot_cmp (h.key, h.stage) slot ≡ false)
less_than_all slot (x ∷ holders) h =
    All-cons (λ (h : Holder). eq_by_cmp slot_cmp (h.key, h.stage) slot ≡ false) x holders
    (ap is_eq (slot_cmp_total.antisymm (x.key, x.stage) slot) ∙ reversed_less (slot_cmp slot (x.key, x.stage)) (left_holds _ _ h))
    (less_than_all slot holders (right_holds _ _ h))

found_later : (x h : Holder) (holders : List Holder) → eq_by_cmp slot_cmp (h.key, h.stage) (x.key, x.stage) ≡ false
    → opening_of holders h.key h.stage ≡ Some h.chain → opening_of (x ∷ holders) h.key h.stage ≡ Some h.chain
found_later x h holders apart e = ap (λ (b : Bool). cond b (Some x.chain) (opening_of holders h.key h.stage)) apart ∙ e

finds : (holders : List Holder) → T (is_sorted slot_cmp (map by_slot holders)) → All (λ (h : Holder). opening_of holders h.key h.stage ≡ Some h.chain) holders
finds [] h = All-nil (λ (h : Holder). opening_of [] h.key h.stage ≡ Some h.chain)
finds (x ∷ holders) h =
    All-cons (λ (h : Holder). opening_of (x ∷ holders) h.key h.stage ≡ Some h.chain) x holders
    (ap (λ (o : Ordering). cond (is_eq o) (Some x.chain) (opening_of holders x.key x.stage)) (tied_itself slot_cmp_total (x.key, x.stage)))
    (λ k d lt. found_later x (get_or holders k d) holders (less_than_all (x.key, x.stage) holders (left_holds _ _ h) k d lt) (finds holders (right_holds _ _ h) k d lt))

pub opening_finds : OpeningFinds
opening_finds holders order = finds holders (subst T (sym order) tt)
