-- The tests of the pending sequences of a cut.
use Rattle.std.proofs.Common.{◌≡◌, ℕ, ◌<◌, ◌≤◌, ℤ, true, false, Bool, not, ◌||◌, eqb, leb, ltb, List, [], ◌∷◌, length, map, Some, None, cond, All, refl, sym, ap, subst, ◌∙◌, arith, ◌⊎◌, inl, inr}
use Rattle.std.proofs.lemmas.Bool.{and_parts, and_from, eqb-true, eq-eqb, ltb-true, leb-true}
use Rattle.std.proofs.lemmas.List.Elements.{All-weaker, All-nil, All-cons, All-head, All-tail}
use Rattle.std.specs.Cmp.{tied_itself}
use Rattle.std.specs.List.{list_all}
use Rattle.std.specs.FinMap.Entries.{is_sorted, below_all}
use Rattle.std.specs.Int.Signed.{lt_z}
use Rattle.std.specs.Ordering.{is_lt, is_eq, eq_by_cmp, ordering_then, nat_cmp}
use Rattle.std.specs.declared.cmp.Ordering.{Ordering}
use Rattle.std.specs.declared.cmp.Ordering.TheVariants.{Less, Equal, Greater}
use Rattle.eql_values.specs.declared.order.OrderKey.{OrderKey}
use Rattle.eql_values.specs.declared.order.Mark.TheVariants.{At}
use Rattle.eql_values.specs.declared.value.Value.{Value}
use Rattle.eql_values.specs.declared.found.Holder.{Holder}
use Rattle.eql_values.specs.Agreement.{Agrees}
use Rattle.eql_values.specs.Matching.{Slot, slot_cmp, opening_of}
use Rattle.eql_values.specs.Orders.{key_cmp, key_eq}
use Rattle.eql_values.specs.OrderKeys.{order_cmp, events_ascend}
use Rattle.eql_values.specs.Reading.{IsTime}
use Rattle.eql_values.specs.Totals.{key_cmp_total, order_cmp_total}
use Rattle.eql_laws.specs.Alive.{HoldersAreInOrder}
use Rattle.eql_laws.specs.Bounds.{HasTimes}
use Rattle.eql_laws.specs.Cuts.{IsPending, is_of}
use Rattle.eql_laws.specs.Shapes.{FirstIsBefore, FirstsFall}
use Rattle.eql_cut.specs.CutValues.{is_full}
use Rattle.eql_cut.specs.Fitting.{is_time, event_fits, holder_fits, first_before, falls_to, firsts_fall}
use Rattle.eql_cut.proofs.FitLaws.{all_from, all_to, time_from, time_to}

less_is : (o : Ordering) → is_lt o ≡ true → o ≡ Less
less_is Less is = refl
less_is Equal is = cc
less_is Greater is = cc

is_less : (o : Ordering) → o ≡ Less → is_lt o ≡ true
is_less o is = ap is_lt is

equal_is : (o : Ordering) → is_eq o ≡ true → o ≡ Equal
equal_is Less is = cc
equal_is Equal is = refl
equal_is Greater is = cc

then_less : (o p : Ordering) → ordering_then o p ≡ Less → (o ≡ Less) ⊎ ((o ≡ Equal) × (p ≡ Less))
then_less Less p is = inl refl
then_less Equal p is = inr (refl, is)
then_less Greater p is = cc

stage_less : (m n : ℕ) → nat_cmp m n ≡ Less → m < n
stage_less m n is = grind arith

some_is : {A : Type 0} (x y : A) → Some x ≡ Some y → x ≡ y
some_is x y is = cc

none_isnt : {A : Type 0} (x : A) → None ≡ Some x → ⊥
none_isnt x is = cc

or_not : (a b : Bool) → (not a || b) ≡ true → a ≡ true → b ≡ true
or_not true b is holds = is
or_not false b is holds = cc

not_or : (a b : Bool) → (a ≡ true → b ≡ true) → (not a || b) ≡ true
not_or true b is = is refl
not_or false b is = refl

-- the first events
first_from : (chain other : List OrderKey) → first_before chain other ≡ true → FirstIsBefore chain other
first_from [] other is = cc
first_from (event ∷ chain) [] is = cc
first_from (event ∷ chain) (first ∷ other) is = less_is (order_cmp event first) is

first_to : (chain other : List OrderKey) → FirstIsBefore chain other → first_before chain other ≡ true
first_to [] other is = absurd is
first_to (event ∷ chain) [] is = absurd is
first_to (event ∷ chain) (first ∷ other) is = is_less (order_cmp event first) is

first_through : (a b c : List OrderKey) → FirstIsBefore a b → FirstIsBefore b c → FirstIsBefore a c
first_through [] b c ab bc = absurd ab
first_through (x ∷ a) [] c ab bc = absurd ab
first_through (x ∷ a) (y ∷ b) [] ab bc = absurd bc
first_through (x ∷ a) (y ∷ b) (z ∷ c) ab bc = order_cmp_total.trans x y z ab bc

abbrev slot_of : Holder → Slot
slot_of h = (h.key, h.stage)

abbrev Before : Holder → Holder → Type 0
Before h g = slot_cmp (slot_of h) (slot_of g) ≡ Less

abbrev in_order : List Holder → Bool
in_order holders = is_sorted slot_cmp (map (λ (h : Holder). (slot_of h, h.chain)) holders)

-- the one key isn't after the other
abbrev KeyTo : List Value → List Value → Type 0
KeyTo x y = (key_cmp x y ≡ Less) ⊎ (x ≡ y)

-- of two pending sequences of one key, that of the greater stage has the lesser first event
abbrev FallsTo : Holder → Holder → Type 0
FallsTo h g = g.key ≡ h.key → FirstIsBefore g.chain h.chain

module _ (keys : Agrees key_cmp) (slots : Agrees slot_cmp) where
  not_less : (x y : List Value) → key_cmp x y ≡ Less → x ≡ y → ⊥
  not_less x y less same =
      let tied : key_cmp x y ≡ Equal = ap (key_cmp x) (sym same) ∙ tied_itself key_cmp_total x in
      cc

  key_to : (h g : Holder) → Before h g → KeyTo h.key g.key
  key_to h g before =
      elim (then_less (key_cmp h.key g.key) (nat_cmp h.stage g.stage) before) as (λ v. KeyTo h.key g.key) [
        | inl less ↦ inl less
        | inr both ↦ inr (keys h.key g.key both.0)
      ]

  stage_to : (h g : Holder) → Before h g → h.key ≡ g.key → h.stage < g.stage
  stage_to h g before same =
      elim (then_less (key_cmp h.key g.key) (nat_cmp h.stage g.stage) before) as (λ v. h.stage < g.stage) [
        | inl less ↦ absurd (not_less h.key g.key less same)
        | inr both ↦ stage_less h.stage g.stage both.1
      ]

  between : (x y z : List Value) → KeyTo x y → KeyTo y z → z ≡ x → y ≡ x
  between x y z (inr same) yz zx = sym same
  between x y z (inl less) (inr same) zx = absurd (not_less x y less (sym (same ∙ zx)))
  between x y z (inl less) (inl more) zx = absurd (not_less x z (key_cmp_total.trans x y z less more) (sym zx))

  all_before : (h : Holder) (holders : List Holder) → below_all slot_cmp (slot_of h) (map (λ (g : Holder). (slot_of g, g.chain)) holders) ≡ true → All (Before h) holders
  all_before h [] is = All-nil _
  all_before h (g ∷ holders) is =
      let p = and_parts (is_lt (slot_cmp (slot_of h) (slot_of g))) (below_all slot_cmp (slot_of h) (map (λ (x : Holder). (slot_of x, x.chain)) holders)) is in
      All-cons (Before h) g holders (less_is (slot_cmp (slot_of h) (slot_of g)) p.0) (all_before h holders p.1)

  -- what a list in order says of its first and its others
  record First (h : Holder) (holders : List Holder) : Type 0 where
    before : All (Before h) holders
    rest : in_order holders ≡ true

  first_of : (h : Holder) (holders : List Holder) → in_order (h ∷ holders) ≡ true → First h holders
  first_of h holders is =
      let p = and_parts (below_all slot_cmp (slot_of h) (map (λ (x : Holder). (slot_of x, x.chain)) holders)) (in_order holders) is in
      record { before = all_before h holders p.0; rest = p.1 }

  next_falls : (h g : Holder) (holders : List Holder) → falls_to h (g ∷ holders) ≡ true → FallsTo h g
  next_falls h g holders is same =
      let tied : key_eq h.key g.key ≡ true = ap (λ (k : List Value). is_eq (key_cmp h.key k)) same ∙ ap is_eq (tied_itself key_cmp_total h.key) in
      first_from g.chain h.chain (or_not (key_eq h.key g.key) (first_before g.chain h.chain) is tied)

  fall_through : (h g : Holder) (holders : List Holder) → Before h g → FallsTo h g → All (Before g) holders → All (FallsTo g) holders → All (FallsTo h) holders
  fall_through h g [] hg falls before all = All-nil _
  fall_through h g (z ∷ holders) hg falls before all =
      let gz = All-head (Before g) z holders before in
      let z_falls : FallsTo g z = All-head (FallsTo g) z holders all in
      All-cons (FallsTo h) z holders
      (λ (same : z.key ≡ h.key). (let gh : g.key ≡ h.key = between h.key g.key z.key (key_to h g hg) (key_to g z gz) same in
      first_through z.chain g.chain h.chain (z_falls (same ∙ sym gh)) (falls gh)))
      (fall_through h g holders hg falls (All-tail (Before g) z holders before) (All-tail (FallsTo g) z holders all))

  all_fall : (h : Holder) (holders : List Holder) → in_order (h ∷ holders) ≡ true → firsts_fall (h ∷ holders) ≡ true → All (FallsTo h) holders
  all_fall h [] order falls = All-nil _
  all_fall h (g ∷ holders) order falls =
      let first = first_of h (g ∷ holders) order in
      let next = first_of g holders first.rest in
      let p = and_parts (falls_to h (g ∷ holders)) (firsts_fall (g ∷ holders)) falls in
      let here : FallsTo h g = next_falls h g holders p.0 in
      All-cons (FallsTo h) g holders here
      (fall_through h g holders (All-head (Before h) g holders first.before) here next.before (all_fall g holders first.rest p.1))

  -- a pending sequence that a look-up found
  record Found (P : Holder → Type 0) (key : List Value) (stage : ℕ) (chain : List OrderKey) : Type 0 where
    at : Holder
    passes : P at
    slot_is : slot_of at ≡ (key, stage)
    chain_is : at.chain ≡ chain

  found_at : (P : Holder → Type 0) (h : Holder) (holders : List Holder) (key : List Value) (stage : ℕ) (chain : List OrderKey) (b : Bool) → eq_by_cmp slot_cmp (key, stage) (slot_of h) ≡ b
      → P h → (opening_of holders key stage ≡ Some chain → Found P key stage chain)
      → cond b (Some h.chain) (opening_of holders key stage) ≡ Some chain → Found P key stage chain
  found_at P h holders key stage chain true tied here later is =
      record { at = h; passes = here; slot_is = sym (slots (key, stage) (slot_of h) (equal_is (slot_cmp (key, stage) (slot_of h)) tied)); chain_is = some_is h.chain chain is }
  found_at P h holders key stage chain false tied here later is = later is

  found : (P : Holder → Type 0) (holders : List Holder) → All P holders → (key : List Value) (stage : ℕ) (chain : List OrderKey) → opening_of holders key stage ≡ Some chain → Found P key stage chain
  found P [] all key stage chain is = absurd (none_isnt chain is)
  found P (h ∷ holders) all key stage chain is =
      found_at P h holders key stage chain (eq_by_cmp slot_cmp (key, stage) (slot_of h)) refl (All-head P h holders all)
      (found P holders (All-tail P h holders all) key stage chain) is

  module _ (h : Holder) (holders : List Holder) (order : in_order (h ∷ holders) ≡ true) (falls : firsts_fall (h ∷ holders) ≡ true) (rest : FirstsFall holders)
      (key : List Value) (j k : ℕ) (c d : List OrderKey) (lt : j < k) where
    looked : (a b : Bool) → eq_by_cmp slot_cmp (key, j) (slot_of h) ≡ a → eq_by_cmp slot_cmp (key, k) (slot_of h) ≡ b
        → cond a (Some h.chain) (opening_of holders key j) ≡ Some c → cond b (Some h.chain) (opening_of holders key k) ≡ Some d → FirstIsBefore d c
    looked false false ja kb jc kd = rest key j k c d lt jc kd
    looked true true ja kb jc kd =
        let at_j = slots (key, j) (slot_of h) (equal_is (slot_cmp (key, j) (slot_of h)) ja) in
        let at_k = slots (key, k) (slot_of h) (equal_is (slot_cmp (key, k) (slot_of h)) kb) in
        let same : j ≡ k = ap (λ (s : Slot). s.1) (at_j ∙ sym at_k) in
        absurd (omega arith)
    looked true false ja kb jc kd =
        let at_j = slots (key, j) (slot_of h) (equal_is (slot_cmp (key, j) (slot_of h)) ja) in
        let f = found (FallsTo h) holders (all_fall h holders order falls) key k d kd in
        let same : f.at.key ≡ h.key = ap (λ (s : Slot). s.0) f.slot_is ∙ ap (λ (s : Slot). s.0) at_j in
        subst (λ (x : List OrderKey). FirstIsBefore x c) f.chain_is (subst (λ (x : List OrderKey). FirstIsBefore f.at.chain x) (some_is h.chain c jc) (f.passes same))
    looked false true ja kb jc kd =
        let at_k = slots (key, k) (slot_of h) (equal_is (slot_cmp (key, k) (slot_of h)) kb) in
        let f = found (Before h) holders (first_of h holders order).before key j c jc in
        let same : h.key ≡ f.at.key = sym (ap (λ (s : Slot). s.0) at_k) ∙ sym (ap (λ (s : Slot). s.0) f.slot_is) in
        let less : h.stage < f.at.stage = stage_to h f.at f.passes same in
        let at_stage : h.stage ≡ k = sym (ap (λ (s : Slot). s.1) at_k) in
        let its_stage : f.at.stage ≡ j = ap (λ (s : Slot). s.1) f.slot_is in
        absurd (omega arith)

  pub falls_from : (holders : List Holder) → HoldersAreInOrder holders → firsts_fall holders ≡ true → FirstsFall holders
  falls_from [] order falls key j k c d lt jc kd = absurd (none_isnt c jc)
  falls_from (h ∷ holders) order falls key j k c d lt jc kd =
      looked h holders order falls
      (falls_from holders (first_of h holders order).rest (and_parts (falls_to h holders) (firsts_fall holders) falls).1)
      key j k c d lt (eq_by_cmp slot_cmp (key, j) (slot_of h)) (eq_by_cmp slot_cmp (key, k) (slot_of h)) refl refl jc kd

  module _ (all : List Holder) (fall : FirstsFall all) where
    abbrev Looks : Holder → Type 0
    Looks h = opening_of all h.key h.stage ≡ Some h.chain

    next_to : (h : Holder) (holders : List Holder) → All (Before h) holders → Looks h → All Looks holders → falls_to h holders ≡ true
    next_to h [] before at looks = refl
    next_to h (g ∷ holders) before at looks =
        not_or (key_eq h.key g.key) (first_before g.chain h.chain)
        (λ (tied : key_eq h.key g.key ≡ true). (let same : h.key ≡ g.key = keys h.key g.key (equal_is (key_cmp h.key g.key) tied) in
        let its : opening_of all h.key g.stage ≡ Some g.chain = ap (λ (k : List Value). opening_of all k g.stage) same ∙ All-head Looks g holders looks in
        first_to g.chain h.chain (fall h.key h.stage g.stage h.chain g.chain (stage_to h g (All-head (Before h) g holders before) same) at its)))

    pub falls_to_next : (holders : List Holder) → in_order holders ≡ true → All Looks holders → firsts_fall holders ≡ true
    falls_to_next [] order looks = refl
    falls_to_next (h ∷ holders) order looks =
        let first = first_of h holders order in
        and_from (falls_to h holders) (firsts_fall holders) (next_to h holders first.before (All-head Looks h holders looks) (All-tail Looks h holders looks))
        (falls_to_next holders first.rest (All-tail Looks h holders looks))

yes_le : (m n : ℕ) → m ≤ n → leb m n ≡ true
yes_le m n le = grind arith

yes_lt : (m n : ℕ) → m < n → ltb m n ≡ true
yes_lt m n lt = grind arith

-- one pending sequence
module _ (m values : ℕ) (t : ℤ) (shards : ℕ) where
  pub record HolderTold (h : Holder) : Type 0 where
    pub pending : IsPending m shards (At t) h
    pub times : HasTimes h.chain
    pub key : length h.key ≡ values

  record EventTold (e : OrderKey) : Type 0 where
    below : is_of shards (At t) e ≡ true
    time : IsTime e.ts

  event_from : (e : OrderKey) → event_fits t shards e ≡ true → EventTold e
  event_from e is =
      let time = and_parts _ (is_time e.ts) is in
      let of = and_parts (ltb e.shard shards) (lt_z e.ts t) time.0 in
      record { below = and_from (lt_z e.ts t) (ltb e.shard shards) of.1 of.0; time = time_from e.ts time.1 }

  event_to : (e : OrderKey) → EventTold e → event_fits t shards e ≡ true
  event_to e told =
      let of = and_parts (lt_z e.ts t) (ltb e.shard shards) told.below in
      and_from _ _ (and_from (ltb e.shard shards) (lt_z e.ts t) of.1 of.0) (time_to e.ts told.time)

  events_told : (events : List OrderKey) → All (λ (e : OrderKey). is_of shards (At t) e ≡ true) events → HasTimes events → All EventTold events
  events_told [] below times = All-nil _
  events_told (e ∷ events) below times =
      All-cons EventTold e events
      (record { below = All-head (λ (x : OrderKey). is_of shards (At t) x ≡ true) e events below; time = All-head (λ (x : OrderKey). IsTime x.ts) e events times })
      (events_told events (All-tail (λ (x : OrderKey). is_of shards (At t) x ≡ true) e events below) (All-tail (λ (x : OrderKey). IsTime x.ts) e events times))

  pub holder_from : (h : Holder) → holder_fits m values t shards h ≡ true → HolderTold h
  holder_from h is =
      let events = and_parts _ (list_all (event_fits t shards) h.chain) is in
      let ascend = and_parts _ (events_ascend h.chain) events.0 in
      let full = and_parts _ (is_full h) ascend.0 in
      let key = and_parts _ (eqb (length h.key) values) full.0 in
      let stage = and_parts (leb 1 h.stage) (ltb h.stage m) key.0 in
      let all : All EventTold h.chain = all_from (event_fits t shards) EventTold event_from h.chain events.1 in
      record {
        pending = record {
          stage_from = leb-true 1 h.stage stage.0;
          stage_to = ltb-true h.stage m stage.1;
          full = eqb-true (length h.chain) h.stage full.1;
          ascends = ascend.1;
          events = all_to (is_of shards (At t)) EventTold (λ (e : OrderKey) f. f.below) h.chain all;
        };
        times = All-weaker EventTold (λ (e : OrderKey). IsTime e.ts) (λ (e : OrderKey) f. f.time) h.chain all;
        key = eqb-true (length h.key) values key.1;
      }

  pub holder_to : (h : Holder) → HolderTold h → holder_fits m values t shards h ≡ true
  holder_to h told =
      let p = told.pending in
      and_from _ _
      (and_from _ _
      (and_from _ _
      (and_from _ _
      (and_from _ _ (yes_le 1 h.stage p.stage_from) (yes_lt h.stage m p.stage_to))
      (eq-eqb (length h.key) values told.key))
      (eq-eqb (length h.chain) h.stage p.full))
      p.ascends)
      (all_to (event_fits t shards) EventTold event_to h.chain
      (events_told h.chain (all_from (is_of shards (At t)) (λ (e : OrderKey). is_of shards (At t) e ≡ true) (λ e is. is) h.chain p.events) told.times))
