-- The shape of matches and pending sequences.
use Rattle.std.proofs.Common.{◌≡◌, ◌<◌, ◌≤◌, ℕ, suc, ℤ, Bool, true, List, [], ◌∷◌, ◌++◌, map, length, Option, Some, None, refl, sym, ap, ◌∙◌, subst, arith, length-append}
use Rattle.std.specs.Prelude.{All, IfSome, IsTrue, ◌&&◌}
use Rattle.std.specs.List.{list_all, filter_map, flat_map}
use Rattle.std.specs.Option.{option_map}
use Rattle.std.specs.declared.cmp.Ordering.TheVariants.{Less}
use Rattle.std.specs.Ordering.{is_lt}
use Rattle.std.proofs.lemmas.List.Folds.{list_all-append}
use Rattle.std.proofs.lemmas.List.Elements.{All-nil, All-cons, All-head, All-tail, All-append, All-map, All-weaker}
use Rattle.eql_values.specs.declared.order.OrderKey.{OrderKey}
use Rattle.eql_values.specs.declared.value.Value.{Value}
use Rattle.eql_values.specs.declared.item.Route.{Route}
use Rattle.eql_values.specs.declared.item.Item.{Item}
use Rattle.eql_values.specs.declared.found.Match.{Match}
use Rattle.eql_values.specs.declared.found.Holder.{Holder}
use Rattle.eql_values.specs.Ascending.{AllAreAfter, Ascend}
use Rattle.eql_values.specs.Matching.{Openings, opening_of, onto, keys_in, key_event_by, key_events_of, match_by, matches_after, after, held_after}
use Rattle.std.specs.declared.cmp.Ordering.{Ordering}
use Rattle.std.proofs.lemmas.List.{append-nil}
use Rattle.std.proofs.lemmas.List.Sums.{AllPass-from_list_all}
use Rattle.eql_values.specs.declared.item.KeyEvent.{KeyEvent}
use Rattle.eql_values.specs.Chains.{chain, holder}
use Rattle.eql_values.specs.OrderKeys.{order_cmp, before_all, EventsAscend}
use Rattle.eql_values.specs.Totals.{order_cmp_total}
use Rattle.eql_laws.specs.Shapes.{IsReady, MatchAscends, MatchesAscend, AfterIsReady, IsFull, HasEvents, MatchesAreFull, AfterIsFull, HasStageBefore, AfterHasStages, EventsPass, EventsKeep, EventsStay, RoutesPass, KeysStay}
use Rattle.eql_laws.proofs.Elements.{All-filter_map, All-flat_map}
use Rattle.eql_laws.proofs.Facts.{both_true, true_both}
use Rattle.eql_laws.proofs.Carried.{LeadsTo, all_held, first_of, if_more, if_all, Rises, matches_made, after_held, after_all, opening_is}

-- of any key
any_keys : (keys : List (List Value)) → All (λ (key : List Value). Unit {0}) keys
any_keys keys k d lt = tt

module _ (m : ℕ) (span : Option ℤ) (holders : List Holder) (items : List Item) where
  -- a stage that there may be
  stages_are : All (HasStageBefore m) (after m span holders items)
  stages_are =
      after_all m span holders items (λ (key : List Value). Unit {0}) (HasStageBefore m) (any_keys (keys_in holders items))
      (λ key k any lt. if_all (λ c. (1 ≤ suc k) × (suc k < m)) (held_after span (opening_of holders) items key (suc k)) (λ c e. (omega arith, lt)))

pub after_has_stages : AfterHasStages
after_has_stages m span holders items = stages_are m span holders items

-- the number of events
abbrev AnyBefore : OrderKey → Option OrderKey → Type 0
AnyBefore x bound = Unit {0}

abbrev OfLength : Option OrderKey → ℕ → List OrderKey → Type 0
OfLength bound k c = length c ≡ k

abbrev MadeOfLength : OrderKey → ℕ → List OrderKey → Type 0
MadeOfLength x k c = length c ≡ k

one_longer : (x : OrderKey) (k : ℕ) (c : List OrderKey) → length c ≡ suc k → length (c ++ x ∷ []) ≡ suc (suc k)
one_longer x k c h = length-append c (x ∷ []) ∙ omega (arith, h)

any_rises : (items : List Item) → Rises AnyBefore items
any_rises [] = tt
any_rises (item ∷ items) = (tt, any_rises items)

full_openings : (holders : List Holder) → All IsFull holders → (key : List Value) (k : ℕ) → IfSome (opening_of holders key (suc k)) (λ c. length c ≡ suc k)
full_openings holders h key k = opening_is IsFull holders h key (suc k)

pub matches_are_full : MatchesAreFull
matches_are_full m span holders items h =
    matches_made AnyBefore OfLength MadeOfLength (λ x. refl) one_longer (λ x b k c h u. h) (λ x b k c h u. h) (λ x y b u v. tt) span (opening_of holders)
    m (HasEvents m) (λ key x bound c made u. made) [] items (full_openings holders h) (any_rises items)

-- what is held has its number of events
pub held_full : (span : Option ℤ) (holders : List Holder) → All IsFull holders → (past : List KeyEvent) (key : List Value) (k : ℕ)
    → IfSome (holder span (opening_of holders key) (suc k) past) (λ c. length c ≡ suc k)
held_full span holders h past key k =
    all_held AnyBefore OfLength MadeOfLength (λ x. refl) one_longer (λ x b k c h u. h) (λ x b k c h u. h) (λ x y b u v. tt) span (opening_of holders key) None past (leads past None) k
  where
    leads : (past : List KeyEvent) (bound : Option OrderKey)
        → LeadsTo AnyBefore OfLength MadeOfLength (λ x. refl) one_longer (λ x b k c h u. h) (λ x b k c h u. h) (λ x y b u v. tt) span (opening_of holders key) bound past
    leads [] bound = λ k. full_openings holders h key k
    leads (item ∷ past) bound = (tt, leads past (Some item.order))

pub after_is_full : AfterIsFull
after_is_full m span holders items h =
    after_all m span holders items (λ (key : List Value). Unit {0}) IsFull (any_keys (keys_in holders items))
    (λ key k any lt. held_full span holders h (key_events_of key (onto items [])) key k)

-- ascending events
abbrev pub ComesBefore : OrderKey → Option OrderKey → Type 0
ComesBefore x None = Unit {0}
ComesBefore x (Some other) = order_cmp x other ≡ Less

-- each event of the chain comes before this one
abbrev pub AllBefore : OrderKey → List OrderKey → Type 0
AllBefore other = All (λ (event : OrderKey). order_cmp event other ≡ Less)

abbrev pub AscendsBefore : Option OrderKey → ℕ → List OrderKey → Type 0
AscendsBefore None k c = EventsAscend c
AscendsBefore (Some other) k c = EventsAscend c × AllBefore other c

abbrev pub AscendsTo : OrderKey → ℕ → List OrderKey → Type 0
AscendsTo x k c = EventsAscend c × ((other : OrderKey) → order_cmp x other ≡ Less → AllBefore other c)

before_push : (e : OrderKey) (c : List OrderKey) (x : OrderKey) → before_all e c ≡ true → order_cmp e x ≡ Less → before_all e (c ++ x ∷ []) ≡ true
before_push e [] x h lt = ap (λ (o : Ordering). is_lt o && true) lt
before_push e (y ∷ c) x h lt = let both = both_true _ _ h in true_both _ _ both.0 (before_push e c x both.1 lt)

-- a later event goes to the end of a chain
ascend_push : (c : List OrderKey) (x : OrderKey) → EventsAscend c → AllBefore x c → EventsAscend (c ++ x ∷ [])
ascend_push [] x h lt = refl
ascend_push (e ∷ c) x h lt =
    let both = both_true _ _ h in
    true_both _ _ (before_push e c x both.0 (All-head (λ (event : OrderKey). order_cmp event x ≡ Less) e c lt))
    (ascend_push c x both.1 (All-tail (λ (event : OrderKey). order_cmp event x ≡ Less) e c lt))

one_before : (x other : OrderKey) → order_cmp x other ≡ Less → AllBefore other (x ∷ [])
one_before x other lt = All-cons (λ (event : OrderKey). order_cmp event other ≡ Less) x [] lt (All-nil (λ (event : OrderKey). order_cmp event other ≡ Less))

all_before_on : (x other : OrderKey) (c : List OrderKey) → AllBefore x c → order_cmp x other ≡ Less → AllBefore other c
all_before_on x other c h lt =
    All-weaker (λ (event : OrderKey). order_cmp event x ≡ Less) (λ (event : OrderKey). order_cmp event other ≡ Less) (λ e l. order_cmp_total.trans e x other l lt) c h

pub alone : (x : OrderKey) → AscendsTo x 1 (x ∷ [])
alone x = (refl, λ other lt. one_before x other lt)

pub goes_to : (x : OrderKey) (k : ℕ) (c : List OrderKey) → AscendsBefore (Some x) (suc k) c → AscendsTo x (suc (suc k)) (c ++ x ∷ [])
goes_to x k c h =
    (ascend_push c x h.0 h.1, λ other lt. All-append (λ (event : OrderKey). order_cmp event other ≡ Less) c (x ∷ []) (all_before_on x other c h.1 lt) (one_before x other lt))

pub made_before : (x : OrderKey) (bound : Option OrderKey) (k : ℕ) (c : List OrderKey) → AscendsTo x k c → ComesBefore x bound → AscendsBefore bound k c
made_before x None k c h b = h.0
made_before x (Some other) k c h b = (h.0, h.1 other b)

pub still_before : (x : OrderKey) (bound : Option OrderKey) (k : ℕ) (c : List OrderKey) → AscendsBefore (Some x) k c → ComesBefore x bound → AscendsBefore bound k c
still_before x None k c h b = h.0
still_before x (Some other) k c h b = (h.0, all_before_on x other c h.1 b)

pub before_before : (x y : OrderKey) (bound : Option OrderKey) → ComesBefore x (Some y) → ComesBefore y bound → ComesBefore x bound
before_before x y None a b = tt
before_before x y (Some other) a b = order_cmp_total.trans x y other a b

pub ascending_rises : (items : List Item) → Ascend items → Rises ComesBefore items
ascending_rises [] up = tt
ascending_rises (item ∷ []) up = (tt, tt)
ascending_rises (item ∷ next ∷ items) up = (up.1.0, ascending_rises (next ∷ items) up.2)

ready_before : (items : List Item) (h : Holder) → IsReady items h → AscendsBefore (first_of items) h.stage h.chain
ready_before [] h r = r.ascends
ready_before (item ∷ items) h r =
    (r.ascends, All-weaker (λ (event : OrderKey). AllAreAfter event (item ∷ items)) (λ (event : OrderKey). order_cmp event item.order ≡ Less) (λ e a. a.0) h.chain r.before)

pub ready_openings : (holders : List Holder) (items : List Item) → All (IsReady items) holders → (key : List Value) (k : ℕ)
    → IfSome (opening_of holders key (suc k)) (AscendsBefore (first_of items) (suc k))
ready_openings holders items h key k =
    opening_is (λ (h : Holder). AscendsBefore (first_of items) h.stage h.chain) holders
    (All-weaker (IsReady items) (λ (h : Holder). AscendsBefore (first_of items) h.stage h.chain) (ready_before items) holders h) key (suc k)

pub matches_ascend : MatchesAscend
matches_ascend m span holders items up h =
    matches_made ComesBefore AscendsBefore AscendsTo alone goes_to made_before still_before before_before span (opening_of holders)
    m MatchAscends (λ key x bound c made b. made.0) [] items (ready_openings holders items h) (ascending_rises items up)

later_after : (e x : OrderKey) (items : List Item) → order_cmp e x ≡ Less → AllAreAfter x items → AllAreAfter e items
later_after e x [] lt h = tt
later_after e x (item ∷ items) lt h = (order_cmp_total.trans e x item.order lt h.0, later_after e x items lt h.1)

made_ready : (more : List Item) (k : ℕ) (key : List Value) (c : List OrderKey) → Ascend more → AscendsBefore (first_of more) k c
    → IsReady more (record { key = key; stage = k; chain = c })
made_ready [] k key c up h = record { ascends = h; before = λ i d lt. tt }
made_ready (item ∷ more) k key c up h = record {
  ascends = h.0;
  before = All-weaker (λ (event : OrderKey). order_cmp event item.order ≡ Less) (λ (event : OrderKey). AllAreAfter event (item ∷ more))
      (λ e lt. (lt, later_after e item.order more lt up.1)) c h.1;
}

ascending_more : (items more : List Item) → Ascend (items ++ more) → Ascend more
ascending_more [] more up = up
ascending_more (item ∷ items) more up = ascending_more items more up.2

pub after_is_ready : AfterIsReady
after_is_ready m span holders items more up h =
    after_all m span holders items (λ (key : List Value). Unit {0}) (IsReady more) (any_keys (keys_in holders items))
    (λ key k any lt. if_more (AscendsBefore (first_of more) (suc k)) (λ c. IsReady more (record { key = key; stage = suc k; chain = c }))
    (held_after span (opening_of holders) items key (suc k)) (λ c a. made_ready more (suc k) key c (ascending_more items more up) a)
    (after_held ComesBefore AscendsBefore AscendsTo alone goes_to made_before still_before before_before span (opening_of holders)
    items more (ready_openings holders (items ++ more) h) (ascending_rises (items ++ more) up) key k))

-- a test of events
module _ (test : OrderKey → Bool) where
  abbrev PassesBefore : OrderKey → Option OrderKey → Type 0
  PassesBefore x bound = IsTrue (test x)

  abbrev Passes : Option OrderKey → ℕ → List OrderKey → Type 0
  Passes bound k c = EventsPass test c

  abbrev PassesTo : OrderKey → ℕ → List OrderKey → Type 0
  PassesTo x k c = IsTrue (test x) → EventsPass test c

  pass_alone : (x : OrderKey) → PassesTo x 1 (x ∷ [])
  pass_alone x h = true_both (test x) true h refl

  pass_on : (x : OrderKey) (k : ℕ) (c : List OrderKey) → Passes (Some x) (suc k) c → PassesTo x (suc (suc k)) (c ++ x ∷ [])
  pass_on x k c h t = list_all-append test c (x ∷ []) ∙ true_both (list_all test c) (test x && true) h (true_both (test x) true t refl)

  pass_rises : (items : List Item) → All (λ (item : Item). IsTrue (test item.order)) items → Rises PassesBefore items
  pass_rises [] h = tt
  pass_rises (item ∷ items) h =
      (All-head (λ (item : Item). IsTrue (test item.order)) item items h, pass_rises items (All-tail (λ (item : Item). IsTrue (test item.order)) item items h))

  pass_openings : (holders : List Holder) → All (λ (h : Holder). EventsPass test h.chain) holders → (key : List Value) (k : ℕ)
      → IfSome (opening_of holders key (suc k)) (EventsPass test)
  pass_openings holders h key k = opening_is (λ (h : Holder). EventsPass test h.chain) holders h key (suc k)

  events_keep : (m : ℕ) (span : Option ℤ) (holders : List Holder) (items : List Item)
      → All (λ (h : Holder). EventsPass test h.chain) holders → All (λ (item : Item). IsTrue (test item.order)) items
      → EventsKeep m span test holders items
  events_keep m span holders items h g = record {
    matches = matches_made PassesBefore Passes PassesTo pass_alone pass_on (λ x b k c made t. made t) (λ x b k c h t. h) (λ x y b s t. s) span (opening_of holders)
        m (λ (found : Match). EventsPass test found.chain) (λ key x bound c made t. made t) [] items (pass_openings holders h) (pass_rises items g);
    after = after_all m span holders items (λ (key : List Value). Unit {0}) (λ (h : Holder). EventsPass test h.chain) (any_keys (keys_in holders items))
        (λ key k any lt. after_held PassesBefore Passes PassesTo pass_alone pass_on (λ x b k c made t. made t) (λ x b k c h t. h) (λ x y b s t. s) span (opening_of holders)
        items [] (pass_openings holders h) (subst (Rises PassesBefore) (sym (append-nil items)) (pass_rises items g)) key k);
  }

pub events_stay : EventsStay
events_stay m span test holders items h g = events_keep test m span holders items h g

-- a test of keys
module _ (m : ℕ) (span : Option ℤ) (test : List Value → Bool) (openings : Openings) where
  abbrev KeyPasses : Match → Type 0
  KeyPasses found = IsTrue (test found.key)

  match_key : (key : List Value) (o : Option (List OrderKey)) → IsTrue (test key) → IfSome (option_map (λ c. let found : Match = record { key = key; chain = c } in found) o) KeyPasses
  match_key key None h = tt
  match_key key (Some c) h = h

  matches_keys : (past items : List Item) → All (RoutesPass test) items → All KeyPasses (matches_after m span openings past items)
  matches_keys past [] h = All-nil KeyPasses
  matches_keys past (item ∷ items) h =
      All-append KeyPasses (filter_map (match_by m span openings past item.order) item.routes) (matches_after m span openings (item ∷ past) items)
      (All-filter_map (λ (r : Route). test r.key ≡ true) KeyPasses (match_by m span openings past item.order)
      (λ r is. match_key r.key (chain span (openings r.key) m (key_event_by item.order r ∷ key_events_of r.key past)) is) item.routes
      (AllPass-from_list_all (λ (r : Route). test r.key) item.routes (All-head (RoutesPass test) item items h)))
      (matches_keys (item ∷ past) items (All-tail (RoutesPass test) item items h))

keys_pass : (test : List Value → Bool) (holders : List Holder) (items : List Item) → All (λ (h : Holder). IsTrue (test h.key)) holders → All (RoutesPass test) items
    → All (λ (key : List Value). IsTrue (test key)) (keys_in holders items)
keys_pass test holders items h g =
    All-append (λ (key : List Value). IsTrue (test key)) (map (λ (h : Holder). h.key) holders) (flat_map (λ (item : Item). map (λ (r : Route). r.key) item.routes) items)
    (All-map (λ (key : List Value). IsTrue (test key)) (λ (h : Holder). h.key) holders h)
    (All-flat_map (RoutesPass test) (λ (key : List Value). IsTrue (test key)) (λ (item : Item). map (λ (r : Route). r.key) item.routes)
    (λ item is. All-map (λ (key : List Value). IsTrue (test key)) (λ (r : Route). r.key) item.routes (AllPass-from_list_all (λ (r : Route). test r.key) item.routes is)) items g)

pub keys_stay : KeysStay
keys_stay m span test holders items h g = record {
  matches = matches_keys m span test (opening_of holders) [] items g;
  after = after_all m span holders items (λ (key : List Value). IsTrue (test key)) (λ (h : Holder). IsTrue (test h.key)) (keys_pass test holders items h g)
      (λ key k is lt. if_all (λ c. IsTrue (test key)) (held_after span (opening_of holders) items key (suc k)) (λ c e. is));
}
