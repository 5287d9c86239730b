-- The chains of the last stage at all places are the matches.
use Rattle.std.proofs.Common.{◌≡◌, ℕ, ℤ, Bool, true, false, cond, List, [], ◌∷◌, ◌++◌, map, length, Option, Some, None, refl, sym, ap, ◌∙◌, subst, T, arith}
use Rattle.std.specs.Prelude.{All, find}
use Rattle.std.specs.List.{cons_option, filter_map}
use Rattle.std.specs.Option.{option_map}
use Rattle.std.specs.Cmp.{eq_by_cmp_equiv}
use Rattle.std.specs.FinMap.Entries.{below_all, is_sorted}
use Rattle.std.proofs.lemmas.List.Elements.{All-nil, All-cons, All-head, All-tail}
use Rattle.eql_values.specs.declared.order.OrderKey.{OrderKey}
use Rattle.eql_values.specs.declared.value.Value.{Value}
use Rattle.eql_values.specs.declared.item.KeyEvent.{KeyEvent}
use Rattle.eql_values.specs.declared.item.Route.{Route}
use Rattle.eql_values.specs.declared.item.Item.{Item}
use Rattle.eql_values.specs.declared.found.Match.{Match}
use Rattle.eql_values.specs.Orders.{key_cmp, key_eq}
use Rattle.eql_values.specs.Totals.{key_cmp_total}
use Rattle.eql_values.proofs.Same.{key_same}
use Rattle.eql_values.specs.Ascending.{Ascend}
use Rattle.eql_values.specs.Chains.{chain}
use Rattle.eql_values.specs.Matching.{key_event_by, key_events_of, match_by, matches_after, matches, opening_of}
use Rattle.eql_laws.specs.Shapes.{MatchAscends, MatchesAscend}
use Rattle.eql_laws.proofs.Facts.{is_equal, left_holds, right_holds, less_not_equal}
use Rattle.eql_lookback.specs.declared.routed_event.RoutedEvent.{RoutedEvent}
use Rattle.eql_lookback.specs.RoutedEvents.{routed_event_of, routed_events_of, routed_events, to_key, back_over}
use Rattle.eql_lookback.specs.Places.{no_opening, chains_at, ChainAscends, match_at, matches_at}
use Rattle.eql_lookback.proofs.Along.{chain_of, cons_option-append, length-chains_at}

abbrev keyed : Route → List Value × Route
keyed r = (r.key, r)

abbrev found_of : List Value → List Route → Option Route
found_of key routes = find (λ (r : Route). key_eq key r.key) routes

apart : (key : List Value) (r : Route) (rs : List Route) → T (below_all key_cmp key (map keyed (r ∷ rs))) → key_eq key r.key ≡ false
apart key r rs h = less_not_equal (key_cmp key r.key) (left_holds _ _ h)

none_of : (key : List Value) (rs : List Route) → T (below_all key_cmp key (map keyed rs)) → found_of key rs ≡ None
none_of key [] h = refl
none_of key (r ∷ rs) h =
    ap (λ (b : Bool). cond b (Some r) (found_of key rs)) (apart key r rs h) ∙ none_of key rs (right_holds _ _ h)

-- what an item says to a key, over its routes in order
module _ (order : OrderKey) where
  abbrev key_event_there : List Value → List Route → Option KeyEvent
  key_event_there key rs = option_map (key_event_by order) (found_of key rs)

  said_one : (key : List Value) (r : Route) (rs : List Route) (past : List KeyEvent) (b : Bool) → key_eq key r.key ≡ b → T (below_all key_cmp r.key (map keyed rs))
      → cons_option (key_event_there key rs) (cond b (key_event_by order r ∷ past) past) ≡ cons_option (option_map (key_event_by order) (cond b (Some r) (found_of key rs))) past
  said_one key r rs past true e h =
      let none : found_of key rs ≡ None = none_of key rs (subst (λ (k : List Value). T (below_all key_cmp k (map keyed rs))) (sym (key_same key r.key (is_equal (key_cmp key r.key) e))) h) in
      ap (λ (o : Option Route). cons_option (option_map (key_event_by order) o) (key_event_by order r ∷ past)) none
  said_one key r rs past false e h = refl

  said_there : (key : List Value) (rs : List Route) (past : List RoutedEvent) → T (is_sorted key_cmp (map keyed rs))
      → to_key key (back_over (map (routed_event_of order) rs) past) ≡ cons_option (key_event_there key rs) (to_key key past)
  said_there key [] past h = refl
  said_there key (r ∷ rs) past h =
      said_there key rs (routed_event_of order r ∷ past) (right_holds _ _ h)
      ∙ said_one key r rs (to_key key past) (key_eq key r.key) refl (left_holds _ _ h)

-- what was said agrees with what the items say, at the keys of these routes
abbrev Agree : List RoutedEvent → List Item → List Route → Type 0
Agree past items [] = Unit {0}
Agree past items (r ∷ rs) = (to_key r.key past ≡ key_events_of r.key items) × Agree past items rs

agree_on : (one : RoutedEvent) (past : List RoutedEvent) (items : List Item) (rs : List Route) → T (below_all key_cmp one.key (map keyed rs)) → Agree past items rs → Agree (one ∷ past) items rs
agree_on one past items [] h a = tt
agree_on one past items (r ∷ rs) h a = (
  ap (λ (b : Bool). cond b (one.key_event ∷ to_key r.key past) (to_key r.key past)) ((eq_by_cmp_equiv key_cmp_total).symm r.key one.key ∙ apart one.key r rs h) ∙ a.0,
  agree_on one past items rs (right_holds _ _ h) a.1,
)

agree_all : (past : List RoutedEvent) (items : List Item) (rs : List Route) → ((key : List Value) → to_key key past ≡ key_events_of key items) → Agree past items rs
agree_all past items [] h = tt
agree_all past items (r ∷ rs) h = (h r.key, agree_all past items rs h)

module _ (m : ℕ) (span : Option ℤ) where
  abbrev made : List RoutedEvent → List RoutedEvent → List Match
  made past all = matches_at all (chains_at span m past all)

  made-append : (past xs ys : List RoutedEvent) → made past (xs ++ ys) ≡ made past xs ++ made (back_over xs past) ys
  made-append past [] ys = refl
  made-append past (x ∷ xs) ys =
      ap (cons_option (match_at x (chain_of span m past x))) (made-append (x ∷ past) xs ys)
      ∙ sym (cons_option-append (match_at x (chain_of span m past x)) (made (x ∷ past) xs) (made (back_over xs (x ∷ past)) ys))

  -- the matches of one item
  made_by : (order : OrderKey) (past : List RoutedEvent) (items : List Item) (rs : List Route) → T (is_sorted key_cmp (map keyed rs)) → Agree past items rs
      → made past (map (routed_event_of order) rs) ≡ filter_map (match_by m span (opening_of []) items order) rs
  made_by order past items [] h a = refl
  made_by order past items (r ∷ rs) h a =
      ap (λ (key_events : List KeyEvent). cons_option (option_map (λ (c : List OrderKey). record { key = r.key; chain = c }) (chain span no_opening m (key_event_by order r ∷ key_events))) (made (routed_event_of order r ∷ past) (map (routed_event_of order) rs))) a.0
      ∙ ap (cons_option (match_by m span (opening_of []) items order r))
      (made_by order (routed_event_of order r ∷ past) items rs (right_holds _ _ h) (agree_on (routed_event_of order r) past items rs (left_holds _ _ h) a.1))

  made_are : (past : List RoutedEvent) (before items : List Item) → Ascend items → ((key : List Value) → to_key key past ≡ key_events_of key before)
      → made past (routed_events items) ≡ matches_after m span (opening_of []) before items
  made_are past before [] up h = refl
  made_are past before (item ∷ items) up h =
      let sorted : T (is_sorted key_cmp (map keyed item.routes)) = subst T (sym up.0) tt in
      made-append past (routed_events_of item) (routed_events items)
      ∙ (λ i. made_by item.order past before item.routes sorted (agree_all past before item.routes h) i
      ++ made_are (back_over (routed_events_of item) past) (item ∷ before) items up.2
      (λ key. said_there item.order key item.routes past sorted ∙ ap (cons_option (key_event_there item.order key item.routes)) (h key)) i)

  pub all_made : (items : List Item) → Ascend items → made [] (routed_events items) ≡ matches m span [] items
  all_made items up = made_are [] [] items up (λ key. refl)

each_ascends : (all : List RoutedEvent) (chains : List (Option (List OrderKey))) → length chains ≡ length all → All MatchAscends (matches_at all chains) → All ChainAscends chains
each_ascends all [] e h = All-nil ChainAscends
each_ascends [] (o ∷ chains) e h = absurd (omega arith)
each_ascends (x ∷ all) (None ∷ chains) e h = All-cons ChainAscends None chains tt (each_ascends all chains (omega arith) h)
each_ascends (x ∷ all) (Some c ∷ chains) e h =
    All-cons ChainAscends (Some c) chains (All-head MatchAscends _ (matches_at all chains) h)
    (each_ascends all chains (omega arith) (All-tail MatchAscends _ (matches_at all chains) h))

-- the chains at all places ascend
pub chains_ascend : MatchesAscend → (m : ℕ) (span : Option ℤ) (items : List Item) → Ascend items → All ChainAscends (chains_at span m [] (routed_events items))
chains_ascend ascend m span items up =
    each_ascends (routed_events items) (chains_at span m [] (routed_events items)) (length-chains_at span m [] (routed_events items))
    (subst (All MatchAscends) (sym (all_made m span items up)) (ascend m span [] items up (All-nil _)))
