-- One step along a list of what items say.
use Rattle.std.proofs.Common.{◌≡◌, ◌<◌, ◌≤◌, ◌+◌, ℕ, zero, suc, ℤ, Bool, true, false, cond, List, [], ◌∷◌, ◌++◌, length, take, get_or, Option, Some, None, refl, sym, ap, ◌∙◌, arith, add-one}
use Rattle.std.specs.Prelude.{not, ◌&&◌, ◌||◌}
use Rattle.std.specs.List.{cons_option}
use Rattle.std.specs.Cmp.{eq_by_cmp_equiv}
use Rattle.std.proofs.lemmas.List.{take_more, append-nil}
use Rattle.eql_values.specs.declared.order.OrderKey.{OrderKey}
use Rattle.eql_values.specs.declared.value.Value.{Value}
use Rattle.eql_values.specs.declared.item.KeyEvent.{KeyEvent}
use Rattle.eql_values.specs.declared.found.Match.{Match}
use Rattle.eql_values.specs.Orders.{key_cmp, key_eq}
use Rattle.eql_values.specs.Totals.{key_cmp_total}
use Rattle.eql_values.proofs.Same.{key_same}
use Rattle.eql_values.specs.Chains.{fits_after, chain, holder}
use Rattle.eql_values.specs.Ordered.{found_or}
use Rattle.eql_laws.specs.Slots.{chain_moved_on}
use Rattle.eql_laws.proofs.Facts.{is_equal}
use Rattle.eql_laws.specs.Steps.{StepMovesSlots, StepMakesChain}
use Rattle.eql_lookback.specs.declared.routed_event.RoutedEvent.{RoutedEvent}
use Rattle.eql_lookback.specs.RoutedEvents.{to_key, back_over}
use Rattle.eql_lookback.specs.Places.{no_opening, chains_at, match_at, matches_at}

pub back_over_more : (all : List RoutedEvent) (i : ℕ) (one : RoutedEvent) (past : List RoutedEvent) → i < length all → one ≡ get_or all i one
    → back_over (take (i + 1) all) past ≡ one ∷ back_over (take i all) past
back_over_more all i one past lt is = ap (λ (xs : List RoutedEvent). back_over xs past) (take_more all i one lt) ∙ pushed (take i all) (get_or all i one) past ∙ ap (λ (x : RoutedEvent). x ∷ back_over (take i all) past) (sym is)
  where
    pushed : (xs : List RoutedEvent) (x : RoutedEvent) (past : List RoutedEvent) → back_over (xs ++ x ∷ []) past ≡ x ∷ back_over xs past
    pushed [] x past = refl
    pushed (y ∷ xs) x past = pushed xs x (y ∷ past)

pub cons_option-append : (o : Option Match) (xs ys : List Match) → cons_option o xs ++ ys ≡ cons_option o (xs ++ ys)
cons_option-append None xs ys = refl
cons_option-append (Some x) xs ys = refl

module _ (span : Option ℤ) (stage : ℕ) where
  -- the chain of an item after a past
  abbrev pub chain_of : List RoutedEvent → RoutedEvent → Option (List OrderKey)
  chain_of past one = chain span no_opening stage (one.key_event ∷ to_key one.key past)

  pub chains_at-append : (past xs ys : List RoutedEvent) → chains_at span stage past (xs ++ ys) ≡ chains_at span stage past xs ++ chains_at span stage (back_over xs past) ys
  chains_at-append past [] ys = refl
  chains_at-append past (x ∷ xs) ys = ap (λ (cs : List (Option (List OrderKey))). chain_of past x ∷ cs) (chains_at-append (x ∷ past) xs ys)

  pub length-chains_at : (past all : List RoutedEvent) → length (chains_at span stage past all) ≡ length all
  length-chains_at past [] = refl
  length-chains_at past (x ∷ all) = ap suc (length-chains_at (x ∷ past) all)

  pub chains_at_more : (all : List RoutedEvent) (i : ℕ) (one : RoutedEvent) → i < length all → one ≡ get_or all i one
      → chains_at span stage [] (take (i + 1) all) ≡ chains_at span stage [] (take i all) ++ chain_of (back_over (take i all) []) one ∷ []
  chains_at_more all i one lt is =
      ap (chains_at span stage []) (take_more all i one lt)
      ∙ chains_at-append [] (take i all) (get_or all i one ∷ [])
      ∙ ap (λ (x : RoutedEvent). chains_at span stage [] (take i all) ++ chain_of (back_over (take i all) []) x ∷ []) (sym is)

  chain_there : (past all : List RoutedEvent) (i : ℕ) (one : RoutedEvent) (found : Option (List OrderKey)) → i < length all
      → get_or (chains_at span stage past all) i found ≡ chain_of (back_over (take i all) past) (get_or all i one)
  chain_there past [] i one found lt = absurd (omega arith)
  chain_there past (x ∷ all) zero one found lt = refl
  chain_there past (x ∷ all) (suc i) one found lt = chain_there (x ∷ past) all i one found (omega arith)

  -- the chain at a place of the list
  pub chain_at_place : (all : List RoutedEvent) (chains : List (Option (List OrderKey))) (i : ℕ) (one : RoutedEvent) (found : Option (List OrderKey))
      → chains ≡ chains_at span stage [] all → i < length all → one ≡ get_or all i one → found ≡ get_or chains i found
      → found ≡ chain_of (back_over (take i all) []) one
  chain_at_place all chains i one found these lt is here =
      here
      ∙ ap (λ (cs : List (Option (List OrderKey))). get_or cs i found) these
      ∙ chain_there [] all i one found lt
      ∙ ap (chain_of (back_over (take i all) [])) (sym is)

  step_is : StepMovesSlots → StepMakesChain → (one : KeyEvent) (past : List KeyEvent) → holder span no_opening stage (one ∷ past)
      ≡ found_or (chain span no_opening stage (one ∷ past)) (cond (fits_after stage one || one.until) None (holder span no_opening stage past))
  step_is steps comes one past =
      steps span no_opening stage one past
      ∙ ap (λ (o : Option (List OrderKey)). found_or o (cond (fits_after stage one || one.until) None (holder span no_opening stage past))) (sym (comes span no_opening stage one past))

  passed_one : StepMovesSlots → StepMakesChain → (past : List RoutedEvent) (one : RoutedEvent) (here now : Option (List OrderKey)) (key : List Value) (b : Bool) → key_eq one.key key ≡ b
      → here ≡ chain_of past one → now ≡ holder span no_opening stage (to_key key past)
      → cond b (found_or here (cond (fits_after stage one.key_event || one.key_event.until) None now)) now ≡ holder span no_opening stage (cond b (one.key_event ∷ to_key key past) (to_key key past))
  passed_one steps comes past one here now key true same is was =
      (λ i. found_or (is i) (cond (fits_after stage one.key_event || one.key_event.until) None (was i)))
      ∙ ap (λ (k : List Value). found_or (chain span no_opening stage (one.key_event ∷ to_key k past)) (cond (fits_after stage one.key_event || one.key_event.until) None (holder span no_opening stage (to_key key past))))
      (key_same one.key key (is_equal (key_cmp one.key key) same))
      ∙ sym (step_is steps comes one.key_event (to_key key past))
  passed_one steps comes past one here now key false same is was = was

  -- what is pending after one more item
  pub passed : StepMovesSlots → StepMakesChain → (all : List RoutedEvent) (i : ℕ) (one : RoutedEvent) (here : Option (List OrderKey)) (key : List Value) (old new : Option (List OrderKey))
      → i < length all → one ≡ get_or all i one → here ≡ chain_of (back_over (take i all) []) one
      → old ≡ holder span no_opening stage (to_key key (back_over (take i all) []))
      → new ≡ cond (key_eq one.key key) (found_or here (cond (fits_after stage one.key_event || one.key_event.until) None old)) old
      → new ≡ holder span no_opening stage (to_key key (back_over (take (i + 1) all) []))
  passed steps comes all i one here key old new lt is at was goes =
      goes
      ∙ passed_one steps comes (back_over (take i all) []) one here old key (key_eq one.key key) refl at was
      ∙ ap (λ (b : Bool). holder span no_opening stage (cond b (one.key_event ∷ to_key key (back_over (take i all) [])) (to_key key (back_over (take i all) [])))) ((eq_by_cmp_equiv key_cmp_total).symm one.key key)
      ∙ ap (λ (past : List RoutedEvent). holder span no_opening stage (to_key key past)) (sym (back_over_more all i one [] lt is))

-- the chain that follows what is pending
pub followed_at : StepMakesChain → (span : Option ℤ) (stage : ℕ) (past : List RoutedEvent) (one : RoutedEvent) (pending found : Option (List OrderKey)) → 1 ≤ stage
    → pending ≡ holder span no_opening stage (to_key one.key past)
    → found ≡ cond (fits_after stage one.key_event && not one.key_event.until) (chain_moved_on span pending one.key_event) None
    → found ≡ chain_of span (suc stage) past one
followed_at comes span zero past one pending found le was is = absurd (omega arith)
followed_at comes span (suc k) past one pending found le was is =
    is
    ∙ ap (λ (o : Option (List OrderKey)). cond (fits_after (suc k) one.key_event && not one.key_event.until) (chain_moved_on span o one.key_event) None) was
    ∙ sym (comes span no_opening (suc (suc k)) one.key_event (to_key one.key past))

-- the first stage asks nothing of time
pub first_of_any : (span : Option ℤ) (past all : List RoutedEvent) → chains_at None 1 past all ≡ chains_at span 1 past all
first_of_any span past [] = refl
first_of_any span past (one ∷ all) = ap (λ (cs : List (Option (List OrderKey))). chain_of span 1 past one ∷ cs) (first_of_any span (one ∷ past) all)

last_matched : (all : List RoutedEvent) (chains : List (Option (List OrderKey))) (i : ℕ) (one : RoutedEvent) (found : Option (List OrderKey)) → i < length all → i < length chains
    → matches_at (take (suc i) all) (take (suc i) chains) ≡ matches_at (take i all) (take i chains) ++ cons_option (match_at (get_or all i one) (get_or chains i found)) []
last_matched [] chains i one found la lc = absurd (omega arith)
last_matched (x ∷ all) [] i one found la lc = absurd (omega arith)
last_matched (x ∷ all) (y ∷ chains) zero one found la lc = refl
last_matched (x ∷ all) (y ∷ chains) (suc i) one found la lc =
    ap (cons_option (match_at x y)) (last_matched all chains i one found (omega arith) (omega arith))
    ∙ sym (cons_option-append (match_at x y) (matches_at (take i all) (take i chains)) (cons_option (match_at (get_or all i one) (get_or chains i found)) []))

-- one more match
pub matched_more : (all : List RoutedEvent) (chains : List (Option (List OrderKey))) (i : ℕ) (one : RoutedEvent) (found : Option (List OrderKey))
    → i < length all → i < length chains → one ≡ get_or all i one → found ≡ get_or chains i found
    → matches_at (take (i + 1) all) (take (i + 1) chains) ≡ matches_at (take i all) (take i chains) ++ cons_option (match_at one found) []
matched_more all chains i one found la lc is here =
    ap (λ (n : ℕ). matches_at (take n all) (take n chains)) (add-one i)
    ∙ last_matched all chains i one found la lc
    ∙ sym ((λ j. matches_at (take i all) (take i chains) ++ cons_option (match_at (is j) (here j)) []))

-- a list of matches that grew by what may be there
pub grown : (cur new now more : List Match) (o : Option Match) → cur ≡ now → more ≡ now ++ cons_option o [] → new ≡ cur ++ cons_option o [] → new ≡ more
grown cur new now more o c m n = n ∙ ap (λ (xs : List Match). xs ++ cons_option o []) c ∙ sym m

pub grown_some : (cur new : List Match) (o : Option Match) (x : Match) → o ≡ Some x → new ≡ cur ++ x ∷ [] → new ≡ cur ++ cons_option o []
grown_some cur new o x e n = n ∙ ap (λ (o : Option Match). cur ++ cons_option o []) (sym e)

pub grown_none : (cur new : List Match) (o : Option Match) → o ≡ None → new ≡ cur → new ≡ cur ++ cons_option o []
grown_none cur new o e n = n ∙ sym (append-nil cur) ∙ ap (λ (o : Option Match). cur ++ cons_option o []) (sym e)
