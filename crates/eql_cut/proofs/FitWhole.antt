-- The tests of the output of a cut, and of the whole cut.
use Rattle.std.proofs.Common.{◌≡◌, ℕ, ◌*◌, ◌≤◌, ℤ, pos, true, eqb, leb, ltb, List, [], ◌∷◌, length, All, refl, sym, ◌∙◌, arith}
use Rattle.std.proofs.lemmas.Bool.{and_parts, and_from, eqb-true, eq-eqb, leb-true}
use Rattle.std.proofs.lemmas.List.Elements.{All-weaker, All-nil, All-cons, All-head, All-tail}
use Rattle.std.specs.List.{list_all, AllZip}
use Rattle.eql_values.specs.declared.order.OrderKey.{OrderKey}
use Rattle.eql_values.specs.declared.order.Mark.TheVariants.{At}
use Rattle.eql_values.specs.declared.found.Holder.{Holder}
use Rattle.eql_values.specs.declared.found.Numbered.{Numbered}
use Rattle.eql_values.specs.declared.cut.Pipe.{Pipe}
use Rattle.eql_values.specs.declared.cut.Pipe.TheVariants as pipe
use Rattle.eql_values.specs.declared.cut.PipeState.{PipeState}
use Rattle.eql_values.specs.declared.cut.PipeState.TheVariants as state
use Rattle.eql_values.specs.Agreement.{Agrees}
use Rattle.eql_values.specs.Matching.{slot_cmp}
use Rattle.eql_values.specs.Orders.{key_cmp}
use Rattle.eql_values.specs.Reading.{IsTime}
use Rattle.eql_laws.specs.Alive.{HoldersAreInOrder}
use Rattle.eql_laws.specs.Bounds.{HasTimes}
use Rattle.eql_laws.specs.Books.{kept_of, IsKeptMatch, StateFits, greatest_found}
use Rattle.eql_laws.specs.Cuts.{is_of_shards, IsPending}
use Rattle.eql_laws.specs.Shapes.{OpeningFinds}
use Rattle.eql_cut.specs.declared.cut.Cut.{Cut}
use Rattle.eql_cut.specs.CutValues.{holders_ascend}
use Rattle.eql_cut.specs.Fitting.{FitsRun, is_time, is_mark_time, lanes_fit, holder_fits, firsts_fall, found_fits, kept_fits, state_fits, states_fit, book_fits, cut_fits}
use Rattle.eql_cut.proofs.Keyed.{sorted_alike}
use Rattle.eql_cut.proofs.Standing.{SortedItems, ItemsBack}
use Rattle.eql_cut.proofs.FitLaws.{all_from, all_to, time_from, time_to, mark_from, mark_to}
use Rattle.eql_cut.proofs.FitLanes.{lanes_from, lanes_to}
use Rattle.eql_cut.proofs.FitHolders.{HolderTold, holder_from, holder_to, falls_from, falls_to_next}

yes_le : (m n : ℕ) → m ≤ n → leb m n ≡ true
yes_le m n le = grind arith

module _ (m values shards found : ℕ) where
  record EventTold (e : OrderKey) : Type 0 where
    of : is_of_shards shards e ≡ true
    time : IsTime e.ts

  event_from : (e : OrderKey) → found_fits shards e ≡ true → EventTold e
  event_from e is = let p = and_parts (ltb e.shard shards) (is_time e.ts) is in record { of = p.0; time = time_from e.ts p.1 }

  event_to : (e : OrderKey) → EventTold e → found_fits shards e ≡ true
  event_to e told = and_from (ltb e.shard shards) (is_time e.ts) told.of (time_to e.ts told.time)

  events_told : (events : List OrderKey) → All (λ (e : OrderKey). is_of_shards shards e ≡ true) events → HasTimes events → All EventTold events
  events_told [] of times = All-nil _
  events_told (e ∷ events) of times =
      All-cons EventTold e events
      (record { of = All-head (λ (x : OrderKey). is_of_shards shards x ≡ true) e events of; time = All-head (λ (x : OrderKey). IsTime x.ts) e events times })
      (events_told events (All-tail (λ (x : OrderKey). is_of_shards shards x ≡ true) e events of) (All-tail (λ (x : OrderKey). IsTime x.ts) e events times))

  -- a match that is kept
  record KeptTold (n : Numbered) : Type 0 where
    is : IsKeptMatch m shards found n
    times : HasTimes n.found.chain
    key : length n.found.key ≡ values

  kept_from : (n : Numbered) → kept_fits m values shards found n ≡ true → KeptTold n
  kept_from n is =
      let events = and_parts _ (list_all (found_fits shards) n.found.chain) is in
      let key = and_parts _ (eqb (length n.found.key) values) events.0 in
      let full = and_parts _ (eqb (length n.found.chain) m) key.0 in
      let number = and_parts (leb 1 n.number) (leb n.number found) full.0 in
      let all : All EventTold n.found.chain = all_from (found_fits shards) EventTold event_from n.found.chain events.1 in
      record {
        is = record {
          number_from = leb-true 1 n.number number.0;
          number_to = leb-true n.number found number.1;
          full = eqb-true (length n.found.chain) m full.1;
          of_shards = all_to (is_of_shards shards) EventTold (λ (e : OrderKey) f. f.of) n.found.chain all;
        };
        times = All-weaker EventTold (λ (e : OrderKey). IsTime e.ts) (λ (e : OrderKey) f. f.time) n.found.chain all;
        key = eqb-true (length n.found.key) values key.1;
      }

  kept_to : (n : Numbered) → KeptTold n → kept_fits m values shards found n ≡ true
  kept_to n told =
      let k = told.is in
      and_from _ _
      (and_from _ _
      (and_from _ _
      (and_from _ _ (yes_le 1 n.number k.number_from) (yes_le n.number found k.number_to))
      (eq-eqb (length n.found.chain) m k.full))
      (eq-eqb (length n.found.key) values told.key))
      (all_to (found_fits shards) EventTold event_to n.found.chain
      (events_told n.found.chain (all_from (is_of_shards shards) (λ (e : OrderKey). is_of_shards shards e ≡ true) (λ e is. is) n.found.chain k.of_shards) told.times))

  all_kept : (kept : List Numbered) → All (IsKeptMatch m shards found) kept → All (λ (n : Numbered). HasTimes n.found.chain) kept → All (λ (n : Numbered). length n.found.key ≡ values) kept
      → All KeptTold kept
  all_kept [] is times keys = All-nil _
  all_kept (n ∷ kept) is times keys =
      All-cons KeptTold n kept
      (record {
        is = All-head (IsKeptMatch m shards found) n kept is;
        times = All-head (λ (x : Numbered). HasTimes x.found.chain) n kept times;
        key = All-head (λ (x : Numbered). length x.found.key ≡ values) n kept keys;
      })
      (all_kept kept (All-tail (IsKeptMatch m shards found) n kept is) (All-tail (λ (x : Numbered). HasTimes x.found.chain) n kept times)
      (All-tail (λ (x : Numbered). length x.found.key ≡ values) n kept keys))

  -- what a pipe has seen
  abbrev StateTimes : PipeState → Type 0
  StateTimes s = All (λ (n : Numbered). HasTimes n.found.chain) (kept_of s)

  abbrev StateKeys : PipeState → Type 0
  StateKeys s = All (λ (n : Numbered). length n.found.key ≡ values) (kept_of s)

  record StateTold (p : Pipe) (s : PipeState) : Type 0 where
    fits : StateFits m shards found p s
    times : StateTimes s
    keys : StateKeys s

  state_from : (p : Pipe) (s : PipeState) → state_fits m values shards found p s ≡ true → StateTold p s
  state_from (pipe.Head count) (state.Head passed) is = record { fits = leb-true passed count is; times = All-nil _; keys = All-nil _ }
  state_from (pipe.Head count) (state.Tail kept) is = cc
  state_from (pipe.Tail count) (state.Head passed) is = cc
  state_from (pipe.Tail count) (state.Tail kept) is =
      let p = and_parts (leb (length kept) count) (list_all (kept_fits m values shards found) kept) is in
      let all : All KeptTold kept = all_from (kept_fits m values shards found) KeptTold kept_from kept p.1 in
      record {
        fits = (leb-true (length kept) count p.0, All-weaker KeptTold (IsKeptMatch m shards found) (λ (n : Numbered) k. k.is) kept all);
        times = All-weaker KeptTold (λ (n : Numbered). HasTimes n.found.chain) (λ (n : Numbered) k. k.times) kept all;
        keys = All-weaker KeptTold (λ (n : Numbered). length n.found.key ≡ values) (λ (n : Numbered) k. k.key) kept all;
      }

  state_to : (p : Pipe) (s : PipeState) → StateTold p s → state_fits m values shards found p s ≡ true
  state_to (pipe.Head count) (state.Head passed) told = yes_le passed count told.fits
  state_to (pipe.Head count) (state.Tail kept) told = absurd told.fits
  state_to (pipe.Tail count) (state.Head passed) told = absurd told.fits
  state_to (pipe.Tail count) (state.Tail kept) told =
      and_from (leb (length kept) count) (list_all (kept_fits m values shards found) kept) (yes_le (length kept) count told.fits.0)
      (all_to (kept_fits m values shards found) KeptTold kept_to kept (all_kept kept told.fits.1 told.times told.keys))

  record StatesTold (pipes : List Pipe) (states : List PipeState) : Type 0 where
    fit : AllZip (StateFits m shards found) pipes states
    times : All StateTimes states
    keys : All StateKeys states

  states_from : (pipes : List Pipe) (states : List PipeState) → states_fit m values shards found pipes states ≡ true → StatesTold pipes states
  states_from [] [] is = record { fit = tt; times = All-nil _; keys = All-nil _ }
  states_from [] (s ∷ states) is = cc
  states_from (p ∷ pipes) [] is = cc
  states_from (p ∷ pipes) (s ∷ states) is =
      let parts = and_parts (state_fits m values shards found p s) (states_fit m values shards found pipes states) is in
      let here = state_from p s parts.0 in
      let rest = states_from pipes states parts.1 in
      record { fit = (here.fits, rest.fit); times = All-cons StateTimes s states here.times rest.times; keys = All-cons StateKeys s states here.keys rest.keys }

  states_to : (pipes : List Pipe) (states : List PipeState) → StatesTold pipes states → states_fit m values shards found pipes states ≡ true
  states_to [] [] told = refl
  states_to [] (s ∷ states) told = absurd told.fit
  states_to (p ∷ pipes) [] told = absurd told.fit
  states_to (p ∷ pipes) (s ∷ states) told =
      and_from (state_fits m values shards found p s) (states_fit m values shards found pipes states)
      (state_to p s (record { fits = told.fit.0; times = All-head StateTimes s states told.times; keys = All-head StateKeys s states told.keys }))
      (states_to pipes states (record { fit = told.fit.1; times = All-tail StateTimes s states told.times; keys = All-tail StateKeys s states told.keys }))

module _ (sorted : SortedItems) (back : ItemsBack) (keys : Agrees key_cmp) (slots : Agrees slot_cmp) (finds : OpeningFinds) (m values : ℕ) (pipes : List Pipe) (c : Cut) where
  alike : holders_ascend c.holders ≡ true → HoldersAreInOrder c.holders
  alike is = sym (sorted_alike slot_cmp (λ (h : Holder). (h.key, h.stage)) (λ (h : Holder). h) (λ (h : Holder). h.chain) c.holders) ∙ is

  alike_back : HoldersAreInOrder c.holders → holders_ascend c.holders ≡ true
  alike_back is = sorted_alike slot_cmp (λ (h : Holder). (h.key, h.stage)) (λ (h : Holder). h) (λ (h : Holder). h.chain) c.holders ∙ is

  pub fits_from : cut_fits m values pipes c ≡ true → FitsRun m values pipes c
  fits_from is =
      let slack : ℤ = pos (c.head.slack * 1000000) in
      let t = c.mark in
      let shards = c.head.shards in
      let book = and_parts _ (book_fits m values shards pipes c.book) is in
      let falls = and_parts _ (firsts_fall c.holders) book.0 in
      let ascend = and_parts _ (holders_ascend c.holders) falls.0 in
      let holders = and_parts _ (list_all (holder_fits m values t shards) c.holders) ascend.0 in
      let lanes = and_parts _ (lanes_fit m values slack t 0 c.lanes) holders.0 in
      let count = and_parts (is_mark_time t) (eqb (length c.lanes) shards) lanes.0 in
      let l = lanes_from m values sorted back slack t 0 c.lanes lanes.1 in
      let hs : All (HolderTold m values t shards) c.holders = all_from (holder_fits m values t shards) (HolderTold m values t shards) (holder_from m values t shards) c.holders holders.1 in
      let order : HoldersAreInOrder c.holders = alike ascend.1 in
      let states = and_parts _ (states_fit m values shards c.book.found pipes c.book.pipes) book.1 in
      let numbers = and_parts (leb c.book.listed c.book.found) (leb c.book.found greatest_found) states.0 in
      let told = states_from m values shards c.book.found pipes c.book.pipes states.1 in
      record {
        time_in_range = mark_from t count.0;
        lane_for_each = eqb-true (length c.lanes) shards count.1;
        lanes = l.fit;
        lane_masks = l.masks;
        lane_keys = l.keys;
        holders = record {
          all = All-weaker (HolderTold m values t shards) (IsPending m shards (At t)) (λ (h : Holder) x. x.pending) c.holders hs;
          in_order = order;
          firsts_fall = falls_from keys slots c.holders order falls.1;
        };
        holder_times = All-weaker (HolderTold m values t shards) (λ (h : Holder). HasTimes h.chain) (λ (h : Holder) x. x.times) c.holders hs;
        holder_keys = All-weaker (HolderTold m values t shards) (λ (h : Holder). length h.key ≡ values) (λ (h : Holder) x. x.key) c.holders hs;
        book = record { listed_to = leb-true c.book.listed c.book.found numbers.0; states = told.fit };
        found_to = leb-true c.book.found greatest_found numbers.1;
        book_times = told.times;
        book_keys = told.keys;
      }

  holders_told : (t : ℤ) (shards : ℕ) (holders : List Holder) → All (IsPending m shards (At t)) holders → All (λ (h : Holder). HasTimes h.chain) holders → All (λ (h : Holder). length h.key ≡ values) holders
      → All (HolderTold m values t shards) holders
  holders_told t shards [] pending times ks = All-nil _
  holders_told t shards (h ∷ holders) pending times ks =
      All-cons (HolderTold m values t shards) h holders
      (record {
        pending = All-head (IsPending m shards (At t)) h holders pending;
        times = All-head (λ (x : Holder). HasTimes x.chain) h holders times;
        key = All-head (λ (x : Holder). length x.key ≡ values) h holders ks;
      })
      (holders_told t shards holders (All-tail (IsPending m shards (At t)) h holders pending) (All-tail (λ (x : Holder). HasTimes x.chain) h holders times)
      (All-tail (λ (x : Holder). length x.key ≡ values) h holders ks))

  pub fits_to : FitsRun m values pipes c → cut_fits m values pipes c ≡ true
  fits_to f =
      let slack : ℤ = pos (c.head.slack * 1000000) in
      let t = c.mark in
      let shards = c.head.shards in
      and_from _ _
      (and_from _ _
      (and_from _ _
      (and_from _ _
      (and_from _ _
      (and_from _ _ (mark_to t f.time_in_range) (eq-eqb (length c.lanes) shards f.lane_for_each))
      (lanes_to m values sorted back slack t 0 c.lanes (record { fit = f.lanes; masks = f.lane_masks; keys = f.lane_keys })))
      (all_to (holder_fits m values t shards) (HolderTold m values t shards) (holder_to m values t shards) c.holders
      (holders_told t shards c.holders f.holders.all f.holder_times f.holder_keys)))
      (alike_back f.holders.in_order))
      (falls_to_next keys slots c.holders f.holders.firsts_fall c.holders f.holders.in_order (finds c.holders f.holders.in_order)))
      (and_from _ _
      (and_from _ _ (yes_le c.book.listed c.book.found f.book.listed_to) (yes_le c.book.found greatest_found f.found_to))
      (states_to m values shards c.book.found pipes c.book.pipes (record { fit = f.book.states; times = f.book_times; keys = f.book_keys })))
