-- What is kept of the output is as it is said to be: the states of pipes, and how many matches there can be.
use Rattle.std.proofs.Common.{◌≡◌, ◌<◌, ◌≤◌, ℕ, zero, suc, ◌+◌, ◌-◌, ◌*◌, ℤ, Bool, true, false, cond, List, [], ◌∷◌, ◌++◌, length, take, drop, Option, Some, None, refl, sym, ap, ◌∙◌, arith, length-append, length-take, length-drop}
use Rattle.std.specs.Prelude.{All, filter, sum_by, ◌&&◌}
use Rattle.std.specs.List.{list_all, filter_map, flat_map, cons_option, AllZip}
use Rattle.std.specs.Option.{option_map}
use Rattle.std.proofs.lemmas.List.Elements.{All-nil, All-cons, All-head, All-tail, All-take, All-drop, All-weaker}
use Rattle.std.proofs.lemmas.List.Folds.{list_all-append}
use Rattle.std.proofs.lemmas.List.Sums.{sum_by-cons, sum_by-le, sum_by-le-sum_by}
use Rattle.eql_values.specs.declared.order.OrderKey.{OrderKey}
use Rattle.eql_values.specs.declared.order.Mark.{Mark}
use Rattle.eql_values.specs.declared.item.KeyEvent.{KeyEvent}
use Rattle.eql_values.specs.declared.item.Route.{Route}
use Rattle.eql_values.specs.declared.item.Item.{Item}
use Rattle.eql_values.specs.declared.found.Match.{Match}
use Rattle.eql_values.specs.declared.found.Numbered.{Numbered}
use Rattle.eql_values.specs.declared.cut.Pipe.{Pipe}
use Rattle.eql_values.specs.declared.cut.Pipe.TheVariants as pipe
use Rattle.eql_values.specs.declared.cut.PipeState.{PipeState}
use Rattle.eql_values.specs.Accepted.{Reads, readable, accepted_items, accepted_from, below}
use Rattle.eql_values.specs.Chains.{chain, chain_with, latest}
use Rattle.eql_values.specs.Lines.{lines_of, lines_in}
use Rattle.eql_values.specs.Marks.{is_below}
use Rattle.eql_values.specs.Masks.{has_stage}
use Rattle.eql_values.specs.Matching.{Openings, opening_of, key_event_by, key_events_of, match_by, matches_after, matches}
use Rattle.eql_values.specs.Numbering.{numbered_from, numbered_matches, through, pipe_output, is_head, early_output}
use Rattle.eql_laws.specs.Books.{book_of, state_of, states_after, InputsGoOn, kept_of, KeptPass, NumbersAscend, IsKeptMatch, StateFits, BookOfFits, StateStands, BookOfStands, completing, RoutesBoundFound, CompletesOnce, EventsBoundFound, BelowsAreFew, greatest_shards, greatest_found, FoundIsFew}
use Rattle.eql_laws.specs.Counting.{IsShardText, greatest_lines}
use Rattle.eql_laws.specs.Cuts.{IsFound, is_of, is_of_shards}
use Rattle.eql_laws.specs.Shapes.{EventsPass}
use Rattle.eql_values.specs.OrderKeys.{EventsAscend}
use Rattle.eql_laws.proofs.Facts.{both_true, true_both}
use Rattle.eql_laws.proofs.BelowLemmas.{fewer_accepted, fewer_readable}
use Rattle.eql_laws.proofs.Counted.{lines_by_bytes}
use Rattle.eql_laws.proofs.CutLemmas.{filter_fewer, sorted_fewer, found_fits, below_pass}

-- numbered matches
numbers_after : (k n : ℕ) → k < n → (found : List Match) → All (λ (next : Numbered). k < next.number) (numbered_from n found)
numbers_after k n lt [] = All-nil (λ (next : Numbered). k < next.number)
numbers_after k n lt (m ∷ found) =
    All-cons (λ (next : Numbered). k < next.number) (record { number = n; found = m }) (numbered_from (n + 1) found) lt (numbers_after k (n + 1) (omega (arith, lt)) found)

numbers_ascend : (n : ℕ) (found : List Match) → NumbersAscend (numbered_from n found)
numbers_ascend n [] = tt
numbers_ascend n (m ∷ found) = (numbers_after n (n + 1) (omega arith) found, numbers_ascend (n + 1) found)

pub length-numbered : (n : ℕ) (found : List Match) → length (numbered_from n found) ≡ length found
length-numbered n [] = refl
length-numbered n (m ∷ found) = ap suc (length-numbered (n + 1) found)

ascend_take : (n : ℕ) (list : List Numbered) → NumbersAscend list → NumbersAscend (take n list)
ascend_take zero list h = tt
ascend_take (suc n) [] h = tt
ascend_take (suc n) (x ∷ list) h = (All-take (λ (next : Numbered). x.number < next.number) n list h.0, ascend_take n list h.1)

ascend_drop : (n : ℕ) (list : List Numbered) → NumbersAscend list → NumbersAscend (drop n list)
ascend_drop zero list h = h
ascend_drop (suc n) [] h = tt
ascend_drop (suc n) (x ∷ list) h = ascend_drop n list h.1

ascend_through : (p : Pipe) (list : List Numbered) → NumbersAscend list → NumbersAscend (through p list)
ascend_through (pipe.Head count) list h = ascend_take count list h
ascend_through (pipe.Tail count) list h = ascend_drop (length list - count) list h

fewer_through : (p : Pipe) (list : List Numbered) → length (through p list) ≤ length list
fewer_through (pipe.Head count) list = let a = length-take count list in omega (arith, a)
fewer_through (pipe.Tail count) list = let a = length-drop (length list - count) list in omega (arith, a)

fewer_piped : (pipes : List Pipe) (list : List Numbered) → length (pipe_output pipes list) ≤ length list
fewer_piped [] list = omega arith
fewer_piped (p ∷ pipes) list = let a = fewer_through p list in let b = fewer_piped pipes (through p list) in omega (arith, a, b)

fewer_emitted : (pipes : List Pipe) (list : List Numbered) → length (early_output pipes list) ≤ length list
fewer_emitted pipes list = one (list_all is_head pipes) (fewer_piped pipes list)
  where
    one : (b : Bool) → length (pipe_output pipes list) ≤ length list → length (cond b (pipe_output pipes list) []) ≤ length list
    one true h = h
    one false h = omega arith

-- what pipes keep holds of what they let through
module _ (Q : List Numbered → Type 0) (none : Q []) (on : (p : Pipe) (list : List Numbered) → Q list → Q (through p list)) where
  piped_holds : (pipes : List Pipe) (list : List Numbered) → Q list → Q (pipe_output pipes list)
  piped_holds [] list h = h
  piped_holds (p ∷ pipes) list h = piped_holds pipes (through p list) (on p list h)

  emitted_holds : (pipes : List Pipe) (list : List Numbered) → Q list → Q (early_output pipes list)
  emitted_holds pipes list h = one (list_all is_head pipes) (piped_holds pipes list h)
    where
      one : (b : Bool) → Q (pipe_output pipes list) → Q (cond b (pipe_output pipes list) [])
      one true k = k
      one false k = none

module _ (P : Numbered → Type 0) where
  all_through : (p : Pipe) (list : List Numbered) → All P list → All P (through p list)
  all_through (pipe.Head count) list h = All-take P count list h
  all_through (pipe.Tail count) list h = All-drop P (length list - count) list h

  kept_of_one : (p : Pipe) (input : List Numbered) → All P input → All P (kept_of (state_of p input))
  kept_of_one (pipe.Head count) input h = All-nil P
  kept_of_one (pipe.Tail count) input h = all_through (pipe.Tail count) input h

  -- what holds of all numbered matches holds of those that pipes keep
  kept_of_all : (before pipes : List Pipe) (list : List Numbered) → All P list → All (λ (s : PipeState). All P (kept_of s)) (states_after before pipes list)
  kept_of_all before [] list h = All-nil (λ (s : PipeState). All P (kept_of s))
  kept_of_all before (p ∷ pipes) list h =
      All-cons (λ (s : PipeState). All P (kept_of s)) (state_of p (early_output before list)) (states_after (before ++ p ∷ []) pipes list)
      (kept_of_one p (early_output before list) (emitted_holds (All P) (All-nil P) all_through before list h)) (kept_of_all (before ++ p ∷ []) pipes list h)

all_numbered : (P : Match → Type 0) (n : ℕ) (found : List Match) → All P found → All (λ (x : Numbered). P x.found) (numbered_from n found)
all_numbered P n [] h = All-nil (λ (x : Numbered). P x.found)
all_numbered P n (m ∷ found) h =
    All-cons (λ (x : Numbered). P x.found) (record { number = n; found = m }) (numbered_from (n + 1) found) (All-head P m found h) (all_numbered P (n + 1) found (All-tail P m found h))

-- what holds of all matches found holds of those that pipes keep
pub kept_of_found : (P : Match → Type 0) (pipes : List Pipe) (found : List Match) → All P found
    → All (λ (s : PipeState). All (λ (x : Numbered). P x.found) (kept_of s)) (book_of pipes found).pipes
kept_of_found P pipes found h = kept_of_all (λ (x : Numbered). P x.found) [] pipes (numbered_matches found) (all_numbered P 1 found h)

pub kept_pass : KeptPass
kept_pass test pipes found h = kept_of_found (λ (m : Match). test m ≡ true) pipes found h

of_shards : (shards : ℕ) (mark : Mark) (chain : List OrderKey) → EventsPass (is_of shards mark) chain → EventsPass (is_of_shards shards) chain
of_shards shards mark [] h = refl
of_shards shards mark (event ∷ chain) h =
    let both = both_true _ _ h in
    true_both _ _ (both_true (is_below mark (record { order = event; routes = [] })) _ both.0).1 (of_shards shards mark chain both.1)

module _ (m shards : ℕ) (mark : Mark) (total : ℕ) where
  kept_one : (n : ℕ) (x : Match) → 1 ≤ n → n ≤ total → IsFound m shards mark x → IsKeptMatch m shards total (record { number = n; found = x })
  kept_one n x from to h = record { number_from = from; number_to = to; full = h.full; of_shards = of_shards shards mark x.chain h.events }

  kept_numbered : (n : ℕ) (found : List Match) → 1 ≤ n → n + length found ≤ total + 1 → All (IsFound m shards mark) found → All (IsKeptMatch m shards total) (numbered_from n found)
  kept_numbered n [] from to h = All-nil (IsKeptMatch m shards total)
  kept_numbered n (x ∷ found) from to h =
      All-cons (IsKeptMatch m shards total) (record { number = n; found = x }) (numbered_from (n + 1) found)
      (kept_one n x from (omega (arith, to)) (All-head (IsFound m shards mark) x found h))
      (kept_numbered (n + 1) found (omega arith) (omega (arith, to)) (All-tail (IsFound m shards mark) x found h))

  state_fits : (p : Pipe) (input : List Numbered) → All (IsKeptMatch m shards total) input → StateFits m shards total p (state_of p input)
  state_fits (pipe.Head count) input h = omega arith
  state_fits (pipe.Tail count) input h =
      let a = length-drop (length input - count) input in (omega (arith, a), all_through (IsKeptMatch m shards total) (pipe.Tail count) input h)

  states_fit : (before pipes : List Pipe) (list : List Numbered) → All (IsKeptMatch m shards total) list → AllZip (StateFits m shards total) pipes (states_after before pipes list)
  states_fit before [] list h = tt
  states_fit before (p ∷ pipes) list h = (
    state_fits p (early_output before list) (emitted_holds (All (IsKeptMatch m shards total)) (All-nil (IsKeptMatch m shards total)) (all_through (IsKeptMatch m shards total)) before list h),
    states_fit (before ++ p ∷ []) pipes list h,
  )

pub book_of_fits : BookOfFits
book_of_fits m span reads slack texts mark pipes reading =
    let found : List Match = matches m span [] (below reads slack texts mark) in
    record {
      listed_to = (let a = fewer_emitted pipes (numbered_matches found) in let b = length-numbered 1 found in omega (arith, a, b));
      states = states_fit m (length texts) mark (length found) [] pipes (numbered_matches found)
          (kept_numbered m (length texts) mark (length found) 1 found (omega arith) (omega arith) (found_fits m span reads slack texts mark reading));
    }

-- numbered matches as a pipe may keep them: in order, and with ascending events
abbrev Stand : List Numbered → Type 0
Stand list = NumbersAscend list × All (λ (n : Numbered). EventsAscend n.found.chain) list

stand_through : (p : Pipe) (list : List Numbered) → Stand list → Stand (through p list)
stand_through p list h = (ascend_through p list h.0, all_through (λ (n : Numbered). EventsAscend n.found.chain) p list h.1)

state_stands : (p : Pipe) (input : List Numbered) → Stand input → StateStands (state_of p input)
state_stands (pipe.Head count) input h = (tt, All-nil (λ (n : Numbered). EventsAscend n.found.chain))
state_stands (pipe.Tail count) input h = stand_through (pipe.Tail count) input h

states_stand : (before pipes : List Pipe) (list : List Numbered) → Stand list → All StateStands (states_after before pipes list)
states_stand before [] list h = All-nil StateStands
states_stand before (p ∷ pipes) list h =
    All-cons StateStands (state_of p (early_output before list)) (states_after (before ++ p ∷ []) pipes list)
    (state_stands p (early_output before list) (emitted_holds Stand (tt, All-nil (λ (n : Numbered). EventsAscend n.found.chain)) stand_through before list h))
    (states_stand (before ++ p ∷ []) pipes list h)

pub book_of_stands : BookOfStands
book_of_stands m span reads slack texts mark pipes reading =
    let found : List Match = matches m span [] (below reads slack texts mark) in
    let are = found_fits m span reads slack texts mark reading in
    record {
      in_order = states_stand [] pipes (numbered_matches found) (
        numbers_ascend 1 found,
        all_numbered (λ (x : Match). EventsAscend x.chain) 1 found
            (All-weaker (IsFound m (length texts) mark) (λ (x : Match). EventsAscend x.chain) (λ x h. h.ascends) found are),
      );
      are_found = kept_of_found (IsFound m (length texts) mark) pipes found are;
    }

heads_on : (before : List Pipe) (p : Pipe) → list_all is_head (before ++ p ∷ []) ≡ (list_all is_head before && is_head p)
heads_on before p = list_all-append is_head before (p ∷ []) ∙ ap (λ (b : Bool). list_all is_head before && b) (and_true (is_head p))
  where
    and_true : (b : Bool) → (b && true) ≡ b
    and_true true = refl
    and_true false = refl

piped_on : (before : List Pipe) (p : Pipe) (list : List Numbered) → pipe_output (before ++ p ∷ []) list ≡ through p (pipe_output before list)
piped_on [] p list = refl
piped_on (q ∷ before) p list = piped_on before p (through q list)

take_none : (count : ℕ) → take count (let none : List Numbered = [] in none) ≡ []
take_none zero = refl
take_none (suc count) = refl

after_head : (count : ℕ) (b : Bool) (list : List Numbered) → cond (b && true) (take count list) [] ≡ take count (cond b list [])
after_head count true list = refl
after_head count false list = sym (take_none count)

after_tail : (b : Bool) (list : List Numbered) → cond (b && false) list [] ≡ []
after_tail true list = refl
after_tail false list = refl

pub inputs_go_on : InputsGoOn
inputs_go_on before list = record {
  after_head = λ count.
      (λ i. cond (heads_on before (pipe.Head count) i) (piped_on before (pipe.Head count) list i) []) ∙ after_head count (list_all is_head before) (pipe_output before list);
  after_tail = λ count.
      ap (λ (b : Bool). cond b (pipe_output (before ++ pipe.Tail count ∷ []) list) []) (heads_on before (pipe.Tail count)) ∙ after_tail (list_all is_head before) (pipe_output (before ++ pipe.Tail count ∷ []) list);
}

-- an item that doesn't fit a stage makes no chain of it
no_chain : (span : Option ℤ) (opening : ℕ → Option (List OrderKey)) (m : ℕ) (item : KeyEvent) (past : List KeyEvent) → has_stage item.mask m ≡ false → chain span opening m (item ∷ past) ≡ None
no_chain span opening zero item past e = refl
no_chain span opening (suc zero) item past e = ap (λ (b : Bool). cond b (Some (item.order ∷ [])) None) e
no_chain span opening (suc (suc k)) item past e = ap (λ (b : Bool). cond b (chain_with span (suc k) item (latest (chain span opening (suc k)) past)) None) e

module _ (m : ℕ) (span : Option ℤ) (openings : Openings) where
  one_route : (r : Route) (b : Bool) (o : Option (List OrderKey)) (found : List Match) (routes : List Route) → (b ≡ false → o ≡ None) → length found ≤ length routes
      → length (cons_option (option_map (λ c. let x : Match = record { key = r.key; chain = c } in x) o) found) ≤ length (cond b (r ∷ routes) routes)
  one_route r true None found routes none h = omega (arith, h)
  one_route r true (Some c) found routes none h = omega (arith, h)
  one_route r false None found routes none h = h
  one_route r false (Some c) found routes none h = let e : Some c ≡ None = none refl in cc

  by_routes : (past : List Item) (order : OrderKey) (routes : List Route) → length (filter_map (match_by m span openings past order) routes) ≤ length (completing m routes)
  by_routes past order [] = omega arith
  by_routes past order (r ∷ routes) =
      one_route r (has_stage r.mask m) (chain span (openings r.key) m (key_event_by order r ∷ key_events_of r.key past))
      (filter_map (match_by m span openings past order) routes) (completing m routes)
      (λ e. no_chain span (openings r.key) m (key_event_by order r) (key_events_of r.key past) e) (by_routes past order routes)

  by_items : (past items : List Item) → length (matches_after m span openings past items) ≤ length (flat_map (λ (item : Item). completing m item.routes) items)
  by_items past [] = omega arith
  by_items past (item ∷ items) =
      let a = length-append (filter_map (match_by m span openings past item.order) item.routes) (matches_after m span openings (item ∷ past) items) in
      let b = length-append (completing m item.routes) (flat_map (λ (item : Item). completing m item.routes) items) in
      let c = by_routes past item.order item.routes in
      let d = by_items (item ∷ past) items in
      omega (arith, a, b, c, d)

pub found_by_routes : RoutesBoundFound
found_by_routes m span holders items = by_items m span (opening_of holders) [] items

pairs_once : (m : ℕ) (items : List Item) → All (CompletesOnce m) items → length (flat_map (λ (item : Item). completing m item.routes) items) ≤ length items
pairs_once m [] h = omega arith
pairs_once m (item ∷ items) h =
    let a = length-append (completing m item.routes) (flat_map (λ (item : Item). completing m item.routes) items) in
    let b = All-head (CompletesOnce m) item items h in
    let c = pairs_once m items (All-tail (CompletesOnce m) item items h) in
    omega (arith, a, b, c)

pub found_by_events : EventsBoundFound
found_by_events m span holders items h = let a = found_by_routes m span holders items in let b = pairs_once m items h in omega (arith, a, b)

abbrev lines_count : List ℕ → ℕ
lines_count text = length (lines_of text)

fewer_from : (reads : Reads) (slack : Option ℤ) (shard : ℕ) (texts : List (List ℕ)) → length (accepted_from reads slack shard texts) ≤ sum_by lines_count texts
fewer_from reads slack shard [] = omega arith
fewer_from reads slack shard (text ∷ texts) =
    let a = length-append (accepted_items reads slack shard text) (accepted_from reads slack (shard + 1) texts) in
    let b = fewer_accepted slack [] (readable reads shard (lines_in text)) in
    let c = fewer_readable reads shard 1 0 (lines_of text) in
    let d = fewer_from reads slack (shard + 1) texts in
    let e = sum_by-cons lines_count text texts in
    omega (arith, a, b, c, d, e)

pub belows_are_few : BelowsAreFew
belows_are_few reads slack texts mark = record {
  by_lines =
      (let a = sorted_fewer (filter (is_below mark) (accepted_from reads slack 0 texts)) in
      let b = filter_fewer (is_below mark) (accepted_from reads slack 0 texts) in
      let c = fewer_from reads slack 0 texts in
      omega (arith, a, b, c));
  by_bytes = sum_by-le-sum_by lines_count (λ (text : List ℕ). length text) texts lines_by_bytes;
}

few_in_all : (found items lines shards : ℕ) → found ≤ items → items ≤ lines → lines ≤ shards * greatest_lines → shards ≤ greatest_shards → found ≤ greatest_found
few_in_all found items lines shards a b c d = omega (arith, a, b, c, d)

pub found_is_few : FoundIsFew
found_is_few m span reads slack texts mark once shard_texts few =
    few_in_all (length (matches m span [] (below reads slack texts mark))) (length (below reads slack texts mark)) (sum_by lines_count texts) (length texts)
    (found_by_events m span [] (below reads slack texts mark) (below_pass reads slack (λ routes. length (completing m routes) ≤ 1) once texts mark))
    (belows_are_few reads slack texts mark).by_lines
    (sum_by-le lines_count greatest_lines texts (All-weaker IsShardText (λ (text : List ℕ). lines_count text ≤ greatest_lines) (λ text h. h.lines) texts shard_texts))
    few
