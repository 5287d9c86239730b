-- Laws of the shape of matches and pending sequences.
use Rattle.std.specs.Prelude.{◌≡◌, ◌<◌, ◌≤◌, ℕ, ℤ, Bool, List, [], ◌∷◌, ◌++◌, Option, Some, map, length, All, IsTrue}
use Rattle.std.specs.List.{list_all}
use Rattle.std.specs.FinMap.Entries.{is_sorted}
use Rattle.std.specs.declared.cmp.Ordering.TheVariants.{Less}
use Rattle.eql_values.specs.declared.order.OrderKey.{OrderKey}
use Rattle.eql_values.specs.declared.value.Value.{Value}
use Rattle.eql_values.specs.declared.item.Route.{Route}
use Rattle.eql_values.specs.declared.item.Item.{Item}
use Rattle.eql_values.specs.declared.found.Match.{Match}
use Rattle.eql_values.specs.declared.found.Holder.{Holder}
use Rattle.eql_values.specs.Ascending.{AllAreAfter, Ascend}
use Rattle.eql_values.specs.Matching.{opening_of, matches, after}
use Rattle.eql_values.specs.OrderKeys.{order_cmp, EventsAscend}
use Rattle.eql_laws.specs.Alive.{HoldersAreInOrder}
use Rattle.eql_laws.specs.Merging.{ending_cmp, by_ending}

-- a pending sequence as it stands before items: its events ascend strictly, and each of the items comes after each of its events
pub record IsReady (items : List Item) (h : Holder) : Type 0 where
  pub ascends : EventsAscend h.chain
  pub before : All (λ (event : OrderKey). AllAreAfter event items) h.chain

-- the events of a match ascend strictly
abbrev pub MatchAscends : Match → Type 0
MatchAscends m = EventsAscend m.chain

-- by ascending items, from sequences that stand before them, the events of each match ascend
abbrev pub MatchesAscend : Type 0
MatchesAscend = (m : ℕ) (span : Option ℤ) (holders : List Holder) (items : List Item)
    → Ascend items → All (IsReady items) holders → All MatchAscends (matches m span holders items)

-- and what is pending then stands before all later items
abbrev pub AfterIsReady : Type 0
AfterIsReady = (m : ℕ) (span : Option ℤ) (holders : List Holder) (items more : List Item)
    → Ascend (items ++ more) → All (IsReady (items ++ more)) holders → All (IsReady more) (after m span holders items)

-- a pending sequence has an event for each stage up to its own
abbrev pub IsFull : Holder → Type 0
IsFull h = length h.chain ≡ h.stage

-- a match has an event for each stage
abbrev pub HasEvents : ℕ → Match → Type 0
HasEvents m found = length found.chain ≡ m

abbrev pub MatchesAreFull : Type 0
MatchesAreFull = (m : ℕ) (span : Option ℤ) (holders : List Holder) (items : List Item)
    → All IsFull holders → All (HasEvents m) (matches m span holders items)

abbrev pub AfterIsFull : Type 0
AfterIsFull = (m : ℕ) (span : Option ℤ) (holders : List Holder) (items : List Item) → All IsFull holders → All IsFull (after m span holders items)

-- the stage of a pending sequence is from 1 to the one before the last
abbrev pub HasStageBefore : ℕ → Holder → Type 0
HasStageBefore m h = (1 ≤ h.stage) × (h.stage < m)

abbrev pub AfterHasStages : Type 0
AfterHasStages = (m : ℕ) (span : Option ℤ) (holders : List Holder) (items : List Item) → All (HasStageBefore m) (after m span holders items)

-- each event of the chain passes the test
abbrev pub EventsPass : (OrderKey → Bool) → List OrderKey → Type 0
EventsPass test chain = IsTrue (list_all test chain)

-- where a test holds of the events of pending sequences and of items, it holds of those of matches and of what is pending after the items
pub record EventsKeep (m : ℕ) (span : Option ℤ) (test : OrderKey → Bool) (holders : List Holder) (items : List Item) : Type 0 where
  pub matches : All (λ (found : Match). EventsPass test found.chain) (matches m span holders items)
  pub after : All (λ (h : Holder). EventsPass test h.chain) (after m span holders items)

abbrev pub EventsStay : Type 0
EventsStay = (m : ℕ) (span : Option ℤ) (test : OrderKey → Bool) (holders : List Holder) (items : List Item)
    → All (λ (h : Holder). EventsPass test h.chain) holders → All (λ (item : Item). IsTrue (test item.order)) items
    → EventsKeep m span test holders items

-- each key of the item's routes passes the test
abbrev pub RoutesPass : (List Value → Bool) → Item → Type 0
RoutesPass test item = IsTrue (list_all (λ (r : Route). test r.key) item.routes)

-- and so for the keys
pub record KeysKeep (m : ℕ) (span : Option ℤ) (test : List Value → Bool) (holders : List Holder) (items : List Item) : Type 0 where
  pub matches : All (λ (found : Match). IsTrue (test found.key)) (matches m span holders items)
  pub after : All (λ (h : Holder). IsTrue (test h.key)) (after m span holders items)

abbrev pub KeysStay : Type 0
KeysStay = (m : ℕ) (span : Option ℤ) (test : List Value → Bool) (holders : List Holder) (items : List Item)
    → All (λ (h : Holder). IsTrue (test h.key)) holders → All (RoutesPass test) items
    → KeysKeep m span test holders items

-- the matches ascend strictly by last event, and then by key
abbrev pub MatchesAreInOrder : Type 0
MatchesAreInOrder = (m : ℕ) (span : Option ℤ) (holders : List Holder) (items : List Item)
    → Ascend items → IsTrue (is_sorted ending_cmp (map by_ending (matches m span holders items)))

-- the first event of the one chain comes before that of the other
abbrev pub FirstIsBefore : List OrderKey → List OrderKey → Type 0
FirstIsBefore [] other = ⊥
FirstIsBefore (event ∷ chain) [] = ⊥
FirstIsBefore (event ∷ chain) (first ∷ other) = order_cmp event first ≡ Less

-- of two pending sequences of one key that at the greater stage has the lesser first event
abbrev pub FirstsFall : List Holder → Type 0
FirstsFall holders = (key : List Value) (j k : ℕ) (c d : List OrderKey) → j < k
    → opening_of holders key j ≡ Some c → opening_of holders key k ≡ Some d → FirstIsBefore d c

-- of pending sequences in order each is the one that a look-up finds
abbrev pub OpeningFinds : Type 0
OpeningFinds = (holders : List Holder) → HoldersAreInOrder holders → All (λ (h : Holder). opening_of holders h.key h.stage ≡ Some h.chain) holders
