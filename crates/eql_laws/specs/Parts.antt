-- Laws of keys in parts: which keys are handled where doesn't matter.
use Rattle.std.specs.Prelude.{if◌then◌else◌, None, ◌≡◌, ◌==◌, ◌<◌, ℕ, ℤ, List, filter, map, All, IsPermutation, Option}
use Rattle.std.specs.List.{flat_map}
use Rattle.eql_values.specs.declared.value.Value.{Value}
use Rattle.eql_values.specs.declared.item.Item.{Item}
use Rattle.eql_values.specs.declared.found.Match.{Match}
use Rattle.eql_values.specs.declared.found.Holder.{Holder}
use Rattle.eql_values.specs.Ascending.{Ascend}
use Rattle.eql_values.specs.Matching.{opening_of, matches, after}
use Rattle.eql_values.specs.Ordered.{numbers}
use Rattle.eql_values.specs.Routing.{routed_items}
use Rattle.eql_laws.specs.Alive.{HoldersAreInOrder, alive_holders}
use Rattle.eql_laws.specs.Apart.{joined_lists, AreInMatchOrder, MatchesAreApart}
use Rattle.eql_laws.specs.Merging.{in_match_order, in_slot_order}

-- keys in n parts: the matches are those by the items routed to each part, merged
abbrev pub KeysMerge : Type 0
KeysMerge = (m : ℕ) (span : Option ℤ) (part : List Value → ℕ) (n : ℕ) (holders : List Holder) (items : List Item)
    → ((key : List Value) → part key < n) → Ascend items
    → matches m span holders items ≡ in_match_order (flat_map (λ p. matches m span holders (routed_items part p items)) (numbers n))

-- the matches of a part's keys
abbrev pub matches_in : (List Value → ℕ) → ℕ → List Match → List Match
matches_in part p = filter (λ (m : Match). part m.key == p)

-- the pending sequences of a part's keys
abbrev pub holders_in : (List Value → ℕ) → ℕ → List Holder → List Holder
holders_in part p = filter (λ (h : Holder). part h.key == p)

-- and what is pending is what is pending of each part's keys after the items routed to the part, put in order
abbrev pub KeysGather : Type 0
KeysGather = (m : ℕ) (span : Option ℤ) (part : List Value → ℕ) (n : ℕ) (holders : List Holder) (items : List Item)
    → ((key : List Value) → part key < n)
    → after m span holders items ≡ in_slot_order (flat_map (λ p. after m span (holders_in part p holders) (routed_items part p items)) (numbers n))

-- a part's pending sequences are those that a look-up finds at the part's keys
abbrev pub PartLooksUp : Type 0
PartLooksUp = (part : List Value → ℕ) (p : ℕ) (holders : List Holder) (key : List Value) (stage : ℕ)
    → opening_of (holders_in part p holders) key stage ≡ (if part key == p then opening_of holders key stage else None)

-- the matches by a part's items are the matches of the part's keys
abbrev pub RoutingKeepsMatches : Type 0
RoutingKeepsMatches = (part : List Value → ℕ) (p m : ℕ) (span : Option ℤ) (holders : List Holder) (items : List Item)
    → matches m span holders (routed_items part p items) ≡ matches_in part p (matches m span holders items)

-- for a part's items the part's pending sequences are enough
abbrev pub OwnHoldersSuffice : Type 0
OwnHoldersSuffice = (part : List Value → ℕ) (p m : ℕ) (span : Option ℤ) (holders : List Holder) (items : List Item)
    → matches m span (holders_in part p holders) (routed_items part p items) ≡ matches m span holders (routed_items part p items)

-- what is pending of a part's keys is what is pending after the part's items from the part's pending sequences
abbrev pub RoutingKeepsAfter : Type 0
RoutingKeepsAfter = (part : List Value → ℕ) (p m : ℕ) (span : Option ℤ) (holders : List Holder) (items : List Item)
    → after m span (holders_in part p holders) (routed_items part p items) ≡ holders_in part p (after m span holders items)

-- a part's later matches depend on its own opening sequences and its own earlier items alone
abbrev pub PartStandsAlone : Type 0
PartStandsAlone = (part : List Value → ℕ) (p m : ℕ) (span : Option ℤ) (holders : List Holder) (a b : List Item)
    → matches m span (after m span (holders_in part p holders) (routed_items part p a)) (routed_items part p b)
    ≡ matches m span (after m span holders a) (routed_items part p b)

-- the matches by the items routed to each part, part by part
abbrev pub found_by_parts : (m : ℕ) (span : Option ℤ) (part : List Value → ℕ) (n : ℕ) → List Holder → List Item → List (List Match)
found_by_parts m span part n holders items = map (λ p. matches m span holders (routed_items part p items)) (numbers n)

-- the matches of all parts are those of the whole, each once
pub record PartsFind (m : ℕ) (span : Option ℤ) (part : List Value → ℕ) (n : ℕ) (holders : List Holder) (items : List Item) : Type 0 where
  pub all : IsPermutation (joined_lists (found_by_parts m span part n holders items)) (matches m span holders items)
  pub merged : matches m span holders items ≡ in_match_order (joined_lists (found_by_parts m span part n holders items))
  pub in_order : All AreInMatchOrder (found_by_parts m span part n holders items)
  pub apart : MatchesAreApart (found_by_parts m span part n holders items)

abbrev pub PartsFindAll : Type 0
PartsFindAll = (m : ℕ) (span : Option ℤ) (part : List Value → ℕ) (n : ℕ) (holders : List Holder) (items : List Item)
    → ((key : List Value) → part key < n) → Ascend items → PartsFind m span part n holders items

-- what is pending of a part's keys and alive
abbrev pub alive_in : (span : Option ℤ) (t : ℤ) (part : List Value → ℕ) (p : ℕ) → List Holder → List Holder
alive_in span t part p holders = alive_holders span t (holders_in part p holders)

-- what is pending of all parts and alive, put together, is what is pending of the whole and alive; and each part's stands in order
pub record PartsHold (m : ℕ) (span : Option ℤ) (t : ℤ) (part : List Value → ℕ) (n : ℕ) (holders : List Holder) (items : List Item) : Type 0 where
  pub all : in_slot_order (flat_map (λ p. alive_in span t part p (after m span holders items)) (numbers n))
      ≡ alive_holders span t (after m span holders items)
  pub part_in_order : (p : ℕ) → HoldersAreInOrder (alive_in span t part p (after m span holders items))
  pub in_order : HoldersAreInOrder (alive_holders span t (after m span holders items))

abbrev pub PartsGather : Type 0
PartsGather = (m : ℕ) (span : Option ℤ) (t : ℤ) (part : List Value → ℕ) (n : ℕ) (holders : List Holder) (items : List Item)
    → ((key : List Value) → part key < n) → PartsHold m span t part n holders items
