-- Keys that are compared value by value, and the place of a key among routes.
use Rattle.std.proofs.Common.{◌≡◌, ◌<◌, ◌≤◌, ℕ, zero, suc, ◌+◌, Bool, true, false, List, [], ◌∷◌, ◌++◌, length, take, drop, get_or, None, refl, ap, sym, ◌∙◌, arith, append_assoc}
use Rattle.std.specs.Ordering.{is_ne, ordering_then}
use Rattle.std.specs.FinMap.Entries.{by_order}
use Rattle.std.specs.declared.cmp.Ordering.{Ordering}
use Rattle.std.specs.declared.cmp.Ordering.TheVariants.{Less, Equal, Greater}
use Rattle.std.proofs.lemmas.List.{drop_all, take_more, set_split, get_or_read}
use Rattle.std.proofs.Math.Seq.{drop-cons}
use Rattle.eql_values.specs.declared.value.Value.{Value}
use Rattle.eql_values.specs.declared.item.Mask.{Mask}
use Rattle.eql_values.specs.declared.item.Route.{Route}
use Rattle.eql_values.specs.Orders.{value_cmp, key_cmp}
use Rattle.eql_stages.specs.Keys.{value_of, values_of}
use Rattle.eql_stages.specs.Gathering.{joined_route, said_routes, IsAt, ComesAt}
use Rattle.eql_stages.specs.declared.keys.KeyField.{KeyField}

pub from_here : {A : Type 0} (xs : List A) (i : ℕ) (x : A) → i < length xs → x ≡ get_or xs i x → drop i xs ≡ x ∷ drop (i + 1) xs
from_here xs i x h is =
    let next : suc i ≡ i + 1 = omega arith in
    drop-cons xs i x h ∙ (λ k. sym is k ∷ drop (next k) xs)

-- two values that differ decide
pub decided : (o p : Ordering) → is_ne o ≡ true → ordering_then o p ≡ o
decided Less p h = refl
decided Equal p h = cc
decided Greater p h = refl

pub undecided : (o p : Ordering) → is_ne o ≡ false → ordering_then o p ≡ p
undecided Less p h = cc
undecided Equal p h = refl
undecided Greater p h = cc

module _ (slots : List Value) (fields : List KeyField) (key : List Value) where
  pub first_values : (i : ℕ) (field : KeyField) (value : Value) → i < length fields → field ≡ get_or fields i field
      → i < length key → value ≡ get_or key i value
      → key_cmp (values_of slots (drop i fields)) (drop i key)
      ≡ ordering_then (value_cmp (value_of slots field) value) (key_cmp (values_of slots (drop (i + 1) fields)) (drop (i + 1) key))
  first_values i field value h is j at =
      λ k. key_cmp (values_of slots (from_here fields i field h is k)) (from_here key i value j at k)

  -- the other key has no more values
  pub other_ends : (i : ℕ) → i < length fields → length key ≤ i → key_cmp (values_of slots (drop i fields)) (drop i key) ≡ Greater
  other_ends i h over =
      λ k. key_cmp (values_of slots (drop-cons fields i (record { slot = None; optional = false }) h k)) (drop_all i key over k)

  some_left : (i : ℕ) (vs : List Value) → i < length vs → key_cmp [] (drop i vs) ≡ Less
  some_left zero [] h = absurd (omega arith)
  some_left zero (v ∷ vs) h = refl
  some_left (suc i) [] h = absurd (omega arith)
  some_left (suc i) (v ∷ vs) h = some_left i vs (omega arith)

  -- the fields give no more values
  pub fields_end : (i : ℕ) → length fields ≤ i → i < length key → key_cmp (values_of slots (drop i fields)) (drop i key) ≡ Less
  fields_end i over h = ap (λ (l : List KeyField). key_cmp (values_of slots l) (drop i key)) (drop_all i fields over) ∙ some_left i key h

  pub both_end : (i : ℕ) → length fields ≤ i → length key ≤ i → key_cmp (values_of slots (drop i fields)) (drop i key) ≡ Equal
  both_end i over none = λ k. key_cmp (values_of slots (drop_all i fields over k)) (drop_all i key none k)

module _ (key : List Value) (routes : List Route) where
  -- the first routes have lesser keys
  abbrev pub PassesTo : ℕ → Type 0
  PassesTo i = (mask : Mask) (until : Bool) → said_routes key mask until routes ≡ take i routes ++ said_routes key mask until (drop i routes)

  pub found_here : (i : ℕ) (r : Route) → i < length routes → r ≡ get_or routes i r → key_cmp key r.key ≡ Equal → PassesTo i
      → IsAt key routes i
  found_here i r h is eq passes mask until d =
      passes mask until
      ∙ (λ k. take i routes ++ said_routes key mask until (from_here routes i r h is k))
      ∙ (λ k. take i routes ++ by_order (eq k) (record { key = key; mask = mask; until = until } ∷ r ∷ drop (i + 1) routes)
      (joined_route mask until r ∷ drop (i + 1) routes) (r ∷ said_routes key mask until (drop (i + 1) routes)))
      ∙ (let next : i + 1 ≡ suc i = omega arith in (λ k. take i routes ++ joined_route mask until (get_or_read routes i r h is d k) ∷ drop (next k) routes))
      ∙ sym (set_split routes i (joined_route mask until (get_or routes i d)) h)

  pub comes_here : (i : ℕ) (r : Route) → i < length routes → r ≡ get_or routes i r → key_cmp key r.key ≡ Less → PassesTo i
      → ComesAt key routes i
  comes_here i r h is less passes mask until =
      passes mask until
      ∙ (λ k. take i routes ++ said_routes key mask until (from_here routes i r h is k))
      ∙ (λ k. take i routes ++ by_order (less k) (record { key = key; mask = mask; until = until } ∷ r ∷ drop (i + 1) routes)
      (joined_route mask until r ∷ drop (i + 1) routes) (r ∷ said_routes key mask until (drop (i + 1) routes)))
      ∙ (λ k. take i routes ++ record { key = key; mask = mask; until = until } ∷ sym (from_here routes i r h is) k)

  pub comes_last : (i : ℕ) → length routes ≤ i → PassesTo i → ComesAt key routes i
  comes_last i over passes mask until =
      passes mask until
      ∙ ap (λ (l : List Route). take i routes ++ said_routes key mask until l) (drop_all i routes over)
      ∙ ap (λ (l : List Route). take i routes ++ record { key = key; mask = mask; until = until } ∷ l) (sym (drop_all i routes over))

  pub passes_on : (i : ℕ) (r : Route) → i < length routes → r ≡ get_or routes i r → key_cmp key r.key ≡ Greater → PassesTo i
      → PassesTo (i + 1)
  passes_on i r h is greater passes mask until =
      passes mask until
      ∙ (λ k. take i routes ++ said_routes key mask until (from_here routes i r h is k))
      ∙ (λ k. take i routes ++ by_order (greater k) (record { key = key; mask = mask; until = until } ∷ r ∷ drop (i + 1) routes)
      (joined_route mask until r ∷ drop (i + 1) routes) (r ∷ said_routes key mask until (drop (i + 1) routes)))
      ∙ sym (append_assoc (take i routes) (r ∷ []) (said_routes key mask until (drop (i + 1) routes)))
      ∙ ap (λ (l : List Route). l ++ said_routes key mask until (drop (i + 1) routes)) (sym (take_more routes i r h ∙ (λ k. take i routes ++ sym is k ∷ [])))
