-- An event after one that was played comes after all that is pending then.
use Rattle.std.proofs.Common.{◌≡◌, ℕ, ℤ, Bool, true, List, [], ◌∷◌, Option, refl, ap}
use Rattle.std.specs.Prelude.{IsTrue}
use Rattle.std.specs.Ordering.{is_lt}
use Rattle.std.specs.declared.cmp.Ordering.{Ordering}
use Rattle.std.specs.declared.cmp.Ordering.TheVariants.{Less, Equal, Greater}
use Rattle.std.proofs.lemmas.List.Elements.{All-cons, All-nil, All-weaker}
use Rattle.std.proofs.lemmas.List.Sums.{AllPass-from_list_all, list_all-from_AllPass}
use Rattle.eql_values.specs.declared.order.OrderKey.{OrderKey}
use Rattle.eql_values.specs.declared.item.Item.{Item}
use Rattle.eql_values.specs.declared.found.Holder.{Holder}
use Rattle.eql_values.specs.Matching.{after}
use Rattle.eql_values.specs.OrderKeys.{order_cmp}
use Rattle.eql_values.specs.Totals.{order_cmp_total}
use Rattle.eql_laws.specs.Shapes.{EventsPass, EventsStay}
use Rattle.eql_auto.specs.Machine.{AllAreBefore}
use Rattle.eql_part.specs.KeyTables.{ComesAfterAll, ComesAfterHolder}

less_of : (o : Ordering) → is_lt o ≡ true → o ≡ Less
less_of Less e = refl
less_of Equal e = cc
less_of Greater e = cc

module _ (next : OrderKey) where
  abbrev comes_before : OrderKey → Bool
  comes_before event = is_lt (order_cmp event next)

  passes : (chain : List OrderKey) → AllAreBefore next chain → EventsPass comes_before chain
  passes chain h =
      list_all-from_AllPass comes_before chain
      (All-weaker (λ (e : OrderKey). order_cmp e next ≡ Less) (λ (e : OrderKey). comes_before e ≡ true) (λ e less. ap is_lt less) chain h)

  comes_after : (chain : List OrderKey) → EventsPass comes_before chain → AllAreBefore next chain
  comes_after chain h =
      All-weaker (λ (e : OrderKey). comes_before e ≡ true) (λ (e : OrderKey). order_cmp e next ≡ Less) (λ e lt. less_of (order_cmp e next) lt) chain
      (AllPass-from_list_all comes_before chain h)

  module _ (event : OrderKey) (less : order_cmp event next ≡ Less) where
    still_before : (chain : List OrderKey) → AllAreBefore event chain → AllAreBefore next chain
    still_before chain h =
        All-weaker (λ (e : OrderKey). order_cmp e event ≡ Less) (λ (e : OrderKey). order_cmp e next ≡ Less) (λ e before. order_cmp_total.trans e event next before less) chain h

    -- what comes after an event comes after all that it comes after
    pub still_after : (holders : List Holder) → ComesAfterAll event holders → ComesAfterAll next holders
    still_after holders h =
        All-weaker (ComesAfterHolder event) (ComesAfterHolder next) (λ x before. still_before x.chain before) holders h

  -- what comes after an event comes after all that is pending after it
  pub after_all : EventsStay → (m : ℕ) (span : Option ℤ) (holders : List Holder) (item : Item)
      → order_cmp item.order next ≡ Less → ComesAfterAll item.order holders → ComesAfterAll next (after m span holders (item ∷ []))
  after_all stay m span holders item less h =
      let kept = stay m span comes_before holders (item ∷ [])
      (All-weaker (ComesAfterHolder next) (λ (x : Holder). EventsPass comes_before x.chain) (λ x before. passes x.chain before) holders (still_after item.order less holders h))
      (All-cons (λ (x : Item). IsTrue (comes_before x.order)) item [] (ap is_lt less) (All-nil (λ (x : Item). IsTrue (comes_before x.order)))) in
      All-weaker (λ (x : Holder). EventsPass comes_before x.chain) (ComesAfterHolder next) (λ x pass. comes_after x.chain pass) (after m span holders (item ∷ [])) kept.after
