-- Lists whose values are of different kinds have no key in common.
use Rattle.std.proofs.Common.{◌≡◌, ℕ, zero, suc, ◌+◌, ◌<◌, ◌≤◌, ℤ, Bool, true, false, List, [], ◌∷◌, ◌++◌, map, Option, refl, ap, sym, subst, ◌∙◌, arith}
use Rattle.std.specs.Prelude.{◌||◌, not, filter, All}
use Rattle.std.specs.Ordering.{eq_by_cmp}
use Rattle.std.specs.FinMap.{IsAntisymmetric}
use Rattle.std.specs.declared.cmp.Ordering.{Ordering}
use Rattle.std.proofs.lemmas.List.{map-append}
use Rattle.std.proofs.lemmas.List.Elements.{All-filter, All-cons, All-nil, All-head, All-tail, All-append, All-weaker}
use Rattle.eql_values.specs.declared.order.OrderKey.{OrderKey}
use Rattle.eql_values.specs.declared.item.Item.{Item}
use Rattle.eql_values.specs.declared.order.Mark.{Mark}
use Rattle.eql_values.specs.Accepted.{Reads, accepted_items, sorted_items}
use Rattle.eql_values.specs.Ascending.{Ascend}
use Rattle.eql_values.specs.Marks.{is_below}
use Rattle.eql_values.specs.OrderKeys.{order_cmp}
use Rattle.eql_values.proofs.Same.{order_same}
use Rattle.eql_values.specs.Ordered.{numbers}
use Rattle.eql_laws.specs.Apart.{has_key, item_order, RepeatNoKey, ShareNoKey, SharesNoKey}
use Rattle.eql_laws.specs.Belows.{IsReading, IsAcceptedOf, HasRoutesInOrder, from_to}
use Rattle.eql_laws.specs.Taking.{handed_out, HandsOutApart, HandedOutMerges}
use Rattle.eql_laws.proofs.BelowLemmas.{All-sorted, accepted_of_text, sorted_ascends}
use Rattle.eql_laws.proofs.Facts.{is_equal}

module _ {X K : Type 0} (R : K → K → Ordering) (same : IsAntisymmetric R) (key : X → K) (kind : K → ℕ) where
  -- a value whose key is of this kind
  abbrev pub OfKind : ℕ → X → Type 0
  OfKind n x = kind (key x) ≡ n

  key_kind : (n : ℕ) (k : K) (xs : List X) → All (OfKind n) xs → has_key R key k xs ≡ true → kind k ≡ n
  key_kind n k [] h there = cc
  key_kind n k (x ∷ xs) h there = by_first (eq_by_cmp R k (key x)) refl there (key_kind n k xs (All-tail (OfKind n) x xs h))
    where
      by_first : (b : Bool) → eq_by_cmp R k (key x) ≡ b → (b || has_key R key k xs) ≡ true → (has_key R key k xs ≡ true → kind k ≡ n) → kind k ≡ n
      by_first true e t more = ap kind (same k (key x) (is_equal _ e)) ∙ All-head (OfKind n) x xs h
      by_first false e t more = more t

  pub kinds_apart : (n m : ℕ) (xs ys : List X) → (n ≡ m → ⊥) → All (OfKind n) xs → All (OfKind m) ys → ShareNoKey R key xs ys
  kinds_apart n m xs ys differ of_n of_m k there = by_case (has_key R key k ys) refl
    where
      by_case : (b : Bool) → has_key R key k ys ≡ b → b ≡ false
      by_case true e = absurd (differ (sym (key_kind n k xs of_n there) ∙ key_kind m k ys of_m e))
      by_case false e = refl

  others_more : (xs : List X) (lists : List (List X)) (ys : List X) → SharesNoKey R key xs lists → ShareNoKey R key xs ys → SharesNoKey R key xs (lists ++ ys ∷ [])
  others_more xs [] ys h apart = (apart, tt)
  others_more xs (zs ∷ lists) ys h apart = (h.0, others_more xs lists ys h.1 apart)

  twice_more : (lists : List (List X)) (ys : List X) → RepeatNoKey R key lists → All (λ (xs : List X). ShareNoKey R key xs ys) lists → RepeatNoKey R key (lists ++ ys ∷ [])
  twice_more [] ys h apart = (tt, tt)
  twice_more (xs ∷ lists) ys h apart = (
    others_more xs lists ys h.0 (All-head (λ (xs : List X). ShareNoKey R key xs ys) xs lists apart),
    twice_more lists ys h.1 (All-tail (λ (xs : List X). ShareNoKey R key xs ys) xs lists apart),
  )

  -- lists of the kinds below a number, one for each
  module _ (each : ℕ → List X) (of : (n : ℕ) → All (OfKind n) (each n)) where
    apart_from : (b n : ℕ) → b ≤ n → All (λ (xs : List X). ShareNoKey R key xs (each n)) (map each (numbers b))
    apart_from zero n le = All-nil (λ (xs : List X). ShareNoKey R key xs (each n))
    apart_from (suc b) n le =
        subst (All (λ (xs : List X). ShareNoKey R key xs (each n))) (sym (map-append each (numbers b) (b ∷ [])))
        (All-append (λ (xs : List X). ShareNoKey R key xs (each n)) (map each (numbers b)) (each b ∷ []) (apart_from b n (omega (arith, le)))
        (All-cons (λ (xs : List X). ShareNoKey R key xs (each n)) (each b) [] (kinds_apart b n (each b) (each n) (λ e. omega (arith, e, le)) (of b) (of n))
        (All-nil (λ (xs : List X). ShareNoKey R key xs (each n)))))

    pub each_apart : (n : ℕ) → RepeatNoKey R key (map each (numbers n))
    each_apart zero = tt
    each_apart (suc n) =
        subst (RepeatNoKey R key) (sym (map-append each (numbers n) (n ∷ []))) (twice_more (map each (numbers n)) (each n) (each_apart n) (apart_from n n (omega arith)))

-- what shards hand out
module _ (reads : Reads) (slack : Option ℤ) (from to : Mark) (reading : IsReading reads) where
  abbrev out : ℕ → List ℕ → List Item
  out shard text = sorted_items (from_to from to (accepted_items reads slack shard text))

  accepted_are : (shard : ℕ) (text : List ℕ) → All (IsAcceptedOf shard text) (from_to from to (accepted_items reads slack shard text))
  accepted_are shard text =
      All-filter (is_below to) (IsAcceptedOf shard text) (filter (λ item. not (is_below from item)) (accepted_items reads slack shard text))
      (All-filter (λ item. not (is_below from item)) (IsAcceptedOf shard text) (accepted_items reads slack shard text) (accepted_of_text reads slack shard text reading).all)

  out_ascends : (shard : ℕ) (text : List ℕ) → Ascend (out shard text)
  out_ascends shard text =
      sorted_ascends (from_to from to (accepted_items reads slack shard text))
      (All-weaker (IsAcceptedOf shard text) HasRoutesInOrder (λ x h. h.routes_stand.0) (from_to from to (accepted_items reads slack shard text)) (accepted_are shard text))

  abbrev shard_of : OrderKey → ℕ
  shard_of k = k.shard

  abbrev OfShard : ℕ → Item → Type 0
  OfShard = OfKind order_cmp order_same item_order shard_of

  out_of_shard : (shard : ℕ) (text : List ℕ) → All (OfShard shard) (out shard text)
  out_of_shard shard text =
      All-sorted (OfShard shard) (from_to from to (accepted_items reads slack shard text))
      (All-weaker (IsAcceptedOf shard text) (OfShard shard) (λ x h. h.shard_is) (from_to from to (accepted_items reads slack shard text)) (accepted_are shard text))

  out_apart : (first next : ℕ) (xs : List Item) (texts : List (List ℕ)) → first < next → All (OfShard first) xs
      → SharesNoKey order_cmp item_order xs (handed_out reads slack next texts from to)
  out_apart first next xs [] lt h = tt
  out_apart first next xs (text ∷ texts) lt h = (
    kinds_apart order_cmp order_same item_order shard_of first next xs (out next text) (λ e. omega (arith, e, lt)) h (out_of_shard next text),
    out_apart first (next + 1) xs texts (omega (arith, lt)) h,
  )

  merges : (shard : ℕ) (texts : List (List ℕ)) → HandsOutApart reads slack shard texts from to
  merges shard [] = record { ascend = All-nil Ascend; apart = tt }
  merges shard (text ∷ texts) =
      let rest = merges (shard + 1) texts in
      record {
        ascend = All-cons Ascend (out shard text) (handed_out reads slack (shard + 1) texts from to) (out_ascends shard text) rest.ascend;
        apart = (out_apart shard (shard + 1) (out shard text) texts (omega arith) (out_of_shard shard text), rest.apart);
      }

pub handed_out_merges : HandedOutMerges
handed_out_merges reads slack shard texts from to reading = merges reads slack from to reading shard texts
