-- What shards hold back and hand out from mark to mark.
use Rattle.std.proofs.Common.{◌≡◌, ◌+◌, ℕ, ℤ, Bool, true, false, cond, List, [], ◌∷◌, ◌++◌, Option, refl, sym, ap, ◌∙◌}
use Rattle.std.specs.Prelude.{filter, not}
use Rattle.std.specs.List.{flat_map}
use Rattle.std.proofs.lemmas.List.Elements.{filter-append}
use Rattle.eql_values.specs.declared.item.Item.{Item}
use Rattle.eql_values.specs.declared.order.Mark.{Mark}
use Rattle.eql_values.specs.Accepted.{Reads, readable, accepted_items, accepted_from, sorted_items}
use Rattle.eql_values.specs.Lines.{lines_in}
use Rattle.eql_values.specs.Marks.{is_below}
use Rattle.eql_laws.specs.Belows.{from_to}
use Rattle.eql_laws.specs.Lateness.{IsAtMost, best_of, accepted_by}
use Rattle.eql_laws.specs.Places.{whole, lines_after}
use Rattle.eql_laws.specs.Taking.{handed_out, ShardsMakeBetween, TakeSplits, RestIsLateBetween, HeldBackGrows}
use Rattle.eql_laws.proofs.Lists.{filters_swap, filter_implied}
use Rattle.eql_laws.proofs.BelowLemmas.{sorted_below}
use Rattle.eql_laws.proofs.Kept.{none_below}
use Rattle.eql_laws.proofs.MarkLemmas.{below_up}
use Rattle.eql_laws.proofs.SafePlaces.{accepted_goes_on, late_of_shard}
use Rattle.std.proofs.Common.{map}
use Rattle.std.specs.FinMap.Entries.{find}
use Rattle.eql_values.specs.OrderKeys.{order_cmp}
use Rattle.eql_values.specs.Ordered.{found_or}
use Rattle.eql_laws.proofs.Sorting.{pair, sorted_alike, find_sorted, find_more, sorted_more}

-- not below the mark
abbrev above : Mark → Item → Bool
above mark item = not (is_below mark item)

from_to_append : (from to : Mark) (xs ys : List Item) → from_to from to (xs ++ ys) ≡ from_to from to xs ++ from_to from to ys
from_to_append from to xs ys =
    ap (filter (is_below to)) (filter-append (above from) xs ys) ∙ filter-append (is_below to) (filter (above from) xs) (filter (above from) ys)

-- lists that stand in order, put in order behind others
sorted_behind : (xs ys zs : List Item) → sorted_items ys ≡ sorted_items zs → sorted_items (sorted_items xs ++ ys) ≡ sorted_items (xs ++ zs)
sorted_behind xs ys zs same =
    sorted_alike (sorted_items xs ++ ys) (xs ++ zs) (λ q.
    find_more q (sorted_items xs) ys
    ∙ (λ i. found_or (find_sorted q xs i) ((sym (find_sorted q ys) ∙ ap (λ (l : List Item). find order_cmp q (map pair l)) same ∙ find_sorted q zs) i))
    ∙ sym (find_more q xs zs))

by_shard : (reads : Reads) (slack : Option ℤ) (shard : ℕ) (texts : List (List ℕ)) (from to : Mark)
    → sorted_items (flat_map (λ (items : List Item). items) (handed_out reads slack shard texts from to))
    ≡ sorted_items (from_to from to (accepted_from reads slack shard texts))
by_shard reads slack shard [] from to = refl
by_shard reads slack shard (text ∷ texts) from to =
    sorted_behind (from_to from to (accepted_items reads slack shard text)) (flat_map (λ (items : List Item). items) (handed_out reads slack (shard + 1) texts from to))
    (from_to from to (accepted_from reads slack (shard + 1) texts)) (by_shard reads slack (shard + 1) texts from to)
    ∙ ap sorted_items (sym (from_to_append from to (accepted_items reads slack shard text) (accepted_from reads slack (shard + 1) texts)))

pub between_by_shard : ShardsMakeBetween
between_by_shard reads slack texts from to = by_shard reads slack 0 texts from to

above_too : (a b : Bool) → (a ≡ true → b ≡ true) → not b ≡ true → not a ≡ true
above_too true true up e = e
above_too true false up e = up refl
above_too false b up e = refl

-- what is above the greater mark is above the lesser
above_both : (from to : Mark) → IsAtMost from to → (xs : List Item) → filter (above to) (filter (above from) xs) ≡ filter (above to) xs
above_both from to le xs =
    filters_swap (above to) (above from) xs
    ∙ filter_implied (above from) (above to) (λ item e. above_too (is_below from item) (is_below to item) (λ is. below_up from to item le is) e) xs

pub take_splits : TakeSplits
take_splits reads slack shard text from to le =
    let kept : List Item = filter (above from) (accepted_items reads slack shard text) in
    record {
      handed = (sorted_below to kept).0;
      held = (sorted_below to kept).1 ∙ ap sorted_items (above_both from to le (accepted_items reads slack shard text));
    }

pub late_between : RestIsLateBetween
late_between reads slack shard from to r place low =
    filters_swap (is_below to) (above from) (accepted_items reads slack shard (whole r))
    ∙ ap (filter (above from)) (late_of_shard reads slack shard to r place low)
    ∙ sym (filters_swap (is_below to) (above from) (accepted_items reads slack shard r.first))

all_one : (mark : Mark) (x : Item) (xs : List Item) (b : Bool) → is_below mark x ≡ b → (filter (is_below mark) xs ≡ [] → filter (above mark) xs ≡ xs)
    → cond b (x ∷ filter (is_below mark) xs) (filter (is_below mark) xs) ≡ [] → cond (not b) (x ∷ filter (above mark) xs) (filter (above mark) xs) ≡ x ∷ xs
all_one mark x xs true e rest none = cc
all_one mark x xs false e rest none = ap (λ (l : List Item). x ∷ l) (rest none)

-- where none is below the mark all are above it
all_above : (mark : Mark) (xs : List Item) → filter (is_below mark) xs ≡ [] → filter (above mark) xs ≡ xs
all_above mark [] none = refl
all_above mark (x ∷ xs) none = all_one mark x xs (is_below mark x) refl (all_above mark xs) none

pub held_back_grows : HeldBackGrows
held_back_grows reads slack shard a b mark line_end low =
    let best : Option ℤ = best_of (readable reads shard (lines_in a)) in
    let more : List Item = accepted_by slack best (readable reads shard (lines_after a b)) in
    ap (λ (l : List Item). sorted_items (filter (above mark) l)) (accepted_goes_on reads slack shard a b line_end)
    ∙ ap sorted_items (filter-append (above mark) (accepted_items reads slack shard a) more
    ∙ ap (λ (l : List Item). filter (above mark) (accepted_items reads slack shard a) ++ l) (all_above mark more (none_below slack best mark (readable reads shard (lines_after a b)) low)))
    ∙ sym (sorted_more (filter (above mark) (accepted_items reads slack shard a)) more)
