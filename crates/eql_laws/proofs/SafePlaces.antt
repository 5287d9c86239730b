-- Every accepted event below a safe mark stands before the places at which the mark is safe.
use Rattle.std.proofs.Common.{◌≡◌, ℕ, ◌+◌, ℤ, Bool, true, false, List, [], ◌∷◌, ◌++◌, map, Option, None, refl, sym, ap, ◌∙◌}
use Rattle.std.specs.Prelude.{filter, IsTrue}
use Rattle.std.proofs.lemmas.List.{append-nil}
use Rattle.std.proofs.lemmas.List.Elements.{filter-append, filter_map-append}
use Rattle.eql_values.specs.declared.item.Item.{Item}
use Rattle.eql_values.specs.declared.order.Mark.{Mark}
use Rattle.eql_values.specs.Accepted.{Reads, readable, accepted_items, accepted_after, accepted_from, sorted_items}
use Rattle.eql_values.specs.Lines.{lines_in}
use Rattle.eql_values.specs.Marks.{is_below, low_of, is_safe}
use Rattle.eql_laws.specs.Lateness.{best_of, accepted_by, IsAtMost}
use Rattle.eql_laws.specs.Places.{is_line_end, lines_after, ReadTo, whole, ArePlaces, lows_from, ReadableGoesOn, AcceptedGoesOn, RestOfShardIsLate, RestIsLate}
use Rattle.eql_laws.proofs.Facts.{both_true}
use Rattle.eql_laws.proofs.LineLemmas.{lines_go_on}
use Rattle.eql_laws.proofs.Kept.{accepted_by_best, accepted_split, best_is_from, none_comes_below}

pub readable_goes_on : ReadableGoesOn
readable_goes_on reads shard a b h =
    ap (readable reads shard) (lines_go_on a b h) ∙ filter_map-append _ (lines_in a) (lines_after a b)

pub accepted_goes_on : AcceptedGoesOn
accepted_goes_on reads slack shard a b h =
    ap (accepted_after slack []) (readable_goes_on reads shard a b h)
    ∙ accepted_by_best slack [] (readable reads shard (lines_in a) ++ readable reads shard (lines_after a b))
    ∙ accepted_split slack None (readable reads shard (lines_in a)) (readable reads shard (lines_after a b))
    ∙ (λ i. sym (accepted_by_best slack [] (readable reads shard (lines_in a))) i
    ++ accepted_by slack (best_is_from (readable reads shard (lines_in a)) i) (readable reads shard (lines_after a b)))

-- by whether the shard was closed
late_by_place : (reads : Reads) (slack : Option ℤ) (shard : ℕ) (mark : Mark) (first rest : List ℕ) (closed : Bool) → IsTrue (is_line_end first rest)
    → (closed ≡ true → rest ≡ []) → IsAtMost mark (low_of closed slack (best_of (readable reads shard (lines_in first))))
    → filter (is_below mark) (accepted_items reads slack shard (first ++ rest)) ≡ filter (is_below mark) (accepted_items reads slack shard first)
late_by_place reads slack shard mark first rest true line_end at_end low =
    ap (λ (text : List ℕ). filter (is_below mark) (accepted_items reads slack shard text)) (ap (λ (l : List ℕ). first ++ l) (at_end refl) ∙ append-nil first)
late_by_place reads slack shard mark first rest false line_end at_end low =
    ap (λ (items : List Item). filter (is_below mark) (accepted_after slack [] items)) (readable_goes_on reads shard first rest line_end)
    ∙ none_comes_below slack mark (readable reads shard (lines_in first)) (readable reads shard (lines_after first rest)) low

pub late_of_shard : RestOfShardIsLate
late_of_shard reads slack shard mark r place low =
    late_by_place reads slack shard mark r.first r.rest r.closed place.line_end place.at_end low

late_from : (reads : Reads) (slack : Option ℤ) (mark : Mark) (shard : ℕ) (shards : List ReadTo) → ArePlaces shards
    → IsTrue (is_safe mark (lows_from reads slack shard shards))
    → filter (is_below mark) (accepted_from reads slack shard (map whole shards))
    ≡ filter (is_below mark) (accepted_from reads slack shard (map (λ (r : ReadTo). r.first) shards))
late_from reads slack mark shard [] places safe = refl
late_from reads slack mark shard (r ∷ shards) places safe =
    let both = both_true _ _ safe in
    filter-append (is_below mark) (accepted_items reads slack shard (whole r)) (accepted_from reads slack (shard + 1) (map whole shards))
    ∙ (λ i. late_of_shard reads slack shard mark r places.0 both.0 i ++ late_from reads slack mark (shard + 1) shards places.1 both.1 i)
    ∙ sym (filter-append (is_below mark) (accepted_items reads slack shard r.first) (accepted_from reads slack (shard + 1) (map (λ (r : ReadTo). r.first) shards)))

pub late : RestIsLate
late reads slack mark shards places safe = ap sorted_items (late_from reads slack mark 0 shards places safe)
