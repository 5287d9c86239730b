-- Lanes whose places are taken one by one.
use native.Mathlib.Omega.{arith}
use Rattle.std.proofs.Common.{◌≡◌, ◌≤◌, ◌<◌, ◌+◌, ◌-◌, ℕ, List, [], ◌∷◌, ◌++◌, sym, ap, ◌∙◌, take, drop, length, get_or, map}
use Rattle.std.proofs.lemmas.List.{append-nil, drop_all, get_or-append_right, get_or-drop, length-map, length-take-le, map_more, take_all}
use Rattle.eql_lane.specs.Views.{LaneView}
use Rattle.eql_find.specs.Searching.{bare, places_in}

module _ {S L : Type 0} (lanes now : List (LaneView S L)) (shard : ℕ) (now_is : now ≡ map bare (take shard lanes) ++ drop shard lanes) where
  -- the lane of the next shard still has its places
  own_lane : (lane : LaneView S L) → shard < length lanes → lane ≡ get_or now shard lane → lane ≡ get_or lanes shard lane
  own_lane lane within is =
      let front : length (map bare (take shard lanes)) ≡ shard = length-map (take shard lanes) bare ∙ length-take-le shard lanes (omega (arith, within)) in
      let at : shard + (shard - shard) ≡ shard = omega arith in
      is ∙ ap (λ (ls : List (LaneView S L)). get_or ls shard lane) now_is
      ∙ get_or-append_right (map bare (take shard lanes)) (drop shard lanes) shard shard lane front (omega arith)
      ∙ get_or-drop shard lanes (shard - shard) lane
      ∙ ap (λ (k : ℕ). get_or lanes k lane) at

  -- one list more
  pub one_taken : (lane : LaneView S L) (lists more : List (List (ℕ × ℕ))) → shard < length lanes → lane ≡ get_or now shard lane
      → lists ≡ places_in (take shard lanes) → more ≡ lists ++ lane.places ∷ [] → more ≡ places_in (take (shard + 1) lanes)
  one_taken lane lists more within is were e =
      e ∙ ap (λ (ls : List (List (ℕ × ℕ))). ls ++ lane.places ∷ []) were
      ∙ ap (λ (l : LaneView S L). places_in (take shard lanes) ++ l.places ∷ []) (own_lane lane within is)
      ∙ sym (map_more (λ (l : LaneView S L). l.places) lanes shard lane within)

-- all lists, and all lanes without places
module _ {S L : Type 0} (lanes : List (LaneView S L)) (n : ℕ) (end : length lanes ≤ n) where
  pub all_lists : (lists : List (List (ℕ × ℕ))) → lists ≡ places_in (take n lanes) → lists ≡ places_in lanes
  all_lists lists are = are ∙ ap places_in (take_all n lanes end)

  pub all_bare : (now : List (LaneView S L)) → now ≡ map bare (take n lanes) ++ drop n lanes → now ≡ map bare lanes
  all_bare now are =
      are ∙ ap (λ (ls : List (LaneView S L)). map bare (take n lanes) ++ ls) (drop_all n lanes end) ∙ append-nil (map bare (take n lanes))
      ∙ ap (map bare) (take_all n lanes end)
