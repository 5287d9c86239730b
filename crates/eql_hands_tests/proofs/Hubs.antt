-- A hub's first hand, from which one other was split off and into which it is joined.
use Rattle.std.proofs.Common.{◌≡◌, List, [], ◌∷◌, length, map, refl, sym, ap, ◌∙◌, subst, arith}
use Rattle.std.specs.Prelude.{All}
use Rattle.std.proofs.lemmas.List.{length-map}
use Rattle.std.proofs.lemmas.List.Elements.{All-cons, All-head, All-nil, All-tail}
use Rattle.eql_turn_lock.specs.declared.view.View.{View}
use Rattle.eql_turn_lock.specs.Passes.{first_view, joined_view, new_view, split_view}
use Rattle.eql_lock_row.specs.Rows.{joined_views}
use Rattle.eql_lane.specs.Views.{LaneView}
use Rattle.eql_parts.specs.PartSteps.{PartView}
use Rattle.eql_hub.specs.Hands.{AreAllJoined, HandView, IsFirst as IsFirstHand}
use Rattle.eql_hub.proofs.Views.{fresh_first}
use Rattle.eql_hands.specs.Growth.{AreLater}

module _ {T O R : Type 0} where
  abbrev IsFirst : View T O R → Type 0
  IsFirst v = v.number ≡ 0

  abbrev IsJoined : View T O R → Type 0
  IsJoined v = length v.ended ≡ v.made

  abbrev splits : List T → List (View T O R)
  splits xs = map split_view (map first_view xs)

  abbrev all_first : (xs : List T) → All IsFirst (splits xs)
  all_first [] = All-nil IsFirst
  all_first (x ∷ xs) = All-cons IsFirst (split_view (first_view x)) (splits xs) refl (all_first xs)

  abbrev split_first : (xs : List T) (olds news : List (View T O R)) → olds ≡ map first_view xs → news ≡ map split_view olds → All IsFirst news
  split_first xs olds news old new = subst (All IsFirst) (sym (new ∙ ap (λ (l : List (View T O R)). map split_view l) old)) (all_first xs)

  abbrev still_first : (views others : List (View T O R)) → All IsFirst views → All IsFirst (joined_views views others)
  still_first [] others first = All-nil IsFirst
  still_first (v ∷ vs) [] first = first
  still_first (v ∷ vs) (w ∷ ws) first =
      All-cons IsFirst (joined_view v w) (joined_views vs ws) (All-head IsFirst v vs first) (still_first vs ws (All-tail IsFirst v vs first))

  abbrev all_joined : (xs : List T) (others : List (View T O R)) → length others ≡ length xs → All IsJoined (joined_views (splits xs) others)
  all_joined [] others count = All-nil IsJoined
  all_joined (x ∷ xs) [] count = absurd cc
  all_joined (x ∷ xs) (w ∷ ws) count =
      All-cons IsJoined (joined_view (split_view (first_view x)) w) (joined_views (splits xs) ws) refl (all_joined xs ws (grind arith))

  abbrev row_joined : (xs : List T) (firsts olds mades others news : List (View T O R)) → firsts ≡ map first_view xs → olds ≡ map split_view firsts → mades ≡ map new_view firsts
      → length others ≡ length mades → news ≡ joined_views olds others → All IsJoined news
  row_joined xs firsts olds mades others news first old made count new =
      let split : olds ≡ splits xs = old ∙ ap (λ (l : List (View T O R)). map split_view l) first in
      let many : length others ≡ length xs = count ∙ (ap length made ∙ (length-map firsts new_view ∙ (ap length first ∙ length-map xs first_view))) in
      subst (All IsJoined) (sym (new ∙ ap (λ (l : List (View T O R)). joined_views l others) split)) (all_joined xs others many)

module _ {S L : Type 0} (lanes : List (LaneView S L)) (parts : List PartView) (first : HandView S L)
    (a : first.lanes.views ≡ map first_view lanes) (b : first.parts.views ≡ map first_view parts) where
  pub is_first : IsFirstHand first
  is_first = record { lanes = fresh_first lanes first.lanes.views a; parts = fresh_first parts first.parts.views b }

  module _ (old : HandView S L) (c : old.lanes.views ≡ map split_view first.lanes.views) (d : old.parts.views ≡ map split_view first.parts.views) where
    pub split_is_first : IsFirstHand old
    split_is_first = record { lanes = split_first lanes first.lanes.views old.lanes.views a c; parts = split_first parts first.parts.views old.parts.views b d }

    module _ (other new : HandView S L) (e : new.lanes.views ≡ joined_views old.lanes.views other.lanes.views) (f : new.parts.views ≡ joined_views old.parts.views other.parts.views) where
      pub joined_is_first : IsFirstHand new
      joined_is_first = record {
        lanes = subst (All IsFirst) (sym e) (still_first old.lanes.views other.lanes.views split_is_first.lanes);
        parts = subst (All IsFirst) (sym f) (still_first old.parts.views other.parts.views split_is_first.parts);
      }

      pub joined_is_all : (made : HandView S L) → made.lanes.views ≡ map new_view first.lanes.views → made.parts.views ≡ map new_view first.parts.views → AreLater made other → AreAllJoined new
      joined_is_all made g h later = record {
        lanes = row_joined lanes first.lanes.views old.lanes.views made.lanes.views other.lanes.views new.lanes.views a c g later.lanes.count e;
        parts = row_joined parts first.parts.views old.parts.views made.parts.views other.parts.views new.parts.views b d h later.parts.count f;
      }
