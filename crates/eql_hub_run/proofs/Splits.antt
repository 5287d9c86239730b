-- Hands as they are split off.
use Rattle.std.proofs.Common.{◌≡◌, ◌+◌, ℕ, zero, suc, List, [], ◌∷◌, map, Some, length, refl, sym, ap, ◌∙◌, subst}
use Rattle.std.specs.Prelude.{All, slice_get}
use Rattle.std.proofs.lemmas.List.{length-map}
use Rattle.std.proofs.lemmas.Option.{same_Some}
use Rattle.eql_turn_lock.specs.declared.view.View.{View}
use Rattle.eql_turn_lock.specs.Passes.{first_view, new_view, split_view}
use Rattle.eql_lane.specs.Views.{LaneView}
use Rattle.eql_parts.specs.PartSteps.{PartView}
use Rattle.eql_hub.specs.Hands.{HandView, HubView, IsFirst, IsHandOf, LaneKnown, PartKnown}
use Rattle.eql_hub_run.specs.Gathers.{AreUnplayed, IsUnplayed, IsUnplayedHand}
use Rattle.eql_hub_run.specs.Workers.{HasNone, IsWhole}
use Rattle.eql_hub_run.proofs.Ended.{there_in}
use Rattle.eql_hub_run.proofs.Hands.{all_places}

-- what stands in a place of the mapped list
pub map_at : {X Y : Type 0} (f : X → Y) (xs : List X) (ys : List Y) → ys ≡ map f xs → (k : ℕ) (x : X) (y : Y) → slice_get xs k ≡ Some x → slice_get ys k ≡ Some y → y ≡ f x
map_at {X} {Y} f xs ys is k x y there here = same_Some y (f x) (sym here ∙ (ap (λ (l : List Y). slice_get l k) is ∙ at xs k there))
  where
    at : (zs : List X) (j : ℕ) → slice_get zs j ≡ Some x → slice_get (map f zs) j ≡ Some (f x)
    at [] j e = absurd cc
    at (z ∷ zs) zero e = ap Some (ap f (same_Some z x e))
    at (z ∷ zs) (suc j) e = at zs j e

module _ {T O R : Type 0} where
  pub first_unplayed : (values : List T) (views : List (View T O R)) → views ≡ map first_view values → AreUnplayed 0 values views
  first_unplayed values views is = record {
    count = ap length is ∙ length-map values first_view;
    each = λ k value view there here. subst (IsUnplayed 0 value) (sym (map_at first_view values views is k value view there here)) (record {
      number = refl;
      opening = refl;
      seen = refl;
      mine = refl;
      looked = refl;
      ended = refl;
      made_is = refl;
    });
  }

  -- one more was split off
  pub split_unplayed : (made : ℕ) (values : List T) (old new : List (View T O R)) → new ≡ map split_view old → AreUnplayed made values old → AreUnplayed (made + 1) values new
  split_unplayed made values old new is are = record {
    count = ap length is ∙ (length-map old split_view ∙ are.count);
    each = λ k value view there here.
        let was = there_in values old k value are.count there in
        let one = are.each k value was.0 there was.1 in
        subst (IsUnplayed (made + 1) value) (sym (map_at split_view old new is k was.0 view was.1 here)) (record {
          number = one.number;
          opening = one.opening;
          seen = one.seen;
          mine = one.mine;
          looked = one.looked;
          ended = one.ended;
          made_is = ap (λ (n : ℕ). n + 1) one.made_is;
        });
  }

  pub new_none : (old new : List (View T O R)) → new ≡ map new_view old → All (λ (v : View T O R). v.mine ≡ []) new
  new_none old new is = all_places (λ (v : View T O R). v.mine ≡ []) new (λ k view here.
      let was = there_in new old k view (sym (ap length is ∙ length-map old new_view)) here in
      ap (λ (v : View T O R). v.mine) (map_at new_view old new is k was.0 view was.1 here))

  unplayed_first : (made : ℕ) (values : List T) (views : List (View T O R)) → AreUnplayed made values views → All (λ (v : View T O R). v.number ≡ 0) views
  unplayed_first made values views are = all_places (λ (v : View T O R). v.number ≡ 0) views (λ k view here.
      let value = there_in views values k view (sym are.count) here in
      (are.each k value.0 view value.1 here).number)

module _ {S L : Type 0} where
  pub hand_unplayed : (lanes : List (LaneView S L)) (parts : List PartView) (hand : HandView S L) → hand.lanes.views ≡ map first_view lanes → hand.parts.views ≡ map first_view parts
      → IsUnplayedHand 0 lanes parts hand
  hand_unplayed lanes parts hand a b = record { lanes_are = first_unplayed lanes hand.lanes.views a; parts_are = first_unplayed parts hand.parts.views b }

  pub hand_split : (made : ℕ) (lanes : List (LaneView S L)) (parts : List PartView) (old new : HandView S L) → new.lanes.views ≡ map split_view old.lanes.views → new.parts.views ≡ map split_view old.parts.views
      → IsUnplayedHand made lanes parts old → IsUnplayedHand (made + 1) lanes parts new
  hand_split made lanes parts old new a b are = record {
    lanes_are = split_unplayed made lanes old.lanes.views new.lanes.views a are.lanes_are;
    parts_are = split_unplayed made parts old.parts.views new.parts.views b are.parts_are;
  }

  pub hand_none : (old new : HandView S L) → new.lanes.views ≡ map new_view old.lanes.views → new.parts.views ≡ map new_view old.parts.views → HasNone new
  hand_none old new a b = record { lanes = new_none old.lanes.views new.lanes.views a; parts = new_none old.parts.views new.parts.views b }

  pub hand_first : (made : ℕ) (lanes : List (LaneView S L)) (parts : List PartView) (hand : HandView S L) → IsUnplayedHand made lanes parts hand → IsFirst hand
  hand_first made lanes parts hand are = record {
    lanes = unplayed_first made lanes hand.lanes.views are.lanes_are;
    parts = unplayed_first made parts hand.parts.views are.parts_are;
  }

  -- a hand whose views are those of a whole one, changed each
  pub whole_map : (hub : HubView) (old new : HandView S L) (f : LaneKnown S L → LaneKnown S L) (g : PartKnown → PartKnown) → IsWhole hub old → IsHandOf hub new → new.lanes.views ≡ map f old.lanes.views
      → new.parts.views ≡ map g old.parts.views → IsWhole hub new
  whole_map hub old new f g whole own a b = record {
    own = own;
    lane_count = ap length a ∙ (length-map old.lanes.views f ∙ whole.lane_count);
    part_count = ap length b ∙ (length-map old.parts.views g ∙ whole.part_count);
  }
