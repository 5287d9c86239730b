-- A cut that was taken is one of the bench and the book, and has a text.
use Rattle.std.proofs.Common.{◌≡◌, ◌+◌, ◌++◌, ◌<◌, ℕ, ℤ, List, [], ◌∷◌, Option, Some, None, length, map, refl, sym, ap, ◌∙◌, arith, subst, length-append, append_assoc}
use Rattle.std.specs.Prelude.{All, IfSome, IsTrue, slice_get}
use Rattle.std.specs.Ordering.{is_le}
use Rattle.std.proofs.lemmas.List.Elements.{All-cons, All-nil}
use Rattle.eql_values.specs.declared.cut.LaneCut.{LaneCut}
use Rattle.eql_values.specs.declared.found.Holder.{Holder}
use Rattle.eql_values.specs.declared.order.Mark.{Mark}
use Rattle.eql_values.specs.declared.order.Mark.TheVariants.{At}
use Rattle.eql_values.specs.Accepted.{Reads}
use Rattle.eql_values.specs.Ascending.{Ascend}
use Rattle.eql_values.specs.Marks.{is_safe, mark_cmp}
use Rattle.eql_laws.specs.Alive.{HoldersAreInOrder, alive_holders}
use Rattle.eql_laws.specs.Lanes.{lane_at, lanes_from}
use Rattle.eql_laws.specs.Lateness.{IsAtMost}
use Rattle.eql_laws.specs.Places.{ArePlaces, IsPlace, ReadTo, low_at, lows_from, whole}
use Rattle.eql_laws.proofs.Facts.{true_both}
use Rattle.eql_laws.specs.Shapes.{IsFull}
use Rattle.eql_lane.specs.Keeps.{LaneIs}
use Rattle.eql_book.specs.Books.{BookState}
use Rattle.eql_cut.specs.declared.cut.Cut.{Cut}
use Rattle.eql_cut.specs.declared.cut.CutHead.{CutHead}
use Rattle.eql_parts.specs.PartSteps.{Rules}
use Rattle.eql_conductor.specs.LaneCalls.{IsOfText}
use Rattle.eql_conductor.specs.Benches.{Known, PartsRest, StaysSame}
use Rattle.eql_conductor.specs.LaneRounds.{AreLanes, LanesAreAt, text_at}
use Rattle.eql_conductor.specs.PartRounds.{AreAtRest, AreSomehowFull, pending_after}
use Rattle.eql_conductor.specs.Rounds.{BenchIsOfTexts, ReadTexts}
use Rattle.eql_conductor.specs.Saving.{AreLanesOf, BookKeepsNumbers, IsHeadOf, IsSavedAt}
use Rattle.eql_conductor.specs.Snaps.{SnapsAll, IsSnap, SnapsFrom, TypesSay}
use Rattle.eql_conductor.proofs.Stays.{parts_stay}

pub full_stays : (mark : Mark) (a b : Known) → StaysSame a b → PartsRest a b → AreSomehowFull mark a → AreSomehowFull mark b
full_stays mark a b same rest h = record { rules = h.rules; all = h.all; is = parts_stay h.rules h.all mark a b same rest h.is; full = h.full }

-- ---- lanes of told texts
-- lanes of these texts, of which the first is this one
record LanesOf (reads : Reads) (slack : Option ℤ) (time : ℤ) (s : ℕ) (texts : List (List ℕ)) (cuts : List LaneCut) : Type 0 where
  shards : List ReadTo
  are_places : ArePlaces shards
  texts_are : map whole shards ≡ texts
  safe : IsTrue (is_safe (At time) (lows_from reads slack s shards))
  cuts_are : cuts ≡ lanes_from reads slack s (At time) shards

-- one lane
record LaneOf (reads : Reads) (slack : Option ℤ) (time : ℤ) (s : ℕ) (text : List ℕ) (cut : LaneCut) : Type 0 where
  place : ReadTo
  is_place : IsPlace place
  text_is : whole place ≡ text
  safe : IsAtMost (At time) (low_at reads slack s place)
  cut_is : cut ≡ lane_at reads slack s (At time) place

get-seam : {X : Type 0} (xs : List X) (y : X) (ys : List X) → slice_get (xs ++ y ∷ ys) (length xs) ≡ Some y
get-seam [] y ys = refl
get-seam (x ∷ xs) y ys = get-seam xs y ys

module _ (reads : Reads) (slack : Option ℤ) (time : ℤ) (b : Known) (are : AreLanes b) where
  lane_of : (s : ℕ) (text : List ℕ) (given : Option (List ℕ)) (cut : LaneCut) → s < b.lanes → (b.set s).reads ≡ reads → (b.set s).slack ≡ slack → given ≡ Some text
      → IsSnap given (b.set s) (At time) cut → LaneOf reads slack time s text cut
  lane_of s text given cut l r k e h =
      let told : IsOfText (b.set s) (At time) h.state text = subst (λ (o : Option (List ℕ)). IfSome o (IsOfText (b.set s) (At time) h.state)) e h.at.told in
      let is : LaneIs (b.set s) text (At time) h.state = told.is in
      record {
        place = is.place;
        is_place = is.is_place;
        text_is = is.text_is;
        safe = subst (λ (low : Mark). IsAtMost (At time) low) (λ i. low_at (r i) (k i) (are.shard s l i) is.place) is.safe;
        cut_is = h.cut_is ∙ is.cut ∙ (λ i. lane_at (r i) (k i) (are.shard s l i) (At time) is.place);
      }

  lanes_of : (front texts : List (List ℕ)) (s : ℕ) (cuts : List LaneCut) → ReadTexts reads slack (front ++ texts) b → length front ≡ s → length cuts ≡ length texts
      → SnapsFrom (Some (front ++ texts)) (At time) b s cuts → LanesOf reads slack time s texts cuts
  lanes_of front [] s [] read at e h = record { shards = []; are_places = tt; texts_are = refl; safe = refl; cuts_are = refl }
  lanes_of front (text ∷ texts) s [] read at e h = absurd (omega (arith, e))
  lanes_of front [] s (cut ∷ cuts) read at e h = absurd (omega (arith, e))
  lanes_of front (text ∷ texts) s (cut ∷ cuts) read at e h =
      let count = sym read.count ∙ length-append front (text ∷ texts) in
      let place : s < b.lanes = omega (arith, count, at) in
      let moved : (front ++ text ∷ []) ++ texts ≡ front ++ text ∷ texts = append_assoc front (text ∷ []) texts in
      let one = lane_of s text (text_at (Some (front ++ text ∷ texts)) s) cut place (read.reads_are s place) (read.slack_is s place)
      (ap (λ (k : ℕ). slice_get (front ++ text ∷ texts) k) (sym at) ∙ get-seam front text texts) h.0 in
      let rest = lanes_of (front ++ text ∷ []) texts (s + 1) cuts (subst (λ (l : List (List ℕ)). ReadTexts reads slack l b) (sym moved) read)
      (let l = length-append front (text ∷ []) in omega (arith, l, at)) (omega (arith, e))
      (subst (λ (l : List (List ℕ)). SnapsFrom (Some l) (At time) b (s + 1) cuts) (sym moved) h.1) in
      record {
        shards = one.place ∷ rest.shards;
        are_places = (one.is_place, rest.are_places);
        texts_are = λ i. one.text_is i ∷ rest.texts_are i;
        safe = true_both (is_le (mark_cmp (At time) (low_at reads slack s one.place))) (is_safe (At time) (lows_from reads slack (s + 1) rest.shards)) one.safe rest.safe;
        cuts_are = λ i. one.cut_is i ∷ rest.cuts_are i;
      }

are_lanes_of : (reads : Reads) (slack : Option ℤ) (texts : List (List ℕ)) (time : ℤ) (b : Known) (cuts : List LaneCut) → BenchIsOfTexts reads slack texts (At time) b
    → SnapsAll (Some texts) (At time) b cuts → AreLanesOf reads slack texts time cuts
are_lanes_of reads slack texts time b cuts of h =
    let is = lanes_of reads slack time b of.lanes.are [] texts 0 cuts of.read refl (let a = h.count in let c = of.read.count in omega (arith, a, c)) h.each in
    record { shards = is.shards; are_places = is.are_places; texts_are = is.texts_are; safe = is.safe; lanes_are = is.cuts_are }

-- ---- a cut
abbrev LaneAscends : LaneCut → Type 0
LaneAscends lane = Ascend lane.items

snaps_ascend : (texts : Option (List (List ℕ))) (mark : Mark) (b : Known) (s : ℕ) (cuts : List LaneCut) → SnapsFrom texts mark b s cuts → All LaneAscends cuts
snaps_ascend texts mark b s [] h = All-nil LaneAscends
snaps_ascend texts mark b s (cut ∷ cuts) h =
    All-cons LaneAscends cut cuts (subst LaneAscends (sym h.0.cut_is) h.0.at.holds.ascends) (snaps_ascend texts mark b (s + 1) cuts h.1)

abbrev cut_with : CutHead → ℤ → BookState → List LaneCut → List Holder → Cut
cut_with head time book lanes holders = record { head = head; mark = time; lanes = lanes; holders = holders; book = book.kept }

saved_with : (head : CutHead) (time : ℤ) (b : Known) (book : BookState) (lanes : List LaneCut) (holders : List Holder)
    → LanesAreAt None (At time) b → BookKeepsNumbers book.kept → IsHeadOf head b
    → ((texts : Option (List (List ℕ))) (mark : Mark) → LanesAreAt texts mark b → SnapsAll texts mark b lanes)
    → ((rules : Rules) (all : List Holder) → AreAtRest rules all (At time) b → holders ≡ alive_holders rules.span time (pending_after rules all []))
    → HoldersAreInOrder holders → All IsFull holders → TypesSay (cut_with head time book lanes holders)
    → IsSavedAt head time b book (cut_with head time book lanes holders)
saved_with head time b book lanes holders at numbers is snaps held order full says =
    let snapped = snaps None (At time) at in
    let ascend = snaps_ascend None (At time) b 0 lanes snapped.each in
    record {
      head_is = refl;
      mark_is = refl;
      book_is = refl;
      is_cut = record {
        names = is.names;
        stands = record {
          lane_for_each = snapped.count ∙ sym is.shards;
          items = λ k d l. (ascend k d l, says.routes k d l);
          holders = order;
          chains = λ k d l. (full k d l, says.holders k d l);
          book = λ k d l. ((numbers k d l).ascend, says.book k d l);
        };
      };
      lanes = λ reads slack texts of. are_lanes_of reads slack texts time b lanes of (snaps (Some texts) (At time) of.lanes);
      holders = held;
    }

pub is_saved : (head : CutHead) (time : ℤ) (b : Known) (book : BookState) (lanes : List LaneCut) (holders : List Holder) (cut : Cut)
    → cut ≡ record { head = head; mark = time; lanes = lanes; holders = holders; book = book.kept }
    → LanesAreAt None (At time) b → BookKeepsNumbers book.kept → IsHeadOf head b
    → ((texts : Option (List (List ℕ))) (mark : Mark) → LanesAreAt texts mark b → SnapsAll texts mark b lanes)
    → ((rules : Rules) (all : List Holder) → AreAtRest rules all (At time) b → holders ≡ alive_holders rules.span time (pending_after rules all []))
    → HoldersAreInOrder holders → All IsFull holders → TypesSay cut → IsSavedAt head time b book cut
is_saved head time b book lanes holders cut e at numbers is snaps held order full says =
    subst (IsSavedAt head time b book) (sym e) (saved_with head time b book lanes holders at numbers is snaps held order full (subst TypesSay e says))
