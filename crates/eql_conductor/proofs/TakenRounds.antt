-- What a round takes from the lanes, from its calls; and a round, from what it took.
use Rattle.std.proofs.Common.{◌≡◌, ◌≢◌, ◌+◌, ℕ, true, false, List, [], ◌∷◌, Option, None, length, sym, ap, ◌∙◌, arith, subst}
use Rattle.std.specs.Ordering.{is_le}
use Rattle.eql_values.specs.declared.item.Item.{Item}
use Rattle.eql_values.specs.declared.found.Match.{Match}
use Rattle.eql_values.specs.declared.found.Holder.{Holder}
use Rattle.eql_values.specs.declared.order.Mark.{Mark}
use Rattle.eql_values.specs.Marks.{mark_cmp}
use Rattle.eql_laws.proofs.MarkLemmas.{at_most_self}
use Rattle.eql_outside.specs.Written.{WroteFront}
use Rattle.eql_book.specs.Books.{BookState, let_out}
use Rattle.eql_book.specs.Listing.{listing}
use Rattle.eql_parts.specs.PartSteps.{Rules}
use Rattle.eql_conductor.specs.declared.note.Note.TheVariants as note
use Rattle.eql_conductor.specs.declared.reading.TakenRound.{TakenRound}
use Rattle.eql_conductor.specs.Benches.{Known, StaysSame, LanesRest, PartsRest, Rests}
use Rattle.eql_conductor.specs.Bounds.{FeedsAll, AllGaveOut, IsSomeLow}
use Rattle.eql_conductor.specs.Fitting.{TakesFitting}
use Rattle.eql_conductor.specs.Going.{LanesGo, Went}
use Rattle.eql_conductor.specs.Handed.{AllHandOut}
use Rattle.eql_conductor.specs.LaneRounds.{LanesAreAt}
use Rattle.eql_conductor.specs.PartRounds.{AreAtRest}
use Rattle.eql_conductor.specs.Reading.{TakesBelow, TakesNone, TakingBreaks}
use Rattle.eql_conductor.specs.RoundNotes.{NotesLanes, NotesLanesFront, NotesLooks, NotesLooksFront}
use Rattle.eql_conductor.specs.Rounds.{GoesTo, PlaysTo, RoundStops, found_by}
use Rattle.eql_conductor.proofs.BoundsSpent.{rest_spends, take_spends}
use Rattle.eql_conductor.proofs.FittingRounds.{found_same, plays_all}
use Rattle.eql_conductor.proofs.Handing.{handed_on, handed_to}
use Rattle.eql_conductor.proofs.MarkOrder.{at_most_other}
use Rattle.eql_conductor.proofs.NotedRounds.{feeding_broken, looking_broken, read_broken, read_noted, read_passes, rests_handed}
use Rattle.eql_conductor.proofs.Onward.{lanes_go_on, rest_goes, went_on}
use Rattle.eql_conductor.proofs.Ranges.{mark_in_range}
use Rattle.eql_conductor.proofs.Resting.{parts_on, rests_on}
use Rattle.eql_conductor.proofs.Stays.{lanes_stay, parts_stay, texts_stay}

-- ---- what a round takes
-- a mark that isn't at most another is apart from it
apart_by : (mark last : Mark) → is_le (mark_cmp mark last) ≡ false → mark ≢ last
apart_by mark last le e = let h : is_le (mark_cmp last last) ≡ false = subst (λ (m : Mark). is_le (mark_cmp m last) ≡ false) e le in let g = sym h ∙ at_most_self last in cc

-- others fed before
fitting_later : (last mark : Mark) (a b c : Known) (items : List Item) → Rests a b → TakesFitting last mark b c items → TakesFitting last mark a c items
fitting_later last mark a b c items rests h = record {
  all = h.all;
  items_are = h.items_are;
  can = h.can;
  told = λ reads slack texts of. h.told reads slack texts (texts_stay reads slack texts last a b rests.same rests.lanes of);
  handed = handed_to (length h.all) (0 + length h.all) a c (omega arith) (handed_on 0 (length h.all) a b c rests.same (rests_handed a b rests) h.handed);
}

pub feeding_stops : (last : Mark) (batch : ℕ) (a b : Known) → Rests a b → NotesLanesFront (λ s. note.Fed batch ∷ []) a b → TakingBreaks last batch a b
feeding_stops last batch a b rests h = record { parts = rests.parts; handed = rests_handed a b rests; notes = feeding_broken last batch a b h }

module _ (last : Mark) (batch : ℕ) (a b c : Known) (rests : Rests a b) (then : Rests b c) (fed : NotesLanes (λ s. note.Fed batch ∷ []) a b) where
  both : Rests a c
  both = rests_on a b c rests then

  pub looking_stops : NotesLooksFront b c → TakingBreaks last batch a c
  looking_stops h = record { parts = both.parts; handed = rests_handed a c both; notes = looking_broken last batch a b c rests then fed h }

  pub looked_goes : LanesGo a c
  looked_goes = rest_goes a c both.same both.lanes

  pub looked_at : LanesAreAt None last a → LanesAreAt None last c
  looked_at at = lanes_stay None last a c both.same both.lanes at

  module _ (mark : Mark) (looked : NotesLooks b c mark) (feeds : FeedsAll a b) (low : IsSomeLow mark b c) (went_fed : Went a b) (went_looked : Went b c) where
    -- it doesn't count
    pub takes_none : LanesAreAt None last a → is_le (mark_cmp mark last) ≡ true → TakesNone last batch a c
    takes_none at le = record {
      rests = both;
      reads = record {
        lanes = λ texts was. lanes_stay texts last a c both.same both.lanes was;
        parts = both.parts;
        went = went_on a b c went_fed went_looked;
        spends = rest_spends last mark a b c rests.same feeds low looked_goes then.same (looked_at at) le;
        in_range = tt;
        notes = read_passes last batch a b c rests then fed mark looked le;
      };
    }

    module _ (d : Known) (le : is_le (mark_cmp mark last) ≡ false) (goes : LanesGo c d) (parts : PartsRest c d) where
      -- the lanes couldn't be taken from
      pub taking_stops : AllHandOut 0 c d → NotesLanesFront (λ s. note.Took mark ∷ []) c d → TakingBreaks last batch a d
      taking_stops handed h = record {
        parts = parts_on a c d both.same both.parts parts;
        handed = handed_on 0 0 a c d both.same (rests_handed a c both) handed;
        notes = read_broken last batch a b c rests then fed mark looked d le h;
      }

      -- it counts
      pub takes_below : (items : List Item) → TakesFitting last mark c d items → ((texts : Option (List (List ℕ))) → LanesAreAt texts last c → LanesAreAt texts mark d)
          → Went c d → AllGaveOut mark c d → NotesLanes (λ s. note.Took mark ∷ []) c d → TakesBelow last batch a d (record { mark = mark; items = items })
      takes_below items fitting lanes went gave h = record {
        later = at_most_other mark last le;
        apart = apart_by mark last le;
        fitting = fitting_later last mark a c d items both fitting;
        reads = record {
          lanes = λ texts was. lanes texts (lanes_stay texts last a c both.same both.lanes was);
          parts = parts_on a c d both.same both.parts parts;
          went = went_on a c d (went_on a b c went_fed went_looked) went;
          spends = take_spends last mark a b c rests.same feeds low d (lanes_go_on a c d looked_goes goes) then.same gave;
          in_range = λ reads slack texts of. mark_in_range last mark reads slack texts a b c rests low of;
          notes = read_noted last batch a b c rests then fed mark looked d le h;
        };
      }

-- ---- a round whose events were played
module _ (last : Mark) (batch : ℕ) (a b c : Known) (taken : TakenRound) (took : TakesBelow last batch a b taken) (same : StaysSame a b)
    (book then : BookState) (before now : Option (List ℕ)) where
  pub taken_goes : StaysSame b c → LanesRest b c → ((rules : Rules) (all : List Holder) → AreAtRest rules all last b → PlaysTo rules all taken.items taken.mark c book then before now)
      → GoesTo last taken.mark a c book then before now
  taken_goes same_played lanes plays = record {
    later = took.later;
    lanes = λ texts at. lanes_stay texts taken.mark b c same_played lanes (took.reads.lanes texts at);
    items = took.fitting.all;
    told = took.fitting.told;
    played = λ rules all was.
        plays_all taken.items took.fitting.all took.fitting.items_are rules all taken.mark c book then before now
        (plays rules all (parts_stay rules all last a b same took.reads.parts was));
  }

  pub taken_breaks : (then.whole ≡ true → then ≡ book)
      → ((rules : Rules) (all : List Holder) → AreAtRest rules all last b → WroteFront (listing book.places (let_out book.pipes book.kept (found_by rules all taken.items))) before now)
      → RoundStops last a book then before now
  taken_breaks kept front = record {
    mark = taken.mark;
    later = took.later;
    breaks = record {
      whole = kept;
      told = λ reads slack texts rules all of was.
          subst (λ (l : List Match). WroteFront (listing book.places (let_out book.pipes book.kept l)) before now)
          (found_same taken.items took.fitting.all took.fitting.items_are rules all ∙ ap (found_by rules all) (took.fitting.told reads slack texts of))
          (front rules all (parts_stay rules all last a b same took.reads.parts was));
    };
  }
