-- The bench of lanes that begin, afresh or with a cut, and of parts with their pending sequences: a run may begin on it.
use Rattle.std.proofs.Common.{◌≡◌, ◌≤◌, ◌<◌, ℕ, ℤ, true, List, [], Option, None, Some, All, length, refl, sym, ap, ◌∙◌, subst}
use Rattle.std.specs.Prelude.{IsSomeAnd, option_map, slice_get}
use Rattle.std.proofs.lemmas.Option.{slice_get-map}
use Rattle.std.proofs.lemmas.List.Elements.{All-nil}
use Rattle.eql_values.specs.Accepted.{Reads}
use Rattle.eql_values.specs.declared.cut.BookCut.{BookCut}
use Rattle.eql_values.specs.declared.cut.LaneCut.{LaneCut}
use Rattle.eql_values.specs.declared.cut.Pipe.{Pipe}
use Rattle.eql_values.specs.declared.found.Holder.{Holder}
use Rattle.eql_values.specs.declared.order.Mark.{Mark}
use Rattle.eql_values.specs.declared.order.Mark.TheVariants.{Start, At, End}
use Rattle.eql_laws.specs.Alive.{IsSpan}
use Rattle.eql_laws.specs.Belows.{IsReading}
use Rattle.eql_laws.specs.Fitting.{Kept, Run}
use Rattle.eql_laws.specs.Shapes.{HasStageBefore, IsFull}
use Rattle.eql_lane.specs.Lanes.{LaneState, Setting, beginning_lane, fresh_cut as fresh_lane}
use Rattle.eql_lane.specs.Views.{LaneView}
use Rattle.eql_parts.specs.Inboxes.{HolderIsBelow}
use Rattle.eql_parts.specs.PartSteps.{PartState, PartView, Rules as PartRules}
use Rattle.eql_conductor.specs.Finding.{own_of}
use Rattle.eql_book.specs.Books.{BookState}
use Rattle.eql_book.specs.Laws.{fresh_cut as fresh_book}
use Rattle.eql_book.proofs.Wholes.{fresh_is_of_none}
use Rattle.eql_conductor.specs.declared.plan.RunPlan.{RunPlan}
use Rattle.eql_conductor.specs.Benches.{Known}
use Rattle.eql_conductor.specs.Lists.{known_in, rules_in, set_in}
use Rattle.eql_conductor.specs.Openings.{BeginsAt, CutBegins, FreshBegins, IsBegun, IsCutOfTexts, IsPlanned, OpensAt, OpensFresh, OpensFrom, SuitsBench, TellsTexts, begun_part}
use Rattle.eql_conductor.specs.Rounds.{BenchIsOfTexts}
use Rattle.eql_conductor.specs.RunLaws.{HavePlayed}
use Rattle.eql_conductor.specs.Runs.{MayRun}
use Rattle.eql_conductor.proofs.Lists.{there_or}
use Rattle.eql_conductor.proofs.Listed.{cut_have_played, fresh_have_played}
use Rattle.eql_conductor.proofs.MayBegin.{fit_may_begin}
use Rattle.eql_conductor.proofs.Opened.{fresh_runs_begin}
use Rattle.eql_conductor.proofs.OpenedCuts.{cut_runs_begin, cut_runs_have_texts, fit_is_safe}
use Rattle.eql_search.specs.Beginnings.{BeginsFrom, BeginsOn, MayBegin, cuts_of, run_by, start_at}
use Rattle.eql_search.specs.Running.{AreOwnParts, MayBeginPart}
use Rattle.eql_search.specs.Searches.{AreBegunFrom, AreTextsOf, Rules}
use Rattle.eql_search.proofs.Places.{all_at}
use Rattle.eql_search.proofs.Texts.{begun_at, told_count}

-- the state of a lane in a list, and that of a fresh lane past its end
abbrev state_in : {S L : Type 0} → Option (LaneView S L) → LaneState
state_in None = beginning_lane fresh_lane 0
state_in (Some lane) = lane.state

-- ---- parts may begin
pub part_may_begin : (by : Rules) (pipes : List Pipe) (mark : Mark) (lanes : List LaneCut) (holders : List Holder) (book : BookCut) → MayBegin by pipes mark lanes holders book → (p : ℕ) → MayBeginPart by.stages mark (own_of holders p)
part_may_begin by pipes Start lanes holders book begins p =
    subst (λ (all : List Holder). MayBeginPart by.stages Start (own_of all p)) (sym begins.none)
    (record { order = refl; before = All-nil (HasStageBefore by.stages); full = All-nil IsFull; below = All-nil (HolderIsBelow Start) })
part_may_begin by pipes (At time) lanes holders book begins p =
    let may = (fit_may_begin (run_by by pipes begins.values begins.slack) (length lanes) (record { time = time; lanes = lanes; holders = holders; book = book }) begins.fits).parts p in
    record { order = may.order; before = may.before; full = may.full; below = may.below }
part_may_begin by pipes End lanes holders book begins p = absurd begins

module _ {S L : Type 0} (left : S → Option (List ℕ)) (read_of : L → Reads) (reads : Reads) (slack : Option ℤ) (stages : ℕ) (span : Option ℤ) (text : ℕ → Option (List ℕ))
    (lanes : List (LaneView S L)) (holders : List Holder) (parts : List PartView) (plan : RunPlan) (book : BookState) where
  abbrev by : Rules
  by = record { reads = reads; slack = slack; stages = stages; span = span }

  abbrev rules : PartRules
  rules = record { stages = stages; span = span }

  -- what is known of the bench
  abbrev known : Known
  known = known_in read_of text lanes parts

  -- what a search begins with is a cut of these texts, where there is one
  abbrev On : Mark → List (List ℕ) → Type 0
  On mark texts = BeginsOn by book.pipes texts (start_at mark (cuts_of lanes) holders book.kept)

  -- so a run may begin at this mark; and over told texts all events below it were played
  pub record BeginsSo (mark : Mark) : Type 0 where
    pub begins : BeginsAt rules holders mark known
    pub may_run : MayRun plan known book
    pub of_texts : (texts : List (List ℕ)) → ((s : ℕ) → text s ≡ slice_get texts s) → AreTextsOf left texts lanes → On mark texts → BenchIsOfTexts reads slack texts mark known
    pub played : (texts : List (List ℕ)) → On mark texts → HavePlayed rules reads slack texts mark holders book

  module _ (readers : (reader : L) → IsReading (read_of reader)) (begun_lanes : AreBegunFrom read_of reads slack 0 lanes) (are : AreOwnParts rules holders plan.mark parts) (is_span : IsSpan span) where
    lane_of : (s : ℕ) → s < length lanes → (lane : LaneView S L) × (slice_get lanes s ≡ Some lane)
    lane_of s l = there_or lanes s l

    set_is : (s : ℕ) (lane : LaneView S L) → slice_get lanes s ≡ Some lane → known.set s ≡ set_in read_of (text s) (Some lane)
    set_is s lane there = ap (set_in read_of (text s)) there

    abbrev lane_state : ℕ → LaneState
    lane_state s = state_in (slice_get lanes s)

    abbrev part_state : ℕ → PartState
    part_state p = begun_part rules (own_of holders p) plan.mark

    opens_at : OpensAt known lane_state part_state rules
    opens_at = record {
      opened = record {
        lanes = λ s l x has. (0, has.state_is ∙ sym (ap state_in has.there));
        parts = λ p l x has. (0, has.state_is ∙ ap (λ (part : PartView). part.state) (are.each p has.part has.there));
      };
      are_lanes = record {
        shard = λ s l.
            let one = lane_of s l in
            ap (λ (set : Setting). set.shard) (set_is s one.0 one.1) ∙ (begun_at read_of reads slack lanes begun_lanes s one.0 one.1).shard_is;
        reading = λ s l.
            let one = lane_of s l in
            subst (λ (set : Setting). IsReading set.reads) (sym (set_is s one.0 one.1)) (readers one.0.reader);
      };
      are_parts = record {
        count = are.count;
        each = λ p l.
            let one = there_or parts p l in
            ap rules_in one.1 ∙ ap (λ (part : PartView). part.rules) (are.each p one.0 one.1);
        span = is_span;
      };
    }

    -- a lane that is there began with its own cut
    began : (s : ℕ) → s < length lanes → IsBegun (lane_state s).cut (lane_state s)
    began s l =
        let one = lane_of s l in
        subst (λ (o : Option (LaneView S L)). IsBegun (state_in o).cut (state_in o)) (sym one.1)
        (begun_at read_of reads slack lanes begun_lanes s one.0 one.1).state_is

    cut_at : (s : ℕ) → s < length lanes → slice_get (cuts_of lanes) s ≡ Some (lane_state s).cut
    cut_at s l =
        let one = lane_of s l in
        slice_get-map (λ (lane : LaneView S L). lane.state.cut) lanes s
        ∙ subst (λ (o : Option (LaneView S L)). option_map (λ (lane : LaneView S L). lane.state.cut) o ≡ Some (state_in o).cut) (sym one.1) refl

    -- the lanes tell these texts
    tells : (texts : List (List ℕ)) → ((s : ℕ) → text s ≡ slice_get texts s) → AreTextsOf left texts lanes → TellsTexts reads slack texts known
    tells texts e texts_are = record {
      read = record {
        count = told_count left texts lanes texts_are;
        reads_are = λ s l.
            let one = lane_of s l in
            ap (λ (set : Setting). set.reads) (set_is s one.0 one.1) ∙ (begun_at read_of reads slack lanes begun_lanes s one.0 one.1).reads_are;
        slack_is = λ s l.
            let one = lane_of s l in
            ap (λ (set : Setting). set.slack) (set_is s one.0 one.1) ∙ (begun_at read_of reads slack lanes begun_lanes s one.0 one.1).slack_is;
      };
      have = λ s l.
          let one = lane_of s l in
          ap (λ (set : Setting). set.text) (set_is s one.0 one.1) ∙ e s;
    }

    module _ (batch_from : 1 ≤ plan.batch) (batch_to : plan.batch ≤ 4096) (some : 1 ≤ length lanes) (whole : book.whole ≡ true) where
      planned : (mark : Mark) → plan.mark ≡ mark → IsPlanned plan mark known book
      planned mark e = record { batch_from = batch_from; batch_to = batch_to; mark_is = e; some_lane = some; whole = whole }

      -- ---- afresh
      module _ (at_start : plan.mark ≡ Start) (none : holders ≡ []) (fresh : All (λ (lane : LaneCut). lane ≡ fresh_lane) (cuts_of lanes)) where
        fresh_cut_is : (s : ℕ) → s < length lanes → (lane_state s).cut ≡ fresh_lane
        fresh_cut_is s l = all_at (λ (lane : LaneCut). lane ≡ fresh_lane) (cuts_of lanes) fresh s (lane_state s).cut (cut_at s l)

        opens_fresh : OpensFresh known lane_state part_state rules
        opens_fresh = record {
          opens = opens_at;
          lanes = λ s l. began s l ∙ ap (λ (cut : LaneCut). beginning_lane cut (lane_state s).faults) (fresh_cut_is s l);
          parts = λ p l. λ i. begun_part rules (own_of (none i) p) (at_start i);
        }

        fresh_begins : FreshBegins rules known
        fresh_begins = fresh_runs_begin known lane_state part_state rules opens_fresh

        begins_fresh : book.kept ≡ fresh_book book.pipes → BeginsSo Start
        begins_fresh kept_is = record {
          begins = subst (λ (all : List Holder). BeginsAt rules all Start known) (sym none) fresh_begins.begins;
          may_run = fresh_begins.may_run plan book (planned Start at_start) kept_is;
          of_texts = λ texts e texts_are on. fresh_begins.told reads slack texts (tells texts e texts_are);
          played = λ texts on. subst (λ (all : List Holder). HavePlayed rules reads slack texts Start all book) (sym none)
              (fresh_have_played fresh_is_of_none rules reads slack texts book kept_is);
        }

      -- ---- with a cut
      module _ (time : ℤ) (at_time : plan.mark ≡ At time) (from : BeginsFrom by book.pipes (length (cuts_of lanes)) (record { time = time; lanes = cuts_of lanes; holders = holders; book = book.kept })) where
        abbrev kept : Kept
        kept = record { time = time; lanes = cuts_of lanes; holders = holders; book = book.kept }

        abbrev bounds : Run
        bounds = run_by by book.pipes from.values from.slack

        abbrev run : Run
        run = run_by by book.pipes 0 from.slack

        opens_from : OpensFrom known lane_state part_state rules kept
        opens_from = record {
          opens = opens_at;
          cuts = cut_at;
          lanes = began;
          parts = λ p l. ap (begun_part rules (own_of holders p)) at_time;
        }

        suits : SuitsBench bounds (length (cuts_of lanes)) rules kept known
        suits = record {
          fits = from.fits;
          stands = from.stands;
          stages = refl;
          slack = λ s l.
              let one = lane_of s l in
              ap (λ (set : Setting). set.slack) (set_is s one.0 one.1) ∙ (begun_at read_of reads slack lanes begun_lanes s one.0 one.1).slack_is ∙ from.slack_is;
        }

        cut_begins : CutBegins rules kept known
        cut_begins = cut_runs_begin known lane_state part_state rules bounds (length (cuts_of lanes)) kept opens_from suits

        is_cut : (texts : List (List ℕ)) → On (At time) texts → IsCutOfTexts run reads texts kept
        is_cut texts on =
            let P : ℤ → Type 0 = λ s. IsCutOfTexts (run_by by book.pipes 0 s) reads texts kept in
            let Q : Option ℤ → Type 0 = λ o. IsSomeAnd o P in
            subst Q from.slack_is on

        begins_from : BeginsSo (At time)
        begins_from = record {
          begins = cut_begins.begins;
          may_run = cut_begins.may_run plan book (planned (At time) at_time) refl;
          of_texts = λ texts e texts_are on.
              subst (λ (o : Option ℤ). BenchIsOfTexts reads o texts (At time) known) (sym from.slack_is)
              (cut_runs_have_texts known lane_state part_state rules run reads texts kept opens_from (is_cut texts on)
              (fit_is_safe bounds (length (cuts_of lanes)) kept from.fits)
              (subst (λ (o : Option ℤ). TellsTexts reads o texts known) from.slack_is (tells texts e texts_are)));
          played = λ texts on.
              subst (λ (o : Option ℤ). HavePlayed rules reads o texts (At time) holders book) (sym from.slack_is)
              (cut_have_played run reads texts kept book (is_cut texts on) refl refl);
        }

      begins_by : (mark : Mark) → plan.mark ≡ mark → MayBegin by book.pipes mark (cuts_of lanes) holders book.kept → BeginsSo mark
      begins_by Start e may = begins_fresh e may.none may.lanes_are may.book_is
      begins_by (At time) e may = begins_from time e may
      begins_by End e may = absurd may

      pub begins : MayBegin by book.pipes plan.mark (cuts_of lanes) holders book.kept → BeginsSo plan.mark
      begins may = begins_by plan.mark refl may
