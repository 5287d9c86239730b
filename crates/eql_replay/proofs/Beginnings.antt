-- What is known of a bench, by what is known of each of its lanes and parts.
use Rattle.std.proofs.Common.{◌≡◌, ℕ, ℤ, List, [], Option, Some, All, length, sym, ap, ◌∙◌, subst}
use Rattle.std.specs.Prelude.{slice_get}
use Rattle.std.proofs.lemmas.List.Elements.{All-nil}
use Rattle.eql_values.specs.Accepted.{Reads}
use Rattle.eql_values.specs.declared.found.Holder.{Holder}
use Rattle.eql_values.specs.declared.order.Mark.{Mark}
use Rattle.eql_laws.specs.Alive.{IsSpan}
use Rattle.eql_laws.specs.Belows.{IsReading}
use Rattle.eql_lane.specs.Lanes.{Setting}
use Rattle.eql_lane.specs.Views.{LaneView, setting_of}
use Rattle.eql_parts.specs.PartSteps.{PartView, Rules}
use Rattle.eql_conductor.specs.LaneCalls.{LaneIsAt}
use Rattle.eql_conductor.specs.LaneRounds.{LanesAreAt, text_at}
use Rattle.eql_conductor.specs.PartRounds.{IsAtRest, AreAtRest}
use Rattle.eql_conductor.specs.Rounds.{BenchIsOfTexts}
use Rattle.eql_conductor.specs.Lists.{PoolView, rules_in, set_in}
use Rattle.eql_conductor.proofs.Lists.{there_or}
use Rattle.eql_replay.specs.declared.foreign.Foreign.{Foreign}
use Rattle.eql_replay.specs.declared.noted.Noted.{Noted}
use Rattle.eql_replay.specs.Listed.{known_of}
use Rattle.eql_replay.specs.Noting.{fails_in}
use Rattle.eql_replay.specs.Opened.{FeedsElsewhere, IsQuiet, NoneFeeds}

-- a lane is of the shard of its place, is read as a reader reads, and is known at the mark
pub record IsLaneAt {S L : Type 0} (read_of : L → Reads) (text told : Option (List ℕ)) (s : ℕ) (mark : Mark) (lane : LaneView S L) : Type 0 where
  pub shard : lane.shard ≡ s
  pub reading : IsReading (read_of lane.reader)
  pub at : LaneIsAt told (setting_of read_of text lane) mark lane.state

module _ {S L : Type 0} (read_of : L → Reads) (text : ℕ → Option (List ℕ)) (pool : PoolView S L) (notes : List Noted) where
  pub lanes_at : (texts : Option (List (List ℕ))) (mark : Mark)
      → ((s : ℕ) (lane : LaneView S L) → slice_get pool.lanes s ≡ Some lane → IsLaneAt read_of (text s) (text_at texts s) s mark lane) → LanesAreAt texts mark (known_of read_of text pool notes)
  lanes_at texts mark each = record {
    are = record {
      shard = λ s l.
          let one = there_or pool.lanes s l in
          ap (λ (set : Setting). set.shard) (ap (set_in read_of (text s)) one.1) ∙ (each s one.0 one.1).shard;
      reading = λ s l.
          let one = there_or pool.lanes s l in
          subst (λ (set : Setting). IsReading set.reads) (sym (ap (set_in read_of (text s)) one.1)) (each s one.0 one.1).reading;
    };
    each = λ s l x has.
        subst (λ (set : Setting). LaneIsAt (text_at texts s) set mark x) (sym (ap (set_in read_of (text s)) has.there))
        (subst (λ z. LaneIsAt (text_at texts s) (setting_of read_of (text s) has.lane) mark z) (sym has.state_is) (each s has.lane has.there).at);
  }

  -- of told texts, where all lanes read alike
  pub of_texts : (reads : Reads) (slack : Option ℤ) (texts : List (List ℕ)) (mark : Mark) → length texts ≡ length pool.lanes
      → ((s : ℕ) (lane : LaneView S L) → slice_get pool.lanes s ≡ Some lane → (read_of lane.reader ≡ reads) × (lane.slack ≡ slack))
      → ((s : ℕ) (lane : LaneView S L) → slice_get pool.lanes s ≡ Some lane → IsLaneAt read_of (text s) (slice_get texts s) s mark lane)
      → BenchIsOfTexts reads slack texts mark (known_of read_of text pool notes)
  of_texts reads slack texts mark count alike each = record {
    read = record {
      count = count;
      reads_are = λ s l.
          let one = there_or pool.lanes s l in
          ap (λ (set : Setting). set.reads) (ap (set_in read_of (text s)) one.1) ∙ (alike s one.0 one.1).0;
      slack_is = λ s l.
          let one = there_or pool.lanes s l in
          ap (λ (set : Setting). set.slack) (ap (set_in read_of (text s)) one.1) ∙ (alike s one.0 one.1).1;
    };
    lanes = lanes_at (Some texts) mark each;
  }

  -- sixteen parts at rest
  pub parts_rest : (rules : Rules) (all : List Holder) (mark : Mark) → length pool.parts ≡ 16 → IsSpan rules.span
      → ((p : ℕ) (part : PartView) → slice_get pool.parts p ≡ Some part → (part.rules ≡ rules) × IsAtRest rules all mark p part.state) → AreAtRest rules all mark (known_of read_of text pool notes)
  parts_rest rules all mark count span each = record {
    are = record {
      count = count;
      each = λ p l. let one = there_or pool.parts p l in ap rules_in one.1 ∙ (each p one.0 one.1).0;
      span = span;
    };
    each = λ p l x has. subst (λ z. IsAtRest rules all mark p z) (sym has.state_is) (each p has.part has.there).1;
  }

-- ---- lanes that stay quiet
-- others feed no lane where nothing is played by others
pub none_feeds : (s : ℕ) → NoneFeeds s []
none_feeds s = All-nil (λ (foreigns : List Foreign). All (FeedsElsewhere s) foreigns)

-- a lane is quiet that others don't feed, where no feed failed since there were no notes
pub stays_quiet : (plays : List (List Foreign)) (s : ℕ) (old new : List Noted) → NoneFeeds s plays → old ≡ [] → fails_in s new ≡ fails_in s old → IsQuiet plays new s
stays_quiet plays s old new none empty same = (none, same ∙ ap (fails_in s) empty)
