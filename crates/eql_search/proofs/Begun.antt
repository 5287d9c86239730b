-- What is known of a bench is known of one that may be in the same states.
use Rattle.std.proofs.Common.{◌<◌, ℕ, ℤ, List, Option, Some, sym, ◌∙◌, ap, arith, subst}
use Rattle.eql_values.specs.Accepted.{Reads}
use Rattle.eql_values.specs.declared.found.Holder.{Holder}
use Rattle.eql_values.specs.declared.order.Mark.{Mark}
use Rattle.eql_laws.specs.Belows.{IsReading}
use Rattle.eql_lane.specs.Lanes.{Setting}
use Rattle.eql_parts.specs.PartSteps.{Rules}
use Rattle.eql_conductor.specs.LaneCalls.{LaneIsAt}
use Rattle.eql_conductor.specs.Benches.{Known}
use Rattle.eql_conductor.specs.LaneRounds.{AreLanes, LanesAreAt, text_at}
use Rattle.eql_conductor.specs.PartRounds.{AreAtRest}
use Rattle.eql_conductor.specs.Rounds.{BenchIsOfTexts}
use Rattle.eql_hub_run.specs.Beside.{IsSameBench}

module _ (a b : Known) (same : IsSameBench a b) where
  -- a lane or part of the one is one of the other
  lane_of : (s : ℕ) → s < b.lanes → s < a.lanes
  lane_of s l = let e = same.lanes in omega (arith, l, e)

  part_of : (p : ℕ) → p < b.parts → p < a.parts
  part_of p l = let e = same.parts in omega (arith, l, e)

  same_lanes : AreLanes a → AreLanes b
  same_lanes are = record {
    shard = λ s l. ap (λ (set : Setting). set.shard) (same.set s) ∙ are.shard s (lane_of s l);
    reading = λ s l. subst (λ (set : Setting). IsReading set.reads) (sym (same.set s)) (are.reading s (lane_of s l));
  }

  lanes_at : (texts : Option (List (List ℕ))) (mark : Mark) → LanesAreAt texts mark a → LanesAreAt texts mark b
  lanes_at texts mark at = record {
    are = same_lanes at.are;
    each = λ s l x has. subst (λ (set : Setting). LaneIsAt (text_at texts s) set mark x) (sym (same.set s)) (at.each s (lane_of s l) x (same.lane_from s x has));
  }

  pub same_texts : (reads : Reads) (slack : Option ℤ) (texts : List (List ℕ)) (mark : Mark) → BenchIsOfTexts reads slack texts mark a → BenchIsOfTexts reads slack texts mark b
  same_texts reads slack texts mark of = record {
    read = record {
      count = of.read.count ∙ sym same.lanes;
      reads_are = λ s l. ap (λ (set : Setting). set.reads) (same.set s) ∙ of.read.reads_are s (lane_of s l);
      slack_is = λ s l. ap (λ (set : Setting). set.slack) (same.set s) ∙ of.read.slack_is s (lane_of s l);
    };
    lanes = lanes_at (Some texts) mark of.lanes;
  }

  pub same_rests : (rules : Rules) (all : List Holder) (mark : Mark) → AreAtRest rules all mark a → AreAtRest rules all mark b
  same_rests rules all mark rests = record {
    are = record {
      count = same.parts ∙ rests.are.count;
      each = λ p l. same.rules p ∙ rests.are.each p (part_of p l);
      span = rests.are.span;
    };
    each = λ p l x has. rests.each p (part_of p l) x (same.part_from p x has);
  }
