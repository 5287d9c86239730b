-- What is known of lanes and parts stays as others feed and turn.
use Rattle.std.proofs.Common.{ℕ, ℤ, List, [], Option, Some, sym, ap, ◌∙◌, subst}
use Rattle.eql_values.specs.declared.found.Holder.{Holder}
use Rattle.eql_values.specs.declared.order.Mark.{Mark}
use Rattle.eql_values.specs.Accepted.{Reads}
use Rattle.eql_lane.specs.Lanes.{Setting}
use Rattle.eql_parts.specs.PartSteps.{Rules}
use Rattle.eql_conductor.specs.LaneCalls.{LaneIsAt}
use Rattle.eql_conductor.specs.Benches.{Known, StaysSame, ComesByTurns, LanesRest, PartsRest}
use Rattle.eql_conductor.specs.LaneRounds.{LanesAreAt, text_at}
use Rattle.eql_conductor.specs.PartRounds.{AreAtRest, AreSomehowAtRest}
use Rattle.eql_conductor.specs.Rounds.{BenchIsOfTexts, ReadTexts}
use Rattle.eql_conductor.proofs.Resting.{was_lane, was_part}
use Rattle.eql_conductor.proofs.Takes.{fed_keeps, lanes_are}
use Rattle.eql_conductor.proofs.Parted.{parts_are, rest_stays}

pub lanes_stay : (texts : Option (List (List ℕ))) (mark : Mark) (a b : Known) → StaysSame a b → LanesRest a b → LanesAreAt texts mark a → LanesAreAt texts mark b
lanes_stay texts mark a b same rest h = record {
  are = lanes_are a b same h.are;
  each = λ s l y here.
      let was = was_lane a b s same l in
      let c = rest.each s was y here in
      subst (λ (set : Setting). LaneIsAt (text_at texts s) set mark y) (sym (same.set s was))
      (fed_keeps (text_at texts s) (a.set s) mark c.0 y (h.are.reading s was) c.2 (h.each s was c.0 c.1));
}

pub parts_stay : (rules : Rules) (all : List Holder) (mark : Mark) (a b : Known) → StaysSame a b → PartsRest a b → AreAtRest rules all mark a → AreAtRest rules all mark b
parts_stay rules all mark a b same rest h = record {
  are = parts_are rules a b same h.are;
  each = λ p l y here.
      let was = was_part a b p same l in
      let c = rest.each p was y here in
      rest_stays rules all [] mark h.are.span p c.0 y (subst (λ (r : Rules). ComesByTurns r c.0 y) (h.are.each p was) c.2) (h.each p was c.0 c.1);
}

pub some_stay : (mark : Mark) (a b : Known) → StaysSame a b → PartsRest a b → AreSomehowAtRest mark a → AreSomehowAtRest mark b
some_stay mark a b same rest h = record { rules = h.rules; all = h.all; is = parts_stay h.rules h.all mark a b same rest h.is }

pub read_stays : (reads : Reads) (slack : Option ℤ) (texts : List (List ℕ)) (a b : Known) → StaysSame a b → ReadTexts reads slack texts a → ReadTexts reads slack texts b
read_stays reads slack texts a b same h = record {
  count = h.count ∙ sym same.lanes;
  reads_are = λ s l. let was = was_lane a b s same l in ap (λ (set : Setting). set.reads) (same.set s was) ∙ h.reads_are s was;
  slack_is = λ s l. let was = was_lane a b s same l in ap (λ (set : Setting). set.slack) (same.set s was) ∙ h.slack_is s was;
}

pub texts_stay : (reads : Reads) (slack : Option ℤ) (texts : List (List ℕ)) (mark : Mark) (a b : Known) → StaysSame a b → LanesRest a b → BenchIsOfTexts reads slack texts mark a → BenchIsOfTexts reads slack texts mark b
texts_stay reads slack texts mark a b same rest h = record {
  read = read_stays reads slack texts a b same h.read;
  lanes = lanes_stay (Some texts) mark a b same rest h.lanes;
}
