-- What is known once a lane was taken from.
use Rattle.std.proofs.Common.{◌≡◌, ◌≢◌, inl, inr, ◌+◌, ◌++◌, ◌<◌, ℕ, zero, suc, List, [], ◌∷◌, Option, length, sym, ap, ◌∙◌, arith, subst, length-append}
use Rattle.eql_values.specs.declared.item.Item.{Item}
use Rattle.eql_values.specs.declared.order.Mark.{Mark}
use Rattle.eql_laws.specs.Belows.{IsReading}
use Rattle.eql_laws.specs.Lateness.{IsAtMost}
use Rattle.eql_laws.proofs.MarkLemmas.{at_most_trans}
use Rattle.eql_lane.specs.declared.ops.LaneOp.TheVariants as op
use Rattle.eql_lane.specs.declared.ops.LaneReply.TheVariants as reply
use Rattle.eql_lane.specs.Lanes.{Setting, LaneState, low}
use Rattle.eql_conductor.specs.LaneCalls.{LaneIsAt, HandsOver, TakesTo}
use Rattle.eql_conductor.proofs.Laning.{feed_keeps_lane, take_moves_lane}
use Rattle.eql_conductor.specs.Benches.{Known, StaysSame, FeedsTimes, ComesByFeeds, LanePlays}
use Rattle.eql_conductor.specs.LaneRounds.{AreLanes, LanesAreAt, AreTakenTo, IsSafe, HandsFrom, TookTo, text_at}
use Rattle.eql_conductor.proofs.Resting.{same_or, was_lane}
use Rattle.eql_conductor.proofs.Onward.{fed_onward}

-- ---- feeds of others
fed_times_keep : (text : Option (List ℕ)) (set : Setting) (mark : Mark) (n : ℕ) (x y : LaneState) → IsReading set.reads → FeedsTimes set n x y → LaneIsAt text set mark x → LaneIsAt text set mark y
fed_times_keep text set mark zero x y reading h at = subst (LaneIsAt text set mark) (sym h) at
fed_times_keep text set mark (suc n) x y reading (mid, max, answer, step, rest) at =
    fed_times_keep text set mark n mid y reading rest (feed_keeps_lane text set mark x max answer mid reading step at)

pub fed_keeps : (text : Option (List ℕ)) (set : Setting) (mark : Mark) (x y : LaneState) → IsReading set.reads → ComesByFeeds set x y → LaneIsAt text set mark x → LaneIsAt text set mark y
fed_keeps text set mark x y reading h at = fed_times_keep text set mark h.0 x y reading h.1 at

pub lanes_are : (a b : Known) → StaysSame a b → AreLanes a → AreLanes b
lanes_are a b same h = record {
  shard = λ s l. let was = was_lane a b s same l in ap (λ (set : Setting). set.shard) (same.set s was) ∙ h.shard s was;
  reading = λ s l. let was = was_lane a b s same l in subst (λ (set : Setting). IsReading set.reads) (sym (same.set s was)) (h.reading s was);
}

-- ---- a take
module _ (s : ℕ) (last mark : Mark) (items : List Item) (a b : Known) (texts : Option (List (List ℕ))) (plays : LanePlays s (op.Take mark) (reply.Taken items) a b)
    (place : s < a.lanes) (safe : IsSafe mark a) (later : IsAtMost last mark) (was : AreTakenTo texts s last mark a) where
  taken_by : (y : LaneState) → b.lane s y → TakesTo (text_at texts s) (a.set s) last mark items y
  taken_by y here =
      let c = plays.called y here in
      let low_is : IsAtMost mark (low (a.set s) c.before) =
      at_most_trans mark (low (a.set s) c.first) (low (a.set s) c.before) ((safe.each s place).low_is c.first c.was) (fed_onward (a.set s) c.first c.before c.fed).low_up in
      take_moves_lane (text_at texts s) (a.set s) last mark c.before items y later low_is c.step
      (fed_keeps (text_at texts s) (a.set s) last c.first c.before (was.are.reading s place) c.fed (was.left s place (omega arith) c.first c.was))

  pub take_hands : HandsOver (text_at texts s) (a.set s) last mark items
  take_hands = (taken_by plays.some.0 plays.some.1).hands

  called_at : (y : LaneState) → b.lane s y → LaneIsAt (text_at texts s) (b.set s) mark y
  called_at y here = subst (λ (set : Setting). LaneIsAt (text_at texts s) set mark y) (sym (plays.same.set s place)) (taken_by y here).at

  other_at : (m : Mark) (k : ℕ) → k < b.lanes → k ≢ s → ((x : LaneState) → a.lane k x → LaneIsAt (text_at texts k) (a.set k) m x)
      → (y : LaneState) → b.lane k y → LaneIsAt (text_at texts k) (b.set k) m y
  other_at m k l apart at y here =
      let here_was = was_lane a b k plays.same l in
      let c = plays.others k here_was apart y here in
      subst (λ (set : Setting). LaneIsAt (text_at texts k) set m y) (sym (plays.same.set k here_was))
      (fed_keeps (text_at texts k) (a.set k) m c.0 y (was.are.reading k here_was) c.2 (at c.0 c.1))

  pub take_more : AreTakenTo texts (s + 1) last mark b
  take_more = record {
    are = lanes_are a b plays.same was.are;
    taken = λ k l below. elim (same_or k s) [
      | inl e ↦ subst (λ (j : ℕ). (y : LaneState) → b.lane j y → LaneIsAt (text_at texts j) (b.set j) mark y) (sym e) called_at
      | inr apart ↦ other_at mark k l apart (was.taken k (was_lane a b k plays.same l) (omega (arith, below, apart)))
    ];
    left = λ k l above. other_at last k l (λ e. omega (arith, e, above)) (was.left k (was_lane a b k plays.same l) (omega (arith, above)));
  }

-- ---- all lanes
pub taking_none : (texts : Option (List (List ℕ))) (last mark : Mark) (b : Known) → LanesAreAt texts last b → AreTakenTo texts 0 last mark b
taking_none texts last mark b h = record { are = h.are; taken = λ s l below. absurd (omega (arith, below)); left = λ s l above. h.each s l }

pub taken_all : (texts : Option (List (List ℕ))) (n : ℕ) (last mark : Mark) (b : Known) → n ≡ b.lanes → AreTakenTo texts n last mark b → LanesAreAt texts mark b
taken_all texts n last mark b e h = record { are = h.are; each = λ s l. h.taken s l (subst (λ (m : ℕ). s < m) (sym e) l) }

hands_last : (texts : Option (List (List ℕ))) (last mark : Mark) (b : Known) (s n : ℕ) (lists : List (List Item)) (items : List Item) → s + length lists ≡ n
    → HandsFrom texts last mark b s lists → HandsOver (text_at texts n) (b.set n) last mark items → HandsFrom texts last mark b s (lists ++ items ∷ [])
hands_last texts last mark b s n [] items e h one = (subst (λ (k : ℕ). HandsOver (text_at texts k) (b.set k) last mark items) (sym (omega (arith, e))) one, tt)
hands_last texts last mark b s n (first ∷ lists) items e h one = (h.0, hands_last texts last mark b (s + 1) n lists items (omega (arith, e)) h.1 one)

-- one more lane was taken from
pub took_more : (texts : Option (List (List ℕ))) (n : ℕ) (last mark : Mark) (a b c : Known) (lists more : List (List Item)) (items : List Item)
    → length lists ≡ n → n < a.lanes → StaysSame a b → more ≡ lists ++ items ∷ []
    → TookTo texts n last mark a b lists → HandsOver (text_at texts n) (b.set n) last mark items → AreTakenTo texts (n + 1) last mark c
    → TookTo texts (n + 1) last mark a c more
took_more texts n last mark a b c lists more items e l same push h one lanes = record {
  lanes = lanes;
  each = subst (HandsFrom texts last mark a 0) (sym push) (hands_last texts last mark a 0 n lists items (omega (arith, e)) h.each
      (subst (λ (set : Setting). HandsOver (text_at texts n) set last mark items) (same.set n l) one));
}

pub pushed_count : {X : Type 0} (old : List X) (x : X) (new : List X) (n : ℕ) → new ≡ old ++ x ∷ [] → length old ≡ n → length new ≡ n + 1
pushed_count {X} old x new n push e = let l = ap (λ (xs : List X). length xs) push ∙ length-append old (x ∷ []) in omega (arith, e, l)
