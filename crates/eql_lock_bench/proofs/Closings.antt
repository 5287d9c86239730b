-- What is known of the lanes and parts of a hub that is closed, by the hand that a bench gave back.
use Rattle.std.proofs.Common.{◌≡◌, ◌≢◌, ℕ, zero, suc, Bool, true, false, cond, List, [], ◌∷◌, ◌++◌, Option, Some, refl, sym, ap, ◌∙◌, subst, arith}
use Rattle.std.specs.Prelude.{All, slice_get, ◌==◌, if◌then◌else◌}
use Rattle.std.specs.List.{AllZip, count_by}
use Rattle.std.proofs.lemmas.List.Elements.{All-cons, All-head, All-nil, All-tail}
use Rattle.std.proofs.lemmas.Option.{same_Some}
use Rattle.eql_values.specs.Accepted.{Reads}
use Rattle.eql_outside.specs.Plans.{FaultPlan}
use Rattle.eql_outside.specs.Unfailing.{IsUnfailing}
use Rattle.eql_lane.specs.declared.ops.LaneOp.{LaneOp}
use Rattle.eql_lane.specs.declared.ops.LaneReply.{LaneReply}
use Rattle.eql_lane.specs.declared.ops.LaneReply.TheVariants as lane_reply
use Rattle.eql_lane.specs.Lanes.{Setting}
use Rattle.eql_lane.specs.Plays.{DidNotFail}
use Rattle.eql_lane.specs.Views.{IsSameLane, IsTextOf, LaneView, setting_of}
use Rattle.eql_parts.specs.PartSteps.{PartView, Rules}
use Rattle.eql_turn_lock.specs.declared.history.Entry.{Entry}
use Rattle.eql_turn_lock.specs.declared.view.View.{View}
use Rattle.eql_turn_lock.specs.Calls.{Closes}
use Rattle.eql_turn_lock.specs.History.{IsLegal, OthersOpen, StartsWith, calls_by}
use Rattle.eql_turn_lock.specs.Passes.{KnowsHistory, joined_view}
use Rattle.eql_turn_lock.proofs.Histories.{all_right, rest_is_of_others, starts_in, starts_self}
use Rattle.eql_lock_row.specs.Rows.{joined_views}
use Rattle.eql_conductor.specs.Benches.{ComesByFeeds, ComesByTurns}
use Rattle.eql_hub.specs.Hands.{LaneKnown, PartKnown}
use Rattle.eql_hub.specs.Turns.{IsLaneTurn, IsPartTurn, is_open_lane, is_open_part}
use Rattle.eql_lock_bench.specs.Locked.{did_fail, entry_failed}
use Rattle.eql_lock_bench.proofs.Counted.{count_cons}
use Rattle.eql_lock_bench.proofs.LaneRuns.{fed_all, stands_on as lane_stands_on, Stands as LaneStands}
use Rattle.eql_lock_bench.proofs.PartRuns.{turned_all, stands_on as part_stands_on, Stands as PartStands}
use Rattle.eql_lock_bench.proofs.Runs.{IsOpenTo, all_open, legal_keeps, legal_split}

-- a pass after others were joined into it: it has seen more, and its own calls are the same
pub record Further {T O R : Type 0} (old new : View T O R) : Type 0 where
  pub number : new.number ≡ old.number
  pub opening : new.opening ≡ old.opening
  pub mine : new.mine ≡ old.mine
  pub seen : StartsWith new.seen old.seen

-- the history of a value that came out of its lock: it goes on from what the first pass had seen by open entries of others alone
pub record ClosedFrom {T O R : Type 0} (step_of : T → O → R → T → Type 0) (is_open : O → Bool) (v : View T O R) (value : T) : Type 0 where
  pub opening : T
  pub first : T
  pub rest : List (Entry O R)
  pub opened : v.opening ≡ Some opening
  pub was : IsLegal step_of opening v.seen first
  pub others : IsLegal step_of first rest value
  pub are_open : All (IsOpenTo is_open) rest

module _ {T O R : Type 0} where
  pub further_self : (v : View T O R) → Further v v
  further_self v = record { number = refl; opening = refl; mine = refl; seen = starts_self v.seen }

  pub further_on : (u v w : View T O R) → Further u v → Further v w → Further u w
  further_on u v w h k = record {
    number = k.number ∙ h.number;
    opening = k.opening ∙ h.opening;
    mine = k.mine ∙ h.mine;
    seen = starts_in w.seen v.seen u.seen k.seen h.seen;
  }

  -- each pass of a row goes further where others are joined in
  pub joined_further : (old others : List (View T O R)) → AllZip (λ (w v : View T O R). StartsWith w.seen v.seen) (joined_views old others) old
      → (k : ℕ) (v w : View T O R) → slice_get old k ≡ Some v → slice_get (joined_views old others) k ≡ Some w → Further v w
  joined_further [] others seen k v w at is = absurd cc
  joined_further (u ∷ us) [] seen k v w at is = subst (Further v) (same_Some v w (sym at ∙ is)) (further_self v)
  joined_further (u ∷ us) (o ∷ os) seen zero v w at is =
      subst (λ (x : View T O R). Further x w) (same_Some u v at)
      (subst (Further u) (same_Some (joined_view u o) w is) (record { number = refl; opening = refl; mine = refl; seen = seen.0 }))
  joined_further (u ∷ us) (o ∷ os) seen (suc k) v w at is = joined_further us os seen.1 k v w at is

  pub closes_from : (step_of : T → O → R → T → Type 0) (is_open : O → Bool) (v w : View T O R) (value : T) → Further v w → v.number ≡ 0 → KnowsHistory step_of is_open v
      → Closes step_of is_open w value → ClosedFrom step_of is_open v value
  closes_from step_of is_open v w value further first knows closes =
      let begins = starts_in closes.log w.seen v.seen closes.begins further.seen in
      let all : calls_by 0 closes.log ≡ v.mine = subst (λ (n : ℕ). calls_by n closes.log ≡ v.mine) (further.number ∙ first) (closes.all_mine ∙ further.mine) in
      let some : calls_by 0 v.seen ≡ v.mine = subst (λ (n : ℕ). calls_by n v.seen ≡ v.mine) first knows.own in
      let none : calls_by 0 begins.0 ≡ [] = rest_is_of_others 0 closes.log v.seen begins.0 v.mine begins.1 all some in
      let others : OthersOpen is_open (v.seen ++ begins.0) = subst (OthersOpen is_open) begins.1 closes.others_open in
      let legal : IsLegal step_of closes.opening (v.seen ++ begins.0) value = subst (λ (es : List (Entry O R)). IsLegal step_of closes.opening es value) begins.1 closes.legal in
      let two = legal_split step_of v.seen begins.0 closes.opening value legal in
      record {
        opening = closes.opening;
        first = two.0;
        rest = begins.0;
        opened = sym further.opening ∙ closes.opened;
        was = two.1;
        others = two.2;
        are_open = all_open is_open begins.0 none (all_right (λ (e : Entry O R). e.by ≢ 0 → is_open e.op ≡ true) v.seen begins.0 others);
      }

-- ---- lanes
module _ {S L : Type 0} (left lent_as : S → Option (List ℕ)) (fault_plan : S → Option FaultPlan) (read_of : L → Reads) where
  abbrev pub Turns : LaneView S L → LaneOp → LaneReply → LaneView S L → Type 0
  Turns = IsLaneTurn left lent_as fault_plan read_of

  -- what no step changes is the same from the one to the other
  pub same_lane_on : (x y z : LaneView S L) → IsSameLane left lent_as read_of x y → IsSameLane left lent_as read_of y z → IsSameLane left lent_as read_of x z
  same_lane_on x y z h k = record {
    shard = k.shard ∙ h.shard;
    slack = k.slack ∙ h.slack;
    reads = k.reads ∙ h.reads;
    places = k.places ∙ h.places;
    named = k.named ∙ h.named;
    silent = λ e. k.silent (h.silent e);
  }

  pub same_lane : (es : List (Entry LaneOp LaneReply)) (x y : LaneView S L) → IsLegal Turns x es y → IsSameLane left lent_as read_of x y
  same_lane es x y legal =
      legal_keeps Turns (λ (z : LaneView S L). IsSameLane left lent_as read_of x z) (λ u op reply v turn is. same_lane_on x u v is turn.same) es x y legal
      (record { shard = refl; slack = refl; reads = refl; places = refl; named = refl; silent = λ e. e })

  -- where no call of the source is planned to fail, no entry failed
  pub none_fail : (es : List (Entry LaneOp LaneReply)) (x y : LaneView S L) → IsLegal Turns x es y → IsUnfailing (fault_plan x.source)
      → All (λ (e : Entry LaneOp LaneReply). DidNotFail e.reply) es × IsUnfailing (fault_plan y.source)
  none_fail [] x y same is = (All-nil (λ (e : Entry LaneOp LaneReply). DidNotFail e.reply), subst (λ (z : LaneView S L). IsUnfailing (fault_plan z.source)) same is)
  none_fail (e ∷ es) x y (after, turn, rest) is =
      let one = turn.unfailing is in
      let more = none_fail es after y rest one.1 in
      (All-cons (λ (d : Entry LaneOp LaneReply). DidNotFail d.reply) e es one.0 more.0, more.1)

  -- ---- a lane that came out
  pub record LaneCloses (text : Option (List ℕ)) (v : LaneKnown S L) (lane : LaneView S L) : Type 0 where
    pub opening : LaneView S L
    pub first : LaneView S L
    pub opened : v.opening ≡ Some opening
    -- the bench knew this state, and from there others fed the lane
    pub was : IsLegal Turns opening v.seen first
    pub fed : ComesByFeeds (setting_of read_of text opening) first.state lane.state
    pub same : IsSameLane left lent_as read_of opening lane
    pub of : IsTextOf left text lane
    pub unfailing : IsUnfailing (fault_plan opening.source) → IsUnfailing (fault_plan lane.source)

  pub lane_closes : (text : Option (List ℕ)) (v w : LaneKnown S L) (lane : LaneView S L) → Further v w → v.number ≡ 0 → KnowsHistory Turns is_open_lane v
      → ((opening : LaneView S L) → v.opening ≡ Some opening → IsTextOf left text opening) → Closes Turns is_open_lane w lane → LaneCloses text v lane
  lane_closes text v w lane further first knows of closes =
      let from = closes_from Turns is_open_lane v w lane further first knows closes in
      let set : Setting = setting_of read_of text from.opening in
      let begun : LaneStands left lent_as fault_plan read_of text set from.opening = record { of = of from.opening from.opened; set_is = refl } in
      let keeps = lane_stands_on left lent_as fault_plan read_of text set in
      let at_first = legal_keeps Turns (LaneStands left lent_as fault_plan read_of text set) keeps v.seen from.opening from.first from.was begun in
      let at_last = legal_keeps Turns (LaneStands left lent_as fault_plan read_of text set) keeps from.rest from.first lane from.others at_first in
      record {
        opening = from.opening;
        first = from.first;
        opened = from.opened;
        was = from.was;
        fed = fed_all left lent_as fault_plan read_of text set from.rest from.first lane from.others from.are_open at_first;
        same = same_lane_on from.opening from.first lane (same_lane v.seen from.opening from.first from.was) (same_lane from.rest from.first lane from.others);
        of = at_last.of;
        unfailing = λ is. (none_fail from.rest from.first lane from.others (none_fail v.seen from.opening from.first from.was is).1).1;
      }

  -- ---- feeds that failed
  didnt : (reply : LaneReply) → DidNotFail reply → did_fail reply ≡ false
  didnt (lane_reply.Failed n) none = absurd (none n refl)
  didnt (lane_reply.Fed n) none = refl
  didnt (lane_reply.Held n) none = refl
  didnt lane_reply.Closed none = refl
  didnt (lane_reply.Limit of) none = refl
  didnt (lane_reply.Taken items) none = refl
  didnt (lane_reply.Low mark) none = refl
  didnt (lane_reply.Cut cut) none = refl
  didnt (lane_reply.Memory n) none = refl

  -- none of a pass's own entries failed where none of all did
  own_didnt : (n : ℕ) (es : List (Entry LaneOp LaneReply)) → All (λ (e : Entry LaneOp LaneReply). DidNotFail e.reply) es → count_by entry_failed (calls_by n es) ≡ 0
  own_didnt n [] all = refl
  own_didnt n (e ∷ es) all =
      step (e.by == n) (own_didnt n es (All-tail (λ (d : Entry LaneOp LaneReply). DidNotFail d.reply) e es all))
      (didnt e.reply (All-head (λ (d : Entry LaneOp LaneReply). DidNotFail d.reply) e es all))
    where
      step : (b : Bool) → count_by entry_failed (calls_by n es) ≡ 0 → did_fail e.reply ≡ false → count_by entry_failed (if b then e ∷ calls_by n es else calls_by n es) ≡ 0
      step true rest one =
          let a = count_cons entry_failed e (calls_by n es) in let b = ap {B = ℕ} (λ (t : Bool). cond t 1 0) one in
          omega (arith, a, b, rest)
      step false rest one = rest

  -- no feed of a hand failed at a lane whose source isn't planned to fail
  pub fails_as_planned : (v : LaneKnown S L) (opening : LaneView S L) → KnowsHistory Turns is_open_lane v → v.opening ≡ Some opening → IsUnfailing (fault_plan opening.source)
      → count_by entry_failed v.mine ≡ 0
  fails_as_planned v opening knows opened is =
      let same : knows.opening ≡ opening = same_Some knows.opening opening (sym knows.opened ∙ opened) in
      let all = none_fail v.seen knows.opening knows.value knows.legal (subst (λ (x : LaneView S L). IsUnfailing (fault_plan x.source)) (sym same) is) in
      sym (ap (count_by entry_failed) knows.own) ∙ own_didnt v.number v.seen all.0

-- ---- parts
pub record PartCloses (v : PartKnown) (part : PartView) : Type 0 where
  pub opening : PartView
  pub first : PartView
  pub opened : v.opening ≡ Some opening
  -- the bench knew this state, and from there others turned the part
  pub was : IsLegal IsPartTurn opening v.seen first
  pub turned : ComesByTurns opening.rules first.state part.state
  pub rules : part.rules ≡ opening.rules

pub part_closes : (v w : PartKnown) (part : PartView) → Further v w → v.number ≡ 0 → KnowsHistory IsPartTurn is_open_part v → Closes IsPartTurn is_open_part w part → PartCloses v part
part_closes v w part further first knows closes =
    let from = closes_from IsPartTurn is_open_part v w part further first knows closes in
    let rules : Rules = from.opening.rules in
    let begun : PartStands rules from.opening = record { rules_are = refl } in
    let at_first = legal_keeps IsPartTurn (PartStands rules) (part_stands_on rules) v.seen from.opening from.first from.was begun in
    let at_last = legal_keeps IsPartTurn (PartStands rules) (part_stands_on rules) from.rest from.first part from.others at_first in
    record {
      opening = from.opening;
      first = from.first;
      opened = from.opened;
      was = from.was;
      turned = turned_all rules from.rest from.first part from.others from.are_open at_first;
      rules = at_last.rules_are;
    }
