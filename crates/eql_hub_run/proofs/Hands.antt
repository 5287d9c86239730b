-- What a hand did, by its run of steps.
use Rattle.std.proofs.Common.{◌≡◌, inl, inr, ◌≤◌, ◌^◌, ℕ, Bool, true, false, List, [], ◌∷◌, ◌++◌, Option, None, Some, length, refl, sym, ap, ◌∙◌, subst, arith}
use Rattle.std.specs.Prelude.{All, IfSome, ◌&&◌, is_none, get_or, slice_get}
use Rattle.std.specs.List.{count_by}
use Rattle.std.proofs.lemmas.Bool.{false≢true}
use Rattle.std.proofs.lemmas.Option.{same_Some, slice_get-get_or, slice_get_within, get_or_from_slice_get}
use Rattle.eql_values.specs.Accepted.{Reads}
use Rattle.eql_outside.specs.Plans.{FaultPlan}
use Rattle.eql_lane.specs.declared.ops.LaneOp.{LaneOp}
use Rattle.eql_lane.specs.declared.ops.LaneOp.TheVariants as lane_op
use Rattle.eql_lane.specs.declared.ops.LaneReply.{LaneReply}
use Rattle.eql_lane.specs.declared.ops.LaneReply.TheVariants as lane_reply
use Rattle.eql_turn_lock.specs.declared.view.View.{View}
use Rattle.eql_turn_lock.specs.declared.refused.NotNow.{NotNow}
use Rattle.eql_turn_lock.specs.declared.refused.NotNow.TheVariants as not_now
use Rattle.eql_turn_lock.specs.Calls.{Refuses}
use Rattle.eql_turn_lock.specs.History.{entry}
use Rattle.eql_conductor.proofs.Resting.{same_or}
use Rattle.eql_hub.specs.declared.step.Did.{Did}
use Rattle.eql_hub.specs.declared.step.Did.TheVariants as did
use Rattle.eql_hub.specs.declared.step.HandFault.{HandFault}
use Rattle.eql_hub.specs.declared.step.HandFault.TheVariants as fault
use Rattle.eql_hub.specs.Hands.{HandView, HubView, IsHandOf, LaneKnown, PartKnown}
use Rattle.eql_hub.specs.Steps.{EachIsRelated, LaneAnswers, StepEndsAtLane, LaneEnds, LaneIsIdle, LaneIsQuiet, StepEndsAtPart, PartEnds, Steps}
use Rattle.eql_hub.proofs.Sweeping.{passed_quiet}
use Rattle.eql_hands.specs.Growth.{AreLater, HasMineWithin, HaveMineWithin}
use Rattle.eql_hands.specs.Runs.{MeetsFault, PlaysSteps, Ran, fault_of}
use Rattle.eql_lock_bench.specs.Locked.{did_fail, entry_failed}
use Rattle.eql_lock_bench.proofs.Counted.{count_snoc}
use Rattle.eql_hub_run.specs.Workers.{Has, HandDid, HasFew, HasNone, IsFailure, IsLimit, IsNoRead, IsWhole, HandMeets}

-- ---- lists and places
pub has_last : {X : Type 0} (P : X → Type 0) (front : List X) (one : X) (list : List X) → list ≡ front ++ one ∷ [] → P one → Has P list
has_last P front one list is so = record { front = front; one = one; back = []; is = is; so = so }

pub all_places : {X : Type 0} (P : X → Type 0) (list : List X) → ((k : ℕ) (x : X) → slice_get list k ≡ Some x → P x) → All P list
all_places P list each k d l = each k (get_or list k d) (slice_get-get_or list k d l)

pub at_all : {X : Type 0} (P : X → Type 0) (list : List X) (k : ℕ) (x : X) → slice_get list k ≡ Some x → All P list → P x
at_all P list k x there all = subst P (get_or_from_slice_get list k x x there) (all k x (slice_get_within list k x there))

-- what stands in a place of the one list stands in that of the other
pub old_there : {X : Type 0} (old new : List X) (k : ℕ) (x : X) → length new ≡ length old → slice_get new k ≡ Some x → (y : X) × (slice_get old k ≡ Some y)
old_there old new k x count there =
    let within = slice_get_within new k x there in (get_or old k x, slice_get-get_or old k x (omega (arith, within, count)))

-- ---- entries of failed feeds
abbrev SameFails : {T : Type 0} → View T LaneOp LaneReply → View T LaneOp LaneReply → Type 0
SameFails v w = count_by entry_failed w.mine ≡ count_by entry_failed v.mine

module _ {S L : Type 0} (left lent_as : S → Option (List ℕ)) (fault_plan : S → Option FaultPlan) (read_of : L → Reads) (batch : ℕ) (alone : List Bool) where
  answered : (reply : LaneReply) (v w : LaneKnown S L) → did_fail reply ≡ false → LaneAnswers left lent_as fault_plan read_of batch reply v w → SameFails v w
  answered reply v w none plays =
      let a = ap (count_by entry_failed) plays.1.mine in
      let b = count_snoc entry_failed v.mine (entry v.number (lane_op.Feed batch) reply) false none in
      omega (arith, a, b)

  refused : (op : LaneOp) (by : NotNow LaneOp) (v w : LaneKnown S L) → Refuses v op by w → SameFails v w
  refused op (not_now.Busy word back) v w r = ap (count_by entry_failed) r.1.1
  refused op (not_now.Worn word back) v w r = ap (count_by entry_failed) r.1.1

  idle : (v w : LaneKnown S L) → LaneIsIdle left lent_as fault_plan read_of batch v w → SameFails v w
  idle v w (inl (ready, plays)) = answered (lane_reply.Held ready) v w refl plays
  idle v w (inr (inl plays)) = answered lane_reply.Closed v w refl plays
  idle v w (inr (inr (inl (word, r)))) = refused (lane_op.Feed batch) (not_now.Busy word (lane_op.Feed batch)) v w r
  idle v w (inr (inr (inr found))) = ap (count_by entry_failed) found.0.1

  still : (v w : LaneKnown S L) → LaneIsQuiet left lent_as fault_plan read_of batch v w → SameFails v w
  still v w (inl e) = ap (λ (u : LaneKnown S L). count_by entry_failed u.mine) e
  still v w (inr h) = idle v w h

  -- the step ended so, and it isn't that a source failed
  abbrev IsFine : Did → Type 0
  IsFine (did.Fault f) = IsNoRead (Some f)
  IsFine answer = Unit {0}

  ends : (answer : Did) (place : ℕ) (v w : LaneKnown S L) → IsFine answer → LaneEnds left lent_as fault_plan read_of batch answer place v w → SameFails v w
  ends (did.Fed lane) place v w fine (is, (lines, plays)) = answered (lane_reply.Fed lines) v w refl plays
  ends (did.Fault (fault.Read shard)) place v w fine h = absurd fine
  ends (did.Fault fault.Memory) place v w fine (lines, plays) = answered (lane_reply.Memory lines) v w refl plays
  ends (did.Fault (fault.Limit of)) place v w fine plays = answered (lane_reply.Limit of) v w refl plays
  ends (did.Fault fault.Worn) place v w fine (word, r) = refused (lane_op.Feed batch) (not_now.Worn word (lane_op.Feed batch)) v w r
  ends (did.Turned part) place v w fine h = absurd h
  ends did.Nothing place v w fine h = absurd h

  lane_ended : (answer : Did) (old new : HandView S L) → IsFine answer → StepEndsAtLane left lent_as fault_plan read_of batch alone answer old new
      → EachIsRelated SameFails old.lanes.views new.lanes.views
  lane_ended answer old new fine e = record {
    count = e.count;
    each = λ k v w was is. elim (same_or k e.lane) [
      | inl same ↦
          let was_here : slice_get old.lanes.views e.lane ≡ Some v = subst (λ (j : ℕ). slice_get old.lanes.views j ≡ Some v) same was in
          let is_here : slice_get new.lanes.views e.lane ≡ Some w = subst (λ (j : ℕ). slice_get new.lanes.views j ≡ Some w) same is in
          let a : e.before ≡ v = same_Some e.before v (sym e.was ∙ was_here) in
          let b : e.after ≡ w = same_Some e.after w (sym e.is ∙ is_here) in
          subst (λ (x : LaneKnown S L). SameFails x w) a (subst (λ (x : LaneKnown S L). SameFails e.before x) b (ends answer e.lane e.before e.after fine e.ends))
      | inr apart ↦ still v w (e.others k v w apart was is)
    ];
  }

  part_ended : (answer : Did) (old new : HandView S L) → StepEndsAtPart left lent_as fault_plan read_of batch answer old new
      → EachIsRelated SameFails old.lanes.views new.lanes.views
  part_ended answer old new e = record { count = e.lanes.count; each = λ k v w was is. still v w (e.lanes.each k v w was is) }

  step_quiet : (answer : Did) (old new : HandView S L) → IsFine answer → Steps left lent_as fault_plan read_of batch alone answer old new
      → EachIsRelated SameFails old.lanes.views new.lanes.views
  step_quiet did.Nothing old new fine h = record { count = h.lane_count; each = λ k v w was is. still v w (passed_quiet left lent_as fault_plan read_of batch alone 0 k v w (h.lanes k v w was is)) }
  step_quiet (did.Fed lane) old new fine h = lane_ended (did.Fed lane) old new fine h
  step_quiet (did.Turned part) old new fine h = part_ended (did.Turned part) old new h
  step_quiet (did.Fault f) old new fine (inl h) = lane_ended (did.Fault f) old new fine h
  step_quiet (did.Fault f) old new fine (inr h) = part_ended (did.Fault f) old new h

  -- ---- a run
  module _ (most_steps : ℕ) where
    both_left : (a b : Bool) → a && b ≡ true → a ≡ true
    both_left true b e = refl
    both_left false b e = absurd (false≢true e)

    none_fine : (met : Option HandFault) → is_none met ≡ true → IsNoRead met
    none_fine None e = tt
    none_fine (Some f) e = absurd (false≢true e)

    head_fine : (answer : Did) (before : List Did) → IsNoRead (fault_of (answer ∷ before)) → IsFine answer
    head_fine did.Nothing before h = tt
    head_fine (did.Fed lane) before h = tt
    head_fine (did.Turned part) before h = tt
    head_fine (did.Fault f) before h = h

    each_same : (old new : HandView S L) → new ≡ old → EachIsRelated SameFails old.lanes.views new.lanes.views
    each_same old new e = subst (λ (h : HandView S L). EachIsRelated SameFails old.lanes.views h.lanes.views) (sym e) (record {
      count = refl;
      each = λ k v w was is. ap (λ (u : LaneKnown S L). count_by entry_failed u.mine) (same_Some w v (sym is ∙ was));
    })

    each_on : (a b c : List (LaneKnown S L)) → EachIsRelated SameFails a b → EachIsRelated SameFails b c → EachIsRelated SameFails a c
    each_on a b c h k = record {
      count = k.count ∙ h.count;
      each = λ j v w was is. let mid = old_there b c j w k.count is in k.each j mid.0 w mid.1 is ∙ h.each j v mid.0 was mid.1;
    }

    played_quiet : (dids : List Did) (old new : HandView S L) → IsNoRead (fault_of dids)
        → PlaysSteps left lent_as fault_plan read_of batch alone most_steps dids old new → EachIsRelated SameFails old.lanes.views new.lanes.views
    played_quiet [] old new fine e = each_same old new e
    played_quiet (answer ∷ before) old new fine (goes, mid, run, last) =
        let calm = none_fine (fault_of before) (both_left (is_none (fault_of before)) _ goes) in
        each_on old.lanes.views mid.lanes.views new.lanes.views (played_quiet before old mid calm run) (step_quiet answer mid new (head_fine answer before fine) last)

    -- ---- the fault
    lane_met : (f : HandFault) (old new : HandView S L) → StepEndsAtLane left lent_as fault_plan read_of batch alone (did.Fault f) old new → HandMeets new f
    lane_met f old new e = by f e.lane e.before e.after e.is e.ends
      where
        by : (f : HandFault) (place : ℕ) (v w : LaneKnown S L) → slice_get new.lanes.views place ≡ Some w → LaneEnds left lent_as fault_plan read_of batch (did.Fault f) place v w → HandMeets new f
        by (fault.Read shard) place v w is (same, (lines, plays)) = record {
          one = w;
          there = subst (λ (j : ℕ). slice_get new.lanes.views j ≡ Some w) (sym same) is;
          so = has_last IsFailure v.mine (entry v.number (lane_op.Feed batch) (lane_reply.Failed lines)) w.mine plays.1.mine (lines, refl);
        }
        by fault.Memory place v w is h = tt
        by (fault.Limit of) place v w is plays = (
          place,
          record {
            one = w;
            there = is;
            so = has_last (IsLimit of) v.mine (entry v.number (lane_op.Feed batch) (lane_reply.Limit of)) w.mine plays.1.mine refl;
          },
        )
        by fault.Worn place v w is (word, r) = inl (place, record { one = w; there = is; so = has_last (λ (n : ℕ). 2 ^ 63 ≤ n) v.looked word w.looked r.3 r.2 })

    part_met : (f : HandFault) (old new : HandView S L) → StepEndsAtPart left lent_as fault_plan read_of batch (did.Fault f) old new → HandMeets new f
    part_met f old new e = by f e.part e.before e.after e.is e.ends
      where
        by : (f : HandFault) (place : ℕ) (v w : PartKnown) → slice_get new.parts.views place ≡ Some w → PartEnds batch (did.Fault f) place v w → HandMeets new f
        by (fault.Read shard) place v w is h = absurd h
        by fault.Memory place v w is h = tt
        by (fault.Limit of) place v w is h = absurd h
        by fault.Worn place v w is (word, r) = inr (place, record { one = w; there = is; so = has_last (λ (n : ℕ). 2 ^ 63 ≤ n) v.looked word w.looked r.3 r.2 })

    step_met : (f : HandFault) (old new : HandView S L) → Steps left lent_as fault_plan read_of batch alone (did.Fault f) old new → HandMeets new f
    step_met f old new (inl h) = lane_met f old new h
    step_met f old new (inr h) = part_met f old new h

    some_met : (met : Option HandFault) (old new : HandView S L) → IfSome met (λ f. MeetsFault left lent_as fault_plan read_of batch alone most_steps f old new) → IfSome met (HandMeets new)
    some_met None old new h = tt
    some_met (Some f) old new h = step_met f h.mid new h.last

    few : {T O R : Type 0} (old new : List (View T O R)) → EachIsRelated (HasMineWithin (2 ^ 40)) old new → All (λ (v : View T O R). v.mine ≡ []) old → All (λ (v : View T O R). HasFew v) new
    few old new each none = all_places (λ v. HasFew v) new (λ k w is.
        let was = old_there old new k w each.count is in
        let a = each.each k was.0 w was.1 is in
        let b = ap length (at_all (λ v. v.mine ≡ []) old k was.0 was.1 none) in
        omega (arith, a, b))

    pub hand_did : (met : Option HandFault) (old new : HandView S L) → HasNone old → Ran left lent_as fault_plan read_of batch alone most_steps met old new
        → HaveMineWithin (2 ^ 40) old new → IfSome met (λ f. MeetsFault left lent_as fault_plan read_of batch alone most_steps f old new) → HandDid met new
    hand_did met old new none ran within meets = record {
      few_lanes = few old.lanes.views new.lanes.views within.lanes none.lanes;
      few_parts = few old.parts.views new.parts.views within.parts none.parts;
      quiet = λ fine.
          let each = played_quiet ran.dids old new (subst (IsNoRead) ran.told fine) ran.played in
          all_places (λ v. count_by entry_failed v.mine ≡ 0) new.lanes.views (λ k w is.
          let was = old_there old.lanes.views new.lanes.views k w each.count is in
          each.each k was.0 w was.1 is ∙ ap (count_by entry_failed) (at_all (λ v. v.mine ≡ []) old.lanes.views k was.0 was.1 none.lanes));
      fault_is = some_met met old new meets;
    }

    -- of a worker's hand
    pub hand_played : (hub : HubView) (met : Option HandFault) (old new : HandView S L) → IsWhole hub old → HasNone old → IsHandOf hub new
        → Ran left lent_as fault_plan read_of batch alone most_steps met old new → AreLater old new
        → IfSome met (λ f. MeetsFault left lent_as fault_plan read_of batch alone most_steps f old new) → HaveMineWithin (2 ^ 40) old new → IsWhole hub new × HandDid met new
    hand_played hub met old new whole none own ran later meets within = (
      record { own = own; lane_count = later.lanes.count ∙ whole.lane_count; part_count = later.parts.count ∙ whole.part_count },
      hand_did met old new none ran within meets,
    )
