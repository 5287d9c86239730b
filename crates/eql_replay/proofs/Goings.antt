-- How lanes go on from their beginning.
use Rattle.std.proofs.Common.{◌≡◌, inl, inr, ℕ, true, false, List, [], ◌∷◌, Option, None, Some, All, refl, sym, ap, ◌∙◌, subst}
use Rattle.std.specs.Prelude.{slice_get}
use Rattle.std.proofs.lemmas.List.Elements.{All-head, All-tail}
use Rattle.eql_values.specs.Accepted.{Reads}
use Rattle.eql_outside.specs.Plans.{FaultPlan}
use Rattle.eql_lane.specs.declared.ops.LaneOp.{LaneOp}
use Rattle.eql_lane.specs.declared.ops.LaneOp.TheVariants as op
use Rattle.eql_lane.specs.declared.ops.LaneReply.{LaneReply}
use Rattle.eql_lane.specs.declared.ops.LaneReply.TheVariants as reply
use Rattle.eql_lane.specs.Plays.{DidNotFail}
use Rattle.eql_lane.specs.Views.{IsSameLane, LaneView, setting_of}
use Rattle.eql_conductor.specs.GoingOn.{LaneGoesOn, LanesGoOn}
use Rattle.eql_conductor.specs.Lists.{PoolView}
use Rattle.eql_conductor.proofs.GoingOn.{step_faults}
use Rattle.eql_conductor.proofs.Resting.{same_or}
use Rattle.eql_replay.specs.declared.foreign.Foreign.{Foreign}
use Rattle.eql_replay.specs.declared.foreign.Foreign.TheVariants.{Feed, Turn}
use Rattle.eql_replay.specs.Noting.{did_fail}
use Rattle.eql_replay.specs.Opened.{FeedsElsewhere}
use Rattle.eql_replay.specs.Pools.{ForeignsPlay, ForeignPlays, PlaysLaneAt}
use Rattle.eql_replay.proofs.Calls.{is_after, lane_count, lane_else}

-- ---- whether an answer is a failure
pub didnt : (answer : LaneReply) → DidNotFail answer → did_fail answer ≡ false
didnt (reply.Failed n) h = absurd (h n refl)
didnt (reply.Fed n) h = refl
didnt (reply.Held k) h = refl
didnt reply.Closed h = refl
didnt (reply.Limit of) h = refl
didnt (reply.Taken items) h = refl
didnt (reply.Low mark) h = refl
didnt (reply.Cut cut) h = refl
didnt (reply.Memory n) h = refl

unfailed : (answer : LaneReply) → did_fail answer ≡ false → DidNotFail answer
unfailed answer none n e = let failed : did_fail answer ≡ true = ap did_fail e in let both : false ≡ true = sym none ∙ failed in absurd cc

-- ---- lanes
module _ {S L : Type 0} (left lent_as : S → Option (List ℕ)) (fault_plan : S → Option FaultPlan) (read_of : L → Reads) where
  same_lane : (a b c : LaneView S L) → IsSameLane left lent_as read_of a b → IsSameLane left lent_as read_of b c → IsSameLane left lent_as read_of a c
  same_lane a b c h k = record {
    shard = k.shard ∙ h.shard;
    slack = k.slack ∙ h.slack;
    reads = k.reads ∙ h.reads;
    places = k.places ∙ h.places;
    named = k.named ∙ h.named;
    silent = λ none. k.silent (h.silent none);
  }

  self_lane : (a : LaneView S L) → IsSameLane left lent_as read_of a a
  self_lane a = record { shard = refl; slack = refl; reads = refl; places = refl; named = refl; silent = λ none. none }

  -- each lane goes on from itself
  pub lanes_begin : (quiet : ℕ → Type 0) (lanes : List (LaneView S L)) → LanesGoOn left lent_as fault_plan read_of quiet lanes lanes
  lanes_begin quiet lanes = record {
    count = refl;
    each = λ s one lane e f.
        let same : lane ≡ one = let both : Some lane ≡ Some one = sym f ∙ e in cc in
        subst (λ (l : LaneView S L). LaneGoesOn left lent_as fault_plan read_of (quiet s) one l) (sym same)
        (record { same = self_lane one; unfailing = λ u. (u, refl); steady = λ q. refl });
  }

  -- a lane played, and nothing failed while it was quiet
  module _ (s : ℕ) (o : LaneOp) (answer : LaneReply) (old new : List (LaneView S L)) (played : PlaysLaneAt left lent_as fault_plan read_of s o answer old new) where
    stays_steady : DidNotFail answer → played.after.state.faults ≡ played.before.state.faults
    stays_steady none =
        step_faults (setting_of read_of None played.before) played.before.state o answer played.after.state none (played.plays None tt).step

    lane_on : (quiet now : Type 0) (one : LaneView S L) → (now → quiet) → (now → did_fail answer ≡ false)
        → LaneGoesOn left lent_as fault_plan read_of quiet one played.before → LaneGoesOn left lent_as fault_plan read_of now one played.after
    lane_on quiet now one goes none on = record {
      same = same_lane one played.before played.after on.same played.same;
      unfailing = λ u.
          let was = on.unfailing u in
          let is = played.unfailing was.0 in
          (is.1, stays_steady is.0 ∙ was.1);
      steady = λ q. stays_steady (unfailed answer (none q)) ∙ on.steady (goes q);
    }

    other_on : (quiet now : Type 0) (one lane : LaneView S L) → (now → quiet) → LaneGoesOn left lent_as fault_plan read_of quiet one lane → LaneGoesOn left lent_as fault_plan read_of now one lane
    other_on quiet now one lane goes on = record { same = on.same; unfailing = on.unfailing; steady = λ q. on.steady (goes q) }

    pub lanes_on : (quiet now : ℕ → Type 0) (first : List (LaneView S L)) → ((k : ℕ) → now k → quiet k) → (now s → did_fail answer ≡ false)
        → LanesGoOn left lent_as fault_plan read_of quiet first old → LanesGoOn left lent_as fault_plan read_of now first new
    lanes_on quiet now first goes none on = record {
      count = lane_count left lent_as fault_plan read_of s o answer old new played ∙ on.count;
      each = λ k one lane e f. elim (same_or k s) [
        | inl is ↦
            let f_s : slice_get new s ≡ Some lane = subst (λ (j : ℕ). slice_get new j ≡ Some lane) is f in
            let e_s : slice_get first s ≡ Some one = subst (λ (j : ℕ). slice_get first j ≡ Some one) is e in
            subst (λ (j : ℕ). LaneGoesOn left lent_as fault_plan read_of (now j) one lane) (sym is)
            (subst (λ (l : LaneView S L). LaneGoesOn left lent_as fault_plan read_of (now s) one l) (sym (is_after left lent_as fault_plan read_of s o answer old new played lane f_s))
            (lane_on (quiet s) (now s) one (goes s) none (on.each s one played.before e_s played.was)))
        | inr apart ↦ other_on (quiet k) (now k) one lane (goes k) (on.each k one lane e (sym (lane_else left lent_as fault_plan read_of s o answer old new played k apart) ∙ f))
      ];
    }

  pub lanes_quieter : (quiet now : ℕ → Type 0) (first lanes : List (LaneView S L)) → ((k : ℕ) → now k → quiet k)
      → LanesGoOn left lent_as fault_plan read_of quiet first lanes → LanesGoOn left lent_as fault_plan read_of now first lanes
  lanes_quieter quiet now first lanes goes on = record {
    count = on.count;
    each = λ k one lane e f. let was = on.each k one lane e f in record { same = was.same; unfailing = was.unfailing; steady = λ q. was.steady (goes k q) };
  }

  -- others played, and feed none of the quiet lanes
  foreign_on : (quiet : ℕ → Type 0) (first : List (LaneView S L)) (f : Foreign) (a b : PoolView S L) → ((s : ℕ) → quiet s → FeedsElsewhere s f)
      → ForeignPlays left lent_as fault_plan read_of f a b → LanesGoOn left lent_as fault_plan read_of quiet first a.lanes → LanesGoOn left lent_as fault_plan read_of quiet first b.lanes
  foreign_on quiet first (Feed lane max) a b elsewhere played on =
      lanes_on lane (op.Feed max) played.0 a.lanes b.lanes played.1 quiet quiet first (λ k q. q) (λ q. absurd (elsewhere lane q refl)) on
  foreign_on quiet first (Turn part max) a b elsewhere played on =
      subst (λ (lanes : List (LaneView S L)). LanesGoOn left lent_as fault_plan read_of quiet first lanes) (sym played.2) on

  pub all_on : (quiet : ℕ → Type 0) (first : List (LaneView S L)) (fs : List Foreign) (a b : PoolView S L) → ((s : ℕ) → quiet s → All (FeedsElsewhere s) fs)
      → ForeignsPlay left lent_as fault_plan read_of fs a b → LanesGoOn left lent_as fault_plan read_of quiet first a.lanes → LanesGoOn left lent_as fault_plan read_of quiet first b.lanes
  all_on quiet first [] a b elsewhere played on =
      subst (λ (p : PoolView S L). LanesGoOn left lent_as fault_plan read_of quiet first p.lanes) (sym played) on
  all_on quiet first (f ∷ fs) a b elsewhere (mid, one, rest) on =
      all_on quiet first fs mid b (λ s q. All-tail (FeedsElsewhere s) f fs (elsewhere s q)) rest
      (foreign_on quiet first f a mid (λ s q. All-head (FeedsElsewhere s) f fs (elsewhere s q)) one on)
