-- Hands as they are joined into the first one.
use Rattle.std.proofs.Common.{◌≡◌, ◌≤◌, ◌^◌, ℕ, zero, suc, List, [], ◌∷◌, ◌++◌, Option, Some, length, length-append, refl, sym, ap, ◌∙◌, subst, arith, append_assoc}
use Rattle.std.specs.Prelude.{All, slice_get}
use Rattle.std.specs.List.{AllZip, count_by}
use Rattle.std.proofs.lemmas.List.{append-nil}
use Rattle.std.proofs.lemmas.List.Elements.{All-cons, All-head, All-nil, All-push}
use Rattle.std.proofs.lemmas.Option.{same_Some}
use Rattle.eql_lane.specs.Views.{LaneView}
use Rattle.eql_parts.specs.PartSteps.{PartView}
use Rattle.eql_turn_lock.specs.declared.view.Ended.{Ended}
use Rattle.eql_turn_lock.specs.declared.view.View.{View}
use Rattle.eql_turn_lock.specs.History.{StartsWith}
use Rattle.eql_turn_lock.specs.Passes.{ended_of, joined_view}
use Rattle.eql_turn_lock.proofs.Histories.{all_right, starts_in, starts_self}
use Rattle.eql_lock_row.specs.Rows.{joined_views}
use Rattle.eql_hub.specs.declared.step.HandFault.{HandFault}
use Rattle.eql_hub.specs.Hands.{AllBegin, AreAllJoined, HandView, HubView, IsFirst, IsHandOf, LaneKnown, PartKnown}
use Rattle.eql_lock_bench.specs.Benched.{AllGoOn}
use Rattle.eql_lock_bench.specs.Locked.{entry_failed}
use Rattle.eql_hub_run.specs.Gathers.{AreUnplayed, GathersHands, HandsAre, IsEndOf, IsKept, IsUnplayedHand, LaneIsFine, PartIsFine, TookIn}
use Rattle.eql_hub_run.specs.Workers.{Has, HandDid, HasPlayed, IsNoRead, IsWhole, WorkerView}
use Rattle.eql_hub_run.proofs.Ended.{there_in, zip_at}
use Rattle.eql_hub_run.proofs.Hands.{all_places, at_all, has_last}

-- ---- one row
module _ {T O R : Type 0} where
  pub joined_count : (views others : List (View T O R)) → length (joined_views views others) ≡ length views
  joined_count [] others = refl
  joined_count (v ∷ vs) [] = refl
  joined_count (v ∷ vs) (w ∷ ws) = ap suc (joined_count vs ws)

  pub joined_at : (views others : List (View T O R)) (k : ℕ) (v u x : View T O R) → slice_get views k ≡ Some v → slice_get others k ≡ Some u
      → slice_get (joined_views views others) k ≡ Some x → x ≡ joined_view v u
  joined_at [] others k v u x a b c = absurd cc
  joined_at (w ∷ ws) [] k v u x a b c = absurd cc
  joined_at (w ∷ ws) (o ∷ os) zero v u x a b c =
      same_Some x (joined_view v u) (sym c ∙ ap Some (ap (λ (y : View T O R). joined_view y o) (same_Some w v a) ∙ ap (joined_view v) (same_Some o u b)))
  joined_at (w ∷ ws) (o ∷ os) (suc k) v u x a b c = joined_at ws os k v u x a b c

  took_none : (Fine : Ended O R → Type 0) (v w : View T O R) → w ≡ v → TookIn Fine 0 v w
  took_none Fine v w e = subst (TookIn Fine 0 v) (sym e) (record {
    number = refl;
    opening = refl;
    mine = refl;
    looked = refl;
    made = refl;
    seen = starts_self v.seen;
    count = omega arith;
    fine = λ h. h;
  })

  took_one : (Fine : Ended O R → Type 0) (n : ℕ) (v w u x : View T O R) → TookIn Fine n v w → x ≡ joined_view w u → StartsWith x.seen w.seen → Fine (ended_of w u) → TookIn Fine (suc n) v x
  took_one Fine n v w u x took is seen fine = subst (TookIn Fine (suc n) v) (sym is) (record {
    number = took.number;
    opening = took.opening;
    mine = took.mine;
    looked = took.looked;
    made = took.made;
    seen = starts_in (joined_view w u).seen w.seen v.seen (subst (λ (y : View T O R). StartsWith y.seen w.seen) is seen) took.seen;
    count = let a = took.count in let b = length-append w.ended (ended_of w u ∷ []) in omega (arith, a, b);
    fine = λ h. All-push Fine w.ended (ended_of w u) (took.fine h) fine;
  })

  -- what is kept of a pass
  kept_here : (w u x : View T O R) → x ≡ joined_view w u → Has (IsEndOf u) x.ended
  kept_here w u x is = has_last (IsEndOf u) w.ended (ended_of w u) x.ended (ap (λ (y : View T O R). y.ended) is) (record { mine = refl; looked = refl })

  kept_still : (P : Ended O R → Type 0) (w u x : View T O R) → x ≡ joined_view w u → Has P w.ended → Has P x.ended
  kept_still P w u x is has = record {
    front = has.front;
    one = has.one;
    back = has.back ++ ended_of w u ∷ [];
    is = ap (λ (y : View T O R). y.ended) is ∙ (ap (λ (l : List (Ended O R)). l ++ ended_of w u ∷ []) has.is ∙ append_assoc has.front (has.one ∷ has.back) (ended_of w u ∷ []));
    so = has.so;
  }

  module _ (old others new : List (View T O R)) (count : length others ≡ length old) (is : new ≡ joined_views old others) where
    pub new_count : length new ≡ length old
    new_count = ap length is ∙ joined_count old others

    at_new : (k : ℕ) (w u x : View T O R) → slice_get old k ≡ Some w → slice_get others k ≡ Some u → slice_get new k ≡ Some x → x ≡ joined_view w u
    at_new k w u x a b c = joined_at old others k w u x a b (sym (ap (λ (l : List (View T O R)). slice_get l k) is) ∙ c)

    pub kept_new : IsKept new others
    kept_new k x u c b = let w = there_in new old k x (sym new_count) c in kept_here w.0 u x (at_new k w.0 u x w.1 b c)

    pub kept_on : (those : List (View T O R)) → IsKept old those → IsKept new those
    kept_on those kept k x t c d =
        let w = there_in new old k x (sym new_count) c in
        let u = there_in old others k w.0 count w.1 in
        kept_still (IsEndOf t) w.0 u.0 x (at_new k w.0 u.0 x w.1 u.1 c) (kept k w.0 t w.1 d)

    pub first_on : All (λ (v : View T O R). v.number ≡ 0) old → All (λ (v : View T O R). v.number ≡ 0) new
    first_on first = all_places (λ (v : View T O R). v.number ≡ 0) new (λ k x c.
        let w = there_in new old k x (sym new_count) c in
        let u = there_in old others k w.0 count w.1 in
        ap (λ (y : View T O R). y.number) (at_new k w.0 u.0 x w.1 u.1 c) ∙ at_all (λ (v : View T O R). v.number ≡ 0) old k w.0 w.1 first)

    pub took_on : (Fine : Ended O R → Type 0) (n : ℕ) (begin : List (View T O R)) → length old ≡ length begin
        → ((k : ℕ) (v w : View T O R) → slice_get begin k ≡ Some v → slice_get old k ≡ Some w → TookIn Fine n v w)
        → AllZip (λ (v w : View T O R). StartsWith v.seen w.seen) new old
        → ((k : ℕ) (w u : View T O R) → slice_get others k ≡ Some u → Fine (ended_of w u))
        → (k : ℕ) (v x : View T O R) → slice_get begin k ≡ Some v → slice_get new k ≡ Some x → TookIn Fine (suc n) v x
    took_on Fine n begin same took seen fine k v x there here =
        let w = there_in begin old k v same there in
        let u = there_in old others k w.0 count w.1 in
        took_one Fine n v w.0 u.0 x (took k v w.0 there w.1) (at_new k w.0 u.0 x w.1 u.1 here)
        (zip_at (λ (a b : View T O R). StartsWith a.seen b.seen) new old seen k x w.0 here w.1) (fine k w.0 u.0 u.1)

-- ---- hands
module _ {S L : Type 0} where
  pub gather_none : (quiet : Type 0) (hand : HandView S L) → GathersHands quiet [] hand hand
  gather_none quiet hand = record {
    lane_count = refl;
    part_count = refl;
    lanes = λ k v w a b. took_none (LaneIsFine quiet) v w (same_Some w v (sym b ∙ a));
    parts = λ k v w a b. took_none PartIsFine v w (same_Some w v (sym b ∙ a));
    kept = All-nil (λ (h : HandView S L). IsKept hand.lanes.views h.lanes.views × IsKept hand.parts.views h.parts.views);
  }

  pub gather_more : (quiet : Type 0) (hands : List (HandView S L)) (old mid new other : HandView S L) (met : Option HandFault) → GathersHands quiet hands old mid
      → length other.lanes.views ≡ length mid.lanes.views → length other.parts.views ≡ length mid.parts.views
      → new.lanes.views ≡ joined_views mid.lanes.views other.lanes.views → new.parts.views ≡ joined_views mid.parts.views other.parts.views → AllBegin new mid
      → HandDid met other → (quiet → IsNoRead met) → GathersHands quiet (other ∷ hands) old new
  gather_more quiet hands old mid new other met was lane_count part_count lanes parts seen did calm = record {
    lane_count = new_count mid.lanes.views other.lanes.views new.lanes.views lane_count lanes ∙ was.lane_count;
    part_count = new_count mid.parts.views other.parts.views new.parts.views part_count parts ∙ was.part_count;
    lanes = took_on mid.lanes.views other.lanes.views new.lanes.views lane_count lanes (LaneIsFine quiet) (length hands) old.lanes.views was.lane_count was.lanes seen.lanes
        (λ k w u there. (
          at_all (λ (v : LaneKnown S L). length v.mine ≤ 2 ^ 40) other.lanes.views k u there did.few_lanes,
          λ q. at_all (λ (v : LaneKnown S L). count_by entry_failed v.mine ≡ 0) other.lanes.views k u there (did.quiet (calm q)),
        ));
    parts = took_on mid.parts.views other.parts.views new.parts.views part_count parts PartIsFine (length hands) old.parts.views was.part_count was.parts seen.parts
        (λ k w u there. at_all (λ (v : PartKnown). length v.mine ≤ 2 ^ 40) other.parts.views k u there did.few_parts);
    kept = All-cons (λ (h : HandView S L). IsKept new.lanes.views h.lanes.views × IsKept new.parts.views h.parts.views) other hands
        (kept_new mid.lanes.views other.lanes.views new.lanes.views lane_count lanes, kept_new mid.parts.views other.parts.views new.parts.views part_count parts)
        (λ k d l.
        let both = was.kept k d l in (
          kept_on mid.lanes.views other.lanes.views new.lanes.views lane_count lanes _ both.0,
          kept_on mid.parts.views other.parts.views new.parts.views part_count parts _ both.1,
        ));
  }

  -- ---- the loop
  -- some workers were taken in, and the others are left
  pub record TakenSome (hub : HubView) (all rest : List (WorkerView S L)) (old now : HandView S L) : Type 0 where
    pub done : List (WorkerView S L)
    pub hands : List (HandView S L)
    pub all_is : all ≡ rest ++ done
    pub are : HandsAre done hands
    pub gathered : GathersHands (All (λ (w : WorkerView S L). IsNoRead w.met) all) hands old now
    pub whole : IsWhole hub now
    pub first : IsFirst now

  pub taken_none : (hub : HubView) (all : List (WorkerView S L)) (hand : HandView S L) → IsWhole hub hand → IsFirst hand → TakenSome hub all all hand hand
  taken_none hub all hand whole first = record {
    done = [];
    hands = [];
    all_is = sym (append-nil all);
    are = (refl, λ k worker there. absurd cc);
    gathered = gather_none (All (λ (w : WorkerView S L). IsNoRead w.met) all) hand;
    whole = whole;
    first = first;
  }

  -- the last one of those that are left
  module _ (hub : HubView) (all rest less : List (WorkerView S L)) (worker : WorkerView S L) (old mid : HandView S L) (some : TakenSome hub all rest old mid) (is : rest ≡ less ++ worker ∷ [])
      (played : All (HasPlayed hub) all) where
    all_here : all ≡ less ++ worker ∷ some.done
    all_here = some.all_is ∙ (ap (λ (l : List (WorkerView S L)). l ++ some.done) is ∙ append_assoc less (worker ∷ []) some.done)

    pub did : HasPlayed hub worker
    did = All-head (HasPlayed hub) worker some.done (all_right (HasPlayed hub) less (worker ∷ some.done) (subst (All (HasPlayed hub)) all_here played))

    no_read : All (λ (w : WorkerView S L). IsNoRead w.met) all → IsNoRead worker.met
    no_read quiet =
        All-head (λ (w : WorkerView S L). IsNoRead w.met) worker some.done
        (all_right (λ (w : WorkerView S L). IsNoRead w.met) less (worker ∷ some.done) (subst (All (λ (w : WorkerView S L). IsNoRead w.met)) all_here quiet))

    are_more : (other : HandView S L) → worker.hand ≡ Some other → HandsAre (worker ∷ some.done) (other ∷ some.hands)
    are_more other has = (ap suc some.are.0, each)
      where
        each : (k : ℕ) (w : WorkerView S L) → slice_get (worker ∷ some.done) k ≡ Some w → (hand : HandView S L) × (slice_get (other ∷ some.hands) k ≡ Some hand) × (w.hand ≡ Some hand)
        each zero w there = (other, refl, ap (λ (v : WorkerView S L). v.hand) (sym (same_Some worker w there)) ∙ has)
        each (suc k) w there = some.are.1 k w there

    pub taken_more : (other new : HandView S L) → worker.hand ≡ Some other → IsHandOf hub new → new.lanes.views ≡ joined_views mid.lanes.views other.lanes.views
        → new.parts.views ≡ joined_views mid.parts.views other.parts.views → AllBegin new mid → TakenSome hub all less old new
    taken_more other new has own lanes parts seen =
        let same : did.0 ≡ other = same_Some did.0 other (sym did.1 ∙ has) in
        let whole : IsWhole hub other = subst (IsWhole hub) same did.2 in
        let hand_did : HandDid worker.met other = subst (HandDid worker.met) same did.3 in
        let lane_count : length other.lanes.views ≡ length mid.lanes.views = whole.lane_count ∙ sym some.whole.lane_count in
        let part_count : length other.parts.views ≡ length mid.parts.views = whole.part_count ∙ sym some.whole.part_count in
        record {
          done = worker ∷ some.done;
          hands = other ∷ some.hands;
          all_is = all_here;
          are = are_more other has;
          gathered = gather_more (All (λ (w : WorkerView S L). IsNoRead w.met) all) some.hands old mid new other worker.met some.gathered lane_count part_count lanes parts seen hand_did no_read;
          whole = record {
            own = own;
            lane_count = new_count mid.lanes.views other.lanes.views new.lanes.views lane_count lanes ∙ some.whole.lane_count;
            part_count = new_count mid.parts.views other.parts.views new.parts.views part_count parts ∙ some.whole.part_count;
          };
          first = record {
            lanes = first_on mid.lanes.views other.lanes.views new.lanes.views lane_count lanes some.first.lanes;
            parts = first_on mid.parts.views other.parts.views new.parts.views part_count parts some.first.parts;
          };
        }

  -- all were taken in
  pub taken_all : (hub : HubView) (all rest : List (WorkerView S L)) (old now : HandView S L) → TakenSome hub all rest old now → rest ≡ []
      → (hands : List (HandView S L)) × HandsAre all hands × GathersHands (All (λ (w : WorkerView S L). IsNoRead w.met) all) hands old now
  taken_all hub all rest old now some none =
      let same : all ≡ some.done = some.all_is ∙ ap (λ (l : List (WorkerView S L)). l ++ some.done) none in
      (some.hands, subst (λ (l : List (WorkerView S L)). HandsAre l some.hands) (sym same) some.are, some.gathered)

-- ---- all that were split off are joined in
module _ {T O R : Type 0} where
  row_joined : (Fine : Ended O R → Type 0) (n : ℕ) (values : List T) (firsts lasts joineds : List (View T O R)) → AreUnplayed n values firsts → AllGoOn firsts lasts → length joineds ≡ length lasts
      → ((k : ℕ) (v w : View T O R) → slice_get lasts k ≡ Some v → slice_get joineds k ≡ Some w → TookIn Fine n v w) → All (λ (v : View T O R). length v.ended ≡ v.made) joineds
  row_joined Fine n values firsts lasts joineds unplayed goes count took = all_places (λ (v : View T O R). length v.ended ≡ v.made) joineds (λ k w here.
      let v = there_in joineds lasts k w (sym count) here in
      let f = there_in lasts firsts k v.0 (sym goes.count) v.1 in
      let value = there_in firsts values k f.0 (sym unplayed.count) f.1 in
      let one = unplayed.each k value.0 f.0 value.1 f.1 in
      let on = goes.each k f.0 v.0 f.1 v.1 in
      let t = took k v.0 w v.1 here in
      let a = t.count in
      let b = ap length (on.ended ∙ one.ended) in
      let c = t.made ∙ (on.made ∙ one.made_is) in
      omega (arith, a, b, c))

pub are_joined : {S L : Type 0} (quiet : Type 0) (lanes : List (LaneView S L)) (parts : List PartView) (hands : List (HandView S L)) (first last joined : HandView S L)
    → IsUnplayedHand (length hands) lanes parts first → AllGoOn first.lanes.views last.lanes.views → AllGoOn first.parts.views last.parts.views → GathersHands quiet hands last joined → AreAllJoined joined
are_joined quiet lanes parts hands first last joined unplayed a b gathered = record {
  lanes = row_joined (LaneIsFine quiet) (length hands) lanes first.lanes.views last.lanes.views joined.lanes.views unplayed.lanes_are a gathered.lane_count gathered.lanes;
  parts = row_joined PartIsFine (length hands) parts first.parts.views last.parts.views joined.parts.views unplayed.parts_are b gathered.part_count gathered.parts;
}
