-- What a run beside hands did, put together.
use Rattle.std.proofs.Common.{◌≡◌, ◌≢◌, inl, inr, ◌≤◌, ◌<◌, ◌^◌, ℕ, List, Option, None, Some, length, refl, sym, ap, ◌∙◌, subst, arith}
use Rattle.std.specs.Prelude.{All, IfSome, Ok, Err, get_or, slice_get}
use Rattle.std.specs.List.{AllZip, count_by}
use Rattle.std.proofs.lemmas.Option.{same_Some, slice_get_within}
use Rattle.eql_values.specs.Accepted.{Reads}
use Rattle.eql_values.specs.declared.reader.LineReader as readers
use Rattle.eql_outside.specs.Outside.{Rose}
use Rattle.eql_outside.specs.Plans.{FaultPlan}
use Rattle.eql_outside.specs.Unfailing.{IsUnfailing}
use Rattle.eql_outside.specs.declared.disk.Disk as disks
use Rattle.eql_outside.specs.declared.sink.Sink as sinks
use Rattle.eql_outside.specs.declared.source.Source as sources
use Rattle.eql_laws.specs.Counting.{greatest_bytes}
use Rattle.eql_lane.specs.declared.ops.LaneOp.{LaneOp}
use Rattle.eql_lane.specs.declared.ops.LaneReply.{LaneReply}
use Rattle.eql_lane.specs.declared.ops.ShardLimit.{ShardLimit}
use Rattle.eql_lane.specs.declared.ops.ShardLimit.TheVariants as limit
use Rattle.eql_lane.specs.Lanes.{IsOutOfLines, LaneState, Setting}
use Rattle.eql_lane.specs.Plays.{DidNotFail}
use Rattle.eql_lane.specs.Views.{IsTextOf, LaneView, setting_of}
use Rattle.eql_parts.specs.PartSteps.{PartView}
use Rattle.eql_turn_lock.specs.declared.history.Entry.{Entry}
use Rattle.eql_turn_lock.specs.declared.view.Ended.{Ended}
use Rattle.eql_turn_lock.specs.declared.view.View.{View}
use Rattle.eql_turn_lock.specs.Calls.{Closes}
use Rattle.eql_turn_lock.specs.History.{IsLegal}
use Rattle.eql_turn_lock.specs.Passes.{IsEndedIn, KnowsHistory}
use Rattle.eql_conductor.specs.declared.plan.Run.{Run}
use Rattle.eql_conductor.specs.declared.stop.Stop.{Stop}
use Rattle.eql_conductor.specs.declared.stop.Stop.TheVariants as stop
use Rattle.eql_conductor.specs.Benches.{ComesByFeeds, Known, NoFeedFailed}
use Rattle.eql_conductor.specs.Going.{LanesGo, RunResult}
use Rattle.eql_conductor.specs.GoingOn.{AreOfTexts, IsAtPlace, LaneGoesOn, LanesGoOn, LanesReadFurther, LanesReadOn, ReadsFurther}
use Rattle.eql_conductor.specs.Lists.{known_in, set_in}
use Rattle.eql_conductor.specs.Records.{ConductorRan}
use Rattle.eql_conductor.specs.RunNotes.{round_count}
use Rattle.eql_conductor.specs.Runs.{EndsBy, MayRun, disk_faults}
use Rattle.eql_conductor.proofs.Causes.{err_is}
use Rattle.eql_conductor.proofs.GoingOn.{further_self}
use Rattle.eql_hub.specs.declared.step.HandFault.{HandFault}
use Rattle.eql_hub.specs.declared.step.HandFault.TheVariants as fault
use Rattle.eql_hub.specs.Hands.{HandView, HubView, LaneKnown, PartKnown}
use Rattle.eql_hub.specs.Turns.{IsLaneTurn, IsPartTurn, is_open_lane, is_open_part}
use Rattle.eql_lock_bench.specs.Benched.{IsBenchHand}
use Rattle.eql_lock_bench.specs.Locked.{entry_failed, known_by, mine_in}
use Rattle.eql_lock_bench.proofs.Closings.{Further, closes_from, fails_as_planned, none_fail, same_lane}
use Rattle.eql_lock_bench.proofs.LaneRuns.{Stands, fed_all}
use Rattle.eql_hub_run.specs.Beside.{HasHandCause, IsOwn, IsSameBench, RanBeside, TellsRead, rank, stop_rank}
use Rattle.eql_hub_run.specs.Gathers.{GathersHands, HandsAre, IsEndOf, IsKept, IsLeastOf, IsUnplayedHand, LaneIsFine, PartIsFine, stop_of_fault}
use Rattle.eql_hub_run.specs.Workers.{HoldsAtPlace, Has, HandDid, HasPlayed, IsFailure, IsLimit, IsNoRead, IsWhole, HandMeets, MeetsWorn, WorkerView}
use Rattle.eql_hub_run.proofs.Moves.{fed_moves, rose_behind}
use Rattle.eql_hub_run.proofs.Hands.{at_all, all_places}
use Rattle.eql_hub_run.proofs.Histories.{IsCalm, didnt, all_calm, all_one, has_own, run_at, run_bytes, run_calm, run_failed, run_further, run_lines, run_stands}
use Rattle.eql_hub_run.proofs.Worn.{FewNotes, few_notes}
use Rattle.eql_hub_run.proofs.Beginning.{began, began_with, begins, may_run}
use Rattle.eql_hub_run.proofs.Seats.{told_no_disk, told_no_write}
use Rattle.eql_hub_run.proofs.Ended.{AllEnd, EndsAt, all_end, kept_words, none_worn_in, own_lanes, own_parts, there_in}

-- ---- ends by their statuses
least_reads : (answer : RunResult) → rank answer ≤ 0 → (s : ℕ) × (answer ≡ Err (stop.Read s))
least_reads (Err (stop.Read s)) l = (s, refl)
least_reads (Err stop.Write) l = absurd (omega (arith, l))
least_reads (Err stop.Disk) l = absurd (omega (arith, l))
least_reads (Err stop.Memory) l = absurd (omega (arith, l))
least_reads (Err (stop.Limit of)) l = absurd (omega (arith, l))
least_reads (Err stop.Generation) l = absurd (omega (arith, l))
least_reads (Err stop.Worn) l = absurd (omega (arith, l))
least_reads (Ok done) l = absurd (omega (arith, l))

-- where no file is told as failed, none of the conductor's feeds failed
not_read_none : (ended : RunResult) (first last : Known) (sb sn db dn : ℕ) → ((s : ℕ) → ended ≢ Err (stop.Read s)) → EndsBy ended first last sb sn db dn → NoFeedFailed first last
not_read_none (Ok done) first last sb sn db dn not cause = cause.0
not_read_none (Err (stop.Read s)) first last sb sn db dn not cause = absurd (not s refl)
not_read_none (Err stop.Write) first last sb sn db dn not cause = cause.0
not_read_none (Err stop.Disk) first last sb sn db dn not cause = cause.0
not_read_none (Err stop.Memory) first last sb sn db dn not cause = cause.0
not_read_none (Err (stop.Limit (limit.Lines s))) first last sb sn db dn not cause = cause.2
not_read_none (Err (stop.Limit (limit.Bytes s))) first last sb sn db dn not cause = cause.2
not_read_none (Err stop.Generation) first last sb sn db dn not cause = cause.0
not_read_none (Err stop.Worn) first last sb sn db dn not cause = cause.1

all_not_failed : (es : List (Entry LaneOp LaneReply)) → All (λ (e : Entry LaneOp LaneReply). DidNotFail e.reply) es → All IsCalm es
all_not_failed es all k d l = didnt (get_or es k d).reply (all k d l)

module _ {S L : Type 0} (source : sources.Ghosts S) (reader : readers.Ghosts L) (text : ℕ → Option (List ℕ)) (olds news : List (LaneView S L)) (parts lefts : List PartView)
    (hub : HubView) (first last joined : HandView S L) (split : ℕ) (workers : List (WorkerView S L)) (hands : List (HandView S L))
    (few : length olds ≤ 256) (of : AreOfTexts source.left text olds) (unplayed : IsUnplayedHand split olds parts first)
    (is : IsBenchHand source.left source.lent_as source.fault_plan reader.read_of text hub first last)
    (played : All (HasPlayed hub) workers) (are : HandsAre workers hands) (many : length workers ≤ 65536)
    (gathered : GathersHands (All (λ (w : WorkerView S L). IsNoRead w.met) workers) hands last joined)
    (lanes_close : AllZip (Closes (IsLaneTurn source.left source.lent_as source.fault_plan reader.read_of) is_open_lane) joined.lanes.views news)
    (parts_close : AllZip (Closes IsPartTurn is_open_part) joined.parts.views lefts) where
  abbrev left : S → Option (List ℕ)
  left = source.left

  abbrev lent_as : S → Option (List ℕ)
  lent_as = source.lent_as

  abbrev fault_plan : S → Option FaultPlan
  fault_plan = source.fault_plan

  abbrev read_of : L → Reads
  read_of = reader.read_of

  abbrev Turns : LaneView S L → LaneOp → LaneReply → LaneView S L → Type 0
  Turns = IsLaneTurn left lent_as fault_plan read_of

  abbrev Quiet : Type 0
  Quiet = All (λ (w : WorkerView S L). IsNoRead w.met) workers

  abbrev one : Known
  one = known_by left lent_as fault_plan read_of text first

  abbrev two : Known
  two = known_by left lent_as fault_plan read_of text last

  same : IsSameBench (known_in read_of text olds parts) one
  same = begins left lent_as fault_plan read_of text split olds parts first unplayed

  lanes_end : AllEnd Turns is_open_lane (LaneIsFine Quiet) (length hands) olds last.lanes.views joined.lanes.views news
  lanes_end = all_end Turns is_open_lane (LaneIsFine Quiet) split (length hands) olds first.lanes.views last.lanes.views joined.lanes.views news
      unplayed.lanes_are is.lanes gathered.lane_count gathered.lanes lanes_close

  parts_end : AllEnd IsPartTurn is_open_part PartIsFine (length hands) parts last.parts.views joined.parts.views lefts
  parts_end = all_end IsPartTurn is_open_part PartIsFine split (length hands) parts first.parts.views last.parts.views joined.parts.views lefts
      unplayed.parts_are is.parts gathered.part_count gathered.parts parts_close

  abbrev LaneEndsAt : ℕ → LaneView S L → Type 0
  LaneEndsAt k old = EndsAt Turns is_open_lane (LaneIsFine Quiet) (length hands) last.lanes.views joined.lanes.views news k old

  -- the history of a lane begins with its text
  stands : (k : ℕ) (old : LaneView S L) → slice_get olds k ≡ Some old → Stands left lent_as fault_plan read_of (text k) (setting_of read_of (text k) old) old
  stands k old there = record { of = of.each k old there; set_is = refl }

  module _ (k : ℕ) (old : LaneView S L) (there : slice_get olds k ≡ Some old) where
    abbrev at : LaneEndsAt k old
    at = lanes_end.each k old there

    new_is : (new : LaneView S L) → slice_get news k ≡ Some new → at.new ≡ new
    new_is new e = same_Some at.new new (sym at.new_there ∙ e)

    abbrev set : Setting
    set = setting_of read_of (text k) old

    -- the conductor knew a state, and from there others fed the lane
    record Fed : Type 0 where
      pub state : LaneState
      pub was : two.lane k state
      pub fed : ComesByFeeds set state at.new.state

    fed : Fed
    fed =
        let took = at.ends.took in
        let further : Further at.before at.after = record { number = took.number; opening = took.opening; mine = took.mine; seen = took.seen } in
        let knows : KnowsHistory Turns is_open_lane at.before = at_all (KnowsHistory Turns is_open_lane) last.lanes.views k at.before at.last_there is.knows.lanes in
        let from = closes_from Turns is_open_lane at.before at.after at.new further at.ends.number knows at.ends.closes in
        let begun : from.opening ≡ old = same_Some from.opening old (sym from.opened ∙ at.ends.opened) in
        let was : IsLegal Turns old at.before.seen from.first = subst (λ (x : LaneView S L). IsLegal Turns x at.before.seen from.first) begun from.was in
        let at_first = run_stands left lent_as fault_plan read_of (text k) set at.before.seen old from.first was (stands k old there) in
        record {
          state = from.first.state;
          was = record { view = at.before; opening = old; value = from.first; there = at.last_there; opened = at.ends.opened; legal = was; state_is = refl };
          fed = fed_all left lent_as fault_plan read_of (text k) set from.rest from.first at.new from.others from.are_open at_first;
        }

    -- the setting by what is known of the bench
    set_is : one.set k ≡ set
    set_is = same.set k ∙ ap (set_in read_of (text k)) there

    inside : k < length olds
    inside = slice_get_within olds k old there

    -- the state with which it began is the one that it might have
    began_is : (x : LaneState) → one.lane k x → x ≡ old.state
    began_is x has = let h = same.lane_from k x has in h.state_is ∙ ap (λ (l : LaneView S L). l.state) (same_Some h.lane old (sym h.there ∙ there))

    -- an entry of a hand that was joined in stands in the history
    in_log : (P : Entry LaneOp LaneReply → Type 0) (hand : HandView S L) (view : LaneKnown S L) → IsKept joined.lanes.views hand.lanes.views → slice_get hand.lanes.views k ≡ Some view
        → Has P view.mine → Has P at.ends.closes.log
    in_log P hand view kept here has =
        let h = kept k at.after view at.joined_there here in
        let both = all_one (IsEndedIn at.ends.closes.log) (IsEndOf view) at.after.ended at.ends.closes.ended_in h in
        has_own P both.0.number at.ends.closes.log
        (subst (Has P) (sym (both.1.0 ∙ both.2.mine)) has)

    failed_rose : Has IsFailure at.ends.closes.log → Rose old.state.faults at.new.state.faults
    failed_rose has = run_failed left lent_as fault_plan read_of (text k) set at.ends.closes.log old at.new at.ends.legal (stands k old there) has

    -- ---- how the lane goes on
    calm_is : All IsCalm at.ends.closes.log → at.new.state.faults ≡ old.state.faults
    calm_is calm = run_calm left lent_as fault_plan read_of (text k) set at.ends.closes.log old at.new at.ends.legal (stands k old there) calm

    on : (quiet : Type 0) → (quiet → NoFeedFailed one two) → (quiet → Quiet) → LaneGoesOn left lent_as fault_plan read_of quiet old at.new
    on quiet none calm = record {
      same = same_lane left lent_as fault_plan read_of at.ends.closes.log old at.new at.ends.legal;
      unfailing = λ u.
          let both = none_fail left lent_as fault_plan read_of at.ends.closes.log old at.new at.ends.legal u in
          (both.1, calm_is (all_not_failed at.ends.closes.log both.0));
      steady = λ q. calm_is (all_calm Turns is_open_lane at.after at.new at.ends.closes
          (let a = none q k in
          let b : one.failed k ≡ 0 = same.failed k in
          let c = ap (λ (o : Option (LaneKnown S L)). count_by entry_failed (mine_in o)) at.last_there in
          let d = ap (count_by entry_failed) at.ends.took.mine in
          omega (arith, a, b, c, d))
          (λ i d l. (at.ends.fine i d l).1 (calm q)));
    }

    new_text : IsTextOf left (text k) at.new
    new_text = (run_stands left lent_as fault_plan read_of (text k) set at.ends.closes.log old at.new at.ends.legal (stands k old there)).of

    module _ (t : List ℕ) (told : text k ≡ Some t) where
      abbrev told_set : Setting
      told_set = setting_of read_of (Some t) old

      told_stands : Stands left lent_as fault_plan read_of (Some t) told_set old
      told_stands = record { of = subst (λ (o : Option (List ℕ)). IsTextOf left o old) told (of.each k old there); set_is = refl }

      read_to : IsAtPlace told_set t old.state → IsAtPlace (setting_of read_of (Some t) at.new) t at.new.state
      read_to was =
          let log = at.ends.closes.log in
          let now = run_at left lent_as fault_plan read_of (Some t) told_set t refl log old at.new at.ends.legal told_stands was in
          let set_stays = (run_stands left lent_as fault_plan read_of (Some t) told_set log old at.new at.ends.legal told_stands).set_is in
          subst (λ (u : Setting). IsAtPlace u t at.new.state) (sym set_stays) now

      further : ReadsFurther t old.state at.new.state
      further = run_further left lent_as fault_plan read_of (Some t) told_set t refl old.state at.ends.closes.log old at.new at.ends.legal told_stands (further_self told_set t refl old.state)

  -- ---- all lanes
  at_new : (k : ℕ) (old new : LaneView S L) (there : slice_get olds k ≡ Some old) → slice_get news k ≡ Some new → (P : LaneView S L → Type 0) → P (at k old there).new → P new
  at_new k old new there e P is_so = subst P (new_is k old there new e) is_so

  old_of : (k : ℕ) (new : LaneView S L) → slice_get news k ≡ Some new → (old : LaneView S L) × (slice_get olds k ≡ Some old)
  old_of k new there = there_in news olds k new (sym lanes_end.new_count) there

  texts_stay : AreOfTexts left text news
  texts_stay = record { each = λ k new e. let o = old_of k new e in at_new k o.0 new o.1 e (IsTextOf left (text k)) (new_text k o.0 o.1) }

  read_on : LanesReadOn read_of text olds news
  read_on = record {
    each = λ k old new there e t told was. at_new k old new there e (λ (l : LaneView S L). IsAtPlace (setting_of read_of (Some t) l) t l.state) (read_to k old there t told was);
  }

  lines_on : LanesReadFurther text olds news
  lines_on = record { each = λ k old new there e t told. at_new k old new there e (λ (l : LaneView S L). ReadsFurther t old.state l.state) (further k old there t told) }

  lanes_on : (quiet : Type 0) → (quiet → NoFeedFailed one two) → (quiet → Quiet) → LanesGoOn left lent_as fault_plan read_of (λ s. quiet) olds news
  lanes_on quiet none calm = record {
    count = lanes_end.new_count;
    each = λ k old new there e. at_new k old new there e (LaneGoesOn left lent_as fault_plan read_of quiet old) (on k old there quiet none calm);
  }

  -- ---- the hands
  -- a hand of a worker, and that what is kept of it is in the first hand
  record HandOf (worker : WorkerView S L) : Type 0 where
    pub hand : HandView S L
    pub whole : IsWhole hub hand
    pub hand_did : HandDid worker.met hand
    pub lanes_kept : IsKept joined.lanes.views hand.lanes.views
    pub parts_kept : IsKept joined.parts.views hand.parts.views

  hands_of : All HandOf workers
  hands_of = all_places HandOf workers (λ k worker there.
      let did = at_all (HasPlayed hub) workers k worker there played in
      let its = are.1 k worker there in
      let e : its.0 ≡ did.0 = same_Some its.0 did.0 (sym its.2 ∙ did.1) in
      let kept = at_all (λ (h : HandView S L). IsKept joined.lanes.views h.lanes.views × IsKept joined.parts.views h.parts.views) hands k its.0 its.1 gathered.kept in
      let both = subst (λ (h : HandView S L). IsKept joined.lanes.views h.lanes.views × IsKept joined.parts.views h.parts.views) e kept in
      record { hand = did.0; whole = did.2; hand_did = did.3; lanes_kept = both.0; parts_kept = both.1 })

  lane_under : (hand : HandView S L) → IsWhole hub hand → (k : ℕ) (view : LaneKnown S L) → slice_get hand.lanes.views k ≡ Some view → (old : LaneView S L) × (slice_get olds k ≡ Some old)
  lane_under hand whole k view there =
      there_in hand.lanes.views olds k view (sym lanes_end.last_count ∙ (is.lane_count ∙ sym whole.lane_count)) there

  part_under : (hand : HandView S L) → IsWhole hub hand → (k : ℕ) (view : PartKnown) → slice_get hand.parts.views k ≡ Some view → (old : PartView) × (slice_get parts k ≡ Some old)
  part_under hand whole k view there =
      there_in hand.parts.views parts k view (sym parts_end.last_count ∙ (is.part_count ∙ sym whole.part_count)) there

  -- the entries of the conductor are few
  module _ (own : FewNotes two) where
    made_few : length hands ≤ 65536
    made_few = let a = are.0 in omega (arith, a, many)

    no_word : {T O R : Type 0} (view : View T O R) (ended : List (Ended O R)) → All (λ (e : Ended O R). All (λ (n : ℕ). n < 2 ^ 63) e.looked) ended → Has (IsEndOf view) ended → MeetsWorn view → ⊥
    no_word {T} {O} {R} view ended small kept met =
        let e = all_one (λ (d : Ended O R). All (λ (n : ℕ). n < 2 ^ 63) d.looked) (IsEndOf view) ended small kept in
        let word = all_one (λ (n : ℕ). n < 2 ^ 63) (λ (n : ℕ). 2 ^ 63 ≤ n) e.0.looked e.1 (subst (Has (λ (n : ℕ). 2 ^ 63 ≤ n)) (sym e.2.looked) met) in
        let a = word.1 in
        let b = word.2 in
        omega (arith, a, b)

    lane_worn : (hand : HandView S L) → IsWhole hub hand → IsKept joined.lanes.views hand.lanes.views → (k : ℕ) → HoldsAtPlace hand.lanes.views k (λ (v : LaneKnown S L). MeetsWorn v) → ⊥
    lane_worn hand whole kept k met =
        let old = lane_under hand whole k met.one met.there in
        let end_at = at k old.0 old.1 in
        no_word met.one end_at.after.ended
        (kept_words Turns is_open_lane (LaneIsFine Quiet) (length hands) olds last.lanes.views joined.lanes.views news lanes_end made_few (λ e fine. fine.0)
        (own_lanes left lent_as fault_plan read_of text last own) k old.0 end_at)
        (kept k end_at.after met.one end_at.joined_there met.there) met.so

    part_worn : (hand : HandView S L) → IsWhole hub hand → IsKept joined.parts.views hand.parts.views → (k : ℕ) → HoldsAtPlace hand.parts.views k (λ (v : PartKnown). MeetsWorn v) → ⊥
    part_worn hand whole kept k met =
        let old = part_under hand whole k met.one met.there in
        let end_at = parts_end.each k old.0 old.1 in
        no_word met.one end_at.after.ended
        (kept_words IsPartTurn is_open_part PartIsFine (length hands) parts last.parts.views joined.parts.views lefts parts_end made_few (λ e fine. fine)
        (own_parts left lent_as fault_plan read_of text last own) k old.0 end_at)
        (kept k end_at.after met.one end_at.joined_there met.there) met.so

    none_worn : two.worn ≡ 0
    none_worn =
        let a = none_worn_in Turns is_open_lane (LaneIsFine Quiet) (length hands) olds last.lanes.views joined.lanes.views news lanes_end made_few (λ e fine. fine.0)
        (own_lanes left lent_as fault_plan read_of text last own) in
        let b = none_worn_in IsPartTurn is_open_part PartIsFine (length hands) parts last.parts.views joined.parts.views lefts parts_end made_few (λ e fine. fine)
        (own_parts left lent_as fault_plan read_of text last own) in
        omega (arith, a, b)

    -- ---- a fault that a hand met
    -- why it is told, and that a hand can tell it
    record FaultIs (by : Stop) : Type 0 where
      pub because : HasHandCause read_of text olds news (Err by)
      pub not_own : IsOwn (Err by) → ⊥
      pub not_worn : by ≢ stop.Worn
      pub planned : (s : ℕ) (old : LaneView S L) → slice_get olds s ≡ Some old → IsUnfailing (fault_plan old.source) → by ≢ stop.Read s

    module _ (shards : (s : ℕ) (old : LaneView S L) → slice_get olds s ≡ Some old → old.shard ≡ s) (hand : HandView S L) (whole : IsWhole hub hand)
        (kept_lanes : IsKept joined.lanes.views hand.lanes.views) (kept_parts : IsKept joined.parts.views hand.parts.views) where
      same_shard : (s r : ℕ) → stop.Read s ≡ stop.Read r → s ≡ r
      same_shard s r e = cc

      -- no source that isn't planned to fail did
      none_failed : (s : ℕ) (old : LaneView S L) (there : slice_get olds s ≡ Some old) → IsUnfailing (fault_plan old.source) → Has IsFailure (at s old there).ends.closes.log → ⊥
      none_failed s old there u has =
          let end_at = at s old there in
          let both = none_fail left lent_as fault_plan read_of end_at.ends.closes.log old end_at.new end_at.ends.legal u in
          let e = all_one (λ (d : Entry LaneOp LaneReply). DidNotFail d.reply) IsFailure end_at.ends.closes.log both.0 has in
          e.1 e.2.0 e.2.1

      read_is : (s : ℕ) → HoldsAtPlace hand.lanes.views s (λ (v : LaneKnown S L). Has IsFailure v.mine) → FaultIs (stop.Read s)
      read_is s met =
          let o = lane_under hand whole s met.one met.there in
          let has = in_log s o.0 o.1 IsFailure hand met.one kept_lanes met.there met.so in
          record {
            because = (
              inside s o.0 o.1,
              λ old new there e. at_new s old new there e (λ (l : LaneView S L). Rose old.state.faults l.state.faults)
                  (failed_rose s old there (in_log s old there IsFailure hand met.one kept_lanes met.there met.so)),
            );
            not_own = λ own_one. own_one;
            not_worn = λ e. absurd cc;
            planned = λ r old there u e.
                let same_s : s ≡ r = same_shard s r e in
                none_failed r old there u (in_log r old there IsFailure hand met.one kept_lanes (subst (λ (j : ℕ). slice_get hand.lanes.views j ≡ Some met.one) same_s met.there) met.so);
          }

      limit_is : (of_it : ShardLimit) (s : ℕ) → HoldsAtPlace hand.lanes.views s (λ (v : LaneKnown S L). Has (IsLimit of_it) v.mine) → FaultIs (stop.Limit of_it)
      limit_is (limit.Lines shard) s met =
          let o = lane_under hand whole s met.one met.there in
          let end_at = at s o.0 o.1 in
          let told = run_lines left lent_as fault_plan read_of (text s) (set s o.0 o.1) shard end_at.ends.closes.log o.0 end_at.new end_at.ends.legal (stands s o.0 o.1)
          (in_log s o.0 o.1 (IsLimit (limit.Lines shard)) hand met.one kept_lanes met.there met.so) in
          let e : shard ≡ s = told.0 ∙ shards s o.0 o.1 in
          record {
            because = subst (λ (r : ℕ). HasHandCause read_of text olds news (Err (stop.Limit (limit.Lines r)))) (sym e) (
              inside s o.0 o.1,
              λ old new there f. at_new s old new there f (λ (l : LaneView S L). IsOutOfLines (setting_of read_of (text s) old) l.state)
                  (let end_here = at s old there in
                  (run_lines left lent_as fault_plan read_of (text s) (set s old there) shard end_here.ends.closes.log old end_here.new end_here.ends.legal (stands s old there)
                  (in_log s old there (IsLimit (limit.Lines shard)) hand met.one kept_lanes met.there met.so)).1),
            );
            not_own = λ own_one. own_one;
            not_worn = λ f. absurd cc;
            planned = λ r old there u f. absurd cc;
          }
      limit_is (limit.Bytes shard) s met =
          let o = lane_under hand whole s met.one met.there in
          let end_at = at s o.0 o.1 in
          let told = run_bytes left lent_as fault_plan read_of (text s) (set s o.0 o.1) shard end_at.ends.closes.log o.0 end_at.new end_at.ends.legal (stands s o.0 o.1)
          (in_log s o.0 o.1 (IsLimit (limit.Bytes shard)) hand met.one kept_lanes met.there met.so) in
          let e : shard ≡ s = told.0 ∙ shards s o.0 o.1 in
          record {
            because = subst (λ (r : ℕ). HasHandCause read_of text olds news (Err (stop.Limit (limit.Bytes r)))) (sym e) (
              inside s o.0 o.1,
              λ new f. at_new s o.0 new o.1 f (λ (l : LaneView S L). l.state.taken ≡ greatest_bytes) told.1,
            );
            not_own = λ own_one. own_one;
            not_worn = λ f. absurd cc;
            planned = λ r old there u f. absurd cc;
          }

      fault_is : (met : HandFault) → HandMeets hand met → FaultIs (stop_of_fault met)
      fault_is (fault.Read s) met = read_is s met
      fault_is fault.Memory met = record { because = tt; not_own = λ own_one. own_one; not_worn = λ e. absurd cc; planned = λ s old there u e. absurd cc }
      fault_is (fault.Limit of_it) (s, met) = limit_is of_it s met
      fault_is fault.Worn (inl (s, met)) = absurd (lane_worn hand whole kept_lanes s met)
      fault_is fault.Worn (inr (s, met)) = absurd (part_worn hand whole kept_parts s met)

    -- ---- how the conductor ended
    module _ (sb sn db dn : ℕ) where
      -- a lane whose source isn't planned to fail has no feed of the conductor that failed
      conductor_planned : (ended : RunResult) → EndsBy ended one two sb sn db dn → (s : ℕ) (old : LaneView S L) → slice_get olds s ≡ Some old → IsUnfailing (fault_plan old.source) → ended ≢ Err (stop.Read s)
      conductor_planned ended cause s old there u e =
          let because = subst (λ (a : RunResult). EndsBy a one two sb sn db dn) e cause in
          let at_end = at s old there in
          let knows : KnowsHistory Turns is_open_lane at_end.before = at_all (KnowsHistory Turns is_open_lane) last.lanes.views s at_end.before at_end.last_there is.knows.lanes in
          let none = fails_as_planned left lent_as fault_plan read_of at_end.before old knows at_end.ends.opened u in
          let a = because.2.failed in
          let b = ap (λ (o : Option (LaneKnown S L)). count_by entry_failed (mine_in o)) at_end.last_there in
          omega (arith, a, b, none)

      conductor_worn : (ended : RunResult) → EndsBy ended one two sb sn db dn → ended ≢ Err stop.Worn
      conductor_worn ended cause e =
          let because = subst (λ (a : RunResult). EndsBy a one two sb sn db dn) e cause in
          let a = because.0 in
          let b = none_worn in
          omega (arith, a, b)

      -- why it is told what a hand could have told too
      conductor_cause : (ended : RunResult) → LanesGo one two → EndsBy ended one two sb sn db dn → HasHandCause read_of text olds news ended
      conductor_cause (Ok done) goes cause = tt
      conductor_cause (Err stop.Write) goes cause = tt
      conductor_cause (Err stop.Disk) goes cause = tt
      conductor_cause (Err stop.Memory) goes cause = tt
      conductor_cause (Err stop.Generation) goes cause = tt
      conductor_cause (Err stop.Worn) goes cause = tt
      conductor_cause (Err (stop.Read s)) goes cause = (
        (let a = cause.0 in let b = same.lanes in omega (arith, a, b)),
        λ old new there e. at_new s old new there e (λ (l : LaneView S L). Rose old.state.faults l.state.faults)
            (let f = fed s old there in
            let rose = cause.1 f.state f.was in
            let x_is = began_is s old there rose.0 rose.1 in
            let on_to = goes.each s cause.0 f.state f.was in
            let o_is = began_is s old there on_to.0 on_to.1 in
            let up = on_to.2.faults in
            let a = ap (λ (x : LaneState). x.faults) o_is in
            let moved = fed_moves (set s old there) f.state (at s old there).new.state f.fed in
            rose_behind old.state.faults f.state.faults (at s old there).new.state.faults (omega (arith, a, up))
            (subst (λ (x : LaneState). Rose x.faults f.state.faults) x_is rose.2) moved.rise),
      )
      conductor_cause (Err (stop.Limit (limit.Lines s))) goes cause = (
        (let a = cause.0 in let b = same.lanes in omega (arith, a, b)),
        λ old new there e. at_new s old new there e (λ (l : LaneView S L). IsOutOfLines (setting_of read_of (text s) old) l.state)
            (let f = fed s old there in
            let out = cause.1 f.state f.was in
            (fed_moves (set s old there) f.state (at s old there).new.state f.fed).lines (record { lines = out.lines; byte = out.byte })),
      )
      conductor_cause (Err (stop.Limit (limit.Bytes s))) goes cause = (
        (let a = cause.0 in let b = same.lanes in omega (arith, a, b)),
        λ new e.
            let o = old_of s new e in
            at_new s o.0 new o.1 e (λ (l : LaneView S L). l.state.taken ≡ greatest_bytes)
            (let f = fed s o.0 o.1 in (fed_moves (set s o.0 o.1) f.state (at s o.0 o.1).new.state f.fed).bytes (cause.1 f.state f.was)),
      )

  -- ---- the whole run
  module _ {K D : Type 0} (output : sinks.Ghosts K) (disk : disks.Ghosts D) (sink sink' : K) (run run' : Run D) (ended answer : RunResult)
      (may : MayRun run.plan (known_in read_of text olds parts) run.book) (told : IsLeastOf ended workers answer)
      (ran : ConductorRan output disk one two sink sink' run run' ended) where
    abbrev goes : LanesGo one two
    goes = ran.goes

    own_few : FewNotes two
    own_few =
        let starts = began_with read_of text olds parts one same in
        few_notes one two (began read_of text olds parts one same) starts (may_run (known_in read_of text olds parts) one same run.plan run.book may).sized
        (let a = same.lanes in omega (arith, a, few)) goes.same.lanes goes.same.parts
        (λ s l. goes.same.some_lane s l (began read_of text olds parts one same s, starts.was s l))
        (round_count run.plan _ one two ended ran.ran.notes) ran.ran.bound

    shards_are : (s : ℕ) (old : LaneView S L) → slice_get olds s ≡ Some old → old.shard ≡ s
    shards_are s old there =
        let a = may.lanes.are.shard s (slice_get_within olds s old there) in
        ap (λ (t : Setting). t.shard) (sym (ap (set_in read_of (text s)) there)) ∙ a

    not_read : (TellsRead answer → ⊥) → (s : ℕ) → ended ≢ Err (stop.Read s)
    not_read quiet s e =
        let a = told.least in
        let b = ap rank e in
        let r = least_reads answer (omega (arith, a, b)) in
        quiet (subst TellsRead (sym r.1) tt)

    calm : (TellsRead answer → ⊥) → Quiet
    calm quiet = all_places (λ (w : WorkerView S L). IsNoRead w.met) workers (λ k worker there.
        by worker.met (at_all (λ (w : WorkerView S L). IfSome w.met (λ (met : HandFault). rank answer ≤ stop_rank (stop_of_fault met))) workers k worker there told.each))
      where
        by : (met : Option HandFault) → IfSome met (λ (f : HandFault). rank answer ≤ stop_rank (stop_of_fault f)) → IsNoRead met
        by None h = tt
        by (Some fault.Memory) h = tt
        by (Some (fault.Limit of_it)) h = tt
        by (Some fault.Worn) h = tt
        by (Some (fault.Read s)) h = let r = least_reads answer h in absurd (quiet (subst TellsRead (sym r.1) tt))

    -- what is told is the conductor's end, or a fault that a hand met
    record ByHand : Type 0 where
      pub by : Stop
      pub is_told : answer ≡ Err by
      pub so : FaultIs own_few by

    by_hand : Has (λ (worker : WorkerView S L). (met : HandFault) × (worker.met ≡ Some met) × (answer ≡ Err (stop_of_fault met))) workers → ByHand
    by_hand has =
        let e = all_one HandOf (λ (worker : WorkerView S L). (met : HandFault) × (worker.met ≡ Some met) × (answer ≡ Err (stop_of_fault met))) workers hands_of has in
        let met : HandMeets e.1.hand e.2.0 = subst (λ (o : Option HandFault). IfSome o (HandMeets e.1.hand)) e.2.1 e.1.hand_did.fault_is in
        record {
          by = stop_of_fault e.2.0;
          is_told = e.2.2;
          so = fault_is own_few shards_are e.1.hand e.1.whole e.1.lanes_kept e.1.parts_kept e.2.0 met;
        }

    abbrev sink_before : ℕ
    sink_before = output.fault_count sink

    abbrev sink_now : ℕ
    sink_now = output.fault_count sink'

    abbrev disk_before : ℕ
    disk_before = disk_faults disk.history disk.fault_count run.keep

    abbrev disk_now : ℕ
    disk_now = disk_faults disk.history disk.fault_count run'.keep

    pub ran_beside : RanBeside source reader output disk text olds news parts sink sink' run run' answer
    ran_beside = record {
      first = first;
      last = last;
      run = record {
        begins = same;
        ended = ended;
        conductor = ran;
        hands = record {
          told = record {
            least = told.least;
            tie = λ e. sym (told.tie e);
            own = λ own_one. elim told.from [
              | inl e ↦ sym e
              | inr has ↦ let h = by_hand has in absurd (h.so.not_own (subst IsOwn h.is_told own_one))
            ];
          };
          lanes = λ s new e.
              let o = old_of s new e in
              let f = fed s o.0 o.1 in (
                f.state,
                f.was,
                at_new s o.0 new o.1 e (λ (l : LaneView S L). ComesByFeeds (one.set s) f.state l.state)
                    (subst (λ (u : Setting). ComesByFeeds u f.state (at s o.0 o.1).new.state) (sym (set_is s o.0 o.1)) f.fed),
              );
          hand_cause = elim told.from [
            | inl e ↦ subst (HasHandCause read_of text olds news) (sym e) (conductor_cause own_few sink_before sink_now disk_before disk_now ended goes ran.cause)
            | inr has ↦ let h = by_hand has in subst (HasHandCause read_of text olds news) (sym h.is_told) h.so.because
          ];
          not_worn =
              let not_ended = conductor_worn own_few sink_before sink_now disk_before disk_now ended ran.cause in (
                not_ended,
                elim told.from [
                  | inl e ↦ λ f. not_ended (sym e ∙ f)
                  | inr has ↦ λ f. let h = by_hand has in h.so.not_worn (err_is h.by stop.Worn (sym h.is_told ∙ f))
                ],
              );
          planned = λ s old there u.
              let not_ended = conductor_planned own_few sink_before sink_now disk_before disk_now ended ran.cause s old there u in (
                not_ended,
                elim told.from [
                  | inl e ↦ λ f. not_ended (sym e ∙ f)
                  | inr has ↦ λ f. let h = by_hand has in h.so.planned s old there u (err_is h.by (stop.Read s) (sym h.is_told ∙ f))
                ],
              );
          on = lanes_on (TellsRead answer → ⊥) (λ quiet.
              not_read_none ended one two sink_before sink_now disk_before disk_now (not_read quiet) ran.cause) calm;
          texts = texts_stay;
          read = read_on;
          lines = lines_on;
          follows = record {
            silent = ran.follows.silent;
            unfailing = λ u. let both = ran.follows.unfailing u in (told_no_write ended workers answer told both.0, both.1);
            unfailing_disk = λ u. let both = ran.follows.unfailing_disk u in (told_no_disk ended workers answer told both.0, both.1);
          };
        };
      };
    }
