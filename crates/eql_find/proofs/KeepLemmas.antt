-- What becomes of the disk of a run, from what its search says.
use native.Mathlib.Omega.{arith}
use Rattle.std.proofs.Common.{◌≡◌, ◌≢◌, ◌≤◌, ◌<◌, ◌+◌, ◌^◌, ℕ, ℤ, List, [], ◌∷◌, length, inl, inr, Option, Some, None, Err, refl, sym, ap, subst}
use Rattle.std.specs.Prelude.{All, Result, IfSome, IsTrue, map}
use Rattle.std.specs.Option.{option_map}
use Rattle.std.proofs.lemmas.Int.{ints}
use Rattle.std.proofs.lemmas.List.Elements.{All-nil, All-weaker}
use Rattle.std.proofs.lemmas.Option.{none-some}
use Rattle.eql_values.specs.Accepted.{Reads}
use Rattle.eql_values.specs.Marks.{is_safe, low_of}
use Rattle.eql_values.specs.declared.cut.LaneCut.{LaneCut}
use Rattle.eql_values.specs.declared.order.Mark.{Mark}
use Rattle.eql_values.specs.declared.order.Mark.TheVariants.{At}
use Rattle.eql_outside.specs.Moments.{History}
use Rattle.eql_outside.specs.Outside.{Rose}
use Rattle.eql_laws.specs.Fitting.{Kept}
use Rattle.eql_laws.specs.Lanes.{lane_at, lanes_from}
use Rattle.eql_laws.specs.Places.{ReadTo, lows_from}
use Rattle.eql_words.specs.declared.commands.Checkpoint.{Checkpoint}
use Rattle.eql_words.specs.declared.commands.Find.{Find}
use Rattle.eql_words.specs.Bounds.{FindIsBounded}
use Rattle.eql_cut.specs.declared.cut.Cut.{Cut}
use Rattle.eql_cut.specs.declared.cut.CutHead.{CutHead}
use Rattle.eql_cut.specs.Rising.{RiseFrom}
use Rattle.eql_ckdisk.specs.Found.{LastCut}
use Rattle.eql_ckdisk.specs.Putting.{last_cut}
use Rattle.eql_conductor.specs.declared.plan.Keep.{Keep}
use Rattle.eql_conductor.specs.declared.stop.Stop.{Stop}
use Rattle.eql_conductor.specs.declared.stop.Stop.TheVariants as stop
use Rattle.eql_conductor.specs.Runs.{disk_faults}
use Rattle.eql_conductor.specs.Saving.{PutsCuts}
use Rattle.eql_runs.specs.Runs.{KeptCounted, WroteCounted}
use Rattle.eql_runs.specs.Searches.{Search, matches_of, nanos_in, pipes_of, reads_of}
use Rattle.eql_runs.specs.Starts.{IsCutOf}
use Rattle.eql_search.specs.Answers.{IsRead}
use Rattle.eql_search.specs.Keeping.{IsLaterCut, IsSearchCut, KeepsOn}
use Rattle.eql_find.specs.declared.error.FindError.{FindError}
use Rattle.eql_find.specs.declared.error.FindError.TheVariants as run
use Rattle.eql_find.specs.declared.plan.PlannedQuery.{PlannedQuery}
use Rattle.eql_find.specs.Running.{KeepsIfAsked}
use Rattle.eql_find.specs.Searching.{KeepsAs, rules_in, search_in}
use Rattle.eql_find.proofs.SearchLemmas.{AreSearched}

not_disk : {A : Type 0} (answer : Result A Stop) → answer ≡ Err stop.Generation → answer ≡ Err stop.Disk → ⊥
not_disk answer at disk = cc

not_memory : {A : Type 0} (answer : Result A Stop) → answer ≡ Err stop.Generation → answer ≡ Err stop.Memory → ⊥
not_memory answer at memory = cc

not_read : {A : Type 0} (answer : Result A Stop) → answer ≡ Err stop.Generation → IsRead answer → ⊥
not_read answer at read = subst (λ (a : Result _ Stop). IsRead a) at read

none_rose : Rose 0 0 → ⊥
none_rose (inl h) = omega (arith, h)
none_rose (inr h) = omega (arith, h)

-- ---- no cut was put
puts_none : (last : LastCut) (disk : Option History) → PutsCuts last [] disk disk
puts_none last None = tt
puts_none last (Some h) = (0, refl)

module _ {D : Type 0} (history : D → Option History) where
  -- a run that wasn't begun, for want of memory, leaves the disk as it was
  pub keeps_nothing : (A : Type 0) (head : CutHead) (from : Mark) (Are : List Cut → Type 0) → Are [] → (keep : Option (Keep D)) (h : FindError)
      → h ≢ run.Generation → KeepsAs history {A = A} head from Are keep keep (Err h)
  keeps_nothing A head from Are none None h other = λ e. other cc
  keeps_nothing A head from Are none (Some k) h other = record {
    cuts = [];
    are_later = All-nil (IsLaterCut head from);
    are_cuts = none;
    rise = tt;
    puts = puts_none (last_cut k.state) (history k.disk);
    at_end = λ e. absurd (other cc);
  }

  -- the same cuts by weaker words
  pub keeps_weaker : {A : Type 0} (head : CutHead) (from : Mark) (Are Be : List Cut → Type 0) → ((cuts : List Cut) → Are cuts → Be cuts)
      → (keep kept : Option (Keep D)) (answer : Result A Stop) → KeepsOn history head from Are keep kept answer
      → KeepsOn history head from Be keep kept answer
  keeps_weaker head from Are Be f None None answer h = h
  keeps_weaker head from Are Be f None (Some l) answer h = h
  keeps_weaker head from Are Be f (Some k) None answer h = h
  keeps_weaker head from Are Be f (Some k) (Some l) answer h = record {
    cuts = h.cuts;
    are_later = h.are_later;
    are_cuts = f h.cuts h.are_cuts;
    rise = h.rise;
    puts = h.puts;
    stands = h.stands;
    last = h.last;
    ended = h.ended;
  }

  -- ---- a search's cuts are those of its run
  pub keeps_as : {A B : Type 0} (head : CutHead) (from mark : Mark) (Are Be : List Cut → Type 0) → from ≡ mark → ((cuts : List Cut) → Are cuts → Be cuts)
      → (keep kept : Option (Keep D)) (answer : Result A Stop) (r : Result B FindError)
      → (r ≡ Err run.Generation → answer ≡ Err stop.Generation) → KeepsOn history head from Are keep kept answer
      → KeepsAs history head mark Be keep kept r
  keeps_as head from mark Are Be same f None None answer r ends h = λ e. h (ends e)
  keeps_as head from mark Are Be same f None (Some l) answer r ends h = h
  keeps_as head from mark Are Be same f (Some k) None answer r ends h = h
  keeps_as head from mark Are Be same f (Some k) (Some l) answer r ends h = record {
    cuts = h.cuts;
    are_later = subst (λ (m : Mark). All (IsLaterCut head m) h.cuts) same h.are_later;
    are_cuts = f h.cuts h.are_cuts;
    rise = subst (λ (m : Mark). RiseFrom m h.cuts) same h.rise;
    puts = h.puts;
    at_end = λ e.
        let at : answer ≡ Err stop.Generation = ends e in
        let end = h.ended at in
        (end.0, end.1, h.stands (λ disk. not_disk answer at disk) (λ memory. not_memory answer at memory) (not_read answer at));
  }

  -- ---- a run that asks for no checkpoint keeps no cuts
  pub asked_by : (c : Option Checkpoint) (keep : Option (Keep D)) → KeepsIfAsked history c keep → keep ≢ None → c ≢ None
  asked_by None None h some = absurd (some refl)
  asked_by None (Some k) h some = absurd h
  asked_by (Some checkpoint) keep h some = λ none. none-some checkpoint (sym none)

  pub rose_keeps : {A : Type 0} (count : D → ℕ) (head : CutHead) (from : Mark) (Are : List Cut → Type 0) (keep kept : Option (Keep D)) (answer : Result A Stop)
      → KeepsOn history head from Are keep kept answer → Rose (disk_faults history count keep) (disk_faults history count kept) → keep ≢ None
  rose_keeps count head from Are None None answer h rose = absurd (none_rose rose)
  rose_keeps count head from Are None (Some l) answer h rose = absurd h
  rose_keeps count head from Are (Some k) kept answer h rose = λ none. none-some k (sym none)

  pub end_keeps : {A : Type 0} (head : CutHead) (from : Mark) (Are : List Cut → Type 0) (keep kept : Option (Keep D)) (answer : Result A Stop)
      → answer ≡ Err stop.Generation → KeepsOn history head from Are keep kept answer → keep ≢ None
  end_keeps head from Are None None answer at h = absurd (h at)
  end_keeps head from Are None (Some l) answer at h = absurd h
  end_keeps head from Are (Some k) kept answer at h = λ none. none-some k (sym none)

-- ---- cuts of a search
same_lows : (reads : Reads) (slack : Option ℤ) (mark : Mark) (shard : ℕ) (shards : List ReadTo)
    → map (λ (lane : LaneCut). low_of lane.closed slack lane.best) (lanes_from reads slack shard mark shards) ≡ lows_from reads slack shard shards
same_lows reads slack mark shard [] = refl
same_lows reads slack mark shard (r ∷ shards) =
    ap (λ (lows : List Mark). (let lane = lane_at reads slack shard mark r in low_of lane.closed slack lane.best) ∷ lows) (same_lows reads slack mark (shard + 1) shards)

-- a cut that a search put is one of the search in words of runs
pub is_cut_of : (search : Search) (slack : ℕ) (ts : List (List ℕ)) (cut : Cut)
    → IsSearchCut (rules_in search) (pipes_of search) ts (nanos_in slack) cut → IsCutOf search slack ts cut
is_cut_of search slack ts cut h =
    let lanes_are : cut.lanes ≡ lanes_from (reads_of search) (Some (nanos_in slack)) 0 (At cut.mark) h.is_cut.shards = ap (λ (k : Kept). k.lanes) h.is_cut.kept_is in
    record {
      shards = h.is_cut.shards;
      texts_are = h.is_cut.texts_are;
      are_places = h.is_cut.are_places;
      safe = subst (λ (lows : List Mark). IsTrue (is_safe (At cut.mark) lows)) (same_lows (reads_of search) (Some (nanos_in slack)) (At cut.mark) 0 h.is_cut.shards)
          (subst (λ (lanes : List LaneCut). IsTrue (is_safe (At cut.mark) (map (λ (lane : LaneCut). low_of lane.closed (Some (nanos_in slack)) lane.best) lanes))) lanes_are h.safe);
      in_range = h.in_range;
      kept_is = h.is_cut.kept_is;
    }

pub are_cuts_of : (find : Find) (p : PlannedQuery) → FindIsBounded find → (ts : List (List ℕ)) (listed : ℕ) (out out' kept kept' : Option (List ℕ)) (cuts : List Cut)
    → AreSearched (search_in find p) ts listed out out' kept kept' cuts → length (matches_of (search_in find p) ts) < 2 ^ 64
    → (slack : ℕ) → find.slack ≡ Some slack
    → All (λ (cut : Cut). IsCutOf (search_in find p) slack ts cut) cuts × All (WroteCounted (search_in find p) ts listed out out') cuts
    × All (KeptCounted (search_in find p) ts listed out kept kept') cuts
are_cuts_of find p bounds ts listed out out' kept kept' cuts are less slack is =
    let most : slack ≤ 3153600000000 = subst (λ (o : Option ℕ). IfSome o (λ (time : ℕ). time ≤ 3153600000000)) is bounds.slack in
    let both = are less in (
      All-weaker (IsSearchCut (rules_in (search_in find p)) (pipes_of (search_in find p)) ts (nanos_in slack)) (IsCutOf (search_in find p) slack ts)
          (is_cut_of (search_in find p) slack ts) cuts
          (both.0 (nanos_in slack) (ap (option_map nanos_in) is) (omega (arith, ints)) (omega (arith, ints))),
      both.1,
      both.2,
    )
