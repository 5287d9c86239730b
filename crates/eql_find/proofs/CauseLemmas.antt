-- Why a run stops, by its files and its disk.
use native.Mathlib.Omega.{arith}
use Rattle.std.proofs.Common.{◌≡◌, ◌≢◌, ◌<◌, ◌+◌, ℕ, inr, List, [], ◌∷◌, ◌++◌, Option, Some, None, Ok, Err, refl, sym, ap, ◌∙◌, subst, suc, zero, drop, length}
use Rattle.std.specs.Prelude.{All, IfErr, IfSome, OnOk, cond, is_none, slice_get, Result}
use Rattle.std.proofs.lemmas.List.Elements.{All-head, All-tail}
use Rattle.std.proofs.lemmas.Option.{same_Some, none-some}
use Rattle.eql_values.specs.declared.cut.Counts.{Counts}
use Rattle.eql_values.specs.declared.cut.LaneCut.{LaneCut}
use Rattle.eql_outside.specs.Moments.{History}
use Rattle.eql_query.specs.QueryTree.{query_tree}
use Rattle.eql_words.specs.declared.commands.Find.{Find}
use Rattle.eql_lane.specs.Lanes.{fresh_cut}
use Rattle.eql_lane.specs.Noting.{placed_cut}
use Rattle.eql_lane.specs.Views.{LaneView}
use Rattle.eql_laws.specs.Counting.{greatest_lines}
use Rattle.eql_laws.specs.Places.{ReadTo}
use Rattle.eql_values.specs.Lines.{lines_of}
use Rattle.eql_cut.specs.declared.cut.Cut.{Cut}
use Rattle.eql_resume.specs.Beginnings.{Keeping, Rest, keeping_of, undigested, unplaced, whole as whole_cut}
use Rattle.eql_resume.specs.Finding.{disk_holding}
use Rattle.eql_resume.specs.Lifted.{WereLifted}
use Rattle.eql_runs.proofs.Overs.{same_but}
use Rattle.eql_runs.specs.Files.{Files, HasTexts, first_missing}
use Rattle.eql_runs.specs.Runs.{IfFound, IsFindAccepted, Searches, GenerationsEnd, GoesBeyond, IsBeyond, IsNamed, Reaches, ShardLimit, lane_on, many_bytes, many_lines, shard_file, shard_of}
use Rattle.eql_runs.specs.Searches.{Search, report_lines}
use Rattle.eql_runs.specs.Starts.{DiskHolds, OnDisk, start_for}
use Rattle.eql_shards.specs.Shards.{AreWholeFiles}
use Rattle.eql_inputs.specs.declared.error.InputError.TheVariants as error
use Rattle.eql_search.specs.Beginnings.{cuts_of}
use Rattle.eql_find.specs.declared.error.FindError.{FindError}
use Rattle.eql_find.specs.declared.error.FindError.TheVariants as run
use Rattle.eql_find.specs.declared.plan.PlannedQuery.{PlannedQuery}
use Rattle.eql_find.specs.Finding.{IsPlanOf, HasFindCause, names_in}
use Rattle.eql_find.specs.Errors.{limit_of}
use Rattle.eql_find.specs.Running.{IsBeyondOn, StartsOver}
use Rattle.eql_find.specs.Searching.{BeganBy, BeganWith, IsFresh, LaneFaultsFollow, LanesStop, places_in, search_in}
use Rattle.eql_find.proofs.FoundLemmas.{Runs, TheRun, report_is}
use Rattle.eql_find.proofs.TextLemmas.{searches_in}

-- the elements before and behind a place of a list
pub record Around (names : List (List ℕ)) (name : List ℕ) : Type 0 where
  pub before : List (List ℕ)
  pub behind : List (List ℕ)
  pub names_are : names ≡ before ++ name ∷ behind

around : (names : List (List ℕ)) (shard : ℕ) (name : List ℕ) → slice_get names shard ≡ Some name → Around names name
around [] shard name is = absurd (none-some name is)
around (n ∷ ns) zero name is =
    record { before = []; behind = ns; names_are = ap (λ (x : List ℕ). x ∷ ns) (same_Some n name is) }
around (n ∷ ns) (suc shard) name is =
    let a = around ns shard name is in
    record { before = n ∷ a.before; behind = a.behind; names_are = ap (λ (xs : List (List ℕ)). n ∷ xs) a.names_are }

-- the files before one that is there are there
front_there : (before rest : List (List ℕ)) (fs : Files) (texts : List (List ℕ)) → HasTexts (before ++ rest) fs texts
    → first_missing fs before ≡ None
front_there [] rest fs texts has = refl
front_there (n ∷ ns) rest fs [] has = absurd has
front_there (n ∷ ns) rest fs (t ∷ ts) has =
    ap (λ o. cond (is_none o) (Some n) (first_missing fs ns)) has.0 ∙ front_there ns rest fs ts has.1

-- a shard that failed is one that the run comes to
pub read_cause : (find : Find) (files : Option Files) (p : PlannedQuery) (lefts : List (Option (List ℕ))) (shard : ℕ) (name : List ℕ)
    → IsPlanOf find files p → AreWholeFiles find.shards files lefts → slice_get find.shards shard ≡ Some name
    → IsNamed (names_in find) name × IfSome files (λ fs. Reaches (names_in find) fs name)
read_cause find None p lefts shard name is whole at =
    let a = around find.shards shard name at in
    (inr (inr (a.before, a.behind, a.names_are)), tt)
read_cause find (Some fs) p lefts shard name is whole at =
    let a = around find.shards shard name at in (
      inr (inr (a.before, a.behind, a.names_are)),
      shard_file (query_tree p.plan.checked.query) p.mapping is.got a.before name a.behind a.names_are
          (front_there a.before (name ∷ a.behind) fs whole.texts
          (subst (λ (xs : List (List ℕ)). HasTexts xs fs whole.texts) a.names_are whole.there)),
    )

-- ---- limits
-- what counts of a lane at a limit: its lines and its offset
same_limit : (limit : ShardLimit) (a b : LaneCut) (text : List ℕ) → a.counts.lines ≡ b.counts.lines → a.offset ≡ b.offset
    → GoesBeyond limit (Some a) text → GoesBeyond limit (Some b) text
same_limit (many_lines shard) a b text lines at h =
    subst (λ (n : ℕ). greatest_lines < n + length (lines_of (drop b.offset text))) lines
    (subst (λ (n : ℕ). greatest_lines < a.counts.lines + length (lines_of (drop n text))) at h)
same_limit (many_bytes shard) a b text lines at h = h

fresh_limit : (limit : ShardLimit) (a : LaneCut) (text : List ℕ) → a ≡ fresh_cut → GoesBeyond limit (Some a) text → GoesBeyond limit None text
fresh_limit (many_lines shard) a text is h = subst (λ (x : LaneCut). GoesBeyond (many_lines shard) (Some x) text) is h
fresh_limit (many_bytes shard) a text is h = h

all_at : {X : Type 0} (P : X → Type 0) (xs : List X) (s : ℕ) (x : X) → All P xs → slice_get xs s ≡ Some x → P x
all_at P [] s x all is = absurd (none-some x is)
all_at P (y ∷ ys) zero x all is = subst P (same_Some y x is) (All-head P y ys all)
all_at P (y ∷ ys) (suc s) x all is = all_at P ys s x (All-tail P y ys all) is

cut_at : {S L : Type 0} (lanes : List (LaneView S L)) (s : ℕ) (lane : LaneView S L) → slice_get lanes s ≡ Some lane
    → slice_get (cuts_of lanes) s ≡ Some lane.state.cut
cut_at [] s lane is = absurd (none-some lane is)
cut_at (l ∷ ls) zero lane is = ap (λ (x : LaneView _ _). Some x.state.cut) (same_Some l lane is)
cut_at (l ∷ ls) (suc s) lane is = cut_at ls s lane is

-- the lane of a cut with which a lifted lane began
lifted_at : (cut : Cut) (shard : ℕ) (shards : List ReadTo) (lanes : List LaneCut) (lists : List (List (ℕ × ℕ))) → WereLifted cut shard shards lanes lists
    → (s : ℕ) (kept : LaneCut) → slice_get lanes s ≡ Some kept
    → (r : ReadTo) × (lane : LaneCut) × (slice_get cut.lanes (shard + s) ≡ Some lane) × (kept ≡ placed_cut r.first lane)
lifted_at cut shard [] [] [] h s kept is = absurd (none-some kept is)
lifted_at cut shard [] [] (l ∷ lists) h s kept is = absurd h
lifted_at cut shard [] (k ∷ lanes) lists h s kept is = absurd h
lifted_at cut shard (r ∷ shards) [] lists h s kept is = absurd h
lifted_at cut shard (r ∷ shards) (k ∷ lanes) [] h s kept is = absurd h
lifted_at cut shard (r ∷ shards) (k ∷ lanes) (places ∷ lists) h zero kept is =
    let e : shard + 0 ≡ shard = omega arith in
    (r, h.0.lane, ap (slice_get cut.lanes) e ∙ h.0.there, sym (same_Some k kept is) ∙ h.0.kept_is)
lifted_at cut shard (r ∷ shards) (k ∷ lanes) (places ∷ lists) h (suc s) kept is =
    let next = lifted_at cut (shard + 1) shards lanes lists h.1 s kept is in
    let e : shard + suc s ≡ shard + 1 + s = omega arith in
    (next.0, next.1, ap (slice_get cut.lanes) e ∙ next.2, next.3)

beyond_by : {S L : Type 0} (told : Option (List (List ℕ))) (lanes : List (LaneView S L)) (k : Keeping) (cut : Cut)
    → BeganBy told k cut lanes → (limit : ShardLimit) (lane : LaneView S L) → slice_get lanes (shard_of limit) ≡ Some lane → (text : List ℕ)
    → GoesBeyond limit (Some lane.state.cut) text → GoesBeyond limit (slice_get cut.lanes (shard_of limit)) text
beyond_by told lanes whole_cut cut began limit lane was text h =
    subst (λ (c : Option LaneCut). GoesBeyond limit c text)
    (sym (ap (λ (cs : List LaneCut). slice_get cs (shard_of limit)) (sym began.cuts_are) ∙ cut_at lanes (shard_of limit) lane was)) h
beyond_by told lanes undigested cut began limit lane was text h =
    let one = same_but began.over (cuts_of lanes) cut.lanes (shard_of limit) lane.state.cut began.cuts_are (cut_at lanes (shard_of limit) lane was) in
    subst (λ (c : Option LaneCut). GoesBeyond limit c text) (sym one.there)
    (same_limit limit lane.state.cut one.other text (ap Counts.lines one.is_same.counts) one.is_same.offset h)
beyond_by told lanes unplaced cut began limit lane was text h =
    let one = lifted_at cut 0 began.shards (cuts_of lanes) (places_in lanes) began.were_lifted (shard_of limit) lane.state.cut (cut_at lanes (shard_of limit) lane was) in
    let e : 0 + shard_of limit ≡ shard_of limit = omega arith in
    subst (λ (c : Option LaneCut). GoesBeyond limit c text) (sym (ap (slice_get cut.lanes) (sym e) ∙ one.2))
    (same_limit limit lane.state.cut one.1 text (ap (λ (c : LaneCut). c.counts.lines) one.3) (ap LaneCut.offset one.3) h)

beyond_on : {S L : Type 0} (told : Option (List (List ℕ))) (lanes : List (LaneView S L)) (format generation : ℕ) (o : Option Cut)
    → BeganWith told format o lanes → (limit : ShardLimit) (lane : LaneView S L) → slice_get lanes (shard_of limit) ≡ Some lane → (text : List ℕ)
    → GoesBeyond limit (Some lane.state.cut) text → GoesBeyond limit (lane_on (disk_holding format generation o) (shard_of limit)) text
beyond_on told lanes format generation None began limit lane was text h =
    fresh_limit limit lane.state.cut text (all_at IsFresh lanes (shard_of limit) lane began was).0 h
beyond_on told lanes format generation (Some cut) began limit lane was text h = beyond_by told lanes (keeping_of format) cut began limit lane was text h

-- ---- all causes
module _ {S L : Type 0} (find : Find) (p : PlannedQuery) (told : Option (List (List ℕ))) (lanes news : List (LaneView S L)) (rest : Rest)
    (disk now : Option History) (files : Option Files) (is : IsPlanOf find files p) (lefts : List (Option (List ℕ)))
    (whole : AreWholeFiles find.shards files lefts)
    (format generation : ℕ) (o : Option Cut) (began : BeganWith told format o lanes)
    (start : (on : OnDisk) → (find.checkpoint ≢ None → DiskHolds disk on) → start_for find on ≡ disk_holding format generation o)
    (runs : Runs find p told lanes rest disk files) where
  -- of each told run
  of_each : (P : Files → OnDisk → Type 0) → ((fs : Files) (on : OnDisk) → (find.checkpoint ≢ None → DiskHolds disk on)
      → TheRun find p told lanes rest fs on → P fs on)
      → IfSome files (λ fs. (on : OnDisk) → (find.checkpoint ≢ None → DiskHolds disk on) → P fs on)
  of_each P f = by files runs
    where
      by : (fs : Option Files) → Runs find p told lanes rest disk fs → IfSome fs (λ fs. (on : OnDisk) → (find.checkpoint ≢ None → DiskHolds disk on) → P fs on)
      by None r = tt
      by (Some fs) r = λ on holds. f fs on holds (r on holds)

  beyond_is : (limit : ShardLimit) (fs : Files) (on : OnDisk) → (find.checkpoint ≢ None → DiskHolds disk on) → (run : TheRun find p told lanes rest fs on)
      → IfSome told (λ ts. IsBeyondOn lanes ts limit) → IsBeyond run.texts (start_for find on) limit
  beyond_is limit fs on holds run beyond =
      let own = subst (λ (x : Option (List (List ℕ))). IfSome x (λ ts. IsBeyondOn lanes ts limit)) run.told_is beyond in (
        own.text,
        own.there,
        subst (λ (d : OnDisk). GoesBeyond limit (lane_on d (shard_of limit)) own.text) (sym (start on holds))
            (beyond_on told lanes format generation o began limit own.lane own.was own.text own.beyond),
      )

  -- the disk of a run that failed was one of a search
  searched_by : IfSome files (λ fs. (search : Search) × (texts : List (List ℕ)) × Searches find fs search texts)
  searched_by = by files is whole
    where
      by : (o : Option Files) → IsPlanOf find o p → AreWholeFiles find.shards o lefts
          → IfSome o (λ fs. (search : Search) × (texts : List (List ℕ)) × Searches find fs search texts)
      by None plan all = tt
      by (Some fs) plan all = (search_in find p, all.texts, searches_in find fs p all.texts plan all.there)

  pub run_cause : (h : FindError) (err err' : Option (List ℕ))
      → LanesStop find (search_in find p) told (StartsOver told find p lanes rest) (IsBeyondOn lanes) err err' h
      → LaneFaultsFollow {A = Unit {0}} find (Err h) lanes news → (h ≡ run.Generation → GenerationsEnd disk now)
      → HasFindCause find files disk now err err' h
  run_cause (run.Files (error.Refused r)) err err' stops failed ends = absurd stops
  run_cause (run.Files (error.Read name)) err err' stops failed ends = read_cause find files p lefts failed.shard name.now is whole failed.named
  run_cause (run.Files error.Memory) err err' stops failed ends = tt
  run_cause (run.Cut why) err err' stops failed ends = absurd stops
  run_cause (run.Held why) err err' stops failed ends = absurd stops
  run_cause run.Disk err err' stops failed ends = (stops, searched_by)
  run_cause run.Write err err' stops failed ends = of_each _ (λ fs on holds run. run.accepted)
  run_cause (run.Limit l) err err' stops failed ends = (
    stops.0,
    of_each _ (λ fs on holds run. record {
      accepted = run.accepted;
      beyond = record { search = search_in find p; texts = run.texts; searches = run.searches; beyond = beyond_is (limit_of l) fs on holds run stops.1 };
    }),
  )
  run_cause run.Generation err err' stops failed ends = (stops, of_each _ (λ fs on holds run. run.accepted), ends refl)
  run_cause (run.Report r) err err' stops failed ends = record {
    report = report_lines 0 stops.counts;
    counts = stops.counts;
    count = stops.count;
    lines = refl;
    is_report = of_each _ (λ fs on holds run. report_is find p told lanes rest disk (report_lines 0 stops.counts) stops.counts fs on refl stops.counts_are run);
    wrote = stops.wrote;
  }

  pub all_accepted : (r : Result (Unit {0}) FindError) → OnOk r (IfFound find files disk (IsFindAccepted find))
  all_accepted (Ok done) = of_each (λ fs on. IsFindAccepted find fs on) (λ fs on holds run. run.accepted)
  all_accepted (Err h) = tt

  pub all_causes : (r : Result (Unit {0}) FindError) (err err' : Option (List ℕ))
      → IfErr r (LanesStop find (search_in find p) told (StartsOver told find p lanes rest) (IsBeyondOn lanes) err err') → LaneFaultsFollow find r lanes news
      → (r ≡ Err run.Generation → GenerationsEnd disk now) → IfErr r (HasFindCause find files disk now err err')
  all_causes (Ok done) err err' stops failed ends = tt
  all_causes (Err h) err err' stops failed ends = run_cause h err err' stops failed (λ e. ends (ap Err e))
