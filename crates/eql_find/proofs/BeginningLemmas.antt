-- Lanes that were made as a run was found to begin, and that a search may begin with them.
use native.Mathlib.Omega.{arith}
use Rattle.std.proofs.Common.{◌≡◌, ◌+◌, ◌++◌, ℕ, false, List, [], ◌∷◌, Option, Some, None, refl, sym, ap, ap₂, ◌∙◌, subst, length, map, suc, take, zero}
use Rattle.std.specs.Prelude.{All, IfSome, slice_get}
use Rattle.std.proofs.lemmas.List.{length-map}
use Rattle.std.proofs.lemmas.List.Elements.{All-cons, All-head, All-nil, All-tail}
use Rattle.std.proofs.lemmas.Option.{none-some, same_Some}
use Rattle.eql_values.specs.Accepted.{Reads}
use Rattle.eql_values.specs.declared.cut.LaneCut.{LaneCut}
use Rattle.eql_outside.specs.Plans.{FaultPlan}
use Rattle.eql_laws.specs.Places.{ReadTo, whole}
use Rattle.eql_lane.specs.declared.make.LaneStart.{LaneStart}
use Rattle.eql_lane.specs.declared.make.LaneStart.TheVariants as start
use Rattle.eql_lane.specs.Lanes.{LaneState, beginning_lane, fresh_cut}
use Rattle.eql_lane.specs.Noting.{retraced_cut}
use Rattle.eql_lane.specs.Passing.{IsBefore}
use Rattle.eql_lane.specs.Slacks.{nanos_of}
use Rattle.eql_lane.specs.Starts.{BeginsAs, MayStart}
use Rattle.eql_lane.specs.Views.{LaneView}
use Rattle.eql_cut.specs.declared.cut.Cut.{Cut}
use Rattle.eql_resume.specs.Beginnings.{Keeping, LaneBegins, LanesBegin, keeping_of, undigested, unplaced, whole as whole_cut}
use Rattle.eql_resume.specs.Lifted.{WasLifted, WereLifted}
use Rattle.eql_runs.specs.Starts.{lanes_over}
use Rattle.eql_search.specs.Beginnings.{cuts_of}
use Rattle.eql_search.specs.Searches.{AreBegunFrom, IsBegunLane}
use Rattle.eql_shards.specs.Lanes.{AreOver, IsOver}
use Rattle.eql_find.specs.Searching.{BeganBy, BeganFrom, BeganWith, IsFresh, places_in}
use Rattle.eql_find.proofs.TextLemmas.{parts_of}

-- equal lists by their elements
same_lists : {A : Type 0} (xs ys : List A) → length xs ≡ length ys
    → ((s : ℕ) (x y : A) → slice_get xs s ≡ Some x → slice_get ys s ≡ Some y → x ≡ y) → xs ≡ ys
same_lists [] [] n each = refl
same_lists [] (y ∷ ys) n each = absurd (omega (arith, n))
same_lists (x ∷ xs) [] n each = absurd (omega (arith, n))
same_lists {A = A} (x ∷ xs) (y ∷ ys) n each =
    ap₂ (λ (a : A) (bs : List A). a ∷ bs) (each zero x y refl refl)
    (same_lists xs ys (omega (arith, n)) (λ s a b is also. each (suc s) a b is also))

-- all that was read
all_taken : (bytes : List ℕ) → take (length bytes) bytes ≡ bytes
all_taken [] = refl
all_taken (b ∷ bytes) = ap (λ (l : List ℕ). b ∷ l) (all_taken bytes)

-- a text that has these bytes before an offset: the one that is told, or else the bytes alone
text_before : (o : Option (List ℕ)) (offset : ℕ) (first : List ℕ) → IsBefore o offset first
    → (t : List ℕ) × (take offset t ≡ first) × ((u : List ℕ) → o ≡ Some u → t ≡ u)
text_before None offset first before =
    (first, ap (λ (n : ℕ). take n first) (sym before.count) ∙ all_taken first, λ u is. absurd (none-some u is))
text_before (Some u) offset first before = (u, sym before.told, λ v is. same_Some u v is)

-- texts of sources are those that are told
module _ {S : Type 0} (left : S → Option (List ℕ)) where
  no_texts : (texts : List (List ℕ)) → map left [] ≡ map (λ (t : List ℕ). Some t) texts → [] ≡ texts
  no_texts [] is = refl
  no_texts (t ∷ ts) is = absurd (omega (arith, ap length is))

  more_texts : (source : S) (sources : List S) (x : List ℕ) (xs : List (List ℕ)) → ((t : List ℕ) → left source ≡ Some t → x ≡ t)
      → ((texts : List (List ℕ)) → map left sources ≡ map (λ (t : List ℕ). Some t) texts → xs ≡ texts)
      → (texts : List (List ℕ)) → map left (source ∷ sources) ≡ map (λ (t : List ℕ). Some t) texts → x ∷ xs ≡ texts
  more_texts source sources x xs own others [] is = absurd (omega (arith, ap length is))
  more_texts source sources x xs own others (t ∷ ts) is =
      let parts = parts_of (left source) (Some t) (map left sources) (map (λ (u : List ℕ). Some u) ts) is in
      ap₂ (λ (y : List ℕ) (ys : List (List ℕ)). y ∷ ys) (own t parts.0) (others ts parts.1)

module _ {S L : Type 0} (left lent_as : S → Option (List ℕ)) (faults : S → ℕ) where
  -- the state with which a lane begins
  from_begun : (cut : LaneCut) (n : ℕ) (lane : LaneView S L) → lane.state ≡ beginning_lane cut n → lane.state ≡ beginning_lane lane.state.cut lane.state.faults
  from_begun cut n lane e = e ∙ (λ i. beginning_lane (ap LaneState.cut (sym e) i) (ap LaneState.faults (sym e) i))

  made_state : (source : S) (reader : L) (shard : ℕ) (slack : Option ℕ) (b : LaneStart) (lane : LaneView S L)
      → BeginsAs left lent_as faults source reader shard slack b lane → lane.state ≡ beginning_lane lane.state.cut lane.state.faults
  made_state source reader shard slack start.Fresh lane made = from_begun fresh_cut (faults source) lane made.state
  made_state source reader shard slack (start.From cut) lane made = from_begun cut (faults source) lane made.state
  made_state source reader shard slack (start.Retrace cut) lane made = from_begun _ (faults source) lane made.begins.state
  made_state source reader shard slack (start.Lift cut wanted) lane made = from_begun _ (faults source) lane made.begins.state

  made_shard : (source : S) (reader : L) (shard : ℕ) (slack : Option ℕ) (b : LaneStart) (lane : LaneView S L)
      → BeginsAs left lent_as faults source reader shard slack b lane → lane.shard ≡ shard
  made_shard source reader shard slack start.Fresh lane made = made.shard_is
  made_shard source reader shard slack (start.From cut) lane made = made.shard_is
  made_shard source reader shard slack (start.Retrace cut) lane made = made.begins.shard_is
  made_shard source reader shard slack (start.Lift cut wanted) lane made = made.begins.shard_is

  made_slack : (source : S) (reader : L) (shard : ℕ) (slack : Option ℕ) (b : LaneStart) (lane : LaneView S L)
      → BeginsAs left lent_as faults source reader shard slack b lane → lane.slack ≡ nanos_of slack
  made_slack source reader shard slack start.Fresh lane made = made.slack_is
  made_slack source reader shard slack (start.From cut) lane made = made.slack_is
  made_slack source reader shard slack (start.Retrace cut) lane made = made.begins.slack_is
  made_slack source reader shard slack (start.Lift cut wanted) lane made = made.begins.slack_is

  made_reader : (source : S) (reader : L) (shard : ℕ) (slack : Option ℕ) (b : LaneStart) (lane : LaneView S L)
      → BeginsAs left lent_as faults source reader shard slack b lane → lane.reader ≡ reader
  made_reader source reader shard slack start.Fresh lane made = made.reader_is
  made_reader source reader shard slack (start.From cut) lane made = made.reader_is
  made_reader source reader shard slack (start.Retrace cut) lane made = made.begins.reader_is
  made_reader source reader shard slack (start.Lift cut wanted) lane made = made.begins.reader_is

module _ {S L : Type 0} (left lent_as : S → Option (List ℕ)) (faults : S → ℕ) (plan : S → Option FaultPlan) (read_of : L → Reads)
    (reads : Reads) (slack : Option ℕ) where
  begun_lane : (shard : ℕ) (source : S) (b : LaneStart) (lane : LaneView S L)
      → IsOver left lent_as faults plan read_of reads slack shard source b lane → IsBegunLane read_of reads (nanos_of slack) shard lane
  begun_lane shard source b lane over = record {
    shard_is = made_shard left lent_as faults source over.reader shard slack b lane over.made;
    slack_is = made_slack left lent_as faults source over.reader shard slack b lane over.made;
    reads_are = ap read_of (made_reader left lent_as faults source over.reader shard slack b lane over.made) ∙ over.reads_are;
    state_is = made_state left lent_as faults source over.reader shard slack b lane over.made;
  }

  -- lanes as a search takes them
  pub are_begun : (shard : ℕ) (sources : List S) (starts : List LaneStart) (lanes : List (LaneView S L))
      → AreOver left lent_as faults plan read_of reads slack shard sources starts lanes → AreBegunFrom read_of reads (nanos_of slack) shard lanes
  are_begun shard [] [] [] over = tt
  are_begun shard [] [] (l ∷ ls) over = absurd over
  are_begun shard [] (b ∷ bs) ls over = absurd over
  are_begun shard (s ∷ ss) [] ls over = absurd over
  are_begun shard (s ∷ ss) (b ∷ bs) [] over = absurd over
  are_begun shard (s ∷ ss) (b ∷ bs) (l ∷ ls) over = (begun_lane shard s b l over.0, are_begun (shard + 1) ss bs ls over.1)

  -- ---- afresh
  fresh_lane : (shard : ℕ) (source : S) (b : LaneStart) (lane : LaneView S L)
      → IsOver left lent_as faults plan read_of reads slack shard source b lane → b ≡ start.Fresh → IsFresh lane
  fresh_lane shard source b lane over is =
      let made = subst (λ (x : LaneStart). BeginsAs left lent_as faults source over.reader shard slack x lane) is over.made in
      (ap LaneState.cut made.state, made.places_are)

  all_fresh : (shard : ℕ) (sources : List S) (starts : List LaneStart) (lanes : List (LaneView S L))
      → AreOver left lent_as faults plan read_of reads slack shard sources starts lanes
      → ((s : ℕ) (b : LaneStart) → slice_get starts s ≡ Some b → b ≡ start.Fresh) → All IsFresh lanes
  all_fresh shard [] [] [] over each = All-nil IsFresh
  all_fresh shard [] [] (l ∷ ls) over each = absurd over
  all_fresh shard [] (b ∷ bs) ls over each = absurd over
  all_fresh shard (s ∷ ss) [] ls over each = absurd over
  all_fresh shard (s ∷ ss) (b ∷ bs) [] over each = absurd over
  all_fresh shard (s ∷ ss) (b ∷ bs) (l ∷ ls) over each =
      All-cons IsFresh l ls (fresh_lane shard s b l over.0 (each zero b refl))
      (all_fresh (shard + 1) ss bs ls over.1 (λ k c is. each (suc k) c is))

  -- ---- with what a cut keeps, as it stands
  from_lane : (shard : ℕ) (source : S) (b : LaneStart) (lane : LaneView S L) (kept : LaneCut)
      → IsOver left lent_as faults plan read_of reads slack shard source b lane → b ≡ start.From kept → (lane.state.cut ≡ kept) × (lane.places ≡ [])
  from_lane shard source b lane kept over is =
      let made = subst (λ (x : LaneStart). BeginsAs left lent_as faults source over.reader shard slack x lane) is over.made in
      (ap LaneState.cut made.state, made.places_are)

  from_each : (cut : Cut) (shard : ℕ) (sources : List S) (starts : List LaneStart) (lanes : List (LaneView S L))
      → AreOver left lent_as faults plan read_of reads slack shard sources starts lanes
      → ((s : ℕ) (b : LaneStart) → slice_get starts s ≡ Some b → LaneBegins (Some cut) whole_cut (shard + s) b)
      → (s : ℕ) (x : LaneCut) → slice_get (cuts_of lanes) s ≡ Some x → slice_get cut.lanes (shard + s) ≡ Some x
  from_each cut shard [] [] [] over each s x is = absurd (none-some x is)
  from_each cut shard [] [] (l ∷ ls) over each s x is = absurd over
  from_each cut shard [] (b ∷ bs) ls over each s x is = absurd over
  from_each cut shard (y ∷ ys) [] ls over each s x is = absurd over
  from_each cut shard (y ∷ ys) (b ∷ bs) [] over each s x is = absurd over
  from_each cut shard (y ∷ ys) (b ∷ bs) (l ∷ ls) over each zero x is =
      let begins = each zero b refl in
      begins.1 ∙ ap Some (sym (from_lane shard y b l begins.0 over.0 begins.2).0 ∙ same_Some l.state.cut x is)
  from_each cut shard (y ∷ ys) (b ∷ bs) (l ∷ ls) over each (suc s) x is =
      let next : shard + suc s ≡ shard + 1 + s = omega arith in
      ap (slice_get cut.lanes) next
      ∙ from_each cut (shard + 1) ys bs ls over.1 (λ k c at. subst (λ (n : ℕ). LaneBegins (Some cut) whole_cut n c) (omega arith) (each (suc k) c at)) s x is

  no_places : (cut : Cut) (shard : ℕ) (sources : List S) (starts : List LaneStart) (lanes : List (LaneView S L))
      → AreOver left lent_as faults plan read_of reads slack shard sources starts lanes
      → ((s : ℕ) (b : LaneStart) → slice_get starts s ≡ Some b → LaneBegins (Some cut) whole_cut (shard + s) b)
      → All (λ (lane : LaneView S L). lane.places ≡ []) lanes
  no_places cut shard [] [] [] over each = All-nil (λ (lane : LaneView S L). lane.places ≡ [])
  no_places cut shard [] [] (l ∷ ls) over each = absurd over
  no_places cut shard [] (b ∷ bs) ls over each = absurd over
  no_places cut shard (y ∷ ys) [] ls over each = absurd over
  no_places cut shard (y ∷ ys) (b ∷ bs) [] over each = absurd over
  no_places cut shard (y ∷ ys) (b ∷ bs) (l ∷ ls) over each =
      let begins = each zero b refl in
      All-cons (λ (lane : LaneView S L). lane.places ≡ []) l ls (from_lane shard y b l begins.0 over.0 begins.2).1
      (no_places cut (shard + 1) ys bs ls over.1 (λ k c at. subst (λ (n : ℕ). LaneBegins (Some cut) whole_cut n c) (omega arith) (each (suc k) c at)))

  began_from : (cut : Cut) (sources : List S) (starts : List LaneStart) (lanes : List (LaneView S L))
      → AreOver left lent_as faults plan read_of reads slack 0 sources starts lanes → length lanes ≡ length cut.lanes
      → ((s : ℕ) (b : LaneStart) → slice_get starts s ≡ Some b → LaneBegins (Some cut) whole_cut s b) → BeganFrom cut lanes
  began_from cut sources starts lanes over many each =
      let all : (s : ℕ) (b : LaneStart) → slice_get starts s ≡ Some b → LaneBegins (Some cut) whole_cut (0 + s) b =
      λ s b is. subst (λ (n : ℕ). LaneBegins (Some cut) whole_cut n b) (omega arith) (each s b is) in
      record {
        cuts_are = same_lists (cuts_of lanes) cut.lanes (length-map lanes (λ (lane : LaneView S L). lane.state.cut) ∙ many)
            (λ s x y is also. same_Some x y (sym (ap (slice_get cut.lanes) (omega arith) ∙ from_each cut 0 sources starts lanes over all s x is) ∙ also));
        no_places = no_places cut 0 sources starts lanes over all;
      }

  -- ---- with what a cut without places keeps
  abbrev LiftedOver : Cut → (shard : ℕ) → List S → List (LaneView S L) → Type 0
  LiftedOver cut shard sources lanes =
      (shards : List ReadTo) × WereLifted cut shard shards (cuts_of lanes) (places_in lanes)
      × ((texts : List (List ℕ)) → map left sources ≡ map (λ (t : List ℕ). Some t) texts → map whole shards ≡ texts)

  one_lifted : (cut : Cut) (shard : ℕ) (source : S) (b : LaneStart) (lane : LaneView S L)
      → IsOver left lent_as faults plan read_of reads slack shard source b lane → MayStart b → LaneBegins (Some cut) unplaced shard b
      → (r : ReadTo) × WasLifted cut shard r lane.state.cut lane.places × ((t : List ℕ) → left source ≡ Some t → whole r ≡ t)
  one_lifted cut shard source b lane over may begins =
      let made = subst (λ (x : LaneStart). BeginsAs left lent_as faults source over.reader shard slack x lane) begins.3 over.made in
      let lifts = subst MayStart begins.3 may in
      let r : ReadTo = record { first = made.finds.first; rest = made.finds.rest; closed = false } in (
        r,
        record {
          lane = begins.0;
          there = begins.1;
          count = made.finds.count;
          wanted = begins.2;
          are = record { ascend = lifts.ascend; exact = begins.4 };
          located = made.finds.located;
          kept_is = ap LaneState.cut made.begins.state;
        },
        λ t is. sym (subst (λ (o : Option (List ℕ)). IfSome o (λ u. u ≡ made.finds.first ++ made.finds.rest)) is made.finds.told),
      )

  all_lifted : (cut : Cut) (shard : ℕ) (sources : List S) (starts : List LaneStart) (lanes : List (LaneView S L))
      → AreOver left lent_as faults plan read_of reads slack shard sources starts lanes → All MayStart starts
      → ((s : ℕ) (b : LaneStart) → slice_get starts s ≡ Some b → LaneBegins (Some cut) unplaced (shard + s) b) → LiftedOver cut shard sources lanes
  all_lifted cut shard [] [] [] over may each = ([], tt, no_texts left)
  all_lifted cut shard [] [] (l ∷ ls) over may each = absurd over
  all_lifted cut shard [] (b ∷ bs) ls over may each = absurd over
  all_lifted cut shard (y ∷ ys) [] ls over may each = absurd over
  all_lifted cut shard (y ∷ ys) (b ∷ bs) [] over may each = absurd over
  all_lifted cut shard (y ∷ ys) (b ∷ bs) (l ∷ ls) over may each =
      let one = one_lifted cut shard y b l over.0 (All-head MayStart b bs may) (subst (λ (n : ℕ). LaneBegins (Some cut) unplaced n b) (omega arith) (each zero b refl)) in
      let others = all_lifted cut (shard + 1) ys bs ls over.1 (All-tail MayStart b bs may)
      (λ k c at. subst (λ (n : ℕ). LaneBegins (Some cut) unplaced n c) (omega arith) (each (suc k) c at)) in
      (one.0 ∷ others.0, (one.1, others.1), more_texts left y ys (whole one.0) (map whole others.0) one.2 others.2)

  -- ---- with what a cut without digests keeps
  one_retraced : (shard : ℕ) (source : S) (b : LaneStart) (lane : LaneView S L) (kept : LaneCut)
      → IsOver left lent_as faults plan read_of reads slack shard source b lane → b ≡ start.Retrace kept
      → (t : List ℕ) × (lane.state.cut ≡ retraced_cut (take kept.offset t) kept) × ((u : List ℕ) → left source ≡ Some u → t ≡ u)
      × (lane.places ≡ [])
  one_retraced shard source b lane kept over is =
      let made = subst (λ (x : LaneStart). BeginsAs left lent_as faults source over.reader shard slack x lane) is over.made in
      let one = text_before (left source) kept.offset made.first made.before in
      (one.0, ap LaneState.cut made.begins.state ∙ ap (λ (f : List ℕ). retraced_cut f kept) (sym one.1), one.2, made.begins.places_are)

  abbrev AreRetraced : List LaneCut → List LaneStart → Type 0
  AreRetraced kept starts =
      (s : ℕ) (b : LaneStart) → slice_get starts s ≡ Some b → (lane : LaneCut) × (slice_get kept s ≡ Some lane) × (b ≡ start.Retrace lane)

  abbrev RetracedOver : List LaneCut → List S → List (LaneView S L) → Type 0
  RetracedOver kept sources lanes =
      (over : List (List ℕ)) × (cuts_of lanes ≡ lanes_over over kept)
      × ((texts : List (List ℕ)) → map left sources ≡ map (λ (t : List ℕ). Some t) texts → over ≡ texts)
      × All (λ (lane : LaneView S L). lane.places ≡ []) lanes

  all_retraced : (shard : ℕ) (kept : List LaneCut) (sources : List S) (starts : List LaneStart) (lanes : List (LaneView S L))
      → AreOver left lent_as faults plan read_of reads slack shard sources starts lanes → length lanes ≡ length kept → AreRetraced kept starts
      → RetracedOver kept sources lanes
  all_retraced shard [] [] [] [] over many each = ([], refl, no_texts left, All-nil (λ (lane : LaneView S L). lane.places ≡ []))
  all_retraced shard (k ∷ ks) [] [] [] over many each = absurd (omega (arith, many))
  all_retraced shard kept [] [] (l ∷ ls) over many each = absurd over
  all_retraced shard kept [] (b ∷ bs) ls over many each = absurd over
  all_retraced shard kept (y ∷ ys) [] ls over many each = absurd over
  all_retraced shard kept (y ∷ ys) (b ∷ bs) [] over many each = absurd over
  all_retraced shard [] (y ∷ ys) (b ∷ bs) (l ∷ ls) over many each = absurd (omega (arith, many))
  all_retraced shard (k ∷ ks) (y ∷ ys) (b ∷ bs) (l ∷ ls) over many each =
      let first = each zero b refl in
      let is : b ≡ start.Retrace k = first.2 ∙ ap (λ (c : LaneCut). start.Retrace c) (sym (same_Some k first.0 first.1)) in
      let one = one_retraced shard y b l k over.0 is in
      let others = all_retraced (shard + 1) ks ys bs ls over.1 (omega (arith, many)) (λ s c at. each (suc s) c at) in (
        one.0 ∷ others.0,
        ap₂ (λ (c : LaneCut) (cs : List LaneCut). c ∷ cs) one.1 others.1,
        more_texts left y ys one.0 others.0 one.2 others.2,
        All-cons (λ (lane : LaneView S L). lane.places ≡ []) l ls one.3 others.3,
      )

  -- ---- all of it
  began_by : (texts : Option (List (List ℕ))) (k : Keeping) (cut : Cut) (sources : List S) (starts : List LaneStart) (lanes : List (LaneView S L))
      → AreOver left lent_as faults plan read_of reads slack 0 sources starts lanes → length lanes ≡ length cut.lanes → All MayStart starts
      → ((s : ℕ) (b : LaneStart) → slice_get starts s ≡ Some b → LaneBegins (Some cut) k s b)
      → IfSome texts (λ ts. map left sources ≡ map (λ (t : List ℕ). Some t) ts) → BeganBy texts k cut lanes
  began_by texts whole_cut cut sources starts lanes over many may each told = began_from cut sources starts lanes over many each
  began_by None undigested cut sources starts lanes over many may each told =
      let all = all_retraced 0 cut.lanes sources starts lanes over many each in
      record { over = all.0; cuts_are = all.1; texts_are = tt; no_places = all.3 }
  began_by (Some ts) undigested cut sources starts lanes over many may each told =
      let all = all_retraced 0 cut.lanes sources starts lanes over many each in
      record { over = all.0; cuts_are = all.1; texts_are = all.2 ts told; no_places = all.3 }
  began_by None unplaced cut sources starts lanes over many may each told =
      let all = all_lifted cut 0 sources starts lanes over may (λ s b is. subst (λ (n : ℕ). LaneBegins (Some cut) unplaced n b) (omega arith) (each s b is)) in
      record { shards = all.0; were_lifted = all.1; texts_are = tt }
  began_by (Some ts) unplaced cut sources starts lanes over many may each told =
      let all = all_lifted cut 0 sources starts lanes over may (λ s b is. subst (λ (n : ℕ). LaneBegins (Some cut) unplaced n b) (omega arith) (each s b is)) in
      record { shards = all.0; were_lifted = all.1; texts_are = all.2 ts told }

  pub began_with : (texts : Option (List (List ℕ))) (format : ℕ) (cut : Option Cut) (shards : ℕ) (sources : List S) (starts : List LaneStart)
      (lanes : List (LaneView S L)) → AreOver left lent_as faults plan read_of reads slack 0 sources starts lanes
      → LanesBegin cut format shards starts → IfSome cut (λ c. length lanes ≡ length c.lanes)
      → IfSome texts (λ ts. map left sources ≡ map (λ (t : List ℕ). Some t) ts) → BeganWith texts format cut lanes
  began_with texts format None shards sources starts lanes over begins many told = all_fresh 0 sources starts lanes over begins.each
  began_with texts format (Some cut) shards sources starts lanes over begins many told =
      began_by texts (keeping_of format) cut sources starts lanes over many begins.may begins.each told
