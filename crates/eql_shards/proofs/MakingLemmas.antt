-- Lanes made over sources one by one.
use native.Mathlib.Omega.{arith}
use Rattle.std.proofs.Common.{◌≡◌, ◌≢◌, ℕ, Bool, true, false, ◌+◌, ◌-◌, ◌<◌, ◌≤◌, ◌⊎◌, inl, inr, List, [], ◌∷◌, ◌++◌, Option, Some, None, refl, sym, ap, ◌∙◌, subst, length, map, suc, zero, take, drop, ◌^◌}
use Rattle.std.specs.Prelude.{All, IfSome, reverse, slice_get}
use Rattle.std.proofs.lemmas.List.Elements.{All-append, All-nil, All-cons, All-head, All-tail}
use Rattle.std.proofs.lemmas.Bool.{false≢true}
use Rattle.std.proofs.lemmas.List.{append_assoc, length-append, length-reverse, reverse-append}
use Rattle.std.proofs.lemmas.Option.{none-some, same_Some}
use Rattle.eql_values.specs.Accepted.{Reads}
use Rattle.eql_outside.specs.Outside.{Rose}
use Rattle.eql_outside.specs.Faults.{FaultsAreSame, RoseUnder, RosesAgree}
use Rattle.eql_outside.specs.Plans.{FaultPlan}
use Rattle.eql_outside.specs.Unfailing.{IsUnfailing}
use Rattle.eql_values.specs.declared.cut.LaneCut.{LaneCut}
use Rattle.eql_lane.specs.Lanes.{LaneState, beginning_lane}
use Rattle.eql_lane.specs.Noting.{IsWholeLine, retraced_cut}
use Rattle.eql_lane.specs.Passing.{Agrees, Finds}
use Rattle.eql_lane.specs.Starts.{BeginsAs, IsNotMade}
use Rattle.eql_lane.specs.Views.{IsTextOf, LaneView}
use Rattle.eql_lane.specs.declared.make.LaneRefused.{LaneRefused}
use Rattle.eql_lane.specs.declared.make.LaneRefused.TheVariants as refused
use Rattle.eql_lane.specs.declared.make.LaneStart.{LaneStart}
use Rattle.eql_lane.specs.declared.make.LaneStart.TheVariants as start
use Rattle.eql_shards.specs.Giving.{CameBack, NoSourceFailed, lane_returned, return_of}
use Rattle.eql_shards.specs.Lanes.{AreOver, HaveLanes, IsOver, Serves, StopsAmong, StopsMaking, StopsMakingAt}
use Rattle.eql_shards.proofs.BackLemmas.{CameOne, none_failed}

abbrev is_failed : LaneRefused → Bool
is_failed (refused.Short at had) = false
is_failed refused.Differs = false
is_failed (refused.NoLine line) = false
is_failed refused.Grown = false
is_failed refused.Failed = true
is_failed refused.Memory = false

-- another cause than a failure
pub not_failed : (why : LaneRefused) → is_failed why ≡ false → why ≢ refused.Failed
not_failed why calm e = false≢true (sym calm ∙ ap is_failed e)

abbrev pub by_failure : LaneRefused → Bool
by_failure = is_failed

-- the source behind the first of a list
pub at_source : {S : Type 0} (done : List S) (x : S) (rest : List S) → slice_get (done ++ x ∷ rest) (length done) ≡ Some x
at_source [] x rest = refl
at_source (d ∷ ds) x rest = at_source ds x rest

pub last_first : {S : Type 0} (less : List S) (x : S) (all : List S) → all ≡ less ++ x ∷ [] → reverse all ≡ x ∷ reverse less
last_first less x all is = ap reverse is ∙ reverse-append less (x ∷ [])

above_none : (n : ℕ) → 0 < n ⊎ (n + 1 ≡ 2 ^ 64) → 0 < n
above_none n (inl h) = h
above_none n (inr h) = omega (arith, h)

pub rose_from_none : (before now : ℕ) → before ≡ 0 → Rose before now → 0 < now
rose_from_none before now none rose = above_none now (subst (λ (n : ℕ). Rose n now) none rose)

-- ---- texts over which lanes were made
take_front : (a b : List ℕ) → take (length a) (a ++ b) ≡ a
take_front [] [] = refl
take_front [] (x ∷ b) = refl
take_front (x ∷ a) b = ap (λ (l : List ℕ). x ∷ l) (take_front a b)

drop_front : (a b : List ℕ) → drop (length a) (a ++ b) ≡ b
drop_front [] [] = refl
drop_front [] (x ∷ b) = refl
drop_front (x ∷ a) b = drop_front a b

-- the bytes of a text that a cut says were read, which have its digest
record HasRead (cut : LaneCut) (text : List ℕ) : Type 0 where
  there : cut.offset ≤ length text
  agrees : Agrees (Some cut.digest) cut.offset text

serves_from : (o : Option (List ℕ)) (cut : LaneCut) → IfSome o (HasRead cut)
    → (cut.closed ≡ true → IfSome o (λ t. length t ≡ cut.offset)) → IfSome o (Serves (start.From cut))
serves_from None cut read ended = tt
serves_from (Some t) cut read ended =
    record { there = read.there; agrees = read.agrees; whole = All-nil (IsWholeLine (take cut.offset t) (drop cut.offset t)); ended = ended }

-- where the digest is set anew, the text has any
serves_retrace : (o : Option (List ℕ)) (cut : LaneCut) (first : List ℕ) → IfSome o (HasRead (retraced_cut first cut))
    → (cut.closed ≡ true → IfSome o (λ t. length t ≡ cut.offset)) → IfSome o (Serves (start.Retrace cut))
serves_retrace None cut first read ended = tt
serves_retrace (Some t) cut first read ended =
    record { there = read.there; agrees = tt; whole = All-nil (IsWholeLine (take cut.offset t) (drop cut.offset t)); ended = ended }

serves_fresh : (o : Option (List ℕ)) → IfSome o (Serves start.Fresh)
serves_fresh None = tt
serves_fresh (Some t) =
    record { there = omega arith; agrees = tt; whole = All-nil (IsWholeLine (take 0 t) (drop 0 t)); ended = λ e. absurd (false≢true e) }

serves_lift : (o : Option (List ℕ)) (cut : LaneCut) (wanted : List ℕ) (places : List (ℕ × ℕ)) → Finds o cut.offset wanted places
    → (cut.closed ≡ true → IfSome o (λ t. length t ≡ cut.offset)) → IfSome o (Serves (start.Lift cut wanted))
serves_lift None cut wanted places f ended = tt
serves_lift (Some t) cut wanted places f ended =
    let long : length t ≡ length f.first + length f.rest = ap length f.told ∙ length-append f.first f.rest in
    let front : take cut.offset t ≡ f.first = ap (take cut.offset) f.told ∙ ap (λ (n : ℕ). take n (f.first ++ f.rest)) (sym f.count) ∙ take_front f.first f.rest in
    let behind : drop cut.offset t ≡ f.rest = ap (drop cut.offset) f.told ∙ ap (λ (n : ℕ). drop n (f.first ++ f.rest)) (sym f.count) ∙ drop_front f.first f.rest in
    record {
      there = omega (arith, long, f.count);
      agrees = tt;
      whole = subst (λ (x : List ℕ). All (IsWholeLine x (drop cut.offset t)) wanted) (sym front)
          (subst (λ (x : List ℕ). All (IsWholeLine f.first x) wanted) (sym behind) f.located.whole);
      ended = ended;
    }

module _ {S L : Type 0} (left lent_as : S → Option (List ℕ)) (faults : S → ℕ) where
  read_in : (o : Option (List ℕ)) (lane : LaneView S L) (cut : LaneCut) (n : ℕ) → lane.state ≡ beginning_lane cut n → IsTextOf left o lane
      → IfSome o (HasRead cut)
  read_in None lane cut n e text = tt
  read_in (Some t) lane cut n e text = record {
    there = subst (λ (k : ℕ). k ≤ length t) (ap LaneState.taken e) text.within;
    agrees = subst (λ (c : LaneCut). Agrees (Some c.digest) c.offset t) (ap LaneState.cut e) text.digest;
  }

  -- a lane over a text was made: so it serves
  pub made_serves : (source : S) (reader : L) (shard : ℕ) (slack : Option ℕ) (b : LaneStart) (lane : LaneView S L)
      → BeginsAs left lent_as faults source reader shard slack b lane → IfSome (left source) (Serves b)
  made_serves source reader shard slack start.Fresh lane made = serves_fresh (left source)
  made_serves source reader shard slack (start.From cut) lane made =
      serves_from (left source) cut (read_in (left source) lane cut (faults source) made.state made.text) made.ended
  made_serves source reader shard slack (start.Retrace cut) lane made =
      serves_retrace (left source) cut made.first
      (read_in (left source) lane (retraced_cut made.first cut) (faults source) made.begins.state made.begins.text) made.begins.ended
  made_serves source reader shard slack (start.Lift cut wanted) lane made =
      serves_lift (left source) cut wanted lane.places made.finds made.begins.ended

  -- what its source says when it comes back
  pub made_faults : (source : S) (reader : L) (shard : ℕ) (slack : Option ℕ) (b : LaneStart) (lane : LaneView S L)
      → BeginsAs left lent_as faults source reader shard slack b lane → lane.state.faults ≡ faults source
  made_faults source reader shard slack start.Fresh lane made = ap LaneState.faults made.state
  made_faults source reader shard slack (start.From cut) lane made = ap LaneState.faults made.state
  made_faults source reader shard slack (start.Retrace cut) lane made = ap LaneState.faults made.begins.state
  made_faults source reader shard slack (start.Lift cut wanted) lane made = ap LaneState.faults made.begins.state

  pub made_named : (source : S) (reader : L) (shard : ℕ) (slack : Option ℕ) (b : LaneStart) (lane : LaneView S L)
      → BeginsAs left lent_as faults source reader shard slack b lane → lent_as lane.source ≡ lent_as source
  made_named source reader shard slack start.Fresh lane made = made.named
  made_named source reader shard slack (start.From cut) lane made = made.named
  made_named source reader shard slack (start.Retrace cut) lane made = made.begins.named
  made_named source reader shard slack (start.Lift cut wanted) lane made = made.begins.named

  pub made_text : (source : S) (reader : L) (shard : ℕ) (slack : Option ℕ) (b : LaneStart) (lane : LaneView S L)
      → BeginsAs left lent_as faults source reader shard slack b lane → IsTextOf left (left source) lane
  made_text source reader shard slack start.Fresh lane made = made.text
  made_text source reader shard slack (start.From cut) lane made = made.text
  made_text source reader shard slack (start.Retrace cut) lane made = made.begins.text
  made_text source reader shard slack (start.Lift cut wanted) lane made = made.begins.text

-- ---- one lane after another
module _ {S L : Type 0} (left lent_as : S → Option (List ℕ)) (faults : S → ℕ) (plan : S → Option FaultPlan) (read_of : L → Reads)
    (reads : Reads) (slack : Option ℕ) where
  pub over_long : (shard : ℕ) (sources : List S) (starts : List LaneStart) (lanes : List (LaneView S L))
      → AreOver left lent_as faults plan read_of reads slack shard sources starts lanes → length lanes ≡ length sources
  over_long shard [] [] [] h = refl
  over_long shard [] [] (l ∷ ls) h = absurd h
  over_long shard [] (b ∷ bs) ls h = absurd h
  over_long shard (s ∷ ss) [] ls h = absurd h
  over_long shard (s ∷ ss) (b ∷ bs) [] h = absurd h
  over_long shard (s ∷ ss) (b ∷ bs) (l ∷ ls) h = ap suc (over_long (shard + 1) ss bs ls h.1)

  over_more : (shard : ℕ) (sources : List S) (starts : List LaneStart) (lanes : List (LaneView S L)) (x : S) (b : LaneStart) (lane : LaneView S L)
      → AreOver left lent_as faults plan read_of reads slack shard sources starts lanes
      → IsOver left lent_as faults plan read_of reads slack (shard + length sources) x b lane
      → AreOver left lent_as faults plan read_of reads slack shard (sources ++ x ∷ []) (starts ++ b ∷ []) (lanes ++ lane ∷ [])
  over_more shard [] [] [] x b lane h one =
      (subst (λ (n : ℕ). IsOver left lent_as faults plan read_of reads slack n x b lane) (omega arith) one, tt)
  over_more shard [] [] (l ∷ ls) x b lane h one = absurd h
  over_more shard [] (c ∷ cs) ls x b lane h one = absurd h
  over_more shard (s ∷ ss) [] ls x b lane h one = absurd h
  over_more shard (s ∷ ss) (c ∷ cs) [] x b lane h one = absurd h
  over_more shard (s ∷ ss) (c ∷ cs) (l ∷ ls) x b lane h one = (
    h.0,
    over_more (shard + 1) ss cs ls x b lane h.1
        (subst (λ (n : ℕ). IsOver left lent_as faults plan read_of reads slack n x b lane) (omega arith) one),
  )

  -- one more lane was made
  pub filled_more : (all rest less : List S) (starts left_over fewer : List LaneStart) (lanes : List (LaneView S L)) (x : S) (b : LaneStart)
      (lane : LaneView S L) (shard : ℕ) → rest ≡ x ∷ less → left_over ≡ b ∷ fewer → shard ≡ length lanes
      → HaveLanes left lent_as faults plan read_of reads slack all rest starts left_over lanes
      → IsOver left lent_as faults plan read_of reads slack shard x b lane
      → HaveLanes left lent_as faults plan read_of reads slack all less starts fewer (lanes ++ lane ∷ [])
  filled_more all rest less starts left_over fewer lanes x b lane shard is begins at f one = record {
    done = f.done ++ x ∷ [];
    began = f.began ++ b ∷ [];
    all_are = f.all_are ∙ ap (λ ys. f.done ++ ys) is ∙ sym (append_assoc f.done (x ∷ []) less);
    starts_are = f.starts_are ∙ ap (λ ys. f.began ++ ys) begins ∙ sym (append_assoc f.began (b ∷ []) fewer);
    over = over_more 0 f.done f.began lanes x b lane f.over
        (subst (λ (n : ℕ). IsOver left lent_as faults plan read_of reads slack n x b lane) (at ∙ over_long 0 f.done f.began lanes f.over ∙ omega arith) one);
  }

  -- a source for which a lane was made serves its start
  pub over_serve : (shard : ℕ) (sources : List S) (starts : List LaneStart) (lanes : List (LaneView S L))
      → AreOver left lent_as faults plan read_of reads slack shard sources starts lanes → (s : ℕ) (x : S) (b : LaneStart)
      → slice_get sources s ≡ Some x → slice_get starts s ≡ Some b → IfSome (left x) (Serves b)
  over_serve shard [] [] [] h s x b is begins = absurd (none-some x is)
  over_serve shard [] [] (l ∷ ls) h s x b is begins = absurd h
  over_serve shard [] (c ∷ cs) ls h s x b is begins = absurd h
  over_serve shard (y ∷ ys) [] ls h s x b is begins = absurd h
  over_serve shard (y ∷ ys) (c ∷ cs) [] h s x b is begins = absurd h
  over_serve shard (y ∷ ys) (c ∷ cs) (l ∷ ls) h zero x b is begins =
      subst (λ (z : S). IfSome (left z) (Serves b)) (same_Some y x is)
      (subst (λ (d : LaneStart). IfSome (left y) (Serves d)) (same_Some c b begins)
      (made_serves left lent_as faults y h.0.reader shard slack c l h.0.made))
  over_serve shard (y ∷ ys) (c ∷ cs) (l ∷ ls) h (suc s) x b is begins = over_serve (shard + 1) ys cs ls h.1 s x b is begins

-- the elements of a front of a list
front_at : {X : Type 0} (done rest : List X) (s : ℕ) (x : X) → s < length done → slice_get (done ++ rest) s ≡ Some x → slice_get done s ≡ Some x
front_at [] rest s x less is = absurd (omega (arith, less))
front_at (d ∷ ds) rest zero x less is = is
front_at (d ∷ ds) rest (suc s) x less is = front_at ds rest s x (omega (arith, less)) is

-- ---- a lane that isn't made
module _ {S L : Type 0} (left lent_as : S → Option (List ℕ)) (faults : S → ℕ) (plan : S → Option FaultPlan) (read_of : L → Reads)
    (reads : Reads) (slack : Option ℕ) where
  often : (why : LaneRefused) (b : LaneStart) (x back : S) → faults x ≡ 0 → IsNotMade left lent_as faults b x why back
      → why ≡ refused.Failed → 0 < faults back
  often (refused.Short at had) b x back none r e = absurd (false≢true (ap is_failed e))
  often refused.Differs b x back none r e = absurd (false≢true (ap is_failed e))
  often (refused.NoLine line) b x back none r e = absurd (false≢true (ap is_failed e))
  often refused.Grown b x back none r e = absurd (false≢true (ap is_failed e))
  often refused.Failed b x back none r e = rose_from_none (faults x) (faults back) none r.cause
  often refused.Memory b x back none r e = absurd (false≢true (ap is_failed e))

  -- it wasn't made, and its source went back
  pub halted : (why : LaneRefused) (all rest less : List S) (starts left_over fewer : List LaneStart) (lanes : List (LaneView S L)) (shard : ℕ)
      (x back : S) (b : LaneStart) (before now : ℕ) (names names' : List ℕ → ℕ) → rest ≡ x ∷ less → left_over ≡ b ∷ fewer → shard ≡ length lanes
      → HaveLanes left lent_as faults plan read_of reads slack all rest starts left_over lanes → faults x ≡ 0
      → IsNotMade left lent_as faults b x why back → (IsUnfailing (plan x) → why ≢ refused.Failed)
      → CameOne (return_of lent_as faults back) before now names names'
      → StopsAmong left lent_as faults plan read_of reads slack why shard all less starts lanes before now names names'
  halted why all rest less starts left_over fewer lanes shard x back b before now names names' is begins at f none r calm one =
      let parts = f.all_are ∙ ap (λ ys. f.done ++ ys) is in
      let begun_with = f.starts_are ∙ ap (λ ys. f.began ++ ys) begins in
      let place = at ∙ over_long left lent_as faults plan read_of reads slack 0 f.done f.began lanes f.over in
      let also = place ∙ sym (began_long 0 f.done f.began lanes f.over) in
      record {
        done = f.done;
        source = x;
        began = f.began;
        all_are = parts;
        over = f.over;
        at = record {
          source = x;
          is = ap (λ ys. slice_get ys shard) parts ∙ ap (λ (n : ℕ). slice_get (f.done ++ x ∷ less) n) place ∙ at_source f.done x less;
          start = b;
          begins = ap (λ ys. slice_get ys shard) begun_with ∙ ap (λ (n : ℕ). slice_get (f.began ++ b ∷ fewer) n) also ∙ at_source f.began b fewer;
          back = back;
          refused_by = r;
          earlier = λ s y c less_than has starts_so.
              over_serve left lent_as faults plan read_of reads slack 0 f.done f.began lanes f.over s y c
              (front_at f.done (x ∷ less) s y (omega (arith, less_than, place)) (ap (λ ys. slice_get ys s) (sym parts) ∙ has))
              (front_at f.began (b ∷ fewer) s c (omega (arith, less_than, also)) (ap (λ ys. slice_get ys s) (sym begun_with) ∙ starts_so));
          steady = λ e. let zero_faults = r.steady e ∙ none in (one.same zero_faults, one.same_named zero_faults);
          rose = λ e.
              let some = often why b x back none r e in
              (one.raised some, subst (λ (o : Option (List ℕ)). RoseUnder o names names') r.gives.passed.named (one.raised_named some));
          unfailing = calm;
        };
      }
    where
      began_long : (shard : ℕ) (sources : List S) (starts : List LaneStart) (lanes : List (LaneView S L))
          → AreOver left lent_as faults plan read_of reads slack shard sources starts lanes → length starts ≡ length sources
      began_long shard [] [] [] h = refl
      began_long shard [] [] (l ∷ ls) h = absurd h
      began_long shard [] (c ∷ cs) ls h = absurd h
      began_long shard (s ∷ ss) [] ls h = absurd h
      began_long shard (s ∷ ss) (c ∷ cs) [] h = absurd h
      began_long shard (s ∷ ss) (c ∷ cs) (l ∷ ls) h = ap suc (began_long (shard + 1) ss cs ls h.1)

-- what holds of a list and one behind it
pub all_before : {X : Type 0} (P : X → Type 0) (xs : List X) (x : X) → All P (xs ++ x ∷ []) → All P xs
all_before P [] x all = All-nil P
all_before P (y ∷ ys) x all =
    All-cons P y ys (All-head P y (ys ++ x ∷ []) all)
    (all_before P ys x (All-tail P y (ys ++ x ∷ []) all))

pub all_last : {X : Type 0} (P : X → Type 0) (xs : List X) (x : X) → All P (xs ++ x ∷ []) → P x
all_last P [] x all = All-head P x [] all
all_last P (y ∷ ys) x all = all_last P ys x (All-tail P y (ys ++ x ∷ []) all)

-- what holds of a list holds of its parts
pub all_behind : {S : Type 0} (P : S → Type 0) (done rest : List S) → All P (done ++ rest) → All P rest
all_behind P [] rest all = all
all_behind P (d ∷ ds) rest all = all_behind P ds rest (All-tail P d (ds ++ rest) all)

pub all_front : {S : Type 0} (P : S → Type 0) (done rest : List S) → All P (done ++ rest) → All P done
all_front P [] rest all = All-nil P
all_front P (d ∷ ds) rest all =
    All-cons P d ds (All-head P d (ds ++ rest) all) (all_front P ds rest (All-tail P d (ds ++ rest) all))

module _ {S L : Type 0} (left lent_as : S → Option (List ℕ)) (faults : S → ℕ) (plan : S → Option FaultPlan) (read_of : L → Reads)
    (reads : Reads) (slack : Option ℕ) where
  pub none_failed_over : (shard : ℕ) (sources : List S) (starts : List LaneStart) (lanes : List (LaneView S L))
      → AreOver left lent_as faults plan read_of reads slack shard sources starts lanes → All (λ source. faults source ≡ 0) sources
      → NoSourceFailed (map (lane_returned lent_as) lanes)
  none_failed_over shard [] [] [] h all = tt
  none_failed_over shard [] [] (l ∷ ls) h all = absurd h
  none_failed_over shard [] (b ∷ bs) ls h all = absurd h
  none_failed_over shard (s ∷ ss) [] ls h all = absurd h
  none_failed_over shard (s ∷ ss) (b ∷ bs) [] h all = absurd h
  none_failed_over shard (s ∷ ss) (b ∷ bs) (l ∷ ls) h all = (
    made_faults left lent_as faults s h.0.reader shard slack b l h.0.made ∙ All-head (λ source. faults source ≡ 0) s ss all,
    none_failed_over (shard + 1) ss bs ls h.1 (All-tail (λ source. faults source ≡ 0) s ss all),
  )

-- counts that stay after a stop
roses_later : RosesAgree → (o : Option (List ℕ)) (before mid now : List ℕ → ℕ) → RoseUnder o before mid → FaultsAreSame mid now
    → RoseUnder o before now
roses_later agree None before mid now rose same = λ name. same name ∙ rose name
roses_later agree (Some n) before mid now rose same = agree.later n before mid now rose same

pub stopped_then : {S : Type 0} (left lent_as : S → Option (List ℕ)) (faults : S → ℕ) (plan : S → Option FaultPlan) → RosesAgree → (why : LaneRefused)
    (shard : ℕ) (sources : List S) (starts : List LaneStart) (before mid now : ℕ) (first between last : List ℕ → ℕ)
    → StopsMakingAt left lent_as faults plan why shard sources starts before mid first between → now ≡ mid → FaultsAreSame between last
    → StopsMakingAt left lent_as faults plan why shard sources starts before now first last
stopped_then left lent_as faults plan agree why shard sources starts before mid now first between last at same same_named = record {
  source = at.source;
  is = at.is;
  start = at.start;
  begins = at.begins;
  back = at.back;
  refused_by = at.refused_by;
  earlier = at.earlier;
  steady = λ e. let h = at.steady e in (same ∙ h.0, λ name. same_named name ∙ h.1 name);
  rose = λ e.
      let h = at.rose e in
      (subst (λ (n : ℕ). Rose before n) (sym same) h.0, roses_later agree (lent_as at.source) first between last h.1 same_named);
  unfailing = at.unfailing;
}

-- as many as were lent for these sources came back
pub lent_back : (rest lanes all : ℕ) (before mid then now : Option ℕ) → all ≡ lanes + 1 + rest
    → IfSome before (λ n. mid ≡ Some (n - 1)) → IfSome mid (λ n. then ≡ Some (n - rest)) → IfSome then (λ n. now ≡ Some (n - lanes))
    → IfSome before (λ n. now ≡ Some (n - all))
lent_back rest lanes all None mid then now is first second third = tt
lent_back rest lanes all (Some n) mid then now is first second third =
    let two = subst (λ (o : Option ℕ). IfSome o (λ n. then ≡ Some (n - rest))) first second in
    subst (λ (o : Option ℕ). IfSome o (λ n. now ≡ Some (n - lanes))) two third ∙ ap (λ (x : ℕ). Some x) (omega (arith, is))

pub reversed_twice : {X : Type 0} (xs : List X) → reverse (reverse xs) ≡ xs
reversed_twice [] = refl
reversed_twice (x ∷ xs) =
    ap reverse (reverse-append (x ∷ []) xs) ∙ reverse-append (reverse xs) (x ∷ []) ∙ ap (λ ys. x ∷ ys) (reversed_twice xs)

all_reversed : {X : Type 0} (P : X → Type 0) (xs : List X) → All P xs → All P (reverse xs)
all_reversed P [] all = all
all_reversed P (x ∷ xs) all =
    subst (λ ys. All P ys) (sym (reverse-append (x ∷ []) xs))
    (All-append P (reverse xs) (x ∷ []) (all_reversed P xs (All-tail P x xs all))
    (All-cons P x [] (All-head P x xs all) (All-nil P)))

pub back_again : {X : Type 0} (sources all : List X) → all ≡ reverse sources → reverse all ≡ sources
back_again sources all is = ap reverse is ∙ reversed_twice sources

module _ {S L : Type 0} (left lent_as : S → Option (List ℕ)) (faults : S → ℕ) (plan : S → Option FaultPlan) (read_of : L → Reads)
    (reads : Reads) (slack : Option ℕ) where
  -- making lanes stopped, and then all others went back
  pub making_stopped : RosesAgree → (why : LaneRefused) (shard : ℕ) (sources all left_over : List S) (starts : List LaneStart)
      (lanes : List (LaneView S L)) (before mid then now : ℕ) (first between after last : List ℕ → ℕ) → all ≡ sources
      → All (λ source. faults source ≡ 0) sources
      → StopsAmong left lent_as faults plan read_of reads slack why shard all (reverse left_over) starts lanes before mid first between
      → CameBack (map (return_of lent_as faults) left_over) mid then between after
      → CameBack (map (lane_returned lent_as) lanes) then now after last
      → StopsMaking left lent_as faults plan why shard sources starts before now first last
  making_stopped agree why shard sources all left_over starts lanes before mid then now first between after last is fresh error back others =
      let parts = sym is ∙ error.all_are in
      let all_fresh = subst (λ xs. All (λ source. faults source ≡ 0) xs) parts fresh in
      let rest = reverse left_over in
      let behind = all_behind (λ source. faults source ≡ 0) error.done (error.source ∷ rest) all_fresh in
      let over = subst (λ xs. All (λ source. faults source ≡ 0) xs) (reversed_twice left_over)
      (all_reversed (λ source. faults source ≡ 0) rest (All-tail (λ source. faults source ≡ 0) error.source rest behind)) in
      let one = back.none (none_failed lent_as faults left_over over) in
      let two = others.none (none_failed_over left lent_as faults plan read_of reads slack 0 error.done error.began lanes error.over
      (all_front (λ source. faults source ≡ 0) error.done (error.source ∷ rest) all_fresh)) in
      inr (stopped_then left lent_as faults plan agree why shard sources starts before mid now first between last
      (subst (λ xs. StopsMakingAt left lent_as faults plan why shard xs starts before mid first between) is error.at)
      (two.0 ∙ one.0) (λ name. two.1 name ∙ one.1 name))

  pub making_long : (why : LaneRefused) (shard : ℕ) (sources all rest left_over : List S) (starts : List LaneStart) (lanes : List (LaneView S L))
      (before mid : ℕ) (first between : List ℕ → ℕ) → all ≡ sources → rest ≡ reverse left_over
      → StopsAmong left lent_as faults plan read_of reads slack why shard all rest starts lanes before mid first between
      → length sources ≡ length lanes + 1 + length left_over
  making_long why shard sources all rest left_over starts lanes before mid first between is back error =
      let parts = ap length (sym is ∙ error.all_are) ∙ length-append error.done (error.source ∷ rest) in
      let long = over_long left lent_as faults plan read_of reads slack 0 error.done error.began lanes error.over in
      let turned = ap length back ∙ length-reverse left_over in
      omega (arith, parts, long, turned)
