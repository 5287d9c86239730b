-- A cut that was put, and that passed all tests over these texts, is a cut of them.
use Rattle.std.proofs.Common.{◌≡◌, ◌≤◌, ◌<◌, ◌+◌, ℕ, ℤ, zero, suc, List, [], ◌∷◌, ◌++◌, Option, Some, true, false, refl, ap, ap₂, sym, arith, ◌∙◌, subst, length, map, inl, inr, ◌⊎◌}
use Rattle.std.specs.Prelude.{Bool, IsTrue, take, drop}
use Rattle.std.specs.List.{slice_get}
use Rattle.std.specs.Option.{option_map}
use Rattle.std.proofs.lemmas.Bool.{cases_lt, false≢true}
use Rattle.std.proofs.lemmas.List.{take-append-drop}
use Rattle.std.proofs.lemmas.Option.{none-some, same_Some, slice_get-map, slice_get_within}
use Rattle.eql_digest.specs.Digests.{IsDigestOf, start, with_bytes}
use Rattle.eql_values.specs.declared.cut.LaneCut.{LaneCut}
use Rattle.eql_values.specs.declared.item.Item.{Item}
use Rattle.eql_values.specs.declared.order.Mark.{Mark}
use Rattle.eql_values.specs.declared.order.Mark.TheVariants.{At}
use Rattle.eql_values.specs.Accepted.{Reads, below}
use Rattle.eql_values.specs.Marks.{is_safe}
use Rattle.eql_values.specs.Matching.{after, matches}
use Rattle.eql_laws.specs.Alive.{alive_holders}
use Rattle.eql_laws.specs.Books.{book_of}
use Rattle.eql_laws.specs.Fitting.{Kept, Run}
use Rattle.eql_laws.specs.Lanes.{lane_at, lanes_from}
use Rattle.eql_laws.specs.Places.{ArePlaces, IsPlace, ReadTo, RestIsLate, ends_line, is_line_end, low_at, lows_from, whole}
use Rattle.eql_cut.specs.declared.cut.Cut.{Cut}
use Rattle.eql_runs.specs.CutRefusals.{CutRefusal, HasItsBytes, IsTestedCut, ShardRefuses, grown, has_other_bytes, is_grown, is_short, other_bytes, short}
use Rattle.eql_runs.specs.Searches.{Search, nanos_in, reads_of, run_of}
use Rattle.eql_runs.specs.Starts.{IsCutOf, IsOwnCut, IsTrustedCut, WasPut, keeps_digests, meant_by}
use Rattle.eql_runs.proofs.CutRefusing.{meant_alone, take_front}
use Rattle.eql_runs.proofs.Deciding.{digest_decided}

-- ---- shards over other texts
-- the bytes that were read of a shard stand in this text, which ends with them where the shard was closed
record IsReadOf (r : ReadTo) (text : List ℕ) : Type 0 where
  front : take (length r.first) text ≡ r.first
  at_end : r.closed ≡ true → drop (length r.first) text ≡ []

abbrev AreReadOf : List ReadTo → List (List ℕ) → Type 0
AreReadOf [] [] = Unit {0}
AreReadOf [] (text ∷ texts) = ⊥
AreReadOf (r ∷ shards) [] = ⊥
AreReadOf (r ∷ shards) (text ∷ texts) = IsReadOf r text × AreReadOf shards texts

-- a shard that was read as far of another text
abbrev moved_to : List ℕ → ReadTo → ReadTo
moved_to text r = record { first = r.first; rest = drop (length r.first) text; closed = r.closed }

abbrev moved : List (List ℕ) → List ReadTo → List ReadTo
moved texts [] = []
moved [] (r ∷ shards) = []
moved (text ∷ texts) (r ∷ shards) = moved_to text r ∷ moved texts shards

moved_whole : (shards : List ReadTo) (texts : List (List ℕ)) → AreReadOf shards texts → map whole (moved texts shards) ≡ texts
moved_whole [] [] h = refl
moved_whole [] (text ∷ texts) h = absurd h
moved_whole (r ∷ shards) [] h = absurd h
moved_whole (r ∷ shards) (text ∷ texts) h =
    ap₂ (λ (x : List ℕ) (xs : List (List ℕ)). x ∷ xs)
    (ap (λ (x : List ℕ). x ++ drop (length r.first) text) (sym h.0.front) ∙ take-append-drop (length r.first) text) (moved_whole shards texts h.1)

line_end_of : (first rest : List ℕ) (closed : Bool) → (closed ≡ true → rest ≡ []) → (closed ≡ false → IsTrue (ends_line first)) → IsTrue (is_line_end first rest)
line_end_of first rest true end lines = subst (λ (x : List ℕ). IsTrue (is_line_end first x)) (sym (end refl)) refl
line_end_of first [] false end lines = refl
line_end_of first (byte ∷ rest) false end lines = lines refl

moved_place : (r : ReadTo) (text : List ℕ) → IsPlace r → IsReadOf r text → IsPlace (moved_to text r)
moved_place r text place h = record {
  line_end = line_end_of r.first (drop (length r.first) text) r.closed h.at_end place.whole_lines;
  at_end = h.at_end;
  whole_lines = place.whole_lines;
}

moved_places : (shards : List ReadTo) (texts : List (List ℕ)) → ArePlaces shards → AreReadOf shards texts → ArePlaces (moved texts shards)
moved_places [] texts places h = tt
moved_places (r ∷ shards) [] places h = absurd h
moved_places (r ∷ shards) (text ∷ texts) places h = (moved_place r text places.0 h.0, moved_places shards texts places.1 h.1)

-- what was read is the same, and so are the lows and the lanes
moved_firsts : (shards : List ReadTo) (texts : List (List ℕ)) → AreReadOf shards texts
    → map (λ (r : ReadTo). r.first) (moved texts shards) ≡ map (λ (r : ReadTo). r.first) shards
moved_firsts [] texts h = refl
moved_firsts (r ∷ shards) [] h = absurd h
moved_firsts (r ∷ shards) (text ∷ texts) h = ap (λ (xs : List (List ℕ)). r.first ∷ xs) (moved_firsts shards texts h.1)

moved_lows : (reads : Reads) (slack : Option ℤ) (n : ℕ) (shards : List ReadTo) (texts : List (List ℕ)) → AreReadOf shards texts
    → lows_from reads slack n (moved texts shards) ≡ lows_from reads slack n shards
moved_lows reads slack n [] texts h = refl
moved_lows reads slack n (r ∷ shards) [] h = absurd h
moved_lows reads slack n (r ∷ shards) (text ∷ texts) h =
    ap (λ (lows : List Mark). low_at reads slack n r ∷ lows) (moved_lows reads slack (n + 1) shards texts h.1)

moved_lanes : (reads : Reads) (slack : Option ℤ) (n : ℕ) (mark : Mark) (shards : List ReadTo) (texts : List (List ℕ)) → AreReadOf shards texts
    → lanes_from reads slack n mark (moved texts shards) ≡ lanes_from reads slack n mark shards
moved_lanes reads slack n mark [] texts h = refl
moved_lanes reads slack n mark (r ∷ shards) [] h = absurd h
moved_lanes reads slack n mark (r ∷ shards) (text ∷ texts) h =
    ap (λ (lanes : List LaneCut). lane_at reads slack n mark r ∷ lanes) (moved_lanes reads slack (n + 1) mark shards texts h.1)

-- what is kept of shards is made of their lanes and of the events below the mark
abbrev kept_from : Run → ℤ → List LaneCut → List Item → Kept
kept_from run t lanes events = record {
  time = t;
  lanes = lanes;
  holders = alive_holders run.span t (after run.stages run.span [] events);
  book = book_of run.pipes (matches run.stages run.span [] events);
}

module _ (late : RestIsLate) where
  -- so a cut of shards is one of the texts in which the bytes that were read stand
  moved_cut : (search : Search) (slack : ℕ) (others texts : List (List ℕ)) (cut : Cut) (is : IsCutOf search slack others cut) → AreReadOf is.shards texts
      → IsCutOf search slack texts cut
  moved_cut search slack others texts cut is h =
      let reads = reads_of search in
      let nanos = Some (nanos_in slack) in
      let run = run_of search slack in
      let there = moved texts is.shards in
      let places = moved_places is.shards texts is.are_places h in
      let safe : IsTrue (is_safe (At cut.mark) (lows_from reads nanos 0 there)) =
      subst (λ (lows : List Mark). IsTrue (is_safe (At cut.mark) lows)) (sym (moved_lows reads nanos 0 is.shards texts h)) is.safe in
      let events : below reads nanos (map whole is.shards) (At cut.mark) ≡ below reads nanos (map whole there) (At cut.mark) =
      late reads nanos (At cut.mark) is.shards is.are_places is.safe
      ∙ ap (λ (fronts : List (List ℕ)). below reads nanos fronts (At cut.mark)) (sym (moved_firsts is.shards texts h))
      ∙ sym (late reads nanos (At cut.mark) there places safe) in
      record {
        shards = there;
        texts_are = moved_whole is.shards texts h;
        are_places = places;
        safe = safe;
        in_range = is.in_range;
        kept_is = is.kept_is ∙ ap₂ (kept_from run cut.mark) (sym (moved_lanes reads nanos 0 (At cut.mark) is.shards texts h)) events;
      }

-- ---- by the tests
-- the lane of a shard of a cut
record LaneOf (lanes : List LaneCut) (shard : ℕ) (r : ReadTo) : Type 0 where
  lane : LaneCut
  there : slice_get lanes shard ≡ Some lane
  offset : lane.offset ≡ length r.first
  digest : IsDigestOf lane.digest r.first
  closed : lane.closed ≡ r.closed

lane_of : (reads : Reads) (slack : Option ℤ) (n : ℕ) (mark : Mark) (shards : List ReadTo) (shard : ℕ) (r : ReadTo) → slice_get shards shard ≡ Some r
    → LaneOf (lanes_from reads slack n mark shards) shard r
lane_of reads slack n mark [] shard r is = absurd (none-some r is)
lane_of reads slack n mark (q ∷ shards) zero r is =
    let e : q ≡ r = same_Some q r is in
    record {
      lane = lane_at reads slack n mark q;
      there = refl;
      offset = ap (λ (x : ReadTo). length x.first) e;
      digest = ap (λ (x : ReadTo). with_bytes start x.first) e;
      closed = ap ReadTo.closed e;
    }
lane_of reads slack n mark (q ∷ shards) (suc shard) r is =
    let h = lane_of reads slack (n + 1) mark shards shard r is in
    record { lane = h.lane; there = h.there; offset = h.offset; digest = h.digest; closed = h.closed }

drop_all : (n : ℕ) (text : List ℕ) → length text ≤ n → drop n text ≡ []
drop_all zero [] h = refl
drop_all (suc n) [] h = refl
drop_all zero (x ∷ text) h = absurd (omega (arith, h))
drop_all (suc n) (x ∷ text) h = drop_all n text (omega (arith, h))

not_first : (format : ℕ) → keeps_digests format ≡ true → format ≡ 1 → ⊥
not_first format keeps first = false≢true (sym (ap keeps_digests first) ∙ keeps)

module _ (search : Search) (texts : List (List ℕ)) (format : ℕ) (cut : Cut) (keeps : keeps_digests format ≡ true) (tested : IsTestedCut search texts format cut) where
  none_of : (shard : ℕ) (text : List ℕ) (r : CutRefusal) → slice_get texts shard ≡ Some text → ShardRefuses format cut shard text r → ⊥
  none_of shard text r there refused = tested.shards shard text r (slice_get_within texts shard text there) there refused

  not_short : (shard : ℕ) (text : List ℕ) (lane : LaneCut) → slice_get texts shard ≡ Some text → slice_get cut.lanes shard ≡ Some lane → lane.offset ≤ length text
  not_short shard text lane there has = by (cases_lt (length text) lane.offset)
    where
      by : (length text < lane.offset) ⊎ (lane.offset ≤ length text) → lane.offset ≤ length text
      by (inl less) = absurd (none_of shard text (short shard lane.offset (length text)) there (is_short lane has less))
      by (inr enough) = enough

  same_digest : (shard : ℕ) (text : List ℕ) (lane : LaneCut) → slice_get texts shard ≡ Some text → slice_get cut.lanes shard ≡ Some lane
      → IsDigestOf lane.digest (take lane.offset text)
  same_digest shard text lane there has = by (digest_decided lane.digest (with_bytes start (take lane.offset text)))
    where
      by : IsDigestOf lane.digest (take lane.offset text) ⊎ (IsDigestOf lane.digest (take lane.offset text) → ⊥) → IsDigestOf lane.digest (take lane.offset text)
      by (inl e) = e
      by (inr unlike) =
          absurd
          (none_of shard text (other_bytes shard) there
          (has_other_bytes lane has (not_short shard text lane there has) (λ (h : HasItsBytes format lane text). unlike (h keeps))))

  ends_with : (shard : ℕ) (text : List ℕ) (lane : LaneCut) → slice_get texts shard ≡ Some text → slice_get cut.lanes shard ≡ Some lane → lane.closed ≡ true
      → length text ≤ lane.offset
  ends_with shard text lane there has closed = by (cases_lt lane.offset (length text))
    where
      by : (lane.offset < length text) ⊎ (length text ≤ lane.offset) → length text ≤ lane.offset
      by (inl more) =
          absurd
          (none_of shard text (grown shard) there
          (is_grown lane has closed more (λ e. same_digest shard text lane there has) (λ (first : format ≡ 1) line named. absurd (not_first format keeps first))))
      by (inr end) = end

  module _ (put : WasPut search texts cut) where
    -- the text of a shard has the bytes that were read of the other text
    read_of : (shard : ℕ) (r : ReadTo) (text : List ℕ) → slice_get put.is_cut.shards shard ≡ Some r → slice_get texts shard ≡ Some text → IsReadOf r text
    read_of shard r text at there =
        let is = put.is_cut in
        let slack = Some (nanos_in cut.head.slack) in
        let l = lane_of (reads_of search) slack 0 (At cut.mark) is.shards shard r at in
        let has : slice_get cut.lanes shard ≡ Some l.lane = ap (λ (k : Kept). slice_get k.lanes shard) is.kept_is ∙ l.there in
        let other : slice_get put.others shard ≡ Some (whole r) =
        ap (λ (ts : List (List ℕ)). slice_get ts shard) (sym is.texts_are) ∙ slice_get-map whole is.shards shard ∙ ap (option_map whole) at in
        let front : take l.lane.offset (whole r) ≡ r.first = ap (λ (n : ℕ). take n (whole r)) l.offset ∙ take_front r.first r.rest in
        let same : with_bytes start (take l.lane.offset text) ≡ with_bytes start (take l.lane.offset (whole r)) =
        sym (same_digest shard text l.lane there has) ∙ l.digest ∙ ap (with_bytes start) (sym front) in
        let bytes = put.tells shard l.lane text (whole r) has there other same in
        record {
          front = ap (λ (n : ℕ). take n text) (sym l.offset) ∙ bytes ∙ front;
          at_end = λ closed. ap (λ (n : ℕ). drop n text) (sym l.offset) ∙ drop_all l.lane.offset text (ends_with shard text l.lane there has (l.closed ∙ closed));
        }

all_read : (shards : List ReadTo) (texts : List (List ℕ)) → length shards ≡ length texts
    → ((shard : ℕ) (r : ReadTo) (text : List ℕ) → slice_get shards shard ≡ Some r → slice_get texts shard ≡ Some text → IsReadOf r text) → AreReadOf shards texts
all_read [] [] n each = tt
all_read [] (text ∷ texts) n each = absurd (omega (arith, n))
all_read (r ∷ shards) [] n each = absurd (omega (arith, n))
all_read (r ∷ shards) (text ∷ texts) n each =
    (each 0 r text refl refl, all_read shards texts (omega (arith, n)) (λ shard q other at there. each (suc shard) q other at there))

lanes_length : (reads : Reads) (slack : Option ℤ) (n : ℕ) (mark : Mark) (shards : List ReadTo) → length (lanes_from reads slack n mark shards) ≡ length shards
lanes_length reads slack n mark [] = refl
lanes_length reads slack n mark (r ∷ shards) = ap suc (lanes_length reads slack (n + 1) mark shards)

pub put_is_cut : RestIsLate → (search : Search) (texts : List (List ℕ)) (format : ℕ) (cut : Cut) → keeps_digests format ≡ true
    → IsTestedCut search texts format cut → WasPut search texts cut → IsCutOf search cut.head.slack texts cut
put_is_cut late search texts format cut keeps tested put =
    let is = put.is_cut in
    let count : length is.shards ≡ length texts =
    sym (lanes_length (reads_of search) (Some (nanos_in cut.head.slack)) 0 (At cut.mark) is.shards) ∙ ap (λ (k : Kept). length k.lanes) (sym is.kept_is)
    ∙ tested.fits.lane_for_each in
    moved_cut late search cut.head.slack put.others texts cut is
    (all_read is.shards texts count (read_of search texts format cut keeps tested put))

-- a cut that is trusted is an own one where it passed all tests
pub tested_is_own : RestIsLate → (search : Search) (texts : List (List ℕ)) (format : ℕ) (cut : Cut) → IsTestedCut search texts format cut
    → IsTrustedCut search texts format cut → IsOwnCut search texts format cut
tested_is_own late search texts format cut tested trusted =
    record { head = tested.head; fits = tested.fits; is_cut = by (keeps_digests format) refl }
  where
    by : (b : Bool) → keeps_digests format ≡ b → IsCutOf search cut.head.slack texts (meant_by format texts cut)
    by true keeps =
        subst (IsCutOf search cut.head.slack texts) (sym (meant_alone format texts cut keeps))
        (put_is_cut late search texts format cut keeps tested (trusted.by_digests keeps))
    by false none = trusted.without none
