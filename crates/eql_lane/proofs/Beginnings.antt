-- Lanes that begin behind the offset of a cut, and laws of lifted ones.
use Rattle.std.proofs.Common.{◌≡◌, ℕ, ◌+◌, ◌-◌, ◌≤◌, Bool, true, false, cond, ℤ, List, [], ◌∷◌, ◌++◌, length, map, take, slice_index_or, Option, Some, None, refl, sym, ap, ◌∙◌, subst, arith}
use Rattle.std.specs.Prelude.{◌==◌, All, IfSome, IsTrue, not, filter}
use Rattle.std.proofs.Math.Seq.{take-append_seam}
use Rattle.std.proofs.lemmas.Bool.{eq-eqb}
use Rattle.eql_digest.specs.declared.digest.Digest.{Digest}
use Rattle.eql_digest.specs.Digests.{with_bytes, start, IsDigestOf}
use Rattle.std.proofs.lemmas.List.{append-nil}
use Rattle.std.proofs.lemmas.List.Elements.{All-nil, All-cons, All-head, All-tail, All-filter}
use Rattle.eql_values.specs.declared.order.Mark.{Mark}
use Rattle.eql_values.specs.declared.item.Item.{Item}
use Rattle.eql_values.specs.declared.cut.LaneCut.{LaneCut}
use Rattle.eql_values.specs.declared.reader.LineGot.{LineGot}
use Rattle.eql_values.specs.declared.reader.LineGot.TheVariants as got
use Rattle.eql_values.specs.Accepted.{Reads, readable, accepted_items, placed_at, event_at}
use Rattle.eql_values.specs.Lines.{Line, lines_of, numbered_lines, lines_in}
use Rattle.eql_values.specs.Marks.{is_below}
use Rattle.eql_laws.specs.Belows.{IsReading}
use Rattle.eql_laws.specs.Cuts.{held_back}
use Rattle.eql_laws.specs.Lanes.{lane_at}
use Rattle.eql_laws.specs.Places.{ReadTo, whole, is_line_end}
use Rattle.eql_laws.proofs.BelowLemmas.{All-sorted, All-accepted}
use Rattle.eql_laws.proofs.Elements.{All-filter_map}
use Rattle.eql_lane.specs.Lanes.{Setting, HasDigest, fresh_cut, beginning_lane}
use Rattle.eql_lane.specs.Views.{LaneView, IsTextOf}
use Rattle.eql_lane.specs.Noting.{place_among, line_place, placed_item, retraced_cut, placed_cut, unplaced_cut, placed_lines, whole_lines, Locates}
use Rattle.eql_lane.specs.Passing.{PassesOver, IsEnd, IsBefore, Traces}
use Rattle.eql_lane.specs.declared.pass.Found.{Found}
use Rattle.eql_lane.specs.Starts.{Begins, Retraces, Lifts}
use Rattle.eql_lane.specs.Judging.{KeptView, kept_of, cut_with}
use Rattle.eql_lane.specs.Buffers.{Pending}
use Rattle.eql_lane.specs.Keeps.{LaneIs, CutsBegin, RetracedIs, LiftedIs, PlacesHaveLines}
use Rattle.eql_lane.proofs.Digesting.{none_added}
use Rattle.eql_lane.proofs.Starting.{end_rest, passed_start}
use Rattle.eql_lane.proofs.Stepping.{begun_text}
use Rattle.eql_lane.proofs.NoteLemmas.{place_stays}

-- ---- a lane behind an offset
abbrev empty : Digest → Pending
empty digest = record { long = None; unread = []; digest = digest }

told_before : (text : Option (List ℕ)) (cut : LaneCut) (first : List ℕ) → IsDigestOf cut.digest first → IfSome text (λ t. first ≡ take cut.offset t) → HasDigest text cut
told_before None cut first is told = tt
told_before (Some t) cut first is told = is ∙ ap (with_bytes start) told

module _ {S L : Type 0} (left lent_as : S → Option (List ℕ)) (fault_count : S → ℕ) (source back : S) (reader : L) (shard : ℕ) (slack : Option ℤ) (cut : LaneCut) (places : List (ℕ × ℕ))
    (passed : PassesOver left lent_as cut.offset source back) (ended : cut.closed ≡ true → IsEnd left back) (steady : fault_count back ≡ fault_count source) (digest : HasDigest (left source) cut) where
  pub begins_of : (lane : LaneView S L) → lane ≡ record { source = back; reader = reader; shard = shard; slack = slack; buffer = empty cut.digest; places = places; state = beginning_lane cut (fault_count back) }
      → Begins left lent_as fault_count source reader shard slack cut places lane
  begins_of lane e = record {
    state = ap (λ (v : LaneView S L). v.state) e ∙ ap (beginning_lane cut) steady;
    reader_is = ap (λ (v : LaneView S L). v.reader) e;
    shard_is = ap (λ (v : LaneView S L). v.shard) e;
    slack_is = ap (λ (v : LaneView S L). v.slack) e;
    places_are = ap (λ (v : LaneView S L). v.places) e;
    text = subst (λ (v : LaneView S L). IsTextOf left (left source) v) (sym e) (begun_text (left source) (left back) cut passed.rest digest);
    ended = λ closed. end_rest (left source) (left back) cut.offset passed.rest (ended closed);
    named = ap (λ (v : LaneView S L). lent_as v.source) e ∙ passed.named;
    silent = λ none. ap (λ (v : LaneView S L). left v.source) e ∙ passed.silent none;
  }

module _ {S L : Type 0} (left lent_as : S → Option (List ℕ)) (fault_count : S → ℕ) (source back : S) (reader : L) (shard : ℕ) (slack : Option ℤ) (cut : LaneCut) (wanted : List ℕ) (found : Found)
    (passed : PassesOver left lent_as cut.offset source back) (ended : cut.closed ≡ true → IsEnd left back) (steady : fault_count back ≡ fault_count source) (traces : Traces (left source) cut.offset wanted found) where
  -- the bytes before the offset
  first_told : IfSome (left source) (λ t. traces.finds.first ≡ take cut.offset t)
  first_told = by (left source) traces.finds.told
    where
      by : (text : Option (List ℕ)) → IfSome text (λ t. t ≡ traces.finds.first ++ traces.finds.rest) → IfSome text (λ t. traces.finds.first ≡ take cut.offset t)
      by None told = tt
      by (Some t) told =
          sym (take-append_seam traces.finds.first traces.finds.rest) ∙ (λ i. take (traces.finds.count i) (sym told i))

  pub before_of : IsBefore (left source) cut.offset traces.finds.first
  before_of = record { count = traces.finds.count; told = first_told }

  -- a lane that begins with these places and with this digest, whatever it holds
  begins_with : (kept : KeptView) (next : LaneCut) → cut_with (with_bytes start traces.finds.first) kept ≡ next → next.offset ≡ cut.offset → next.closed ≡ cut.closed → (lane : LaneView S L)
      → lane ≡ record { source = back; reader = reader; shard = shard; slack = slack; buffer = empty found.digest; places = found.places; state = beginning_lane (cut_with found.digest kept) (fault_count back) }
      → Begins left lent_as fault_count source reader shard slack next found.places lane
  begins_with kept next same offset closed lane e =
      let digest : found.digest ≡ next.digest = traces.digest ∙ ap (λ (c : LaneCut). c.digest) same in
      begins_of left lent_as fault_count source back reader shard slack next found.places
      (subst (λ (n : ℕ). PassesOver left lent_as n source back) (sym offset) passed) (λ c. ended (sym closed ∙ c)) steady
      (told_before (left source) next traces.finds.first (sym digest ∙ traces.digest)
      (subst (λ (n : ℕ). IfSome (left source) (λ t. traces.finds.first ≡ take n t)) (sym offset) first_told)) lane
      (e ∙ (λ i. record {
        source = back;
        reader = reader;
        shard = shard;
        slack = slack;
        buffer = empty (digest i);
        places = found.places;
        state = beginning_lane ((ap (λ (d : Digest). cut_with d kept) traces.digest ∙ same) i) (fault_count back);
      }))

  pub retraces_of : wanted ≡ [] → (lane : LaneView S L)
      → lane ≡ record { source = back; reader = reader; shard = shard; slack = slack; buffer = empty found.digest; places = found.places; state = beginning_lane (cut_with found.digest (kept_of slack cut)) (fault_count back) }
      → Retraces left lent_as fault_count source reader shard slack cut lane
  retraces_of none lane e =
      let bare : found.places ≡ [] = traces.finds.located.places_are ∙ ap (placed_lines traces.finds.first) none in
      record {
        first = traces.finds.first;
        before = before_of;
        begins = subst (λ (l : List (ℕ × ℕ)). Begins left lent_as fault_count source reader shard slack (retraced_cut traces.finds.first cut) l lane) bare
            (begins_with (kept_of slack cut) (retraced_cut traces.finds.first cut) refl refl refl lane e);
      }

  pub lifts_of : (set_anew : LaneCut) → ◌≡◌ {A = LaneCut} set_anew (record cut { items = map (placed_item traces.finds.first) cut.items }) → (lane : LaneView S L)
      → lane ≡ record { source = back; reader = reader; shard = shard; slack = slack; buffer = empty found.digest; places = found.places; state = beginning_lane (cut_with found.digest (kept_of slack set_anew)) (fault_count back) }
      → Lifts left lent_as fault_count source reader shard slack cut wanted lane
  lifts_of set_anew same lane e =
      let kept : found.places ≡ lane.places = sym (ap (λ (v : LaneView S L). v.places) e) in
      let finds = traces.finds in
      record {
        finds = record { first = finds.first; rest = finds.rest; count = finds.count; told = finds.told; located = subst (Locates finds.first finds.rest wanted) kept finds.located };
        begins = subst (λ (l : List (ℕ × ℕ)). Begins left lent_as fault_count source reader shard slack (placed_cut finds.first cut) l lane) kept
            (begins_with (kept_of slack set_anew) (placed_cut finds.first cut) (ap (λ (k : LaneCut). cut_with (with_bytes start finds.first) (kept_of slack k)) same) refl refl lane e);
      }

module _ {S L : Type 0} (left lent_as : S → Option (List ℕ)) (fault_count : S → ℕ) (source : S) (reader : L) (shard : ℕ) (slack : Option ℤ) where
  -- a lane of which nothing was read
  pub fresh_of : (kept : KeptView) (found : Found) → kept ≡ kept_of slack fresh_cut → found.places ≡ [] → IsDigestOf found.digest [] → (lane : LaneView S L)
      → lane ≡ record { source = source; reader = reader; shard = shard; slack = kept.slack; buffer = empty found.digest; places = found.places; state = beginning_lane (cut_with found.digest kept) (fault_count source) }
      → Begins left lent_as fault_count source reader shard slack fresh_cut [] lane
  fresh_of kept found same none digest lane e =
      let digest_is : found.digest ≡ start = digest ∙ sym (none_added start) in
      begins_of left lent_as fault_count source source reader shard slack fresh_cut [] (passed_start left lent_as source) (λ e. cc) refl (told_none (left source)) lane
      (e ∙ (λ i. record {
        source = source;
        reader = reader;
        shard = shard;
        slack = (same i).slack;
        buffer = empty (digest_is i);
        places = none i;
        state = beginning_lane (cut_with (digest_is i) (same i)) (fault_count source);
      }))
    where
      told_none : (text : Option (List ℕ)) → HasDigest text fresh_cut
      told_none None = tt
      told_none (Some t) = none_added start

-- ---- events at the places of their lines
later_number : (number at : ℕ) (xs : List (List ℕ)) (k : ℕ) → k ≤ number → All (λ (line : Line). k ≤ line.number) (numbered_lines number at xs)
later_number number at [] k le = All-nil (λ (line : Line). k ≤ line.number)
later_number number at (x ∷ xs) k le =
    All-cons (λ (line : Line). k ≤ line.number) (record { number = number; at = at; bytes = x }) (numbered_lines (number + 1) (at + length x + 1) xs) le (later_number (number + 1) (at + length x + 1) xs k (omega (arith, le)))

less_not : (m n : ℕ) → m + 1 ≤ n → (m == n) ≡ false
less_not m n lt = grind arith

abbrev AtPlace : List Line → Line → Type 0
AtPlace lines line = place_among lines line.number ≡ line.at

all_placed : (number at : ℕ) (xs : List (List ℕ)) → All (AtPlace (numbered_lines number at xs)) (numbered_lines number at xs)
all_placed number at [] = All-nil (AtPlace [])
all_placed number at (x ∷ xs) =
    let rest : List Line = numbered_lines (number + 1) (at + length x + 1) xs in
    let here : Line = record { number = number; at = at; bytes = x } in
    All-cons (AtPlace (here ∷ rest)) here rest (ap (λ (b : Bool). cond b at (place_among rest number)) (eq-eqb number number refl))
    (λ k d lt. let later = later_number (number + 1) (at + length x + 1) xs (number + 1) (omega arith) k d lt in
    ap (λ (b : Bool). cond b at (place_among rest (slice_index_or rest k d).number)) (less_not number (slice_index_or rest k d).number later) ∙ all_placed (number + 1) (at + length x + 1) xs k d lt)

abbrev IsPlaced : List ℕ → Item → Type 0
IsPlaced text item = line_place text item.order.line ≡ item.order.at

event_placed : (reads : Reads) (shard : ℕ) (text : List ℕ) → IsReading reads → (line : Line) → AtPlace (lines_in text) line → (g : LineGot) → reads shard line.number line.bytes ≡ g → IfSome (event_at line.at g) (IsPlaced text)
event_placed reads shard text reading line there got.Blank e = tt
event_placed reads shard text reading line there (got.Bad reason) e = tt
event_placed reads shard text reading line there (got.Item item) e = ap (line_place text) (reading shard line.number line.bytes item e).line_is ∙ there

held_placed : (reads : Reads) (slack : Option ℤ) (shard : ℕ) (text : List ℕ) (mark : Mark) → IsReading reads → All (IsPlaced text) (held_back reads slack shard text mark)
held_placed reads slack shard text mark reading =
    All-sorted (IsPlaced text) (filter (λ item. not (is_below mark item)) (accepted_items reads slack shard text))
    (All-filter (λ item. not (is_below mark item)) (IsPlaced text) (accepted_items reads slack shard text)
    (All-accepted (IsPlaced text) slack [] (readable reads shard (lines_in text))
    (All-filter_map (AtPlace (lines_in text)) (IsPlaced text) (λ (line : Line). event_at line.at (reads shard line.number line.bytes))
    (λ line there. event_placed reads shard text reading line there (reads shard line.number line.bytes) refl) (lines_in text) (all_placed 1 0 (lines_of text)))))

placed_again : (text : List ℕ) (items : List Item) → All (IsPlaced text) items → map (placed_item text) items ≡ items
placed_again text [] all = refl
placed_again text (item ∷ items) all = λ i. placed_at (All-head (IsPlaced text) item items all i) item ∷ placed_again text items (All-tail (IsPlaced text) item items all) i

-- the places that were there don't matter
placed_anew : (text : List ℕ) (items : List Item) → map (placed_item text) (map (placed_at 0) items) ≡ map (placed_item text) items
placed_anew text [] = refl
placed_anew text (item ∷ items) = ap (λ (l : List Item). placed_item text item ∷ l) (placed_anew text items)

cut_anew : (text : List ℕ) (cut : LaneCut) → placed_cut text (unplaced_cut cut) ≡ placed_cut text cut
cut_anew text cut = ap (λ (items : List Item). let k : LaneCut = record (retraced_cut text cut) { items = items } in k) (placed_anew text cut.items)

pub lifted_cut : (set : Setting) (mark : Mark) (place : ReadTo) (cut : LaneCut) → IsReading set.reads → unplaced_cut cut ≡ unplaced_cut (lane_at set.reads set.slack set.shard mark place)
    → placed_cut place.first cut ≡ lane_at set.reads set.slack set.shard mark place
lifted_cut set mark place cut reading e =
    let there : LaneCut = lane_at set.reads set.slack set.shard mark place in
    sym (cut_anew place.first cut) ∙ ap (placed_cut place.first) e ∙ cut_anew place.first there
    ∙ ap (λ (items : List Item). let k : LaneCut = record there { items = items } in k) (placed_again place.first there.items (held_placed set.reads set.slack set.shard place.first mark reading))

pub lifted_is : CutsBegin → LiftedIs
lifted_is begins set mark place faults cut reading is safe e =
    subst (λ (k : LaneCut). LaneIs set (whole place) mark (beginning_lane k faults)) (sym (lifted_cut set mark place cut reading e)) (begins set mark place faults is safe)

pub retraced_is : CutsBegin → RetracedIs
retraced_is begins set mark place faults cut is safe e =
    let same : retraced_cut place.first cut ≡ lane_at set.reads set.slack set.shard mark place = ap (retraced_cut place.first) e in
    subst (λ (k : LaneCut). LaneIs set (whole place) mark (beginning_lane k faults)) (sym same) (begins set mark place faults is safe)

-- ---- whole lines
same_place : (first rest : List ℕ) → IsTrue (is_line_end first rest) → (number : ℕ) → 1 ≤ number → number ≤ length (lines_of first) → line_place (first ++ rest) number ≡ line_place first number
same_place first [] ends number some within = ap (λ (l : List ℕ). line_place l number) (append-nil first)
same_place first (byte ∷ rest) ends number some within = place_stays first (byte ∷ rest) ends number (some, within)

pub places_have_lines : PlacesHaveLines
places_have_lines place is =
    let all : whole_lines place.first place.rest ≡ length (lines_of place.first) = ap (λ (b : Bool). cond b (length (lines_of place.first)) (length (lines_of place.first) - 1)) is.line_end in
    record {
      all_whole = all;
      same_places = λ number there. same_place place.first place.rest is.line_end number there.0 (let a = there.1 in omega (arith, a, all));
    }
