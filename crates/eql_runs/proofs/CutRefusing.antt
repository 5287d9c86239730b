-- A cut is refused for one cause, and isn't where a run may begin with it.
use Rattle.std.proofs.Common.{◌≡◌, ◌≤◌, ◌<◌, ◌+◌, ◌-◌, ℕ, ℤ, zero, suc, List, [], ◌∷◌, ◌++◌, Option, Some, true, false, refl, ap, sym, arith, ◌∙◌, subst, length, map, inl, inr, ◌⊎◌}
use Rattle.std.specs.Prelude.{Bool, if◌then◌else◌, ◌==◌, Contains, IsTrue, take, drop}
use Rattle.std.specs.List.{flat_map, slice_get}
use Rattle.std.specs.Option.{option_map}
use Rattle.std.proofs.lemmas.Bool.{cases_order, false≢true}
use Rattle.std.proofs.lemmas.Option.{none-some, same_Some, slice_get-map}
use Rattle.eql_digest.specs.Digests.{IsDigestOf, start, with_bytes}
use Rattle.eql_values.specs.declared.cut.Counts.{Counts}
use Rattle.eql_values.specs.declared.cut.LaneCut.{LaneCut}
use Rattle.eql_values.specs.declared.found.Holder.{Holder}
use Rattle.eql_values.specs.declared.order.OrderKey.{OrderKey}
use Rattle.eql_values.specs.declared.order.Mark.{Mark}
use Rattle.eql_values.specs.declared.order.Mark.TheVariants.{At}
use Rattle.eql_values.specs.Accepted.{Reads}
use Rattle.eql_values.specs.Lines.{lines_of}
use Rattle.eql_laws.specs.Belows.{IsReading}
use Rattle.eql_laws.specs.Fitting.{Fits, Kept}
use Rattle.eql_laws.specs.Lanes.{lane_at, lanes_from}
use Rattle.eql_laws.specs.Places.{ArePlaces, IsPlace, ReadTo, is_line_end, whole}
use Rattle.eql_laws.specs.Counting.{front}
use Rattle.eql_lane.specs.Noting.{IsWholeLine, whole_lines}
use Rattle.eql_cut.specs.declared.compare.Differs.{Differs}
use Rattle.eql_cut.specs.declared.cut.Cut.{Cut}
use Rattle.eql_cut.specs.declared.cut.CutHead.{CutHead}
use Rattle.eql_cut.specs.Agreeing.{difference}
use Rattle.eql_cut.specs.Domain.{kept_by}
use Rattle.eql_cut.specs.Placing.{NamesLine, lifted_lane, lines_at, state_orders}
use Rattle.eql_cut.specs.Placed.{ShardHasLine, place_in_texts, cut_at_places}
use Rattle.eql_cut.specs.PlacedLaws.{NamedWereRead, NamesStay}
use Rattle.eql_runs.specs.CutRefusals.{CutRefusal, CutRefuses, FoundRefuses, HasItsBytes, IsLostLine, NoneIsRefusedBefore, ShardRefuses, StandsBefore, by_found, by_shard, differs, has_no_line, has_other_bytes, head_damaged, head_differs, is_foreign, is_grown, is_short, is_unfit, no_line, short, text_damaged}
use Rattle.eql_runs.specs.Refusals.{Refusal}
use Rattle.eql_runs.specs.Refusals as refusal
use Rattle.eql_runs.specs.RunLaws.{IsSameRefusal, other_place, same}
use Rattle.eql_runs.specs.Searches.{Search, nanos_in, reads_of, run_of}
use Rattle.eql_runs.specs.Starts.{BeginsWith, IsCutOf, IsHeadOf, OnDisk, a_cut, bad_head, bad_text, cut_over, keeps_digests, meant_by, not_ours, nothing_kept}
use Rattle.eql_runs.proofs.Heads.{no_difference, one_head}
use Rattle.eql_runs.proofs.Overs.{lane_above, orders_over}

-- the laws on which this rests
pub record CutLaws : Type 0 where
  pub were_read : NamedWereRead
  pub names_stay : NamesStay

abbrev Same : CutRefusal → CutRefusal → Type 0
Same r s = IsSameRefusal (refusal.cut r) (refusal.cut s)

same_of : (r s : CutRefusal) → r ≡ s → Same r s
same_of r s e = subst (λ (x : CutRefusal). Same r x) e same

-- ---- one cause
-- of a text of a shard one lane of the cut speaks
one_lane : (cut : Cut) (shard : ℕ) (a b : LaneCut) → slice_get cut.lanes shard ≡ Some a → slice_get cut.lanes shard ≡ Some b → a ≡ b
one_lane cut shard a b is also = same_Some a b (sym is ∙ also)

least_line : (cut : Cut) (shard offset : ℕ) (text : List ℕ) (a b : ℕ) → IsLostLine cut shard offset text a → IsLostLine cut shard offset text b
    → a < b → ⊥
least_line cut shard offset text a b lost other less = lost.lost (other.least a lost.named less)

one_line : (cut : Cut) (shard offset : ℕ) (text : List ℕ) (a b : ℕ) → IsLostLine cut shard offset text a → IsLostLine cut shard offset text b → a ≡ b
one_line cut shard offset text a b lost other = by (cases_order a b)
  where
    by : (a ≡ b) ⊎ ((a < b) ⊎ (b < a)) → a ≡ b
    by (inl e) = e
    by (inr (inl less)) = absurd (least_line cut shard offset text a b lost other less)
    by (inr (inr more)) = absurd (least_line cut shard offset text b a other lost more)

-- the first format keeps no digests, so no bytes differ from it
bytes_in_first : (format : ℕ) (lane : LaneCut) (text : List ℕ) → format ≡ 1 → HasItsBytes format lane text
bytes_in_first format lane text first keeps = absurd (false≢true (sym (ap keeps_digests first) ∙ keeps))

one_of_shard : (format : ℕ) (cut : Cut) (shard : ℕ) (text : List ℕ) (r s : CutRefusal) → ShardRefuses format cut shard text r
    → ShardRefuses format cut shard text s → r ≡ s
one_of_shard format cut shard text _ _ (is_short a is less) (is_short b also fewer) =
    ap (λ (x : LaneCut). short shard x.offset (length text)) (one_lane cut shard a b is also)
one_of_shard format cut shard text _ _ (is_short a is less) (has_no_line b also f enough line lost) =
    let e : a.offset ≡ b.offset = ap LaneCut.offset (one_lane cut shard a b is also) in absurd (omega (arith, e, less, enough))
one_of_shard format cut shard text _ _ (is_short a is less) (has_other_bytes b also enough unlike) =
    let e : a.offset ≡ b.offset = ap LaneCut.offset (one_lane cut shard a b is also) in absurd (omega (arith, e, less, enough))
one_of_shard format cut shard text _ _ (is_short a is less) (is_grown b also closed more bytes all) =
    let e : a.offset ≡ b.offset = ap LaneCut.offset (one_lane cut shard a b is also) in absurd (omega (arith, e, less, more))
one_of_shard format cut shard text _ _ (has_other_bytes b also enough unlike) (is_short a is less) =
    let e : a.offset ≡ b.offset = ap LaneCut.offset (one_lane cut shard a b is also) in absurd (omega (arith, e, less, enough))
one_of_shard format cut shard text _ _ (has_other_bytes a is enough unlike) (has_other_bytes b also too nor) = refl
one_of_shard format cut shard text _ _ (has_other_bytes a is enough unlike) (has_no_line b also f too line lost) =
    absurd (unlike (bytes_in_first format a text f))
one_of_shard format cut shard text _ _ (has_other_bytes a is enough unlike) (is_grown b also closed more bytes all) =
    absurd (unlike (subst (λ (x : LaneCut). HasItsBytes format x text) (one_lane cut shard b a also is) bytes))
one_of_shard format cut shard text _ _ (has_no_line b also f enough line lost) (is_short a is less) =
    let e : a.offset ≡ b.offset = ap LaneCut.offset (one_lane cut shard a b is also) in absurd (omega (arith, e, less, enough))
one_of_shard format cut shard text _ _ (has_no_line b also f too line lost) (has_other_bytes a is enough unlike) =
    absurd (unlike (bytes_in_first format a text f))
one_of_shard format cut shard text _ _ (has_no_line a is f enough line lost) (has_no_line b also g too other gone) =
    let e : a.offset ≡ b.offset = ap LaneCut.offset (one_lane cut shard a b is also) in
    ap (no_line shard) (one_line cut shard b.offset text line other (subst (λ (o : ℕ). IsLostLine cut shard o text line) e lost) gone)
one_of_shard format cut shard text _ _ (has_no_line a is f enough line lost) (is_grown b also closed more bytes all) =
    let e : b.offset ≡ a.offset = ap LaneCut.offset (one_lane cut shard b a also is) in
    absurd (lost.lost (subst (λ (o : ℕ). StandsBefore o text line) e (all f line lost.named)))
one_of_shard format cut shard text _ _ (is_grown b also closed more bytes all) (is_short a is less) =
    let e : a.offset ≡ b.offset = ap LaneCut.offset (one_lane cut shard a b is also) in absurd (omega (arith, e, less, more))
one_of_shard format cut shard text _ _ (is_grown b also closed more bytes all) (has_other_bytes a is enough unlike) =
    absurd (unlike (subst (λ (x : LaneCut). HasItsBytes format x text) (one_lane cut shard b a also is) bytes))
one_of_shard format cut shard text _ _ (is_grown b also closed more bytes all) (has_no_line a is f enough line lost) =
    let e : b.offset ≡ a.offset = ap LaneCut.offset (one_lane cut shard b a also is) in
    absurd (lost.lost (subst (λ (o : ℕ). StandsBefore o text line) e (all f line lost.named)))
one_of_shard format cut shard text _ _ (is_grown a is closed more bytes all) (is_grown b also shut further others whole) = refl

one_shard : (format : ℕ) (cut : Cut) (texts : List (List ℕ)) (a b : ℕ) (t u : List ℕ) (r s : CutRefusal) → slice_get texts a ≡ Some t
    → slice_get texts b ≡ Some u → NoneIsRefusedBefore format cut a texts → NoneIsRefusedBefore format cut b texts → ShardRefuses format cut a t r
    → ShardRefuses format cut b u s → a ≡ b
one_shard format cut texts a b t u r s is also none nor refused denied = by (cases_order a b)
  where
    by : (a ≡ b) ⊎ ((a < b) ⊎ (b < a)) → a ≡ b
    by (inl e) = e
    by (inr (inl less)) = absurd (nor a t r less is refused)
    by (inr (inr more)) = absurd (none b u s more also denied)

one_by_shards : (format : ℕ) (cut : Cut) (texts : List (List ℕ)) (a b : ℕ) (t u : List ℕ) (r s : CutRefusal) → slice_get texts a ≡ Some t
    → slice_get texts b ≡ Some u → a ≡ b → ShardRefuses format cut a t r → ShardRefuses format cut b u s → r ≡ s
one_by_shards format cut texts a b t u r s is also e refused denied =
    let same_text : t ≡ u = same_Some t u (sym is ∙ ap (slice_get texts) e ∙ also) in
    one_of_shard format cut b u r s
    (subst (λ (x : List ℕ). ShardRefuses format cut b x r) same_text (subst (λ (x : ℕ). ShardRefuses format cut x t r) e refused)) denied

-- what is found is refused by one head for one cause
differ_alike : (cut : CutHead) (a b : CutHead) (d e : Differs) → a ≡ b → difference cut a ≡ Some d → difference cut b ≡ Some e → d ≡ e
differ_alike cut a b d e heads is also = same_Some d e (sym is ∙ ap (difference cut) heads ∙ also)

same_differs : (cut head : CutHead) (d : Differs) → difference cut head ≡ Some d → cut ≡ head → ⊥
same_differs cut head d is e = none-some d (sym (no_difference head) ∙ ap (λ (h : CutHead). difference h head) (sym e) ∙ is)

one_of_found : (search : Search) (on : OnDisk) (a b : CutHead) (r s : CutRefusal) → a ≡ b → FoundRefuses a (run_of search a.slack) on r
    → FoundRefuses b (run_of search b.slack) on s → Same r s
one_of_found search on a b _ _ heads (is_foreign area) (is_foreign _) = same
one_of_found search on a b _ _ heads (head_damaged area) (head_damaged _) = same
one_of_found search on a b _ _ heads (text_damaged area at) (text_damaged _ to) = other_place
one_of_found search on a b _ _ heads (head_differs format generation cut d is) (head_differs _ _ _ e also) =
    same_of (differs d) (differs e) (ap differs (differ_alike cut.head a b d e heads is also))
one_of_found search on a b _ _ heads (head_differs format generation cut d is) (is_unfit _ _ _ e bad) =
    absurd (same_differs cut.head a d is (e ∙ sym heads))
one_of_found search on a b _ _ heads (is_unfit format generation cut e bad) (head_differs _ _ _ d is) =
    absurd (same_differs cut.head b d is (e ∙ heads))
one_of_found search on a b _ _ heads (is_unfit format generation cut e bad) (is_unfit _ _ _ h worse) = same

-- a cut that fits the run of its own head isn't refused as found
pub found_or_fits : (search : Search) (shards format generation : ℕ) (cut : Cut) (head : CutHead) (r : CutRefusal) → IsHeadOf search shards head
    → IsHeadOf search shards cut.head → Fits (run_of search cut.head.slack) shards (kept_by cut)
    → FoundRefuses head (run_of search head.slack) (a_cut format generation cut) r → ⊥
found_or_fits search shards format generation cut head _ is own fits (head_differs _ _ _ d differ) =
    same_differs cut.head head d differ (one_head search shards cut.head head own is)
found_or_fits search shards format generation cut head _ is own fits (is_unfit _ _ _ e bad) =
    bad (subst (λ (n : ℕ). Fits (run_of search head.slack) n (kept_by cut)) (sym is.shards_are)
    (subst (λ (h : CutHead). Fits (run_of search h.slack) shards (kept_by cut)) e fits))

pub one_cut_cause : (search : Search) (texts : List (List ℕ)) (on : OnDisk) (r s : CutRefusal) → CutRefuses search texts on r
    → CutRefuses search texts on s → Same r s
one_cut_cause search texts on _ _ (by_found _ a r is refused) (by_found _ b s also denied) =
    one_of_found search on a b r s (one_head search (length texts) a b is also) refused denied
one_cut_cause search texts on _ _ (by_found _ a r is refused) (by_shard format generation cut own fits shard text there none s denied) =
    absurd (found_or_fits search (length texts) format generation cut a r is own fits refused)
one_cut_cause search texts on _ _ (by_shard format generation cut own fits shard text there none s denied) (by_found _ a r is refused) =
    absurd (found_or_fits search (length texts) format generation cut a r is own fits refused)
one_cut_cause search texts on _ _ (by_shard format generation cut own fits a t is none r refused) (by_shard _ _ _ its fit b u also nor s denied) =
    same_of r s
    (one_by_shards format cut texts a b t u r s is also (one_shard format cut texts a b t u r s is also none nor refused denied) refused denied)

-- ---- none where a run may begin
-- a shard of a cut of texts
pub record ShardAt (shards : List ReadTo) (shard : ℕ) (text : List ℕ) (lane : LaneCut) : Type 0 where
  pub r : ReadTo
  pub at : slice_get shards shard ≡ Some r
  pub whole_is : text ≡ whole r
  pub offset : lane.offset ≡ length r.first
  pub closed : lane.closed ≡ r.closed
  pub lines : lane.counts.lines ≡ length (lines_of r.first)
  pub is_place : IsPlace r

next_shard : (r : ReadTo) (shards : List ReadTo) (shard : ℕ) (text : List ℕ) (lane : LaneCut) → ShardAt shards shard text lane
    → ShardAt (r ∷ shards) (suc shard) text lane
next_shard r shards shard text lane h =
    record { r = h.r; at = h.at; whole_is = h.whole_is; offset = h.offset; closed = h.closed; lines = h.lines; is_place = h.is_place }

shard_at : (reads : Reads) (slack : Option ℤ) (first : ℕ) (mark : Mark) (shards : List ReadTo) (shard : ℕ) (text : List ℕ) (lane : LaneCut)
    → ArePlaces shards → slice_get (map whole shards) shard ≡ Some text → slice_get (lanes_from reads slack first mark shards) shard ≡ Some lane
    → ShardAt shards shard text lane
shard_at reads slack first mark [] shard text lane places is there = absurd (none-some text is)
shard_at reads slack first mark (r ∷ shards) zero text lane places is there =
    let e : lane_at reads slack first mark r ≡ lane = same_Some (lane_at reads slack first mark r) lane there in
    record {
      r = r;
      at = refl;
      whole_is = sym (same_Some (whole r) text is);
      offset = sym (ap LaneCut.offset e);
      closed = sym (ap LaneCut.closed e);
      lines = sym (ap (λ (l : LaneCut). l.counts.lines) e);
      is_place = places.0;
    }
shard_at reads slack first mark (r ∷ shards) (suc shard) text lane places is there =
    next_shard r shards shard text lane (shard_at reads slack (first + 1) mark shards shard text lane places.1 is there)

-- a cut and the cut that is meant have lanes of the same edges
record SameEdges (a b : LaneCut) : Type 0 where
  offset : a.offset ≡ b.offset
  closed : a.closed ≡ b.closed
  lines : a.counts.lines ≡ b.counts.lines

record MeantLane (other : Cut) (shard : ℕ) (lane : LaneCut) : Type 0 where
  meant : LaneCut
  there : slice_get other.lanes shard ≡ Some meant
  edges : SameEdges lane meant

-- the lane of the cut whose digests are those of the texts
lane_of_over : (texts : List (List ℕ)) (cut : Cut) (shard : ℕ) (lane : LaneCut) → slice_get cut.lanes shard ≡ Some lane
    → MeantLane (cut_over texts cut) shard lane
lane_of_over texts cut shard lane is =
    let over = lane_above texts cut.lanes shard lane is in
    record {
      meant = over.other;
      there = over.there;
      edges = record { offset = over.is_same.offset; closed = over.is_same.closed; lines = ap (λ (c : Counts). c.lines) over.is_same.counts };
    }

-- and that of the cut with places too
lane_of_placed : (texts : List (List ℕ)) (cut : Cut) (shard : ℕ) (lane : LaneCut) → slice_get cut.lanes shard ≡ Some lane
    → MeantLane (cut_over texts (cut_at_places texts cut)) shard lane
lane_of_placed texts cut shard lane is =
    let placed : LaneCut = lifted_lane (place_in_texts texts) lane in
    let over = lane_of_over texts (cut_at_places texts cut) shard placed
    (slice_get-map (lifted_lane (place_in_texts texts)) cut.lanes shard ∙ ap (option_map (lifted_lane (place_in_texts texts))) is) in
    record { meant = over.meant; there = over.there; edges = record { offset = over.edges.offset; closed = over.edges.closed; lines = over.edges.lines } }

meant_if : (digests first : Bool) (texts : List (List ℕ)) (cut : Cut) (shard : ℕ) (lane : LaneCut) → slice_get cut.lanes shard ≡ Some lane
    → MeantLane (if digests then cut else if first then cut_over texts (cut_at_places texts cut) else cut_over texts cut) shard lane
meant_if true first texts cut shard lane is = record { meant = lane; there = is; edges = record { offset = refl; closed = refl; lines = refl } }
meant_if false false texts cut shard lane is = lane_of_over texts cut shard lane is
meant_if false true texts cut shard lane is = lane_of_placed texts cut shard lane is

-- and they name the same lines
names_over : (texts : List (List ℕ)) (cut : Cut) (shard line : ℕ) → NamesLine cut shard line → NamesLine (cut_over texts cut) shard line
names_over texts cut shard line h =
    subst (λ (lanes : List OrderKey). Contains (lines_at shard (lanes ++ (flat_map (λ (h : Holder). h.chain) cut.holders ++ flat_map state_orders cut.book.pipes))) line)
    (sym (orders_over texts cut.lanes)) h

names_if : (laws : CutLaws) (digests first : Bool) (texts : List (List ℕ)) (cut : Cut) (shard line : ℕ) → NamesLine cut shard line
    → NamesLine (if digests then cut else if first then cut_over texts (cut_at_places texts cut) else cut_over texts cut) shard line
names_if laws true first texts cut shard line h = h
names_if laws false false texts cut shard line h = names_over texts cut shard line h
names_if laws false true texts cut shard line h =
    names_over texts (cut_at_places texts cut) shard line ((laws.names_stay (place_in_texts texts) cut shard line).1 h)

-- a cut with digests stands for itself
pub meant_alone : (format : ℕ) (texts : List (List ℕ)) (cut : Cut) → keeps_digests format ≡ true → meant_by format texts cut ≡ cut
meant_alone format texts cut keeps =
    ap (λ (b : Bool). if b then cut else if format == 1 then cut_over texts (cut_at_places texts cut) else cut_over texts cut) keeps

pub own_shard : (search : Search) (texts : List (List ℕ)) (format : ℕ) (cut : Cut) (is : IsCutOf search cut.head.slack texts (meant_by format texts cut))
    (shard : ℕ) (text : List ℕ) (lane : LaneCut) → slice_get texts shard ≡ Some text → slice_get cut.lanes shard ≡ Some lane
    → ShardAt is.shards shard text lane
own_shard search texts format cut is shard text lane there has =
    let m = meant_if (keeps_digests format) (format == 1) texts cut shard lane has in
    let lanes = ap Kept.lanes is.kept_is in
    let slack = Some (nanos_in cut.head.slack) in
    let mark = At (meant_by format texts cut).mark in
    let h = shard_at (reads_of search) slack 0 mark is.shards shard text m.meant is.are_places
    (subst (λ (ts : List (List ℕ)). slice_get ts shard ≡ Some text) (sym is.texts_are) there)
    (ap (λ (ls : List LaneCut). slice_get ls shard) (sym lanes) ∙ m.there) in
    record { r = h.r; at = h.at; whole_is = h.whole_is; offset = m.edges.offset ∙ h.offset; closed = m.edges.closed ∙ h.closed; lines = m.edges.lines ∙ h.lines; is_place = h.is_place }

pub append_length : (a b : List ℕ) → length (a ++ b) ≡ length a + length b
append_length [] b = omega arith
append_length (x ∷ a) b = let e = append_length a b in omega (arith, e)

pub take_front : (a b : List ℕ) → take (length a) (a ++ b) ≡ a
take_front [] [] = refl
take_front [] (x ∷ b) = refl
take_front (x ∷ a) b = ap (λ (xs : List ℕ). x ∷ xs) (take_front a b)

pub drop_front : (a b : List ℕ) → drop (length a) (a ++ b) ≡ b
drop_front [] [] = refl
drop_front [] (x ∷ b) = refl
drop_front (x ∷ a) b = drop_front a b

-- a cut keeps the digests of the bytes that were read of its texts
digest_at : (reads : Reads) (slack : Option ℤ) (first : ℕ) (mark : Mark) (shards : List ReadTo) (shard : ℕ) (text : List ℕ) (lane : LaneCut)
    → slice_get (map whole shards) shard ≡ Some text → slice_get (lanes_from reads slack first mark shards) shard ≡ Some lane
    → IsDigestOf lane.digest (take lane.offset text)
digest_at reads slack first mark [] shard text lane is there = absurd (none-some text is)
digest_at reads slack first mark (r ∷ shards) zero text lane is there =
    let e : lane_at reads slack first mark r ≡ lane = same_Some (lane_at reads slack first mark r) lane there in
    let t : take lane.offset text ≡ r.first =
    ap (take lane.offset) (sym (same_Some (whole r) text is)) ∙ ap (λ (n : ℕ). take n (whole r)) (sym (ap LaneCut.offset e)) ∙ take_front r.first r.rest in
    sym (ap LaneCut.digest e) ∙ ap (with_bytes start) (sym t)
digest_at reads slack first mark (r ∷ shards) (suc shard) text lane is there =
    digest_at reads slack (first + 1) mark shards shard text lane is there

-- so where the format keeps them, each text has the bytes of an own cut
pub own_bytes : (search : Search) (texts : List (List ℕ)) (format : ℕ) (cut : Cut) → IsCutOf search cut.head.slack texts (meant_by format texts cut)
    → (shard : ℕ) (text : List ℕ) (lane : LaneCut) → slice_get texts shard ≡ Some text → slice_get cut.lanes shard ≡ Some lane
    → HasItsBytes format lane text
own_bytes search texts format cut meant shard text lane there has keeps =
    let is : IsCutOf search cut.head.slack texts cut = subst (IsCutOf search cut.head.slack texts) (meant_alone format texts cut keeps) meant in
    digest_at (reads_of search) (Some (nanos_in cut.head.slack)) 0 (At cut.mark) is.shards shard text lane
    (subst (λ (ts : List (List ℕ)). slice_get ts shard ≡ Some text) (sym is.texts_are) there)
    (ap (λ (ls : List LaneCut). slice_get ls shard) (sym (ap Kept.lanes is.kept_is)) ∙ has)

pub long_enough : (shards : List ReadTo) (shard : ℕ) (text : List ℕ) (lane : LaneCut) → ShardAt shards shard text lane → lane.offset ≤ length text
long_enough shards shard text lane h =
    let e : length text ≡ length h.r.first + length h.r.rest = ap length h.whole_is ∙ append_length h.r.first h.r.rest in
    omega (arith, e, h.offset)

pub ends_there : (shards : List ReadTo) (shard : ℕ) (text : List ℕ) (lane : LaneCut) → ShardAt shards shard text lane → lane.closed ≡ true
    → length text ≡ lane.offset
ends_there shards shard text lane h closed =
    let none : length h.r.rest ≡ 0 = ap length (h.is_place.at_end (sym h.closed ∙ closed)) in
    let e : length text ≡ length h.r.first + length h.r.rest = ap length h.whole_is ∙ append_length h.r.first h.r.rest in
    omega (arith, e, none, h.offset)

-- the line of a shard that was read stands before its place
line_in : (shards : List ReadTo) (shard line : ℕ) (r : ReadTo) → slice_get shards shard ≡ Some r → ShardHasLine (map front shards) shard line
    → (1 ≤ line) × (line ≤ length (lines_of r.first))
line_in [] shard line r is h = absurd (none-some r is)
line_in (q ∷ shards) zero line r is h = subst (λ (x : ReadTo). (1 ≤ line) × (line ≤ length (lines_of x.first))) (same_Some q r is) h
line_in (q ∷ shards) (suc shard) line r is h = line_in shards shard line r is h

all_whole : (first rest : List ℕ) → IsTrue (is_line_end first rest) → whole_lines first rest ≡ length (lines_of first)
all_whole first rest h = by (is_line_end first rest) refl
  where
    by : (b : Bool) → is_line_end first rest ≡ b → whole_lines first rest ≡ length (lines_of first)
    by true e = ap (λ (b : Bool). if b then length (lines_of first) else length (lines_of first) - 1) e
    by false e = cc

stands_before : (shards : List ReadTo) (shard : ℕ) (text : List ℕ) (lane : LaneCut) (line : ℕ) → ShardAt shards shard text lane
    → ShardHasLine (map front shards) shard line → StandsBefore lane.offset text line
stands_before shards shard text lane line h has =
    let among = line_in shards shard line h.r h.at has in
    let e : line ≤ whole_lines h.r.first h.r.rest = subst (λ (n : ℕ). line ≤ n) (sym (all_whole h.r.first h.r.rest h.is_place.line_end)) among.1 in
    let whole_line : IsWholeLine h.r.first h.r.rest line = (among.0, e) in
    let t : take lane.offset text ≡ h.r.first = ap (take lane.offset) h.whole_is ∙ ap (λ (n : ℕ). take n (whole h.r)) h.offset ∙ take_front h.r.first h.r.rest in
    let d : drop lane.offset text ≡ h.r.rest = ap (drop lane.offset) h.whole_is ∙ ap (λ (n : ℕ). drop n (whole h.r)) h.offset ∙ drop_front h.r.first h.r.rest in
    subst (λ (x : List ℕ). IsWholeLine x (drop lane.offset text) line) (sym t)
    (subst (λ (x : List ℕ). IsWholeLine h.r.first x line) (sym d) whole_line)

named_before : (laws : CutLaws) (search : Search) (texts : List (List ℕ)) (format : ℕ) (cut : Cut) → IsReading (reads_of search)
    → (is : IsCutOf search cut.head.slack texts (meant_by format texts cut)) (shard : ℕ) (text : List ℕ) (lane : LaneCut) (line : ℕ)
    → slice_get texts shard ≡ Some text → slice_get cut.lanes shard ≡ Some lane → NamesLine cut shard line → StandsBefore lane.offset text line
named_before laws search texts format cut reading is shard text lane line there has named =
    stands_before is.shards shard text lane line (own_shard search texts format cut is shard text lane there has)
    (laws.were_read (run_of search cut.head.slack) (reads_of search) (meant_by format texts cut).mark is.shards (meant_by format texts cut) reading
    is.are_places is.safe is.kept_is shard line (names_if laws (keeps_digests format) (format == 1) texts cut shard line named))

own_or_refused : (laws : CutLaws) (search : Search) (texts : List (List ℕ)) (format : ℕ) (cut : Cut) → IsReading (reads_of search)
    → IsCutOf search cut.head.slack texts (meant_by format texts cut) → (shard : ℕ) (text : List ℕ) (r : CutRefusal)
    → slice_get texts shard ≡ Some text → ShardRefuses format cut shard text r → ⊥
own_or_refused laws search texts format cut reading is shard text _ there (is_short lane has less) =
    let enough = long_enough is.shards shard text lane (own_shard search texts format cut is shard text lane there has) in
    omega (arith, less, enough)
own_or_refused laws search texts format cut reading is shard text _ there (has_no_line lane has f enough line lost) =
    lost.lost (named_before laws search texts format cut reading is shard text lane line there has lost.named)
own_or_refused laws search texts format cut reading is shard text _ there (has_other_bytes lane has enough unlike) =
    unlike (own_bytes search texts format cut is shard text lane there has)
own_or_refused laws search texts format cut reading is shard text _ there (is_grown lane has closed more bytes all) =
    let end = ends_there is.shards shard text lane (own_shard search texts format cut is shard text lane there has) closed in
    omega (arith, more, end)

pub begins_or_refused : (laws : CutLaws) (search : Search) (texts : List (List ℕ)) → IsReading (reads_of search) → (on : OnDisk) (r : CutRefusal)
    → BeginsWith search texts on → CutRefuses search texts on r → ⊥
begins_or_refused laws search texts reading nothing_kept _ begins (by_found _ head r is refused) = elim refused [ ]
begins_or_refused laws search texts reading (bad_head area) _ begins refused = begins
begins_or_refused laws search texts reading (bad_text area) _ begins refused = begins
begins_or_refused laws search texts reading (not_ours area) _ begins refused = begins
begins_or_refused laws search texts reading (a_cut format generation cut) _ begins (by_found _ head r is refused) =
    found_or_fits search (length texts) format generation cut head r is begins.head begins.fits refused
begins_or_refused laws search texts reading (a_cut format generation cut) _ begins (by_shard _ _ _ own fits shard text there none r refused) =
    own_or_refused laws search texts format cut reading begins.is_cut shard text r there refused
