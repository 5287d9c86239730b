-- A search may begin as a run was found to begin, and over which texts it does.
use Rattle.std.proofs.Common.{◌≡◌, ◌≢◌, ◌*◌, ℕ, ℤ, Bool, true, false, List, [], ◌∷◌, Option, Some, None, refl, sym, ap, ◌∙◌, subst, length, map}
use Rattle.std.specs.Prelude.{◌&&◌, ◌==◌, All, IsTrue, if◌then◌else◌, pos}
use Rattle.std.specs.Option.{option_map}
use Rattle.std.specs.List.{list_all}
use Rattle.std.specs.FinMap.Entries.{is_sorted}
use Rattle.std.specs.Ordering.{nat_cmp}
use Rattle.std.proofs.lemmas.Bool.{eqb-true}
use Rattle.std.proofs.lemmas.List.{length-map}
use Rattle.std.proofs.lemmas.List.Elements.{All-cons, All-head, All-nil, All-tail, All-weaker}
use Rattle.eql_values.specs.declared.cut.LaneCut.{LaneCut}
use Rattle.eql_values.specs.declared.order.Mark.TheVariants.{At}
use Rattle.eql_laws.specs.Fitting.{Fits, Kept, StandsInOrder}
use Rattle.eql_laws.specs.Places.{whole as whole_text}
use Rattle.eql_words.specs.declared.commands.Find.{Find}
use Rattle.eql_words.specs.Bounds.{FindIsBounded}
use Rattle.eql_lane.specs.Lanes.{fresh_cut}
use Rattle.eql_lane.specs.Views.{LaneView}
use Rattle.eql_cut.specs.declared.cut.Cut.{Cut}
use Rattle.eql_cut.specs.Domain.{IsCut, kept_by}
use Rattle.eql_cut.specs.Fitting.{FitsRun, run_of as bare_run}
use Rattle.eql_cut.specs.Lifting.{LiftedFits, LiftedStands}
use Rattle.eql_cut.specs.Placing.{IsUnplaced, LinesAscend, lifted_cut, orders_in, listed_place}
use Rattle.eql_conductor.specs.Openings.{FitMayBegin}
use Rattle.eql_resume.specs.Beginnings.{Keeping, Rest, keeping_of, placed_if, rest_by, undigested, unplaced, whole}
use Rattle.eql_resume.specs.Finding.{Suits}
use Rattle.eql_resume.specs.Lifted.{LiftsAs, LiftedIsCut}
use Rattle.eql_runs.proofs.Overs.{fits_over, stands_over}
use Rattle.eql_runs.specs.RunLaws.{FitsAtAnySpan}
use Rattle.eql_runs.specs.Searches.{run_of}
use Rattle.eql_runs.specs.Starts.{cut_over, keeps_digests}
use Rattle.eql_search.specs.Beginnings.{BeginsFrom, MayBegin, cuts_of}
use Rattle.eql_find.specs.declared.plan.PlannedQuery.{PlannedQuery}
use Rattle.eql_find.specs.Searching.{BeganBy, BeganLifted, IsFresh, bare, places_in, rules_in, search_in, slack_told}
use Rattle.eql_find.specs.Starting.{pipes_of, stages_of, values_of}
use Rattle.eql_find.proofs.RefusingLemmas.{first_keeps_none}
use Rattle.eql_find.proofs.TextLemmas.{asked_slack}

-- the laws on which this rests
pub record BeginLaws : Type 0 where
  pub spans : FitsAtAnySpan
  pub lifted_is : LiftedIsCut
  pub lifted_stands : LiftedStands
  pub lifted_fit : LiftedFits
  pub may_begin : FitMayBegin

-- ---- the places of lanes
-- lists without places are in order
none_ascend : {S L : Type 0} (lanes : List (LaneView S L)) → All (λ (lane : LaneView S L). lane.places ≡ []) lanes → LinesAscend (places_in lanes)
none_ascend [] all = refl
none_ascend (l ∷ ls) all = both (is_sorted nat_cmp l.places) (list_all (is_sorted nat_cmp) (places_in ls))
    (ap (is_sorted nat_cmp) (All-head (λ lane. lane.places ≡ []) l ls all)) (none_ascend ls (All-tail (λ lane. lane.places ≡ []) l ls all))
  where
    both : (a b : Bool) → a ≡ true → IsTrue b → IsTrue (a && b)
    both true b e h = h
    both false b e h = absurd cc

-- ---- what the text of a cut keeps
-- places are wanted where it keeps none, as in the first format alone
abbrev pub is_unplaced : Keeping → Bool
is_unplaced whole = false
is_unplaced undigested = false
is_unplaced unplaced = true

unplaced_as : (digested first : Bool) → (digested ≡ true → first ≡ true → ⊥)
    → is_unplaced (if digested then whole else if first then unplaced else undigested) ≡ first
unplaced_as true true both = absurd (both refl refl)
unplaced_as true false both = refl
unplaced_as false true both = refl
unplaced_as false false both = refl

pub unplaced_is : (format : ℕ) → is_unplaced (keeping_of format) ≡ (format == 1)
unplaced_is format =
    unplaced_as (keeps_digests format) (format == 1) (λ keeps one. first_keeps_none format (eqb-true format 1 one) keeps)

-- the texts whose digests lanes began with
abbrev pub over_of : {S L : Type 0} → (texts : Option (List (List ℕ))) (cut : Cut) (lanes : List (LaneView S L)) (k : Keeping)
    → BeganBy texts k cut lanes → List (List ℕ)
over_of texts cut lanes whole began = []
over_of texts cut lanes undigested began = began.over
over_of texts cut lanes unplaced began = map whole_text began.shards

-- a cut with the digests of such texts, and with the places of its lanes, has the lanes that began with it
abbrev pub placed_by : (over : List (List ℕ)) → (lists : List (List (ℕ × ℕ))) → Keeping → Cut → Cut
placed_by over lists whole cut = cut
placed_by over lists undigested cut = cut_over over cut
placed_by over lists unplaced cut = cut_over over (lifted_cut (listed_place lists) cut)

-- ---- with a cut
module _ {S L : Type 0} (laws : BeginLaws) (find : Find) (p : PlannedQuery) (bounds : FindIsBounded find) (texts : Option (List (List ℕ)))
    (lanes : List (LaneView S L)) (format : ℕ) (cut : Cut) (asked : find.checkpoint ≢ None)
    (suits : Suits (stages_of p) (values_of p) (pipes_of p) cut.head cut) (bare_of : format ≡ 1 → IsUnplaced (orders_in cut))
    (slack_is : cut.head.slack ≡ slack_told find.slack) (many : length lanes ≡ length cut.lanes) where
  pub lifted_as : (began : BeganLifted texts cut lanes) → LiftsAs cut began.shards (cuts_of lanes) (places_in lanes)
  lifted_as began =
      laws.lifted_is (stages_of p) (values_of p) (pipes_of p) cut began.shards (cuts_of lanes) (places_in lanes) suits
      (length-map lanes (λ (lane : LaneView S L). lane.state.cut) ∙ many) began.were_lifted

  pub ascend_by : (k : Keeping) → BeganBy texts k cut lanes → LinesAscend (places_in lanes)
  ascend_by whole began = none_ascend lanes began.no_places
  ascend_by undigested began = none_ascend lanes began.no_places
  ascend_by unplaced began = (lifted_as began).ascend

  -- the lanes keep what the placed cut does
  pub lanes_are : (k : Keeping) (began : BeganBy texts k cut lanes)
      → cuts_of lanes ≡ (placed_by (over_of texts cut lanes k began) (places_in lanes) k cut).lanes
  lanes_are whole began = began.cuts_are
  lanes_are undigested began = began.cuts_are
  lanes_are unplaced began = (lifted_as began).lanes_are

  module _ (over : List (List ℕ)) where
    pub rest_placed : (k : Keeping) → placed_if (is_unplaced k) (listed_place (places_in lanes)) (rest_by (pipes_of p) (is_unplaced k) (Some cut))
        ≡ (let c = placed_by over (places_in lanes) k cut in
        let r : Rest = record { mark = At cut.mark; holders = c.holders; book = c.book; unplaced = false } in r)
    rest_placed whole = refl
    rest_placed undigested = refl
    rest_placed unplaced = refl

    -- the placed cut fits and stands in order
    fits_by : (k : Keeping) → (is_unplaced k ≡ true → IsUnplaced (orders_in cut))
        → FitsRun (stages_of p) (values_of p) (pipes_of p) (placed_by over (places_in lanes) k cut)
    fits_by whole none = suits.fits
    fits_by undigested none = fits_over (bare_run (stages_of p) (values_of p) (pipes_of p) cut.head.slack) cut.head.shards over (kept_by cut) suits.fits
    fits_by unplaced none =
        let placed = lifted_cut (listed_place (places_in lanes)) cut in
        fits_over (bare_run (stages_of p) (values_of p) (pipes_of p) cut.head.slack) cut.head.shards over (kept_by placed)
        ((laws.lifted_fit (listed_place (places_in lanes)) (stages_of p) (values_of p) (pipes_of p) cut (none refl)).1 suits.fits)

    over_is_cut : (c : Cut) → IsCut c → IsCut (cut_over over c)
    over_is_cut c is = record { names = is.names; stands = stands_over c.head.shards over (kept_by c) is.stands }

    stands_by : (k : Keeping) → (is_unplaced k ≡ true → IsUnplaced (orders_in cut)) → IsCut (placed_by over (places_in lanes) k cut)
    stands_by whole none = suits.is_cut
    stands_by undigested none = over_is_cut cut suits.is_cut
    stands_by unplaced none =
        over_is_cut (lifted_cut (listed_place (places_in lanes)) cut) (laws.lifted_stands (listed_place (places_in lanes)) cut (none refl) suits.is_cut)

    pub same_head : (k : Keeping) → (placed_by over (places_in lanes) k cut).head ≡ cut.head
    same_head whole = refl
    same_head undigested = refl
    same_head unplaced = refl

    pub same_mark : (k : Keeping) → (placed_by over (places_in lanes) k cut).mark ≡ cut.mark
    same_mark whole = refl
    same_mark undigested = refl
    same_mark unplaced = refl

  -- so a search may begin with it
  kept_may : (c : Cut) → c.head.slack ≡ slack_told find.slack → c.head.shards ≡ length lanes → cuts_of lanes ≡ c.lanes
      → FitsRun (stages_of p) (values_of p) (pipes_of p) c → IsCut c
      → BeginsFrom (rules_in (search_in find p)) (pipes_of p) (length (cuts_of lanes))
      (record { time = c.mark; lanes = cuts_of lanes; holders = c.holders; book = c.book })
  kept_may c slack shards same fits is =
      let kept : Kept = record { time = c.mark; lanes = cuts_of lanes; holders = c.holders; book = c.book } in
      let kept_is : kept_by c ≡ kept = ap (λ (ls : List LaneCut). let k : Kept = record { time = c.mark; lanes = ls; holders = c.holders; book = c.book } in k) (sym same) in
      let count : c.head.shards ≡ length (cuts_of lanes) = shards ∙ sym (length-map lanes (λ (lane : LaneView S L). lane.state.cut)) in
      let own = laws.spans (stages_of p) (values_of p) (pipes_of p) (pos (c.head.slack * 1000000)) None (run_of (search_in find p) c.head.slack).span c.head.shards (kept_by c) fits in
      record {
        values = values_of p;
        slack = pos (c.head.slack * 1000000);
        slack_is = ap (option_map (λ (n : ℕ). pos (n * 1000000))) (asked_slack find bounds asked)
            ∙ ap (λ (n : ℕ). Some (pos (n * 1000000))) (sym slack);
        fits = subst (λ (k : Kept). Fits (run_of (search_in find p) c.head.slack) (length (cuts_of lanes)) k) kept_is
            (subst (λ (n : ℕ). Fits (run_of (search_in find p) c.head.slack) n (kept_by c)) count own);
        stands = subst (λ (k : Kept). StandsInOrder (length (cuts_of lanes)) k) kept_is
            (subst (λ (n : ℕ). StandsInOrder n (kept_by c)) count is.stands);
      }

  pub may_from : (k : Keeping) → (is_unplaced k ≡ true → IsUnplaced (orders_in cut)) → cut.head.shards ≡ length lanes → BeganBy texts k cut lanes
      → (rest : Rest) → rest ≡ rest_by (pipes_of p) (is_unplaced k) (Some cut)
      → (let r = placed_if (is_unplaced k) (listed_place (places_in lanes)) rest in
      MayBegin (rules_in (search_in find p)) (pipes_of p) r.mark (cuts_of lanes) r.holders r.book)
  may_from k none shards began rest is =
      let over = over_of texts cut lanes k began in
      let c = placed_by over (places_in lanes) k cut in
      subst (λ (r : Rest). MayBegin (rules_in (search_in find p)) (pipes_of p) r.mark (cuts_of lanes) r.holders r.book)
      (sym (ap (placed_if (is_unplaced k) (listed_place (places_in lanes))) is ∙ rest_placed over k))
      (subst (λ (t : ℤ). BeginsFrom (rules_in (search_in find p)) (pipes_of p) (length (cuts_of lanes)) (record { time = t; lanes = cuts_of lanes; holders = c.holders; book = c.book }))
      (same_mark over k)
      (kept_may c (ap (λ h. h.slack) (same_head over k) ∙ slack_is) (ap (λ h. h.shards) (same_head over k) ∙ shards) (lanes_are k began)
      (fits_by over k none) (stands_by over k none)))

-- ---- afresh
fresh_cuts : {S L : Type 0} (lanes : List (LaneView S L)) → All IsFresh lanes → All (λ (lane : LaneCut). lane ≡ fresh_cut) (cuts_of lanes)
fresh_cuts [] all = All-nil (λ (lane : LaneCut). lane ≡ fresh_cut)
fresh_cuts (l ∷ ls) all =
    All-cons (λ (lane : LaneCut). lane ≡ fresh_cut) l.state.cut (cuts_of ls) (All-head IsFresh l ls all).0 (fresh_cuts ls (All-tail IsFresh l ls all))

pub may_fresh : {S L : Type 0} (find : Find) (p : PlannedQuery) (lanes : List (LaneView S L)) (u : Bool) → All IsFresh lanes → (rest : Rest)
    → rest ≡ rest_by (pipes_of p) u None
    → (let r = placed_if rest.unplaced (listed_place (places_in lanes)) rest in
    MayBegin (rules_in (search_in find p)) (pipes_of p) r.mark (cuts_of lanes) r.holders r.book)
may_fresh find p lanes u all rest is =
    subst (λ (x : Rest). let r = placed_if x.unplaced (listed_place (places_in lanes)) x in
    MayBegin (rules_in (search_in find p)) (pipes_of p) r.mark (cuts_of lanes) r.holders r.book) (sym is)
    (record { lanes_are = fresh_cuts lanes all; none = refl; book_is = refl })

-- lanes whose places were taken keep the same
pub bare_cuts : {S L : Type 0} (lanes : List (LaneView S L)) → cuts_of (map bare lanes) ≡ cuts_of lanes
bare_cuts [] = refl
bare_cuts (l ∷ ls) = ap (λ (cs : List LaneCut). l.state.cut ∷ cs) (bare_cuts ls)

-- lanes that begin afresh have no places
pub fresh_ascend : {S L : Type 0} (lanes : List (LaneView S L)) → All IsFresh lanes → LinesAscend (places_in lanes)
fresh_ascend lanes all = none_ascend lanes (All-weaker IsFresh (λ (lane : LaneView _ _). lane.places ≡ []) (λ lane h. h.1) lanes all)
