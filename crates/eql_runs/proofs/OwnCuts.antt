-- A cut of a search's texts fits the search, where these are texts that shards may have.
use Rattle.std.proofs.Common.{◌≡◌, ◌≤◌, ℕ, suc, ℤ, List, [], ◌∷◌, Option, None, true, false, refl, ap, sym, arith, ◌∙◌, subst, length, map}
use Rattle.std.specs.Prelude.{Bool, if◌then◌else◌, ◌==◌, All}
use Rattle.std.proofs.lemmas.Bool.{eqb-true}
use Rattle.eql_values.specs.declared.cut.Pipe.{Pipe}
use Rattle.eql_laws.specs.Belows.{IsReading}
use Rattle.eql_laws.specs.Books.{greatest_shards}
use Rattle.eql_laws.specs.Counting.{FrontsFit, IsShardText}
use Rattle.eql_laws.specs.Fitting.{CutsFit, Fits, Kept, ReadsFor}
use Rattle.eql_laws.specs.Places.{ReadTo, whole}
use Rattle.eql_check.specs.Kinds.{kind_at}
use Rattle.eql_check.specs.Typing.{IsChecked}
use Rattle.eql_stages.specs.Laws.{ReadersFit}
use Rattle.eql_cut.specs.declared.cut.Cut.{Cut}
use Rattle.eql_cut.specs.Domain.{kept_by}
use Rattle.eql_cut.specs.Fitting.{FitsRun, run_of as bare_run}
use Rattle.eql_cut.specs.Lifting.{LiftedFits}
use Rattle.eql_cut.specs.Placing.{IsUnplaced, orders_in}
use Rattle.eql_cut.specs.Placed.{place_in_texts, cut_at_places}
use Rattle.eql_runs.specs.Searches.{Search, nanos_in, plan_of, reads_of, run_of}
use Rattle.eql_runs.specs.Starts.{IsCutOf, cut_over, keeps_digests, meant_by}
use Rattle.eql_runs.proofs.Counting.{keeps}
use Rattle.eql_runs.proofs.Overs.{fits_under}

-- the laws on which this rests
pub record OwnLaws : Type 0 where
  pub readers : ReadersFit
  pub cuts : CutsFit
  pub fronts : FrontsFit
  pub lifted_fit : LiftedFits

pub reads_for : (laws : OwnLaws) (search : Search) (slack : ℕ) → IsChecked (kind_at search.mapping) search.query
    → ReadsFor (run_of search slack) (reads_of search)
reads_for laws search slack checked = laws.readers (plan_of search) (nanos_in slack) (keeps search checked)

pub reading_of : (laws : OwnLaws) (search : Search) → IsChecked (kind_at search.mapping) search.query → IsReading (reads_of search)
reading_of laws search checked = (reads_for laws search 0 checked).reading

-- whether a cut fits doesn't depend on the span
pub any_span : (stages values : ℕ) (pipes : List Pipe) (slack : ℤ) (span other : Option ℤ) (shards : ℕ) (kept : Kept)
    → Fits (record { stages = stages; span = span; values = values; pipes = pipes; slack = slack }) shards kept
    → Fits (record { stages = stages; span = other; values = values; pipes = pipes; slack = slack }) shards kept
any_span stages values pipes slack span other shards kept f = record {
  time_in_range = f.time_in_range;
  lane_for_each = f.lane_for_each;
  lanes = f.lanes;
  lane_masks = f.lane_masks;
  lane_keys = f.lane_keys;
  holders = f.holders;
  holder_times = f.holder_times;
  holder_keys = f.holder_keys;
  book = f.book;
  found_to = f.found_to;
  book_times = f.book_times;
  book_keys = f.book_keys;
}

map_length : (shards : List ReadTo) → length (map whole shards) ≡ length shards
map_length [] = refl
map_length (r ∷ shards) = ap suc (map_length shards)

-- the cut that is meant fits
meant_fits : (laws : OwnLaws) (search : Search) (slack : ℕ) (texts : List (List ℕ)) (cut : Cut) → IsChecked (kind_at search.mapping) search.query
    → length texts ≤ greatest_shards → All IsShardText texts → IsCutOf search slack texts cut
    → Fits (run_of search slack) (length texts) (kept_by cut)
meant_fits laws search slack texts cut checked few within is =
    let count : length is.shards ≡ length texts = sym (map_length is.shards) ∙ ap length is.texts_are in
    let all : All IsShardText (map whole is.shards) = subst (All IsShardText) (sym is.texts_are) within in
    let fits = laws.cuts (run_of search slack) (reads_of search) cut.mark is.shards (reads_for laws search slack checked) is.are_places
    (laws.fronts is.shards all) (omega (arith, count, few)) is.safe is.in_range in
    subst (λ (n : ℕ). Fits (run_of search slack) n (kept_by cut)) count
    (subst (λ (k : Kept). Fits (run_of search slack) (length is.shards) k) (sym is.kept_is) fits)

-- and so does the cut that stands for it
placed_if : (laws : OwnLaws) (search : Search) (slack : ℕ) (texts : List (List ℕ)) (cut : Cut) → IsUnplaced (orders_in cut)
    → cut.head.slack ≡ slack → cut.head.shards ≡ length texts
    → Fits (run_of search slack) (length texts) (kept_by (cut_at_places texts cut)) → Fits (run_of search slack) (length texts) (kept_by cut)
placed_if laws search slack texts cut none s n fits =
    let run = run_of search slack in
    let bare = any_span run.stages run.values run.pipes run.slack run.span None (length texts) (kept_by (cut_at_places texts cut)) fits in
    let there : FitsRun run.stages run.values run.pipes (cut_at_places texts cut) =
    subst (λ (k : ℕ). Fits (bare_run run.stages run.values run.pipes cut.head.slack) k (kept_by (cut_at_places texts cut))) (sym n)
    (subst (λ (k : ℕ). Fits (bare_run run.stages run.values run.pipes k) (length texts) (kept_by (cut_at_places texts cut))) (sym s) bare) in
    let here = (laws.lifted_fit (place_in_texts texts) run.stages run.values run.pipes cut none).0 there in
    any_span run.stages run.values run.pipes run.slack None run.span (length texts) (kept_by cut)
    (subst (λ (k : ℕ). Fits (bare_run run.stages run.values run.pipes k) (length texts) (kept_by cut)) s
    (subst (λ (k : ℕ). Fits (bare_run run.stages run.values run.pipes cut.head.slack) k (kept_by cut)) n here))

own_if : (laws : OwnLaws) (search : Search) (slack : ℕ) (texts : List (List ℕ)) (cut : Cut) (digests first : Bool)
    → (first ≡ true → IsUnplaced (orders_in cut)) → cut.head.slack ≡ slack → cut.head.shards ≡ length texts
    → Fits (run_of search slack) (length texts) (kept_by (if digests then cut else if first then cut_over texts (cut_at_places texts cut) else cut_over texts cut))
    → Fits (run_of search slack) (length texts) (kept_by cut)
own_if laws search slack texts cut true first none s n fits = fits
own_if laws search slack texts cut false false none s n fits = fits_under (run_of search slack) (length texts) texts (kept_by cut) fits
own_if laws search slack texts cut false true none s n fits =
    placed_if laws search slack texts cut (none refl) s n (fits_under (run_of search slack) (length texts) texts (kept_by (cut_at_places texts cut)) fits)

pub own_cut_fits : (laws : OwnLaws) (search : Search) (texts : List (List ℕ)) (format : ℕ) (cut : Cut) → IsChecked (kind_at search.mapping) search.query
    → length texts ≤ greatest_shards → All IsShardText texts → (format ≡ 1 → IsUnplaced (orders_in cut)) → cut.head.shards ≡ length texts
    → IsCutOf search cut.head.slack texts (meant_by format texts cut) → Fits (run_of search cut.head.slack) (length texts) (kept_by cut)
own_cut_fits laws search texts format cut checked few within unplaced n is =
    own_if laws search cut.head.slack texts cut (keeps_digests format) (format == 1) (λ e. unplaced (eqb-true format 1 e)) refl n
    (meant_fits laws search cut.head.slack texts (meant_by format texts cut) checked few within is)
