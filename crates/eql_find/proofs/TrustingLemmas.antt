-- Where the cut with which a run begins is one of the texts, the search begins with a cut of them.
use Rattle.std.proofs.Common.{◌≡◌, ◌≢◌, ◌*◌, ℕ, ℤ, Bool, true, false, List, Option, Some, None, refl, sym, ap, ◌∙◌, subst, length, map}
use Rattle.std.specs.Prelude.{◌==◌, IsSomeAnd, if◌then◌else◌, pos}
use Rattle.std.specs.Option.{option_map}
use Rattle.eql_values.specs.declared.cut.LaneCut.{LaneCut}
use Rattle.eql_laws.specs.Fitting.{Kept}
use Rattle.eql_laws.specs.Places.{whole as whole_text}
use Rattle.eql_words.specs.declared.commands.Find.{Find}
use Rattle.eql_words.specs.Bounds.{FindIsBounded}
use Rattle.eql_lane.specs.Views.{LaneView}
use Rattle.eql_cut.specs.declared.cut.Cut.{Cut}
use Rattle.eql_cut.specs.Domain.{kept_by}
use Rattle.eql_cut.specs.Placing.{IsUnplaced, orders_in, listed_place}
use Rattle.eql_conductor.specs.Openings.{IsCutOfTexts}
use Rattle.eql_cut.specs.Placed.{cut_at_places}
use Rattle.eql_resume.specs.Beginnings.{Keeping, Rest, keeping_of, placed_if, rest_by, undigested, unplaced, whole}
use Rattle.eql_resume.specs.Finding.{Suits}
use Rattle.eql_runs.specs.Searches.{pipes_of as search_pipes, reads_of}
use Rattle.eql_runs.specs.Starts.{IsCutOf, cut_over, keeps_digests, meant_by}
use Rattle.eql_search.specs.Beginnings.{BeginsOn, cuts_of, run_by}
use Rattle.eql_find.specs.declared.plan.PlannedQuery.{PlannedQuery}
use Rattle.eql_find.specs.Searching.{BeganBy, StartsOn, places_in, rules_in, search_in, slack_told}
use Rattle.eql_find.specs.Starting.{pipes_of, stages_of, values_of}
use Rattle.eql_find.proofs.AllowingLemmas.{BeginLaws, is_unplaced, lanes_are, lifted_as, over_of, placed_by, rest_placed, same_mark}
use Rattle.eql_find.proofs.TextLemmas.{asked_slack}

-- the cut that is meant by one of which so much is kept
abbrev pub meant_as : Keeping → (texts : List (List ℕ)) → Cut → Cut
meant_as whole texts cut = cut
meant_as undigested texts cut = cut_over texts cut
meant_as unplaced texts cut = cut_over texts (cut_at_places texts cut)

meant_if : (digested first : Bool) (texts : List (List ℕ)) (cut : Cut)
    → (if digested then cut else if first then cut_over texts (cut_at_places texts cut) else cut_over texts cut)
    ≡ meant_as (if digested then whole else if first then unplaced else undigested) texts cut
meant_if true first texts cut = refl
meant_if false true texts cut = refl
meant_if false false texts cut = refl

pub meant_is : (format : ℕ) (texts : List (List ℕ)) (cut : Cut) → meant_by format texts cut ≡ meant_as (keeping_of format) texts cut
meant_is format texts cut = meant_if (keeps_digests format) (format == 1) texts cut

module _ {S L : Type 0} (laws : BeginLaws) (find : Find) (p : PlannedQuery) (bounds : FindIsBounded find) (ts : List (List ℕ))
    (lanes : List (LaneView S L)) (format : ℕ) (cut : Cut) (asked : find.checkpoint ≢ None)
    (suits : Suits (stages_of p) (values_of p) (pipes_of p) cut.head cut) (bare_of : format ≡ 1 → IsUnplaced (orders_in cut))
    (slack_is : cut.head.slack ≡ slack_told find.slack) (many : length lanes ≡ length cut.lanes) where
  -- the cut with the digests and the places that the lanes found is the one that is meant
  meant : (k : Keeping) (began : BeganBy (Some ts) k cut lanes)
      → placed_by (over_of (Some ts) cut lanes k began) (places_in lanes) k cut ≡ meant_as k ts cut
  meant whole began = refl
  meant undigested began = ap (λ (xs : List (List ℕ)). cut_over xs cut) began.texts_are
  meant unplaced began =
      ap (λ (c : Cut). cut_over (map whole_text began.shards) c)
      (lifted_as laws find p bounds (Some ts) lanes format cut asked suits bare_of slack_is many began).placed_is
      ∙ ap (λ (xs : List (List ℕ)). cut_over xs (cut_at_places xs cut)) began.texts_are

  -- it is one of the texts
  cut_is : (c : Cut) → IsCutOf (search_in find p) cut.head.slack ts c → cuts_of lanes ≡ c.lanes
      → BeginsOn (rules_in (search_in find p)) (search_pipes (search_in find p)) ts
      (Some (let k : Kept = record { time = c.mark; lanes = cuts_of lanes; holders = c.holders; book = c.book } in k))
  cut_is c is same =
      let kept : Kept = record { time = c.mark; lanes = cuts_of lanes; holders = c.holders; book = c.book } in
      let kept_is : kept ≡ kept_by c = ap (λ (ls : List LaneCut). let k : Kept = record { time = c.mark; lanes = ls; holders = c.holders; book = c.book } in k) same in
      let own : IsCutOfTexts (run_by (rules_in (search_in find p)) (search_pipes (search_in find p)) 0 (pos (cut.head.slack * 1000000))) (reads_of (search_in find p)) ts kept =
      record { shards = is.shards; are_places = is.are_places; texts_are = is.texts_are; kept_is = kept_is ∙ is.kept_is } in
      subst (λ (o : Option ℤ). IsSomeAnd o (λ slack. IsCutOfTexts (run_by (rules_in (search_in find p)) (search_pipes (search_in find p)) 0 slack) (reads_of (search_in find p)) ts kept))
      (sym (ap (option_map (λ (n : ℕ). pos (n * 1000000))) (asked_slack find bounds asked) ∙ ap (λ (n : ℕ). Some (pos (n * 1000000))) (sym slack_is))) own

  pub starts_from : (k : Keeping) (began : BeganBy (Some ts) k cut lanes) → IsCutOf (search_in find p) cut.head.slack ts (meant_as k ts cut)
      → (rest : Rest) → rest ≡ rest_by (pipes_of p) (is_unplaced k) (Some cut)
      → (let r = placed_if (is_unplaced k) (listed_place (places_in lanes)) rest in StartsOn (search_in find p) ts r.mark (cuts_of lanes) r.holders r.book)
  starts_from k began is rest rest_is =
      let over = over_of (Some ts) cut lanes k began in
      let c = placed_by over (places_in lanes) k cut in
      let own : IsCutOf (search_in find p) cut.head.slack ts c = subst (λ (x : Cut). IsCutOf (search_in find p) cut.head.slack ts x) (sym (meant k began)) is in
      let same : cuts_of lanes ≡ c.lanes = lanes_are laws find p bounds (Some ts) lanes format cut asked suits bare_of slack_is many k began in
      subst (λ (r : Rest). StartsOn (search_in find p) ts r.mark (cuts_of lanes) r.holders r.book)
      (sym (ap (placed_if (is_unplaced k) (listed_place (places_in lanes))) rest_is
      ∙ rest_placed laws find p bounds (Some ts) lanes format cut asked suits bare_of slack_is many over k))
      (subst (λ (t : ℤ). BeginsOn (rules_in (search_in find p)) (search_pipes (search_in find p)) ts
      (Some (let k : Kept = record { time = t; lanes = cuts_of lanes; holders = c.holders; book = c.book } in k)))
      (same_mark laws find p bounds (Some ts) lanes format cut asked suits bare_of slack_is many over k) (cut_is c own same))

-- a run that begins afresh does so over all texts
pub starts_fresh : {S L : Type 0} (find : Find) (p : PlannedQuery) (ts : List (List ℕ)) (lanes : List (LaneView S L)) (u : Bool) (rest : Rest)
    → rest ≡ rest_by (pipes_of p) u None
    → (let r = placed_if rest.unplaced (listed_place (places_in lanes)) rest in StartsOn (search_in find p) ts r.mark (cuts_of lanes) r.holders r.book)
starts_fresh find p ts lanes u rest is =
    subst (λ (x : Rest). let r = placed_if x.unplaced (listed_place (places_in lanes)) x in
    StartsOn (search_in find p) ts r.mark (cuts_of lanes) r.holders r.book) (sym is) tt
