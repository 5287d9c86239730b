-- A run over lanes that began as it was found to begin: the search that it makes.
use native.Mathlib.Omega.{arith}
use Rattle.std.proofs.Common.{◌≡◌, ◌≢◌, ◌≤◌, ◌+◌, ◌==◌, ℕ, ℤ, Bool, true, false, List, [], ◌∷◌, Option, Some, None, refl, sym, ap, ◌∙◌, subst, length, map}
use Rattle.std.specs.Prelude.{IfSome, IsTrue}
use Rattle.std.proofs.lemmas.Bool.{eqb-true}
use Rattle.std.proofs.lemmas.Option.{none-some}
use Rattle.eql_values.specs.Accepted.{Reads}
use Rattle.eql_values.specs.declared.cut.BookCut.{BookCut}
use Rattle.eql_values.specs.declared.cut.LaneCut.{LaneCut}
use Rattle.eql_values.specs.declared.cut.Pipe.{Pipe}
use Rattle.eql_values.specs.declared.found.Holder.{Holder}
use Rattle.eql_values.specs.declared.order.Mark.{Mark}
use Rattle.eql_values.specs.declared.order.Mark.TheVariants.{Start, At, End}
use Rattle.eql_outside.specs.Moments.{History}
use Rattle.eql_book.specs.Books.{FitsPipes}
use Rattle.eql_book.specs.Laws.{fresh_cut as fresh_book}
use Rattle.eql_words.specs.declared.commands.Checkpoint.{Checkpoint}
use Rattle.eql_words.specs.declared.commands.Find.{Find}
use Rattle.eql_words.specs.Bounds.{FindIsBounded, KeptIsBounded}
use Rattle.eql_lane.specs.Views.{LaneView}
use Rattle.eql_cut.specs.declared.cut.Cut.{Cut}
use Rattle.eql_cut.specs.declared.cut.CutHead.{CutHead}
use Rattle.eql_cut.specs.CutValues.{names_ascend}
use Rattle.eql_cut.specs.Placing.{IsUnplaced, LinesAscend, orders_in, listed_place}
use Rattle.eql_conductor.specs.declared.plan.Keep.{Keep}
use Rattle.eql_conductor.specs.Openings.{FitMayBegin}
use Rattle.eql_resume.specs.Beginnings.{Rest, keeping_of, placed_if, rest_by}
use Rattle.eql_resume.specs.Finding.{Suits, disk_holding}
use Rattle.eql_runs.specs.Starts.{BeginsWith, IsCutOf}
use Rattle.eql_search.specs.Beginnings.{MayBegin, MayKeepOn, cuts_of, run_by}
use Rattle.eql_search.specs.Searches.{AreBegun, AreBegunFrom, AreTextsOf, Rules, reads_by, slack_by}
use Rattle.eql_find.specs.declared.plan.PlannedQuery.{PlannedQuery}
use Rattle.eql_find.specs.Running.{KeepsIfAsked, StartsOver, every_of, plan_in, rest_over}
use Rattle.eql_find.specs.Searching.{BeganWith, StartsOn, bare, head_in, places_in, rules_in, search_in}
use Rattle.eql_find.specs.Starting.{Begun, IsOwn, pipes_of, stages_of, values_of}
use Rattle.eql_find.proofs.AllowingLemmas.{BeginLaws, ascend_by, bare_cuts, fresh_ascend, is_unplaced, may_fresh, may_from, unplaced_is}
use Rattle.eql_find.proofs.BookLemmas.{fits_fresh}
use Rattle.eql_find.proofs.TrustingLemmas.{meant_is, starts_fresh, starts_from}

-- a cut of the run, by its own head
own_suits : (find : Find) (p : PlannedQuery) (cut : Cut) → Suits (stages_of p) (values_of p) (pipes_of p) (head_in find p) cut
    → Suits (stages_of p) (values_of p) (pipes_of p) cut.head cut
own_suits find p cut suits = record { is_cut = suits.is_cut; head_is = refl; fits = suits.fits }

own_count : {S L : Type 0} (find : Find) (p : PlannedQuery) (lanes : List (LaneView S L)) (cut : Cut)
    → Suits (stages_of p) (values_of p) (pipes_of p) (head_in find p) cut → length lanes ≡ length find.shards → length lanes ≡ length cut.lanes
own_count find p lanes cut suits many = many ∙ sym (suits.is_cut.stands.lane_for_each ∙ ap CutHead.shards suits.head_is)

-- a search begins so over texts
abbrev pub StartsSo : {S L : Type 0} → Find → PlannedQuery → List (List ℕ) → List (LaneView S L) → Rest → Type 0
StartsSo find p ts lanes r = StartsOn (search_in find p) ts r.mark (cuts_of lanes) r.holders r.book

-- ---- with what the search begins
module _ {S L : Type 0} (laws : BeginLaws) (find : Find) (p : PlannedQuery) (bounds : FindIsBounded find)
    (lanes : List (LaneView S L)) (rest : Rest) (many : length lanes ≡ length find.shards) where
  -- what is pending, by what the text of a cut keeps
  rest_kept : (format : ℕ) (cut : Cut) → rest ≡ rest_by (pipes_of p) (format == 1) (Some cut)
      → rest ≡ rest_by (pipes_of p) (is_unplaced (keeping_of format)) (Some cut)
  rest_kept format cut is = is ∙ ap (λ (u : Bool). rest_by (pipes_of p) u (Some cut)) (sym (unplaced_is format))

  ascend_at : (told : Option (List (List ℕ))) (format : ℕ) (o : Option Cut) → IfSome o (λ cut. find.checkpoint ≢ None)
      → IfSome o (Suits (stages_of p) (values_of p) (pipes_of p) (head_in find p))
      → IfSome o (λ cut. format ≡ 1 → IsUnplaced (orders_in cut)) → BeganWith told format o lanes → LinesAscend (places_in lanes)
  ascend_at told format None asked suits bare_of began = fresh_ascend lanes began
  ascend_at told format (Some cut) asked suits bare_of began =
      ascend_by laws find p bounds told lanes format cut asked (own_suits find p cut suits) bare_of (ap CutHead.slack suits.head_is)
      (own_count find p lanes cut suits many) (keeping_of format) began

  may_at : (told : Option (List (List ℕ))) (format : ℕ) (o : Option Cut) → IfSome o (λ cut. find.checkpoint ≢ None)
      → IfSome o (Suits (stages_of p) (values_of p) (pipes_of p) (head_in find p))
      → IfSome o (λ cut. format ≡ 1 → IsUnplaced (orders_in cut)) → BeganWith told format o lanes → rest ≡ rest_by (pipes_of p) (format == 1) o
      → (let r = rest_over lanes rest in MayBegin (rules_in (search_in find p)) (pipes_of p) r.mark (cuts_of lanes) r.holders r.book)
  may_at told format None asked suits bare_of began is = may_fresh find p lanes (format == 1) began rest is
  may_at told format (Some cut) asked suits bare_of began is =
      let by_keeping = rest_kept format cut is in
      subst (λ (u : Bool). let r = placed_if u (listed_place (places_in lanes)) rest in
      MayBegin (rules_in (search_in find p)) (pipes_of p) r.mark (cuts_of lanes) r.holders r.book) (sym (ap Rest.unplaced by_keeping))
      (may_from laws find p bounds told lanes format cut asked (own_suits find p cut suits) bare_of (ap CutHead.slack suits.head_is)
      (own_count find p lanes cut suits many) (keeping_of format) (λ e. bare_of (eqb-true format 1 (sym (unplaced_is format) ∙ e)))
      (ap CutHead.shards suits.head_is ∙ sym many) began rest by_keeping)

  starts_at : (ts : List (List ℕ)) (format generation : ℕ) (o : Option Cut) → IfSome o (λ cut. find.checkpoint ≢ None)
      → IfSome o (Suits (stages_of p) (values_of p) (pipes_of p) (head_in find p))
      → IfSome o (λ cut. format ≡ 1 → IsUnplaced (orders_in cut)) → BeganWith (Some ts) format o lanes → rest ≡ rest_by (pipes_of p) (format == 1) o
      → BeginsWith (search_in find p) ts (disk_holding format generation o) → StartsSo find p ts lanes (rest_over lanes rest)
  starts_at ts format generation None asked suits bare_of began is begins = starts_fresh find p ts lanes (format == 1) rest is
  starts_at ts format generation (Some cut) asked suits bare_of began is begins =
      let by_keeping = rest_kept format cut is in
      subst (λ (u : Bool). StartsSo find p ts lanes (placed_if u (listed_place (places_in lanes)) rest)) (sym (ap Rest.unplaced by_keeping))
      (starts_from laws find p bounds ts lanes format cut asked (own_suits find p cut suits) bare_of (ap CutHead.slack suits.head_is)
      (own_count find p lanes cut suits many) (keeping_of format) began
      (subst (λ (c : Cut). IsCutOf (search_in find p) cut.head.slack ts c) (meant_is format ts cut) begins.is_cut) rest by_keeping)

  pub lines_ascend : (told : Option (List (List ℕ))) (begun : Begun) → IsOwn find p begun → BeganWith told begun.format begun.cut lanes
      → LinesAscend (places_in lanes)
  lines_ascend told begun own began = ascend_at told begun.format begun.cut own.asked own.suits own.unplaced began

  -- lanes whose places were taken, with what is pending at its places
  module _ (mids : List (LaneView S L)) (placed : Rest) (taken : mids ≡ map bare lanes) (placed_is : placed ≡ rest_over lanes rest) where
    same_cuts : cuts_of lanes ≡ cuts_of mids
    same_cuts = sym (ap cuts_of taken ∙ bare_cuts lanes)

    pub may_begin : (told : Option (List (List ℕ))) (begun : Begun) → IsOwn find p begun → BeganWith told begun.format begun.cut lanes
        → rest ≡ rest_by (pipes_of p) (begun.format == 1) begun.cut
        → MayBegin (rules_in (search_in find p)) (pipes_of p) placed.mark (cuts_of mids) placed.holders placed.book
    may_begin told begun own began is =
        subst (λ (r : Rest). MayBegin (rules_in (search_in find p)) (pipes_of p) r.mark (cuts_of mids) r.holders r.book) (sym placed_is)
        (subst (λ (cs : List LaneCut). let r = rest_over lanes rest in MayBegin (rules_in (search_in find p)) (pipes_of p) r.mark cs r.holders r.book) same_cuts
        (may_at told begun.format begun.cut own.asked own.suits own.unplaced began is))

    -- over texts with which the run may begin the search begins with nothing, or with a cut of them
    pub starts : (told : Option (List (List ℕ))) (ts : List (List ℕ)) → told ≡ Some ts → StartsOver told find p lanes rest ts → StartsSo find p ts mids placed
    starts told ts e s =
        subst (λ (r : Rest). StartsSo find p ts mids r) (sym placed_is)
        (subst (λ (cs : List LaneCut). let r = rest_over lanes rest in StartsOn (search_in find p) ts r.mark cs r.holders r.book) same_cuts
        (starts_at ts s.begun.format s.begun.generation s.begun.cut s.own.asked s.own.suits s.own.unplaced
        (subst (λ (o : Option (List (List ℕ))). BeganWith o s.begun.format s.begun.cut lanes) e s.began) s.rest_is s.begins))

-- places change neither the mark nor how many lines were listed
mark_of : (u : Bool) (place : ℕ → ℕ → ℕ) (rest : Rest) → (placed_if u place rest).mark ≡ rest.mark
mark_of true place rest = refl
mark_of false place rest = refl

listed_of : (u : Bool) (place : ℕ → ℕ → ℕ) (rest : Rest) → (placed_if u place rest).book.listed ≡ rest.book.listed
listed_of true place rest = refl
listed_of false place rest = refl

module _ {S L : Type 0} (lanes : List (LaneView S L)) (rest placed : Rest) (placed_is : placed ≡ rest_over lanes rest) where
  pub same_mark : placed.mark ≡ rest.mark
  same_mark = ap Rest.mark placed_is ∙ mark_of rest.unplaced (listed_place (places_in lanes)) rest

  pub same_listed : placed.book.listed ≡ rest.book.listed
  same_listed = ap (λ (r : Rest). r.book.listed) placed_is ∙ listed_of rest.unplaced (listed_place (places_in lanes)) rest

-- ---- the book
-- a book with which a search may begin fits its pipes
pub fits_may : FitMayBegin → (rules : Rules) (pipes : List Pipe) (mark : Mark) (lanes : List LaneCut) (holders : List Holder) (book : BookCut)
    → MayBegin rules pipes mark lanes holders book → FitsPipes pipes book
fits_may law rules pipes Start lanes holders book may =
    subst (λ (b : BookCut). FitsPipes pipes b) (sym may.book_is) (fits_fresh pipes pipes (BookCut.pipes (fresh_book pipes)) refl refl)
fits_may law rules pipes (At time) lanes holders book may =
    (law (run_by rules pipes may.values may.slack) (length lanes) (record { time = time; lanes = lanes; holders = holders; book = book }) may.fits).book
fits_may law rules pipes End lanes holders book may = absurd may

-- ---- lanes whose places were taken
bare_texts : {S L : Type 0} (left : S → Option (List ℕ)) (ts : List (List ℕ)) (lanes : List (LaneView S L)) → AreTextsOf left ts lanes
    → AreTextsOf left ts (map bare lanes)
bare_texts left [] [] h = tt
bare_texts left [] (l ∷ ls) h = absurd h
bare_texts left (t ∷ ts) [] h = absurd h
bare_texts left (t ∷ ts) (l ∷ ls) h = (h.0, bare_texts left ts ls h.1)

pub texts_taken : {S L : Type 0} (left : S → Option (List ℕ)) (told : Option (List (List ℕ))) (lanes mids : List (LaneView S L)) → mids ≡ map bare lanes
    → IfSome told (λ ts. AreTextsOf left ts lanes) → IfSome told (λ ts. AreTextsOf left ts mids)
texts_taken left None lanes mids taken h = tt
texts_taken left (Some ts) lanes mids taken h = subst (λ (ls : List (LaneView _ _)). AreTextsOf left ts ls) (sym taken) (bare_texts left ts lanes h)

bare_begun : {S L : Type 0} (read_of : L → Reads) (reads : Reads) (slack : Option ℤ) (shard : ℕ) (lanes : List (LaneView S L))
    → AreBegunFrom read_of reads slack shard lanes → AreBegunFrom read_of reads slack shard (map bare lanes)
bare_begun read_of reads slack shard [] h = tt
bare_begun read_of reads slack shard (l ∷ ls) h = (
  record { shard_is = h.0.shard_is; slack_is = h.0.slack_is; reads_are = h.0.reads_are; state_is = h.0.state_is },
  bare_begun read_of reads slack (shard + 1) ls h.1,
)

module _ {S L : Type 0} (read_of : L → Reads) (reads : Reads) (slack : Option ℤ) where
  first_reads : (lanes : List (LaneView S L)) → 1 ≤ length lanes → AreBegunFrom read_of reads slack 0 lanes → reads_by read_of lanes ≡ reads
  first_reads [] some h = absurd (omega (arith, some))
  first_reads (l ∷ ls) some h = h.0.reads_are

  first_slack : (lanes : List (LaneView S L)) → 1 ≤ length lanes → AreBegunFrom read_of reads slack 0 lanes → slack_by read_of lanes ≡ slack
  first_slack [] some h = absurd (omega (arith, some))
  first_slack (l ∷ ls) some h = h.0.slack_is

  all_begun : (lanes : List (LaneView S L)) → 1 ≤ length lanes → AreBegunFrom read_of reads slack 0 lanes → AreBegun read_of lanes
  all_begun lanes some h =
      subst (λ (r : Reads). AreBegunFrom read_of r (slack_by read_of lanes) 0 lanes) (sym (first_reads lanes some h))
      (subst (λ (o : Option ℤ). AreBegunFrom read_of reads o 0 lanes) (sym (first_slack lanes some h)) h)

  -- of lanes that began so the same, once their places were taken
  module _ (lanes mids : List (LaneView S L)) (taken : mids ≡ map bare lanes) (some : 1 ≤ length mids) (begun : AreBegunFrom read_of reads slack 0 lanes) where
    taken_from : AreBegunFrom read_of reads slack 0 mids
    taken_from = subst (λ (ls : List (LaneView S L)). AreBegunFrom read_of reads slack 0 ls) (sym taken) (bare_begun read_of reads slack 0 lanes begun)

    pub taken_begun : AreBegun read_of mids
    taken_begun = all_begun mids some taken_from

    pub taken_reads : reads_by read_of mids ≡ reads
    taken_reads = first_reads mids some taken_from

    pub taken_slack : slack_by read_of mids ≡ slack
    taken_slack = first_slack mids some taken_from

-- ---- the disk
-- a run that keeps cuts if it is asked to may keep them in a search
pub keeps_on : {D : Type 0} (history : D → Option History) (find : Find) (p : PlannedQuery) (bounds : FindIsBounded find) (mark : Mark) (head : CutHead)
    (keep : Option (Keep D)) (lanes : ℕ) → head ≡ head_in find p → IsTrue (names_ascend p.mapping) → lanes ≡ length find.shards
    → KeepsIfAsked history find.checkpoint keep → MayKeepOn history (plan_in find head mark) lanes keep
keeps_on history find p bounds mark head keep lanes is names many keeps = by find.checkpoint bounds.kept keep keeps
  where
    by : (c : Option Checkpoint) → IfSome c KeptIsBounded → (k : Option (Keep _)) → KeepsIfAsked history c k
        → MayKeepOn history (record { batch = find.batch; every = every_of c; head = head; mark = mark }) lanes k
    by None kept None h = refl
    by None kept (Some k) h = absurd h
    by (Some c) kept None h = absurd h
    by (Some c) kept (Some k) h = (
      λ none. none-some c.every (sym none),
      kept.1.0,
      subst (λ (x : CutHead). IsTrue (names_ascend x.mapping)) (sym is) names,
      ap CutHead.shards is ∙ sym many,
      h,
    )
