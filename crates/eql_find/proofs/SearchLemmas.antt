-- A search over lanes, in the words of runs.
use native.Mathlib.Omega.{arith}
use Rattle.std.proofs.Common.{◌≡◌, ◌≤◌, ◌<◌, ◌^◌, ℕ, suc, ℤ, List, [], ◌∷◌, length, Option, Some, None, Ok, Err, refl, sym, ap, ◌∙◌, subst}
use Rattle.std.specs.Prelude.{All, Result, IfSome, OnErr, OnOk}
use Rattle.std.specs.Option.{option_map}
use Rattle.std.proofs.lemmas.Option.{slice_get_within}
use Rattle.std.proofs.lemmas.List.{append-nil}
use Rattle.std.proofs.lemmas.Result.{on_err_weaker, on_ok_weaker}
use Rattle.eql_values.specs.Accepted.{Reads}
use Rattle.eql_values.specs.declared.found.Holder.{Holder}
use Rattle.eql_values.specs.declared.order.Mark.{Mark}
use Rattle.eql_outside.specs.Written.{WroteAll, WroteFront}
use Rattle.eql_laws.specs.Books.{greatest_shards}
use Rattle.eql_laws.specs.Counting.{IsShardText}
use Rattle.eql_check.specs.Kinds.{kind_at}
use Rattle.eql_check.specs.Typing.{IsChecked}
use Rattle.eql_stages.specs.Planned.{line_of, planned_query}
use Rattle.eql_stages.specs.Stages.{stages_in, span_in}
use Rattle.eql_words.specs.declared.commands.Find.{Find}
use Rattle.eql_lane.specs.Slacks.{nanos_of}
use Rattle.eql_lane.specs.Views.{LaneView}
use Rattle.eql_lane.specs.declared.ops.ShardLimit.TheVariants as limit
use Rattle.eql_book.specs.Books.{BookState}
use Rattle.eql_cut.specs.declared.cut.Cut.{Cut}
use Rattle.eql_conductor.specs.declared.stop.Stop.{Stop}
use Rattle.eql_conductor.specs.declared.stop.Stop.TheVariants as stop
use Rattle.eql_resume.specs.Beginnings.{Rest}
use Rattle.eql_runs.specs.RunLaws.{MatchesAreFew}
use Rattle.eql_runs.specs.Searches.{Search, matches_of, nanos_in, pipes_of, plan_of, reads_of, slack_of}
use Rattle.eql_runs.specs.Searches as runs
use Rattle.eql_runs.specs.Runs as written
use Rattle.eql_search.specs.declared.rules.Rules.{Rules as Asked}
use Rattle.eql_search.specs.Answers.{HasSearchCause, WereRead}
use Rattle.eql_search.specs.Beginnings.{BeginsOn, MayBegin, cuts_of, start_at}
use Rattle.eql_search.specs.Keeping.{AreSearchCuts, KeptCounted, WroteCounted}
use Rattle.eql_search.specs.Searches.{AreTextsOf, HasNumbers, Rules, reads_by, rest_of, rules_of, slack_by}
use Rattle.eql_find.specs.declared.plan.PlannedQuery.{PlannedQuery}
use Rattle.eql_find.specs.Running.{book_in}
use Rattle.eql_find.specs.Searching.{StartsOn, rules_in, search_in}
use Rattle.eql_find.specs.Starting.{pipes_of as own_pipes}
use Rattle.eql_find.specs.Stops.{MayStop}

-- ---- the rules of a search
pub slack_same : (slack : Option ℕ) → nanos_of slack ≡ option_map nanos_in slack
slack_same None = refl
slack_same (Some ms) = refl

pub rules_are : {S L : Type 0} (read_of : L → Reads) (find : Find) (p : PlannedQuery) (lanes : List (LaneView S L)) (asked : Asked)
    → planned_query p.plan ≡ plan_of (search_in find p) → reads_by read_of lanes ≡ line_of (planned_query p.plan) → slack_by read_of lanes ≡ nanos_of find.slack
    → asked.stages ≡ length (stages_in (planned_query p.plan).query.body) → asked.span ≡ span_in (planned_query p.plan).query.body
    → rules_of read_of asked lanes ≡ rules_in (search_in find p)
rules_are read_of find p lanes asked plan reads slack count is =
    let reads_is : reads_by read_of lanes ≡ reads_of (search_in find p) = reads ∙ ap line_of plan in
    let slack_is : slack_by read_of lanes ≡ slack_of (search_in find p) = slack ∙ slack_same find.slack in
    λ i. record { reads = reads_is i; slack = slack_is i; stages = count i; span = is i }

-- ---- texts
pub text_count : {S L : Type 0} (left : S → Option (List ℕ)) (texts : List (List ℕ)) (lanes : List (LaneView S L)) → AreTextsOf left texts lanes
    → length texts ≡ length lanes
text_count left [] [] told = refl
text_count left [] (lane ∷ lanes) told = absurd told
text_count left (text ∷ texts) [] told = absurd told
text_count left (text ∷ texts) (lane ∷ lanes) told = ap suc (text_count left texts lanes told.1)

-- ---- by cases of whether texts are told
pub told_two : (told : Option (List (List ℕ))) (P Q R : List (List ℕ) → Type 0) → ((ts : List (List ℕ)) → P ts → Q ts → R ts)
    → IfSome told P → IfSome told Q → IfSome told R
told_two None P Q R f a b = tt
told_two (Some ts) P Q R f a b = f ts a b

pub told_each : (told : Option (List (List ℕ))) (P R : List (List ℕ) → Type 0) → ((ts : List (List ℕ)) → told ≡ Some ts → P ts → R ts)
    → IfSome told P → IfSome told R
told_each None P R f a = tt
told_each (Some ts) P R f a = f ts refl a

told_both : (told : Option (List (List ℕ))) (P Q R : List (List ℕ) → Type 0) → ((ts : List (List ℕ)) → told ≡ Some ts → P ts → Q ts → R ts)
    → IfSome told P → IfSome told Q → IfSome told R
told_both None P Q R f a b = tt
told_both (Some ts) P Q R f a b = f ts refl a b

pub told_at : (told : Option (List (List ℕ))) (P : List (List ℕ) → Type 0) → IfSome told P → (ts : List (List ℕ)) → told ≡ Some ts → P ts
told_at told P h ts e = subst (λ (o : Option (List (List ℕ))). IfSome o P) e h

-- ---- what a search put
-- cuts that a search put are cuts of its texts, and what they count behind the first lines was written and kept, where each match of the texts has a
-- number
abbrev pub AreSearched : Search → (texts : List (List ℕ)) → (listed : ℕ) → (out out' kept kept' : Option (List ℕ)) → List Cut → Type 0
AreSearched search texts listed out out' kept kept' cuts =
    length (matches_of search texts) < 2 ^ 64
    → AreSearchCuts (rules_in search) (pipes_of search) texts cuts × All (written.WroteCounted search texts listed out out') cuts
    × All (written.KeptCounted search texts listed out kept kept') cuts

-- ---- answers
pub ok_both : {T E P Q R : Type 0} (r : Result T E) → (P → Q → R) → OnOk r P → OnOk r Q → OnOk r R
ok_both (Ok x) f p q = f p q
ok_both (Err e) f p q = tt

-- ---- what a search does
-- a search over lanes by these rules, from a mark, what is pending and a book, is that of the words from what the rest is
module _ {S L : Type 0} (left : S → Option (List ℕ)) (few : MatchesAreFew) (find : Find) (p : PlannedQuery) (told : Option (List (List ℕ)))
    (olds : List (LaneView S L)) (rules : Rules) (rest : Rest) (mark : Mark) (holders : List Holder) (book : BookState)
    (checked : IfSome told (λ ts. IsChecked (kind_at p.mapping) (search_in find p).query)) (texts_of : IfSome told (λ ts. AreTextsOf left ts olds))
    (count : length olds ≤ greatest_shards) (rules_is : rules ≡ rules_in (search_in find p)) (mark_is : mark ≡ rest.mark)
    (holders_is : holders ≡ rest.holders) (book_is : book ≡ book_in find p rest.book) where
  -- what it begins with is nothing, or a cut of texts; and the same in words of the run
  abbrev Begins : List (List ℕ) → Type 0
  Begins ts = BeginsOn rules book.pipes ts (start_at mark (cuts_of olds) holders book.kept)

  abbrev Starts : List (List ℕ) → Type 0
  Starts ts = StartsOn (search_in find p) ts rest.mark (cuts_of olds) rest.holders rest.book

  count_at : (ts : List (List ℕ)) → told ≡ Some ts → length ts ≤ greatest_shards
  count_at ts e =
      let same : length ts ≡ length olds = text_count left ts olds (told_at told (λ (us : List (List ℕ)). AreTextsOf left us olds) texts_of ts e) in
      omega (arith, count, same)

  few_at : (ts : List (List ℕ)) → told ≡ Some ts → All IsShardText ts → length (matches_of (search_in find p) ts) < 2 ^ 64
  few_at ts e within = few (search_in find p) ts (told_at told (λ (us : List (List ℕ)). IsChecked (kind_at p.mapping) (search_in find p).query) checked ts e) (count_at ts e) within

  numbers_of : (ts : List (List ℕ)) → length (matches_of (search_in find p) ts) < 2 ^ 64 → HasNumbers rules ts
  numbers_of ts less = subst (λ (r : Rules). HasNumbers r ts) (sym rules_is) less

  starts_at : (ts : List (List ℕ)) → Starts ts → Begins ts
  starts_at ts h =
      subst (λ (r : Rules). BeginsOn r book.pipes ts (start_at mark (cuts_of olds) holders book.kept)) (sym rules_is)
      (subst (λ (b : BookState). BeginsOn (rules_in (search_in find p)) b.pipes ts (start_at mark (cuts_of olds) holders b.kept)) (sym book_is)
      (subst (λ (m : Mark). BeginsOn (rules_in (search_in find p)) (own_pipes p) ts (start_at m (cuts_of olds) holders rest.book)) (sym mark_is)
      (subst (λ (hs : List Holder). BeginsOn (rules_in (search_in find p)) (own_pipes p) ts (start_at rest.mark (cuts_of olds) hs rest.book)) (sym holders_is) h)))

  pub may_begin : MayBegin (rules_in (search_in find p)) (own_pipes p) rest.mark (cuts_of olds) rest.holders rest.book
      → MayBegin rules book.pipes mark (cuts_of olds) holders book.kept
  may_begin h =
      subst (λ (r : Rules). MayBegin r book.pipes mark (cuts_of olds) holders book.kept) (sym rules_is)
      (subst (λ (b : BookState). MayBegin (rules_in (search_in find p)) b.pipes mark (cuts_of olds) holders b.kept) (sym book_is)
      (subst (λ (m : Mark). MayBegin (rules_in (search_in find p)) (own_pipes p) m (cuts_of olds) holders rest.book) (sym mark_is)
      (subst (λ (hs : List Holder). MayBegin (rules_in (search_in find p)) (own_pipes p) rest.mark (cuts_of olds) hs rest.book) (sym holders_is) h)))

  -- what it writes
  module _ (news : List (LaneView S L)) (before now : Option (List ℕ)) where
    listing_is : (ts : List (List ℕ)) → rest_of rules book.pipes book.places book.kept.listed ts ≡ runs.rest_of (search_in find p) rest.book.listed ts
    listing_is ts = λ i. rest_of (rules_is i) ((book_is i).pipes) ((book_is i).places) ((book_is i).kept.listed) ts

    all_written :
        IfSome told (λ ts. Begins ts → WereRead rules.reads rules.slack ts news)
        → IfSome told (λ ts. Begins ts → HasNumbers rules ts → WroteAll (rest_of rules book.pipes book.places book.kept.listed ts) before now)
        → IfSome told (λ ts. Starts ts → WroteAll (runs.rest_of (search_in find p) rest.book.listed ts) before now)
    all_written = told_both told (λ ts. Begins ts → WereRead rules.reads rules.slack ts news)
        (λ ts. Begins ts → HasNumbers rules ts → WroteAll (rest_of rules book.pipes book.places book.kept.listed ts) before now)
        (λ ts. Starts ts → WroteAll (runs.rest_of (search_in find p) rest.book.listed ts) before now)
        (λ ts e read wrote begins.
        subst (λ (bytes : List ℕ). WroteAll bytes before now) (listing_is ts)
        (wrote (starts_at ts begins) (numbers_of ts (few_at ts e (read (starts_at ts begins)).within))))

    pub whole_written : {T E : Type 0} (r : Result T E)
        → OnOk r (IfSome told (λ ts. Begins ts → WereRead rules.reads rules.slack ts news))
        → OnOk r (IfSome told (λ ts. Begins ts → HasNumbers rules ts → WroteAll (rest_of rules book.pipes book.places book.kept.listed ts) before now))
        → OnOk r (IfSome told (λ ts. Starts ts → WroteAll (runs.rest_of (search_in find p) rest.book.listed ts) before now))
    whole_written r = ok_both r all_written

    pub front_written : {T E : Type 0} (r : Result T E)
        → OnErr r (IfSome told (λ ts. Begins ts → (All IsShardText ts → HasNumbers rules ts) → WroteFront (rest_of rules book.pipes book.places book.kept.listed ts) before now))
        → OnErr r (IfSome told (λ ts. Starts ts → WroteFront (runs.rest_of (search_in find p) rest.book.listed ts) before now))
    front_written r = on_err_weaker r (told_each told
        (λ ts. Begins ts → (All IsShardText ts → HasNumbers rules ts) → WroteFront (rest_of rules book.pipes book.places book.kept.listed ts) before now)
        (λ ts. Starts ts → WroteFront (runs.rest_of (search_in find p) rest.book.listed ts) before now)
        (λ ts e h begins.
        subst (λ (bytes : List ℕ). WroteFront bytes before now) (listing_is ts) (h (starts_at ts begins) (λ within. numbers_of ts (few_at ts e within)))))

  -- what it reads
  pub were_read : {T E : Type 0} (r : Result T E) (news : List (LaneView S L)) (reads : Reads) (slack : Option ℤ) → rules.reads ≡ reads → rules.slack ≡ slack
      → OnOk r (IfSome told (λ ts. Begins ts → WereRead rules.reads rules.slack ts news))
      → OnOk r (IfSome told (λ ts. Starts ts → WereRead reads slack ts news))
  were_read r news reads slack same equal = on_ok_weaker r (told_each told (λ ts. Begins ts → WereRead rules.reads rules.slack ts news)
      (λ ts. Starts ts → WereRead reads slack ts news)
      (λ ts e h begins.
      subst (λ (x : Reads). WereRead x slack ts news) same (subst (λ (x : Option ℤ). WereRead rules.reads x ts news) equal (h (starts_at ts begins)))))

  -- which cuts it puts, and that what they count was written and kept
  module _ (before now kept kept' : Option (List ℕ)) (cuts : List Cut) where
    abbrev Searched : Rules → BookState → List (List ℕ) → Type 0
    Searched r b ts = AreSearchCuts r b.pipes ts cuts × All (WroteCounted r b.pipes b.places b.kept.listed ts before now) cuts
        × All (KeptCounted r b.pipes b.places b.kept.listed ts before kept kept') cuts

    pub are_searched : IfSome told (λ ts. Begins ts → HasNumbers rules ts → Searched rules book ts)
        → IfSome told (λ ts. Starts ts → AreSearched (search_in find p) ts rest.book.listed before now kept kept' cuts)
    are_searched = told_each told (λ ts. Begins ts → HasNumbers rules ts → Searched rules book ts)
        (λ ts. Starts ts → AreSearched (search_in find p) ts rest.book.listed before now kept kept' cuts)
        (λ ts e h begins less.
        subst (λ (r : Rules). Searched r (book_in find p rest.book) ts) rules_is
        (subst (λ (b : BookState). Searched rules b ts) book_is (h (starts_at ts begins) (numbers_of ts less))))

-- nothing written is a front
front_none : (lines : List ℕ) (before : Option (List ℕ)) → WroteFront lines before before
front_none lines None = tt
front_none lines (Some w) = (0, ap Some (sym (append-nil w)))

pub fronts_none : (told : Option (List (List ℕ))) (Starts : List (List ℕ) → Type 0) (lines : List (List ℕ) → List ℕ) (before : Option (List ℕ))
    → IfSome told (λ ts. Starts ts → WroteFront (lines ts) before before)
fronts_none None Starts lines before = tt
fronts_none (Some ts) Starts lines before = λ starts. front_none (lines ts) before

-- ---- why it stops
pub may_by : {S L : Type 0} (texts : Option (List (List ℕ))) (shards : ℕ) (olds news : List (LaneView S L)) → length olds ≡ shards
    → (before now disk_before disk_now : ℕ) (why : Stop) → HasSearchCause texts why olds news before now disk_before disk_now → MayStop shards why
may_by texts shards olds news count before now d e (stop.Read shard) cause = let within = slice_get_within olds shard cause.old cause.was in omega (arith, count, within)
may_by texts shards olds news count before now d e stop.Write cause = tt
may_by texts shards olds news count before now d e stop.Disk cause = tt
may_by texts shards olds news count before now d e stop.Memory cause = tt
may_by texts shards olds news count before now d e (stop.Limit (limit.Lines shard)) cause = let within = slice_get_within olds shard cause.old cause.was in omega (arith, count, within)
may_by texts shards olds news count before now d e (stop.Limit (limit.Bytes shard)) cause = let within = slice_get_within olds shard cause.old cause.was in omega (arith, count, within)
may_by texts shards olds news count before now d e stop.Generation cause = tt
may_by texts shards olds news count before now d e stop.Worn cause = absurd cause
