-- Nothing is left out: whatever the words, the files and the bytes of the disk are, the words are no command, or the run is refused, or
-- it writes.
use Rattle.std.proofs.Common.{◌≡◌, ◌≤◌, ℕ, ◌⊎◌, inl, inr, List, [], Option, Some, None, true, false, refl, ap, sym, arith, ◌∙◌, subst, length}
use Rattle.std.specs.Prelude.{All, Bool, codes, encode_utf8_all, get_or, is_some, ◌++◌}
use Rattle.std.proofs.lemmas.Bool.{false≢true}
use Rattle.eql_laws.specs.Books.{greatest_shards}
use Rattle.eql_laws.specs.Counting.{IsShardText}
use Rattle.eql_laws.specs.Fitting.{Fits}
use Rattle.eql_laws.specs.Places.{RestIsLate}
use Rattle.eql_cut.specs.declared.cut.Cut.{Cut}
use Rattle.eql_cut.specs.declared.cut.CutHead.{CutHead}
use Rattle.eql_cut.specs.Agreeing.{difference}
use Rattle.eql_cut.specs.Domain.{kept_by}
use Rattle.eql_cut.specs.Lifting.{FirstFormatHasNoPlaces}
use Rattle.eql_cut.specs.Placing.{IsUnplaced, orders_in}
use Rattle.eql_cut.specs.Whole.{IsText, TextsAreDecided}
use Rattle.eql_ckdisk.specs.Found.{Found, found_on}
use Rattle.eql_parser.specs.Printed.{query_shown}
use Rattle.eql_words.specs.declared.commands.Checkpoint.{Checkpoint}
use Rattle.eql_words.specs.declared.commands.Command.{Command}
use Rattle.eql_words.specs.declared.commands.Command.TheVariants as command
use Rattle.eql_words.specs.declared.commands.Find.{Find}
use Rattle.eql_words.specs.Bounds.{CommandsAreBounded}
use Rattle.eql_words.specs.Commands.{command_of}
use Rattle.eql_runs.specs.CutRefusals.{CutRefusal, CutRefuses, NoneIsRefusedBefore, by_found, by_shard, damaged, differs, foreign, head_damaged, head_differs, is_foreign, is_unfit, text_damaged, unfit}
use Rattle.eql_runs.specs.Files.{Files, IsWithin}
use Rattle.eql_runs.specs.Refusals.{Names, Refusal}
use Rattle.eql_runs.specs.Refusals as refusal
use Rattle.eql_runs.specs.Runs.{AreTrusted, AreWithin, IsRefused, RefusesCut, Runs, Searches, Trusts, Writes, by_cut, by_files}
use Rattle.eql_runs.specs.RunLaws.{NoRunIsLeftOut}
use Rattle.eql_runs.specs.Searches.{Search, rest_of, report_of, run_of}
use Rattle.eql_runs.specs.Starts.{BeginsWith, IsHeadOf, IsTrusted, OnDisk, StandsFor, a_cut, bad_head, bad_text, keeps_digests, listed_on, not_ours, nothing_kept, start_asked, start_for}
use Rattle.eql_runs.specs.Summaries.{made_lines}
use Rattle.eql_runs.proofs.Counting.{texts_count}
use Rattle.eql_runs.proofs.Covering.{CoverLaws, NoneOrSome, none_or_some, HasAll, AllOrRefused, texts_there, all_or_refused}
use Rattle.eql_runs.proofs.Deciding.{Decided, FirstRefused, FitLaws, fits_decided, shards_decided}
use Rattle.eql_runs.proofs.Heads.{SameLaws, same_heads}
use Rattle.eql_runs.proofs.MadeQuery.{made_is_a_search}
use Rattle.eql_runs.proofs.OnDisks.{something_on_disk}
use Rattle.eql_runs.proofs.OwnCuts.{OwnLaws, own_cut_fits}
use Rattle.eql_runs.proofs.PutCuts.{tested_is_own}

-- the files that commands name
abbrev find_names : Find → Names
find_names find = record { query = find.query; fields = find.fields; shards = find.shards }

abbrev check_names : (query fields : List ℕ) → Names
check_names query fields = record { query = query; fields = fields; shards = [] }

-- a run of the command writes
abbrev RunsSome : Command → Files → OnDisk → Type 0
RunsSome c files on = (bytes report : List ℕ) × Runs c files on bytes report

-- the laws on which this rests
pub record EndLaws : Type 0 where
  pub cover : CoverLaws
  pub own : OwnLaws
  pub same : SameLaws
  pub bounded : CommandsAreBounded
  pub unplaced : FirstFormatHasNoPlaces
  pub decided : TextsAreDecided
  pub late : RestIsLate
  pub fit : FitLaws

-- ---- a search whose files are all there
pub record TheSearch (find : Find) (files : Files) : Type 0 where
  pub search : Search
  pub texts : List (List ℕ)
  pub searches : Searches find files search texts

the_search : (find : Find) (files : Files) → HasAll (find_names find) files → TheSearch find files
the_search find files all =
    let texts = texts_there files find.shards all.shards in
    record {
      search = record { query = all.tree; mapping = all.kinds; tie = find.tie; slack = find.slack; places = find.places };
      texts = texts.0;
      searches = record { checked = all.checked; tie = refl; slack = refl; places = refl; there = texts.1 };
    }

-- it is refused by what its disk holds, or it writes where that is trusted and its texts are within their limits
abbrev AllWithin : Find → Files → Type 0
AllWithin find files = (search : Search) (texts : List (List ℕ)) → Searches find files search texts → All IsWithin texts

abbrev CutOrRuns : Find → Files → OnDisk → Type 0
CutOrRuns find files on =
    ((r : CutRefusal) × RefusesCut find files on r) ⊎ (Trusts find files on → AllWithin find files → RunsSome (command.Find find) files on)

writes_from : (find : Find) (files : Files) (on : OnDisk) (the : TheSearch find files) → BeginsWith the.search the.texts (start_for find on)
    → RunsSome (command.Find find) files on
writes_from find files on the begins = (
  rest_of the.search (listed_on (start_for find on)) the.texts,
  report_of the.search the.texts,
  record { search = the.search; texts = the.texts; searches = the.searches; begins = begins; bytes_are = refl; report_is = refl },
)

refuses_from : (find : Find) (files : Files) (on : OnDisk) (the : TheSearch find files) (r : CutRefusal)
    → CutRefuses the.search the.texts (start_for find on) r → CutOrRuns find files on
refuses_from find files on the r h = inl (r, record { search = the.search; texts = the.texts; searches = the.searches; refuses = h })

-- a search that keeps its state has a head
abbrev head_of : (search : Search) (shards slack : ℕ) → CutHead
head_of search shards slack =
    record { query = query_shown search.query; mapping = search.mapping; tie = search.tie; slack = slack; shards = shards }

is_head : (search : Search) (shards slack : ℕ) → search.slack ≡ Some slack → IsHeadOf search shards (head_of search shards slack)
is_head search shards slack e = record { query = refl; mapping_is = refl; tie = refl; slack = e; shards_are = refl }

within_shard : (text : List ℕ) → IsWithin text → IsShardText text
within_shard text h = record { lines = h.lines; bytes = omega (arith, h.bytes) }

all_shards : (texts : List (List ℕ)) → All IsWithin texts → All IsShardText texts
all_shards texts all k d h = within_shard (get_or texts k d) (all k d h)

module _ (laws : EndLaws) (find : Find) (files : Files) (the : TheSearch find files) (few : length the.texts ≤ greatest_shards) where
  -- by a cut with the head of the search, in a format without digests
  undigested_cut : (format generation : ℕ) (cut : Cut) (f : Found) → StandsFor (a_cut format generation cut) f → IsHeadOf the.search (length the.texts) cut.head
      → keeps_digests format ≡ false → IsTrusted the.search the.texts (a_cut format generation cut) → All IsWithin the.texts
      → BeginsWith the.search the.texts (a_cut format generation cut)
  undigested_cut format generation cut f stands head none trusted within =
      let is = (trusted head).without none in
      let bare : format ≡ 1 → IsUnplaced (orders_in cut) =
      λ one. laws.unplaced cut stands.1 (subst (λ (n : ℕ). IsText n cut stands.1) one stands.3.is) in
      record {
        head = head;
        fits = own_cut_fits laws.own the.search the.texts format cut the.searches.checked.checked few (all_shards the.texts within) bare head.shards_are is;
        is_cut = is;
      }

  -- a run begins with a cut that was found, where it is such as BeginsWith says
  begun : (on : OnDisk) → start_for find on ≡ on
      → (IsTrusted the.search the.texts on → All IsWithin the.texts → BeginsWith the.search the.texts on) → CutOrRuns find files on
  begun on start begins =
      inr (λ trusts within. writes_from find files on the
      (subst (BeginsWith the.search the.texts) (sym start)
      (begins (subst (IsTrusted the.search the.texts) start (trusts the.search the.texts the.searches)) (within the.search the.texts the.searches))))

  refused_by : (on : OnDisk) (r : CutRefusal) → start_for find on ≡ on → CutRefuses the.search the.texts on r → CutOrRuns find files on
  refused_by on r start h = refuses_from find files on the r (subst (λ (x : OnDisk). CutRefuses the.search the.texts x r) (sym start) h)

  -- by a cut with digests, which is tested
  by_shards : (format generation : ℕ) (cut : Cut) → IsHeadOf the.search (length the.texts) cut.head → keeps_digests format ≡ true
      → start_for find (a_cut format generation cut) ≡ a_cut format generation cut → Fits (run_of the.search cut.head.slack) (length the.texts) (kept_by cut)
      → FirstRefused format cut the.texts ⊎ NoneIsRefusedBefore format cut (length the.texts) the.texts → CutOrRuns find files (a_cut format generation cut)
  by_shards format generation cut head keeps start fits (inl first) =
      refused_by (a_cut format generation cut) first.refusal start
      (by_shard format generation cut head fits first.shard first.text first.there first.none first.refusal first.refused)
  by_shards format generation cut head keeps start fits (inr none) =
      begun (a_cut format generation cut) start (λ trusted within.
      tested_is_own laws.late the.search the.texts format cut (record { head = head; fits = fits; shards = none }) (trusted head))

  by_fit : (format generation : ℕ) (cut : Cut) → IsHeadOf the.search (length the.texts) cut.head → keeps_digests format ≡ true
      → start_for find (a_cut format generation cut) ≡ a_cut format generation cut
      → Decided (Fits (run_of the.search cut.head.slack) (length the.texts) (kept_by cut)) → CutOrRuns find files (a_cut format generation cut)
  by_fit format generation cut head keeps start (inl fits) =
      by_shards format generation cut head keeps start fits (shards_decided format cut the.texts keeps (length the.texts))
  by_fit format generation cut head keeps start (inr unlike) =
      refused_by (a_cut format generation cut) unfit start
      (by_found (a_cut format generation cut) cut.head unfit head
      (is_unfit format generation cut refl
      (λ (fits : Fits (run_of the.search cut.head.slack) cut.head.shards (kept_by cut)).
      unlike (subst (λ (n : ℕ). Fits (run_of the.search cut.head.slack) n (kept_by cut)) head.shards_are fits))))

  by_digests : (format generation : ℕ) (cut : Cut) (f : Found) → StandsFor (a_cut format generation cut) f → IsHeadOf the.search (length the.texts) cut.head
      → start_for find (a_cut format generation cut) ≡ a_cut format generation cut
      → (b : Bool) → keeps_digests format ≡ b → CutOrRuns find files (a_cut format generation cut)
  by_digests format generation cut f stands head start true keeps =
      by_fit format generation cut head keeps start (fits_decided laws.fit the.search (length the.texts) cut head.shards_are)
  by_digests format generation cut f stands head start false none =
      begun (a_cut format generation cut) start (λ trusted within. undigested_cut format generation cut f stands head none trusted within)

  by_cut_there : (format generation : ℕ) (cut : Cut) (f : Found) (slack : ℕ) → StandsFor (a_cut format generation cut) f → the.search.slack ≡ Some slack
      → start_for find (a_cut format generation cut) ≡ a_cut format generation cut
      → NoneOrSome (difference cut.head (head_of the.search (length the.texts) slack)) → CutOrRuns find files (a_cut format generation cut)
  by_cut_there format generation cut f slack stands e start (inr h) =
      let head = head_of the.search (length the.texts) slack in
      let on = a_cut format generation cut in
      refuses_from find files on the (differs h.0)
      (subst (λ (x : OnDisk). CutRefuses the.search the.texts x (differs h.0)) (sym start)
      (by_found on head (differs h.0) (is_head the.search (length the.texts) slack e) (head_differs format generation cut h.0 h.1)))
  by_cut_there format generation cut f slack stands e start (inl none) =
      let head = head_of the.search (length the.texts) slack in
      let own = subst (IsHeadOf the.search (length the.texts)) (sym (same_heads laws.same cut.head head none)) (is_head the.search (length the.texts) slack e) in
      by_digests format generation cut f stands own start (keeps_digests format) refl

  -- by what the disk holds, where the search keeps its state there
  by_disk : (on : OnDisk) (f : Found) (slack : ℕ) → StandsFor on f → the.search.slack ≡ Some slack → start_for find on ≡ on → CutOrRuns find files on
  by_disk nothing_kept f slack stands e start =
      inr (λ trusts within. writes_from find files nothing_kept the (subst (BeginsWith the.search the.texts) (sym start) tt))
  by_disk (bad_head area) f slack stands e start =
      let on = bad_head area in
      refuses_from find files on the (damaged area 0)
      (subst (λ (x : OnDisk). CutRefuses the.search the.texts x (damaged area 0)) (sym start)
      (by_found on (head_of the.search (length the.texts) slack) (damaged area 0) (is_head the.search (length the.texts) slack e) (head_damaged area)))
  by_disk (bad_text area) f slack stands e start =
      let on = bad_text area in
      refuses_from find files on the (damaged area 0)
      (subst (λ (x : OnDisk). CutRefuses the.search the.texts x (damaged area 0)) (sym start)
      (by_found on (head_of the.search (length the.texts) slack) (damaged area 0) (is_head the.search (length the.texts) slack e) (text_damaged area 0)))
  by_disk (not_ours area) f slack stands e start =
      let on = not_ours area in
      refuses_from find files on the (foreign area)
      (subst (λ (x : OnDisk). CutRefuses the.search the.texts x (foreign area)) (sym start)
      (by_found on (head_of the.search (length the.texts) slack) (foreign area) (is_head the.search (length the.texts) slack e) (is_foreign area)))
  by_disk (a_cut format generation cut) f slack stands e start =
      by_cut_there format generation cut f slack stands e start
      (none_or_some (difference cut.head (head_of the.search (length the.texts) slack)))

  -- by whether it keeps its state
  by_asked : (on : OnDisk) (f : Found) → StandsFor on f → (is_some find.checkpoint ≡ true → is_some find.slack ≡ true)
      → NoneOrSome find.checkpoint → NoneOrSome find.slack → CutOrRuns find files on
  by_asked on f stands too (inl none) slack =
      let start : start_for find on ≡ nothing_kept = ap (λ (o : Option Checkpoint). start_asked o on) none in
      inr (λ trusts within. writes_from find files on the (subst (BeginsWith the.search the.texts) (sym start) tt))
  by_asked on f stands too (inr h) (inr s) =
      let start : start_for find on ≡ on = ap (λ (o : Option Checkpoint). start_asked o on) h.1 in
      by_disk on f s.0 stands (the.searches.slack ∙ s.1) start
  by_asked on f stands too (inr h) (inl none) =
      let e : false ≡ true = sym (ap is_some none) ∙ too (ap is_some h.1) in absurd (false≢true e)

-- ---- the commands
check_runs : (files : Files) (on : OnDisk) (query fields : List ℕ) → HasAll (check_names query fields) files
    → RunsSome (command.Check query fields) files on
check_runs files on query fields all = (
  encode_utf8_all (query_shown all.tree) ++ codes "\n",
  [],
  record { tree = all.tree; kinds = all.kinds; checked = all.checked; bytes_are = refl; report_is = refl },
)

made_runs : CoverLaws → (files : Files) (on : OnDisk) (hands events : ℕ) → RunsSome (command.Made hands events) files on
made_runs laws files on hands events =
    let made = made_is_a_search laws.exact in
    (made_lines events made.0, [], record { search = made.0; is_search = made.1; bytes_are = refl; report_is = refl })

-- words that are a command are refused, or a run of them writes
abbrev RefusedOrWrites : List (List ℕ) → Files → OnDisk → Type 0
RefusedOrWrites words files on =
    ((r : Refusal) × IsRefused words files on r)
    ⊎ (AreTrusted words files on → AreWithin words files → (bytes report : List ℕ) × Writes words files on bytes report)

written : (words : List (List ℕ)) (files : Files) (on : OnDisk) (c : Command) → command_of words ≡ Some c → RunsSome c files on
    → (bytes report : List ℕ) × Writes words files on bytes report
written words files on c is some = (some.0, some.1, record { command = c; is_command = is; runs = some.2 })

search_or_refused : (laws : EndLaws) (words : List (List ℕ)) (files : Files) (f : Found) (on : OnDisk) (find : Find) → StandsFor on f
    → command_of words ≡ Some (command.Find find) → AllOrRefused (find_names find) files → RefusedOrWrites words files on
search_or_refused laws words files f on find stands is (inl h) =
    inl (h.0, by_files (command.Find find) is (find_names find) refl h.0 h.1)
search_or_refused laws words files f on find stands is (inr all) =
    let the = the_search find files all in
    let bounds = laws.bounded words (command.Find find) is in
    let few : length the.texts ≤ greatest_shards = omega (arith, bounds.count.1, texts_count find.shards files the.texts the.searches.there) in
    by (by_asked laws find files the few on f stands bounds.slack_too (none_or_some find.checkpoint) (none_or_some find.slack))
  where
    by : CutOrRuns find files on → RefusedOrWrites words files on
    by (inl h) = inl (refusal.cut h.0, by_cut find is h.0 h.1)
    by (inr runs) =
        inr (λ trusted within. written words files on (command.Find find) is
        (runs (λ search texts searches. trusted find is search texts searches) (λ search texts searches. within find search texts is searches)))

by_command : (laws : EndLaws) (words : List (List ℕ)) (files : Files) (f : Found) (on : OnDisk) (c : Command) → StandsFor on f
    → command_of words ≡ Some c → RefusedOrWrites words files on
by_command laws words files f on (command.Find find) stands is =
    search_or_refused laws words files f on find stands is (all_or_refused laws.cover (find_names find) files)
by_command laws words files f on (command.Check query fields) stands is = by (all_or_refused laws.cover (check_names query fields) files)
  where
    by : AllOrRefused (check_names query fields) files → RefusedOrWrites words files on
    by (inl h) = inl (h.0, by_files (command.Check query fields) is (check_names query fields) refl h.0 h.1)
    by (inr all) = inr (λ trusted within. written words files on (command.Check query fields) is (check_runs files on query fields all))
by_command laws words files f on (command.Made hands events) stands is =
    inr (λ trusted within. written words files on (command.Made hands events) is (made_runs laws.cover files on hands events))

by_words : (laws : EndLaws) (words : List (List ℕ)) (files : Files) (f : Found) (on : OnDisk) → StandsFor on f → NoneOrSome (command_of words)
    → (command_of words ≡ None) ⊎ RefusedOrWrites words files on
by_words laws words files f on stands (inl none) = inl none
by_words laws words files f on stands (inr h) = inr (by_command laws words files f on h.0 stands h.1)

pub no_run_is_left_out : EndLaws → NoRunIsLeftOut
no_run_is_left_out laws words files image a b =
    let held = something_on_disk laws.decided image a b in
    (held.0, held.1, by_words laws words files (found_on image) held.0 held.1 (none_or_some (command_of words)))
