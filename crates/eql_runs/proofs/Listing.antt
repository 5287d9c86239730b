-- What a run writes is determined, and no run writes over what is refused.
use Rattle.std.proofs.Common.{◌≡◌, ℕ, List, [], Some, refl, ap, ap₂, sym, ◌∙◌, subst}
use Rattle.std.specs.Prelude.{codes, encode_utf8_all, ◌++◌}
use Rattle.std.proofs.lemmas.Option.{none-some, same_Some}
use Rattle.eql_lexer.specs.declared.token.Token.{Token}
use Rattle.eql_parser.specs.QueryGrammar.{IsQuery}
use Rattle.eql_query.specs.QueryTree.{QueryTree}
use Rattle.eql_parser.specs.Printed.{query_shown}
use Rattle.eql_words.specs.declared.commands.Command.{Command}
use Rattle.eql_words.specs.declared.commands.Command.TheVariants as command
use Rattle.eql_words.specs.declared.commands.Find.{Find}
use Rattle.eql_words.specs.Commands.{command_of}
use Rattle.eql_runs.specs.Files.{Files}
use Rattle.eql_runs.specs.Refusals.{Names, Refusal, Refuses}
use Rattle.eql_runs.specs.Refusals as refusal
use Rattle.eql_runs.specs.Searches.{Search, rest_of, report_of}
use Rattle.eql_runs.specs.Summaries.{made_query, IsMadeSearch, made_lines, Makes}
use Rattle.eql_runs.specs.Runs.{names_of, Searches, Finds, Prints, Runs, Writes, IsRefused, by_cut, by_files, RefusesCut, CanRun}
use Rattle.eql_runs.specs.CutRefusals.{CutRefusal, CutRefuses}
use Rattle.eql_runs.specs.RunLaws.{IsSameRefusal}
use Rattle.eql_runs.specs.Starts.{OnDisk, listed_on, start_for}
use Rattle.eql_runs.proofs.Reading.{QueryLaws, mapping_or, one_query, one_mapping, one_texts, none_missing}
use Rattle.eql_runs.proofs.OwnCuts.{OwnLaws, reading_of}
use Rattle.eql_runs.proofs.CutRefusing.{CutLaws, begins_or_refused, one_cut_cause}
use Rattle.eql_runs.proofs.Refusing.{none_refused, one_command, one_refusal}

-- a command searches for one thing
pub one_search : (laws : QueryLaws) (find : Find) (files : Files) (a b : Search) (ts us : List (List ℕ))
    → Searches find files a ts → Searches find files b us → a ≡ b
one_search laws find files a b ts us s t =
    let q : a.query ≡ b.query =
    one_query laws find.query files a.query b.query s.checked.both.query_there t.checked.both.query_there in
    let m : a.mapping ≡ b.mapping =
    one_mapping find.fields files a.mapping b.mapping s.checked.both.mapping_there t.checked.both.mapping_there in
    let d : a.tie ≡ b.tie = s.tie ∙ sym t.tie in
    let k : a.slack ≡ b.slack = s.slack ∙ sym t.slack in
    let h : a.places ≡ b.places = s.places ∙ sym t.places in
    λ i. record { query = q i; mapping = m i; tie = d i; slack = k i; places = h i }

one_find : (laws : QueryLaws) (find : Find) (files : Files) (on : OnDisk) (bytes other report beside : List ℕ)
    → Finds find files on bytes report → Finds find files on other beside → (bytes ≡ other) × (report ≡ beside)
one_find laws find files on bytes other report beside a b =
    let s : a.search ≡ b.search = one_search laws find files a.search b.search a.texts b.texts a.searches b.searches in
    let t : a.texts ≡ b.texts = one_texts find.shards files a.texts b.texts a.searches.there b.searches.there in (
      a.bytes_are ∙ ap₂ (λ (x : Search) (xs : List (List ℕ)). rest_of x (listed_on (start_for find on)) xs) s t ∙ sym b.bytes_are,
      a.report_is ∙ ap₂ (λ (x : Search) (xs : List (List ℕ)). report_of x xs) s t ∙ sym b.report_is,
    )

one_print : (laws : QueryLaws) (query fields : List ℕ) (files : Files) (bytes other report beside : List ℕ)
    → Prints query fields files bytes report → Prints query fields files other beside
    → (bytes ≡ other) × (report ≡ beside)
one_print laws query fields files bytes other report beside a b =
    let t : a.tree ≡ b.tree =
    one_query laws query files a.tree b.tree a.checked.both.query_there b.checked.both.query_there in (
      a.bytes_are ∙ ap (λ (x : QueryTree). encode_utf8_all (query_shown x) ++ codes "\n") t ∙ sym b.bytes_are,
      a.report_is ∙ sym b.report_is,
    )

-- `made` searches for one thing
one_made : QueryLaws → (a b : Search) → IsMadeSearch a → IsMadeSearch b → a ≡ b
one_made laws a b s t =
    let same : s.tokens ≡ t.tokens = laws.one_list made_query s.tokens t.tokens s.spelled.spells t.spelled.spells in
    let q : a.query ≡ b.query =
    laws.one_query t.tokens a.query b.query (subst (λ (x : List Token). IsQuery x a.query) same s.read.is_query) t.read.is_query in
    let m : a.mapping ≡ b.mapping = ap (mapping_or a.mapping) (sym s.is_mapping ∙ t.is_mapping) in
    let d : a.tie ≡ b.tie = s.tie ∙ sym t.tie in
    let k : a.slack ≡ b.slack = s.slack ∙ sym t.slack in
    let h : a.places ≡ b.places = s.places ∙ sym t.places in
    λ i. record { query = q i; mapping = m i; tie = d i; slack = k i; places = h i }

one_make : QueryLaws → (events : ℕ) (bytes other report beside : List ℕ) → Makes events bytes report → Makes events other beside
    → (bytes ≡ other) × (report ≡ beside)
one_make laws events bytes other report beside a b = (
  a.bytes_are ∙ ap (made_lines events) (one_made laws a.search b.search a.is_search b.is_search) ∙ sym b.bytes_are,
  a.report_is ∙ sym b.report_is,
)

one_run : (laws : QueryLaws) (c : Command) (files : Files) (on : OnDisk) (bytes other report beside : List ℕ)
    → Runs c files on bytes report → Runs c files on other beside → (bytes ≡ other) × (report ≡ beside)
one_run laws (command.Find find) files on bytes other report beside a b = one_find laws find files on bytes other report beside a b
one_run laws (command.Check query fields) files on bytes other report beside a b =
    one_print laws query fields files bytes other report beside a b
one_run laws (command.Made hands events) files on bytes other report beside a b = one_make laws events bytes other report beside a b

pub one_listing : (laws : QueryLaws) (words : List (List ℕ)) (files : Files) (on : OnDisk) (bytes other report beside : List ℕ)
    → Writes words files on bytes report → Writes words files on other beside → (bytes ≡ other) × (report ≡ beside)
one_listing laws words files on bytes other report beside a b =
    let one : a.command ≡ b.command = one_command words a.command b.command a.is_command b.is_command in
    one_run laws b.command files on bytes other report beside
    (subst (λ (c : Command). Runs c files on bytes report) one a.runs) b.runs

-- files that are refused aren't those of a search
pub search_or_refused : (laws : QueryLaws) (names : Names) (find : Find) (files : Files) (search : Search) (texts : List (List ℕ)) (r : Refusal)
    → names_of (command.Find find) ≡ Some names → Searches find files search texts → Refuses names files r → ⊥
search_or_refused laws names find files search texts r is there refused =
    let own : Names = record { query = find.query; fields = find.fields; shards = find.shards } in
    none_refused laws own files search.query search.mapping there.checked (none_missing find.shards files texts there.there) r
    (subst (λ (x : Names). Refuses x files r) (sym (same_Some own names is)) refused)

-- files over which a run writes aren't refused
runs_or_not : (laws : QueryLaws) (c : Command) (names : Names) (files : Files) (on : OnDisk) (bytes report : List ℕ) (r : Refusal)
    → names_of c ≡ Some names → Runs c files on bytes report → Refuses names files r → ⊥
runs_or_not laws (command.Find find) names files on bytes report r is a refused =
    search_or_refused laws names find files a.search a.texts r is a.searches refused
runs_or_not laws (command.Check query fields) names files on bytes report r is a refused =
    let own : Names = record { query = query; fields = fields; shards = [] } in
    none_refused laws own files a.tree a.kinds a.checked refl r
    (subst (λ (x : Names). Refuses x files r) (sym (same_Some own names is)) refused)
runs_or_not laws (command.Made hands events) names files on bytes report r is a refused = absurd (none-some names is)

-- the laws by which what a disk holds is judged
pub record DiskLaws : Type 0 where
  pub queries : QueryLaws
  pub own : OwnLaws
  pub cuts : CutLaws

-- a disk with which a run begins isn't refused
finds_or_not : (laws : DiskLaws) (find : Find) (files : Files) (on : OnDisk) (bytes report : List ℕ) (r : CutRefusal)
    → Finds find files on bytes report → RefusesCut find files on r → ⊥
finds_or_not laws find files on bytes report r a b =
    let s : b.search ≡ a.search = one_search laws.queries find files b.search a.search b.texts a.texts b.searches a.searches in
    let t : b.texts ≡ a.texts = one_texts find.shards files b.texts a.texts b.searches.there a.searches.there in
    let refused = subst (λ (x : Search). CutRefuses x a.texts (start_for find on) r) s
    (subst (λ (x : List (List ℕ)). CutRefuses b.search x (start_for find on) r) t b.refuses) in
    begins_or_refused laws.cuts a.search a.texts (reading_of laws.own a.search a.searches.checked.checked) (start_for find on) r a.begins refused

command_or_not : (laws : DiskLaws) (c : Command) (find : Find) (files : Files) (on : OnDisk) (bytes report : List ℕ) (r : CutRefusal)
    → c ≡ command.Find find → Runs c files on bytes report → RefusesCut find files on r → ⊥
command_or_not laws c find files on bytes report r e a refused =
    finds_or_not laws find files on bytes report r (subst (λ (x : Command). Runs x files on bytes report) e a) refused

pub listed_or_refused : (laws : DiskLaws) (words : List (List ℕ)) (files : Files) (on : OnDisk) (bytes report : List ℕ) (r : Refusal)
    → Writes words files on bytes report → IsRefused words files on r → ⊥
listed_or_refused laws words files on bytes report _ a (by_files other is names found r refused) =
    let one : a.command ≡ other = one_command words a.command other a.is_command is in
    runs_or_not laws.queries other names files on bytes report r found
    (subst (λ (c : Command). Runs c files on bytes report) one a.runs) refused
listed_or_refused laws words files on bytes report _ a (by_cut find is r refused) =
    command_or_not laws a.command find files on bytes report r (one_command words a.command (command.Find find) a.is_command is) a.runs refused

-- ---- one cause
same_find : (a b : Find) → command.Find a ≡ command.Find b → a ≡ b
same_find a b e = ap (find_or a) e
  where
    find_or : Find → Command → Find
    find_or d (command.Find f) = f
    find_or d (command.Check query fields) = d
    find_or d (command.Made hands events) = d

one_cut_of : (laws : DiskLaws) (find : Find) (files : Files) (on : OnDisk) (r s : CutRefusal) → RefusesCut find files on r
    → RefusesCut find files on s → IsSameRefusal (refusal.cut r) (refusal.cut s)
one_cut_of laws find files on r s a b =
    let one : a.search ≡ b.search = one_search laws.queries find files a.search b.search a.texts b.texts a.searches b.searches in
    let t : a.texts ≡ b.texts = one_texts find.shards files a.texts b.texts a.searches.there b.searches.there in
    let refused = subst (λ (x : Search). CutRefuses x b.texts (start_for find on) r) one
    (subst (λ (x : List (List ℕ)). CutRefuses a.search x (start_for find on) r) t a.refuses) in
    one_cut_cause b.search b.texts (start_for find on) r s refused b.refuses

files_or_cut : (laws : DiskLaws) (words : List (List ℕ)) (files : Files) (on : OnDisk) (c : Command) (find : Find) (names : Names) (r : Refusal) (s : CutRefusal)
    → command_of words ≡ Some c → command_of words ≡ Some (command.Find find) → names_of c ≡ Some names → Refuses names files r
    → RefusesCut find files on s → ⊥
files_or_cut laws words files on c find names r s is named found refused denied =
    let e : c ≡ command.Find find = one_command words c (command.Find find) is named in
    search_or_refused laws.queries names find files denied.search denied.texts r (ap names_of (sym e) ∙ found) denied.searches refused

pub one_cause_of : (laws : DiskLaws) (words : List (List ℕ)) (files : Files) (on : OnDisk) (r s : Refusal)
    → IsRefused words files on r → IsRefused words files on s → IsSameRefusal r s
one_cause_of laws words files on _ _ (by_files c is names found r refused) (by_files other named others had s denied) =
    let one : names ≡ others = same_Some names others (sym found ∙ ap names_of (one_command words c other is named) ∙ had) in
    one_refusal laws.queries others files r s (subst (λ (x : Names). Refuses x files r) one refused) denied
one_cause_of laws words files on _ _ (by_files c is names found r refused) (by_cut find named s denied) =
    absurd (files_or_cut laws words files on c find names r s is named found refused denied)
one_cause_of laws words files on _ _ (by_cut find named s denied) (by_files c is names found r refused) =
    absurd (files_or_cut laws words files on c find names r s is named found refused denied)
one_cause_of laws words files on _ _ (by_cut find named r refused) (by_cut other also s denied) =
    let e : find ≡ other = same_find find other (one_command words (command.Find find) (command.Find other) named also) in
    one_cut_of laws other files on r s (subst (λ (x : Find). RefusesCut x files on r) e refused) denied

-- ---- a run that can be done
pub ready_or_refused : (laws : DiskLaws) (words : List (List ℕ)) (files : Files) (on : OnDisk) → CanRun words files on → (r : Refusal)
    → IsRefused words files on r → ⊥
ready_or_refused laws words files on can r refused =
    listed_or_refused laws words files on can.writes.0 can.writes.1 r can.writes.2 refused
