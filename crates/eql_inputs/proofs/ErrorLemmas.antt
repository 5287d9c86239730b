-- What the front of a file says of the file, and of the cause of a error.
use Rattle.std.proofs.Common.{◌≡◌, ◌≢◌, ℕ, ◌≤◌, ◌<◌, ◌⊎◌, inl, inr, List, take, length, Option, Some, None, Result, Ok, Err, refl, ap, sym, arith, ◌∙◌, subst}
use Rattle.std.specs.Prelude.{cond}
use Rattle.std.specs.Option.{IfSome}
use Rattle.std.specs.Result.{IfErr, MatchResult}
use Rattle.std.proofs.lemmas.List.{take_all, length-take}
use Rattle.std.proofs.lemmas.Bool.{cases_lt, lt-ltb}
use Rattle.eql_values.specs.declared.value.Kind.{Kind}
use Rattle.eql_outside.specs.Outside.{Rose, file_named}
use Rattle.eql_outside.specs.Faults.{FaultsAreSame, RoseFor}
use Rattle.eql_lexer.specs.declared.token.Token.{Token}
use Rattle.eql_lexer.specs.declared.refusal.LexRefused.{LexRefused}
use Rattle.eql_query.specs.QueryTree.{QueryTree}
use Rattle.eql_text.specs.Json.{json_of}
use Rattle.eql_check.specs.declared.mapping.MapRefused.{MapRefused}
use Rattle.eql_check.specs.declared.mapping.MapRefused.TheVariants as map_refused
use Rattle.eql_check.specs.declared.refused.CheckRefused.{CheckRefused}
use Rattle.eql_check.specs.declared.refused.CheckRefused.TheVariants as check_refused
use Rattle.eql_check.specs.Kinds.{kind_at}
use Rattle.eql_check.specs.Mappings.{mapping_of, mapping_if}
use Rattle.eql_check.specs.MappingAnswers.{Reads}
use Rattle.eql_check.specs.Rules.{first_broken}
use Rattle.eql_check.specs.Typing.{IsChecked}
use Rattle.eql_check.specs.Wants.{check_memory}
use Rattle.eql_runs.specs.Files.{Files, HasTokens, HasNoTokens, too_long, not_utf8, breaks, HasChecked}
use Rattle.eql_runs.specs.Refusals.{Names, Refuses}
use Rattle.eql_runs.specs.Refusals as run
use Rattle.eql_runs.specs.Runs.{IsNamed, Reaches}
use Rattle.eql_runs.specs.Runs as way
use Rattle.eql_inputs.specs.declared.error.Refused.TheVariants as refused
use Rattle.eql_inputs.specs.declared.error.InputError.{InputError}
use Rattle.eql_inputs.specs.declared.error.InputError.TheVariants as error
use Rattle.eql_inputs.specs.Fronts.{IsFrontOf, IsMissing}
use Rattle.eql_inputs.specs.Errors.{HasInputCause, FaultsFollow, CountFollows, AbsencesFollow, IsNoFault}
use Rattle.eql_inputs.specs.Steps.{naming, GotQuery, GotMapping, GotChecked, HasQueryCause, HasMappingCause, HasCheckCause, StopsReading, IsQueryText, StopsSpelling, StopsParsing, StopsQuery, error_of_map, StopsMapping, error_of_check, StopsChecking}

-- a front that is shorter than it may be is the whole text
pub front_whole : (most n : ℕ) (bytes text : List ℕ) → n < most → bytes ≡ take most text → length bytes ≤ n
    → bytes ≡ text
front_whole most n bytes text more front few =
    let short : length text ≤ most = omega (arith, ap length front, length-take most text) in
    front ∙ take_all most text short

-- a text that isn't spelled
tokens_front : (bytes text : List ℕ) (r : LexRefused) → bytes ≡ take 65537 text → HasNoTokens bytes r → HasNoTokens text r
tokens_front bytes text _ front (too_long long) = too_long (omega (arith, long, ap length front, length-take 65537 text))
tokens_front bytes text r front (not_utf8 short denied) =
    subst (λ (x : List ℕ). HasNoTokens x r) (front_whole 65537 65536 bytes text (omega arith) front short)
    (not_utf8 short denied)
tokens_front bytes text r front (breaks short utf8 rule at b) =
    subst (λ (x : List ℕ). HasNoTokens x r) (front_whole 65537 65536 bytes text (omega arith) front short)
    (breaks short utf8 rule at b)

whole_tokens : (bytes text : List ℕ) (tokens : List Token) → bytes ≡ take 65537 text → HasTokens bytes tokens
    → HasTokens text tokens
whole_tokens bytes text tokens front has =
    subst (λ (x : List ℕ). HasTokens x tokens)
    (front_whole 65537 65536 bytes text (omega arith) front has.short) has

-- where a file isn't there, or failed
pub unread_cause : (names : Names) (name : List ℕ) (files : Option Files) (h : InputError) → IsNamed names name
    → StopsReading name (IsMissing name files) h
    → IfSome files (λ fs. file_named name fs ≡ None → Refuses names fs (run.no_file name))
    → IfSome files (λ fs. Reaches names fs name) → HasInputCause names files h
unread_cause names name None (error.Refused (refused.NoFile n)) own stop rule reach =
    (subst (λ (x : List ℕ). IsNamed names x) (sym stop.0) own, tt)
unread_cause names name (Some fs) (error.Refused (refused.NoFile n)) own stop rule reach = (
  subst (λ (x : List ℕ). IsNamed names x) (sym stop.0) own,
  subst (λ (x : List ℕ). Refuses names fs (run.no_file x)) (sym stop.0) (rule stop.1),
)
unread_cause names name files (error.Refused (refused.Lex r)) own stop rule reach = absurd stop
unread_cause names name files (error.Refused (refused.Parse r)) own stop rule reach = absurd stop
unread_cause names name files (error.Refused (refused.Mapping r)) own stop rule reach = absurd stop
unread_cause names name files (error.Refused (refused.Broken r)) own stop rule reach = absurd stop
unread_cause names name None (error.Read n) own stop rule reach =
    (subst (λ (x : List ℕ). IsNamed names x) (sym stop) own, tt)
unread_cause names name (Some fs) (error.Read n) own stop rule reach = (
  subst (λ (x : List ℕ). IsNamed names x) (sym stop) own,
  subst (λ (x : List ℕ). Reaches names fs x) (sym stop) reach,
)
unread_cause names name files error.Memory own stop rule reach = tt

-- the query
query_rule : (query fields : List ℕ) (shards : List (List ℕ)) (files : Option Files)
    → IfSome files (λ fs. file_named query fs ≡ None → Refuses (naming query fields shards) fs (run.no_file query))
query_rule query fields shards None = tt
query_rule query fields shards (Some fs) = λ none. run.no_query none

query_reached : (query fields : List ℕ) (shards : List (List ℕ)) (files : Option Files)
    → IfSome files (λ fs. Reaches (naming query fields shards) fs query)
query_reached query fields shards None = tt
query_reached query fields shards (Some fs) = way.query_file

pub query_unread : (query : List ℕ) (files : Option Files) (h : InputError) → StopsReading query (IsMissing query files) h
    → HasQueryCause query files h
query_unread query files h stop = λ fields shards.
    unread_cause (naming query fields shards) query files h (inl refl) stop (query_rule query fields shards files)
    (query_reached query fields shards files)

pub query_got : (query : List ℕ) (files : Option Files) (bytes : List ℕ) (tree : QueryTree)
    → IsFrontOf query files 65537 bytes → IsQueryText bytes tree → GotQuery query files tree
query_got query None bytes tree front is = tt
query_got query (Some fs) bytes tree front is = record {
  tokens = is.tokens;
  spelled = record { text = front.text; there = front.there; has = whole_tokens bytes front.text is.tokens front.front is.spelled };
  read = is.read;
}

pub query_stopped : (query : List ℕ) (files : Option Files) (bytes : List ℕ) (h : InputError)
    → IsFrontOf query files 65537 bytes → StopsQuery bytes h → HasQueryCause query files h
query_stopped query files bytes (error.Refused (refused.NoFile n)) front stop = absurd stop
query_stopped query None bytes (error.Refused (refused.Lex r)) front stop = λ fields shards. (tt, tt)
query_stopped query (Some fs) bytes (error.Refused (refused.Lex r)) front stop = λ fields shards.
    (tt, run.not_spelled front.text front.there r (tokens_front bytes front.text r front.front stop))
query_stopped query None bytes (error.Refused (refused.Parse r)) front stop = λ fields shards. (tt, tt)
query_stopped query (Some fs) bytes (error.Refused (refused.Parse r)) front stop = λ fields shards. (
  tt,
  run.not_read stop.0
      (record { text = front.text; there = front.there; has = whole_tokens bytes front.text stop.0 front.front stop.1 })
      r stop.2,
)
query_stopped query files bytes (error.Refused (refused.Mapping r)) front stop = absurd stop
query_stopped query files bytes (error.Refused (refused.Broken r)) front stop = absurd stop
query_stopped query files bytes (error.Read n) front stop = absurd stop
query_stopped query files bytes error.Memory front stop = λ fields shards. tt

-- what has no tokens, or is no query by its tokens, is no query
pub spelling_stops : (text : List ℕ) (h : InputError) → StopsSpelling text h → StopsQuery text h
spelling_stops text (error.Refused (refused.NoFile n)) stop = absurd stop
spelling_stops text (error.Refused (refused.Lex r)) stop = stop
spelling_stops text (error.Refused (refused.Parse r)) stop = absurd stop
spelling_stops text (error.Refused (refused.Mapping r)) stop = absurd stop
spelling_stops text (error.Refused (refused.Broken r)) stop = absurd stop
spelling_stops text (error.Read n) stop = absurd stop
spelling_stops text error.Memory stop = tt

pub parsing_stops : (text : List ℕ) (tokens : List Token) (h : InputError) → HasTokens text tokens → StopsParsing tokens h
    → StopsQuery text h
parsing_stops text tokens (error.Refused (refused.NoFile n)) has stop = absurd stop
parsing_stops text tokens (error.Refused (refused.Lex r)) has stop = absurd stop
parsing_stops text tokens (error.Refused (refused.Parse r)) has stop = (tokens, has, stop)
parsing_stops text tokens (error.Refused (refused.Mapping r)) has stop = absurd stop
parsing_stops text tokens (error.Refused (refused.Broken r)) has stop = absurd stop
parsing_stops text tokens (error.Read n) has stop = absurd stop
parsing_stops text tokens error.Memory has stop = tt

-- the mapping
fields_rule : (query fields : List ℕ) (shards : List (List ℕ)) (files : Option Files) (tree : QueryTree)
    → GotQuery query files tree
    → IfSome files (λ fs. file_named fields fs ≡ None → Refuses (naming query fields shards) fs (run.no_file fields))
fields_rule query fields shards None tree got = tt
fields_rule query fields shards (Some fs) tree got = λ none. run.no_fields tree got none

fields_reached : (query fields : List ℕ) (shards : List (List ℕ)) (files : Option Files) (tree : QueryTree)
    → GotQuery query files tree → IfSome files (λ fs. Reaches (naming query fields shards) fs fields)
fields_reached query fields shards None tree got = tt
fields_reached query fields shards (Some fs) tree got = way.fields_file tree got

pub mapping_unread : (fields : List ℕ) (files : Option Files) (h : InputError)
    → StopsReading fields (IsMissing fields files) h → HasMappingCause fields files h
mapping_unread fields files h stop = λ query shards tree got.
    unread_cause (naming query fields shards) fields files h (inr (inl refl)) stop
    (fields_rule query fields shards files tree got) (fields_reached query fields shards files tree got)

-- a text with too many bytes is no mapping, whatever they are
long_mapping : (text : List ℕ) → 4194304 < length text → mapping_of text ≡ Err map_refused.MapLong
long_mapping text long =
    ap (λ b. cond b (Err map_refused.MapLong) (mapping_if (json_of text))) (lt-ltb 4194304 (length text) long)

mapping_front : (bytes text : List ℕ) → bytes ≡ take 4194305 text → mapping_of bytes ≡ mapping_of text
mapping_front bytes text front = by (cases_lt 4194304 (length bytes))
  where
    by : (4194304 < length bytes) ⊎ (length bytes ≤ 4194304) → mapping_of bytes ≡ mapping_of text
    by (inl long) =
        let longer : 4194304 < length text = omega (arith, long, ap length front, length-take 4194305 text) in
        long_mapping bytes long ∙ sym (long_mapping text longer)
    by (inr few) = ap mapping_of (front_whole 4194305 4194304 bytes text (omega arith) front few)

pub mapping_got : (fields : List ℕ) (files : Option Files) (bytes : List ℕ) (mapping : List (List ℕ × Kind))
    → IsFrontOf fields files 4194305 bytes → mapping_of bytes ≡ Ok mapping → GotMapping fields files mapping
mapping_got fields None bytes mapping front is = tt
mapping_got fields (Some fs) bytes mapping front is = record {
  text = front.text;
  there = front.there;
  is_mapping = sym (mapping_front bytes front.text front.front) ∙ is;
}

pub mapping_stopped : (fields : List ℕ) (files : Option Files) (bytes : List ℕ) (h : InputError)
    → IsFrontOf fields files 4194305 bytes → StopsMapping bytes h → HasMappingCause fields files h
mapping_stopped fields files bytes (error.Refused (refused.NoFile n)) front stop = absurd stop
mapping_stopped fields files bytes (error.Refused (refused.Lex r)) front stop = absurd stop
mapping_stopped fields files bytes (error.Refused (refused.Parse r)) front stop = absurd stop
mapping_stopped fields None bytes (error.Refused (refused.Mapping r)) front stop = λ query shards tree got. (tt, tt)
mapping_stopped fields (Some fs) bytes (error.Refused (refused.Mapping r)) front stop = λ query shards tree got.
    (tt, run.bad_mapping tree got front.text front.there r (sym (mapping_front bytes front.text front.front) ∙ stop))
mapping_stopped fields files bytes (error.Refused (refused.Broken r)) front stop = absurd stop
mapping_stopped fields files bytes (error.Read n) front stop = absurd stop
mapping_stopped fields files bytes error.Memory front stop = λ query shards tree got. tt

pub stopped_mapping : (text : List ℕ) (r : MapRefused) → Reads (Err r) (mapping_of text)
    → StopsMapping text (error_of_map r)
stopped_mapping text map_refused.MapLong reads = sym reads
stopped_mapping text map_refused.MapSyntax reads = sym reads
stopped_mapping text map_refused.MapMany reads = sym reads
stopped_mapping text (map_refused.MapKind name) reads = sym reads
stopped_mapping text map_refused.Memory reads = tt

-- what is read later, of a shelf that keeps its files
pub mapping_then : (query fields : List ℕ) (files later : Option Files) (tree : QueryTree) (h : InputError) → later ≡ files
    → GotQuery query files tree → HasMappingCause fields later h → HasCheckCause query fields files h
mapping_then query fields files later tree h kept got cause = λ shards.
    (subst (λ (x : Option Files). HasMappingCause fields x h) kept cause) query shards tree got

-- the check
pub checked_got : (query fields : List ℕ) (files later : Option Files) (tree other : QueryTree)
    (mapping beside : List (List ℕ × Kind)) → later ≡ files → GotQuery query files tree → GotMapping fields later mapping
    → IsChecked (kind_at mapping) tree → other ≡ tree → beside ≡ mapping → GotChecked query fields files other beside
checked_got query fields None later tree other mapping beside kept got has checked same alike = tt
checked_got query fields (Some fs) later tree other mapping beside kept got has checked same alike =
    let had = subst (λ (x : Option Files). GotMapping fields x mapping) kept has in
    let whole : HasChecked query fields fs tree mapping =
    record { both = record { query_there = got; mapping_there = had }; checked = checked } in
    subst (λ (t : QueryTree). HasChecked query fields fs t beside) (sym same)
    (subst (λ (m : List (List ℕ × Kind)). HasChecked query fields fs tree m) (sym alike) whole)

pub check_stopped : (query fields : List ℕ) (files later : Option Files) (tree : QueryTree)
    (mapping : List (List ℕ × Kind)) (h : InputError) → later ≡ files → GotQuery query files tree
    → GotMapping fields later mapping → StopsChecking mapping tree h → HasCheckCause query fields files h
check_stopped query fields files later tree mapping (error.Refused (refused.NoFile n)) kept got has stop = absurd stop
check_stopped query fields files later tree mapping (error.Refused (refused.Lex r)) kept got has stop = absurd stop
check_stopped query fields files later tree mapping (error.Refused (refused.Parse r)) kept got has stop = absurd stop
check_stopped query fields files later tree mapping (error.Refused (refused.Mapping r)) kept got has stop = absurd stop
check_stopped query fields None later tree mapping (error.Refused (refused.Broken r)) kept got has stop = λ shards. (tt, tt)
check_stopped query fields (Some fs) later tree mapping (error.Refused (refused.Broken r)) kept got has stop = λ shards.
    let had = subst (λ (x : Option Files). GotMapping fields x mapping) kept has in
    (tt, run.is_broken tree mapping (record { query_there = got; mapping_there = had }) r stop)
check_stopped query fields files later tree mapping (error.Read n) kept got has stop = absurd stop
check_stopped query fields files later tree mapping error.Memory kept got has stop = λ shards. tt

pub stopped_checking : (mapping : List (List ℕ × Kind)) (tree : QueryTree) (r : CheckRefused)
    → (r ≢ check_memory → first_broken (kind_at mapping) tree ≡ Some r)
    → StopsChecking mapping tree (error_of_check r)
stopped_checking mapping tree (check_refused.UnknownField name) cause = cause (λ is. cc)
stopped_checking mapping tree (check_refused.UnknownFunction name) cause = cause (λ is. cc)
stopped_checking mapping tree (check_refused.Arity name) cause = cause (λ is. cc)
stopped_checking mapping tree (check_refused.KindMismatch item) cause = cause (λ is. cc)
stopped_checking mapping tree (check_refused.FieldToField item) cause = cause (λ is. cc)
stopped_checking mapping tree (check_refused.KeyCount item) cause = cause (λ is. cc)
stopped_checking mapping tree (check_refused.KeyKind item) cause = cause (λ is. cc)
stopped_checking mapping tree check_refused.FewStages cause = cause (λ is. cc)
stopped_checking mapping tree (check_refused.Runs count) cause = cause (λ is. cc)
stopped_checking mapping tree (check_refused.ManyStages count) cause = cause (λ is. cc)
stopped_checking mapping tree (check_refused.ManyKeys count) cause = cause (λ is. cc)
stopped_checking mapping tree (check_refused.ManyFields count) cause = cause (λ is. cc)
stopped_checking mapping tree check_refused.Span cause = cause (λ is. cc)
stopped_checking mapping tree check_refused.Pipe cause = cause (λ is. cc)
stopped_checking mapping tree (check_refused.Cidr text) cause = cause (λ is. cc)
stopped_checking mapping tree check_refused.Memory cause = tt

-- a error that tells of no file
abbrev pub IsOfText : InputError → Type 0
IsOfText (error.Refused (refused.NoFile n)) = ⊥
IsOfText (error.Refused (refused.Lex r)) = Unit {0}
IsOfText (error.Refused (refused.Parse r)) = Unit {0}
IsOfText (error.Refused (refused.Mapping r)) = Unit {0}
IsOfText (error.Refused (refused.Broken r)) = Unit {0}
IsOfText (error.Read n) = ⊥
IsOfText error.Memory = Unit {0}

pub query_calm : (text : List ℕ) (h : InputError) → StopsQuery text h → IsOfText h
query_calm text (error.Refused (refused.NoFile n)) stop = absurd stop
query_calm text (error.Refused (refused.Lex r)) stop = tt
query_calm text (error.Refused (refused.Parse r)) stop = tt
query_calm text (error.Refused (refused.Mapping r)) stop = absurd stop
query_calm text (error.Refused (refused.Broken r)) stop = absurd stop
query_calm text (error.Read n) stop = absurd stop
query_calm text error.Memory stop = tt

pub mapping_calm : (text : List ℕ) (h : InputError) → StopsMapping text h → IsOfText h
mapping_calm text (error.Refused (refused.NoFile n)) stop = absurd stop
mapping_calm text (error.Refused (refused.Lex r)) stop = absurd stop
mapping_calm text (error.Refused (refused.Parse r)) stop = absurd stop
mapping_calm text (error.Refused (refused.Mapping r)) stop = tt
mapping_calm text (error.Refused (refused.Broken r)) stop = absurd stop
mapping_calm text (error.Read n) stop = absurd stop
mapping_calm text error.Memory stop = tt

pub check_calm : (mapping : List (List ℕ × Kind)) (tree : QueryTree) (h : InputError) → StopsChecking mapping tree h
    → IsOfText h
check_calm mapping tree (error.Refused (refused.NoFile n)) stop = absurd stop
check_calm mapping tree (error.Refused (refused.Lex r)) stop = absurd stop
check_calm mapping tree (error.Refused (refused.Parse r)) stop = absurd stop
check_calm mapping tree (error.Refused (refused.Mapping r)) stop = absurd stop
check_calm mapping tree (error.Refused (refused.Broken r)) stop = tt
check_calm mapping tree (error.Read n) stop = absurd stop
check_calm mapping tree error.Memory stop = tt

-- faults stay, whatever is returned of a text
calm_faults : (h : InputError) (a b : List ℕ → ℕ) → IsOfText h → FaultsAreSame a b → FaultsFollow h a b
calm_faults (error.Refused r) a b calm same = same
calm_faults (error.Read n) a b calm same = absurd calm
calm_faults error.Memory a b calm same = same

calm_count : (h : InputError) (a b : ℕ) → IsOfText h → b ≡ a → CountFollows h a b
calm_count (error.Refused r) a b calm same = same
calm_count (error.Read n) a b calm same = absurd calm
calm_count error.Memory a b calm same = same

calm_absence : (h : InputError) (a b : ℕ) → IsOfText h → b ≡ a → AbsencesFollow h a b
calm_absence (error.Refused (refused.NoFile n)) a b calm same = absurd calm
calm_absence (error.Refused (refused.Lex r)) a b calm same = same
calm_absence (error.Refused (refused.Parse r)) a b calm same = same
calm_absence (error.Refused (refused.Mapping r)) a b calm same = same
calm_absence (error.Refused (refused.Broken r)) a b calm same = same
calm_absence (error.Read n) a b calm same = absurd calm
calm_absence error.Memory a b calm same = same

calm_no_fault : (h : InputError) → IsOfText h → IsNoFault h
calm_no_fault (error.Refused r) calm = tt
calm_no_fault (error.Read n) calm = absurd calm
calm_no_fault error.Memory calm = tt

pub text_no_fault : {T : Type 0} (r : Result T InputError) → IfErr r IsOfText → IfErr r IsNoFault
text_no_fault (Ok x) calm = tt
text_no_fault (Err h) calm = calm_no_fault h calm

pub text_faults : {T : Type 0} (r : Result T InputError) (a b : List ℕ → ℕ) → IfErr r IsOfText → FaultsAreSame a b
    → MatchResult r (λ _. FaultsAreSame a b) (λ h. FaultsFollow h a b)
text_faults (Ok x) a b calm same = same
text_faults (Err h) a b calm same = calm_faults h a b calm same

pub text_count : {T : Type 0} (r : Result T InputError) (a b : ℕ) → IfErr r IsOfText → b ≡ a
    → MatchResult r (λ _. b ≡ a) (λ h. CountFollows h a b)
text_count (Ok x) a b calm same = same
text_count (Err h) a b calm same = calm_count h a b calm same

pub text_absence : {T : Type 0} (r : Result T InputError) (a b : ℕ) → IfErr r IsOfText → b ≡ a
    → MatchResult r (λ _. b ≡ a) (λ h. AbsencesFollow h a b)
text_absence (Ok x) a b calm same = same
text_absence (Err h) a b calm same = calm_absence h a b calm same

-- a call in which no count changes, before another
pub same_later : (a b c : List ℕ → ℕ) → FaultsAreSame a b → FaultsAreSame b c → FaultsAreSame a c
same_later a b c first then = λ name. then name ∙ first name

pub rose_later : (name : List ℕ) (a b c : List ℕ → ℕ) → FaultsAreSame a b → RoseFor name b c → RoseFor name a c
rose_later name a b c same rose = record {
  rose = subst (λ (n : ℕ). Rose n (c name)) (same name) rose.rose;
  others = λ other differ. rose.others other differ ∙ same other;
  counts = λ any. subst (λ (n : ℕ). n ≤ c any) (same any) (rose.counts any);
}

pub faults_later : (h : InputError) (a b c : List ℕ → ℕ) → FaultsAreSame a b → FaultsFollow h b c → FaultsFollow h a c
faults_later (error.Refused r) a b c first then = same_later a b c first then
faults_later (error.Read n) a b c first then = rose_later n.now a b c first then
faults_later error.Memory a b c first then = same_later a b c first then

pub count_later : (h : InputError) (a b c : ℕ) → b ≡ a → CountFollows h b c → CountFollows h a c
count_later h a b c first then = subst (λ (n : ℕ). CountFollows h n c) first then

pub absence_later : (h : InputError) (a b c : ℕ) → b ≡ a → AbsencesFollow h b c → AbsencesFollow h a c
absence_later h a b c first then = subst (λ (n : ℕ). AbsencesFollow h n c) first then
