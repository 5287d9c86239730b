-- Whatever the files of a command are, they are refused for a cause, or all there and checked.
use Rattle.std.proofs.Common.{◌≡◌, ℕ, ◌<◌, ◌≤◌, ◌⊎◌, inl, inr, List, [], ◌∷◌, true, false, Option, Some, None, refl, ap, sym, ◌∙◌, length}
use Rattle.std.specs.Prelude.{cond, is_none, Result, Ok, Err}
use Rattle.std.specs.Str.{IsUtf8, is_utf8}
use Rattle.std.proofs.lemmas.Bool.{cases_lt, cases_Bool, false≢true}
use Rattle.std.proofs.lemmas.Str.{IsUtf8-from_is_utf8, is_utf8-from_IsUtf8}
use Rattle.std.proofs.lemmas.Option.{none-some}
use Rattle.eql_values.specs.declared.value.Kind.{Kind as FieldKind}
use Rattle.eql_outside.specs.Outside.{file_named}
use Rattle.eql_lexer.specs.declared.token.Token.{Token}
use Rattle.eql_lexer.specs.declared.refusal.Rule.{Rule}
use Rattle.eql_lexer.specs.declared.refusal.LexRefused.{LexRefused}
use Rattle.eql_lexer.specs.declared.refusal.LexRefused.TheVariants as lexed
use Rattle.eql_lexer.specs.Spelling.{Spells}
use Rattle.eql_lexer.specs.Refusing.{BreaksAt, refusal_of}
use Rattle.eql_parser.specs.declared.refusal.ParseRefused.{ParseRefused}
use Rattle.eql_parser.specs.Limits.{levels, OpensAtMost}
use Rattle.eql_parser.specs.QueryGrammar.{IsQuery}
use Rattle.eql_query.specs.QueryTree.{QueryTree}
use Rattle.eql_parser.specs.Refusing.{IsMemory, RefusesTokens}
use Rattle.eql_check.specs.Kinds.{kind_at}
use Rattle.eql_check.specs.Mappings.{mapping_of}
use Rattle.eql_check.specs.Rules.{first_broken}
use Rattle.eql_check.specs.Typing.{CheckIsExact}
use Rattle.eql_runs.specs.Files.{Files, first_missing, HasTokens, HasNoTokens, too_long, not_utf8, breaks, HasQueryTokens, HasQuery, HasMapping, HasChecked, HasTexts}
use Rattle.eql_runs.specs.Refusals.{Names, Refusal, Refuses, no_file, no_query, not_spelled, not_read, no_fields, bad_mapping, is_broken, no_shard}
use Rattle.eql_runs.specs.Refusals as run

-- a text spells tokens, or it breaks a rule of tokens
abbrev SpelledOrBroken : List ℕ → Type 0
SpelledOrBroken text = ((ts : List Token) × Spells text ts) ⊎ ((r : Rule) × (at : ℕ) × BreaksAt text r at)

-- tokens are a query within the limits, or have the cause of a refusal other than want of memory
abbrev QueryOrRefused : List Token → Type 0
QueryOrRefused tokens =
    ((q : QueryTree) × IsQuery tokens q × (levels q ≤ 64) × OpensAtMost 128 tokens)
    ⊎ ((r : ParseRefused) × (IsMemory r → ⊥) × RefusesTokens tokens r)

-- the laws on which this rests
pub record CoverLaws : Type 0 where
  pub spelled : (text : List ℕ) → SpelledOrBroken text
  pub read : (tokens : List Token) → QueryOrRefused tokens
  pub exact : CheckIsExact

-- an option is none or some, and a result one of two
abbrev pub NoneOrSome : {A : Type 0} → Option A → Type 0
NoneOrSome {A} o = (o ≡ None) ⊎ ((x : A) × (o ≡ Some x))

pub none_or_some : {A : Type 0} (o : Option A) → NoneOrSome o
none_or_some None = inl refl
none_or_some (Some x) = inr (x, refl)

abbrev OkOrErr : {A B : Type 0} → Result A B → Type 0
OkOrErr {A} {B} r = ((x : A) × (r ≡ Ok x)) ⊎ ((e : B) × (r ≡ Err e))

ok_or_err : {A B : Type 0} (r : Result A B) → OkOrErr r
ok_or_err (Ok x) = inl (x, refl)
ok_or_err (Err e) = inr (e, refl)

-- a text has tokens, or none for a cause
abbrev TokensOrNot : List ℕ → Type 0
TokensOrNot text = ((ts : List Token) × HasTokens text ts) ⊎ ((r : LexRefused) × HasNoTokens text r)

by_rules : (text : List ℕ) → length text ≤ 65536 → IsUtf8 text → SpelledOrBroken text → TokensOrNot text
by_rules text short utf8 (inl h) = inl (h.0, record { short = short; utf8 = utf8; spells = h.1 })
by_rules text short utf8 (inr h) = inr (refusal_of h.0 h.1, breaks short utf8 h.0 h.1 h.2)

by_bytes : (laws : CoverLaws) (text : List ℕ) → length text ≤ 65536
    → (is_utf8 text ≡ true) ⊎ (is_utf8 text ≡ false) → TokensOrNot text
by_bytes laws text short (inl is) = by_rules text short (IsUtf8-from_is_utf8 text is) (laws.spelled text)
by_bytes laws text short (inr none) =
    inr (lexed.NotUtf8, not_utf8 short (λ utf8. false≢true (sym none ∙ is_utf8-from_IsUtf8 text utf8)))

by_length : (laws : CoverLaws) (text : List ℕ) → (65536 < length text) ⊎ (length text ≤ 65536) → TokensOrNot text
by_length laws text (inl long) = inr (lexed.TooLong, too_long long)
by_length laws text (inr short) = by_bytes laws text short (cases_Bool (is_utf8 text))

tokens_or_not : (laws : CoverLaws) (text : List ℕ) → TokensOrNot text
tokens_or_not laws text = by_length laws text (cases_lt 65536 (length text))

-- where none of these files is missing, the first is there, and none of the others is missing
one_there : (files : Files) (name : List ℕ) (names : List (List ℕ)) (text : List ℕ) → file_named name files ≡ Some text
    → first_missing files (name ∷ names) ≡ None → first_missing files names ≡ None
one_there files name names text is none =
    sym (ap (λ o. cond (is_none o) (Some name) (first_missing files names)) is) ∙ none

one_missing : (files : Files) (name : List ℕ) (names : List (List ℕ)) → file_named name files ≡ None
    → first_missing files (name ∷ names) ≡ None → ⊥
one_missing files name names is none =
    none-some name (sym none ∙ ap (λ o. cond (is_none o) (Some name) (first_missing files names)) is)

-- the texts of files
abbrev pub TheTexts : Files → List (List ℕ) → Type 0
TheTexts files names = (texts : List (List ℕ)) × HasTexts names files texts

text_there : (files : Files) (name : List ℕ) (names : List (List ℕ)) → first_missing files (name ∷ names) ≡ None
    → NoneOrSome (file_named name files) → (first_missing files names ≡ None → TheTexts files names)
    → TheTexts files (name ∷ names)
text_there files name names none (inl gone) rest = absurd (one_missing files name names gone none)
text_there files name names none (inr h) rest =
    let others = rest (one_there files name names h.0 h.1 none) in
    (h.0 ∷ others.0, (h.1, others.1))

pub texts_there : (files : Files) (names : List (List ℕ)) → first_missing files names ≡ None → TheTexts files names
texts_there files [] none = ([], tt)
texts_there files (name ∷ names) none =
    text_there files name names none (none_or_some (file_named name files)) (texts_there files names)

-- the files are all there and checked
pub record HasAll (names : Names) (files : Files) : Type 0 where
  pub tree : QueryTree
  pub kinds : List (List ℕ × FieldKind)
  pub checked : HasChecked names.query names.fields files tree kinds
  pub shards : first_missing files names.shards ≡ None

-- files are refused, or all there and checked
abbrev pub AllOrRefused : Names → Files → Type 0
AllOrRefused names files = ((r : Refusal) × Refuses names files r) ⊎ HasAll names files

-- each file is tried in turn
module _ (laws : CoverLaws) (names : Names) (files : Files) where
  by_shards : (tree : QueryTree) (kinds : List (List ℕ × FieldKind)) → HasChecked names.query names.fields files tree kinds
      → NoneOrSome (first_missing files names.shards) → AllOrRefused names files
  by_shards tree kinds has (inl none) = inr (record { tree = tree; kinds = kinds; checked = has; shards = none })
  by_shards tree kinds has (inr h) = inl (no_file h.0, no_shard tree kinds has h.0 h.1)

  by_check : (tree : QueryTree) (kinds : List (List ℕ × FieldKind)) → HasQuery names.query files tree
      → HasMapping names.fields files kinds
      → NoneOrSome (first_broken (kind_at kinds) tree) → AllOrRefused names files
  by_check tree kinds query mapping (inl none) =
      by_shards tree kinds
      (record {
        both = record { query_there = query; mapping_there = mapping };
        checked = (laws.exact (kind_at kinds) tree).0 none;
      })
      (none_or_some (first_missing files names.shards))
  by_check tree kinds query mapping (inr h) =
      inl (run.broken h.0, is_broken tree kinds (record { query_there = query; mapping_there = mapping }) h.0 h.1)

  by_mapping : (tree : QueryTree) → HasQuery names.query files tree → (text : List ℕ)
      → file_named names.fields files ≡ Some text
      → OkOrErr (mapping_of text) → AllOrRefused names files
  by_mapping tree query text there (inl h) =
      by_check tree h.0 query (record { text = text; there = there; is_mapping = h.1 })
      (none_or_some (first_broken (kind_at h.0) tree))
  by_mapping tree query text there (inr h) = inl (run.mapping h.0, bad_mapping tree query text there h.0 h.1)

  by_fields : (tree : QueryTree) → HasQuery names.query files tree
      → NoneOrSome (file_named names.fields files) → AllOrRefused names files
  by_fields tree query (inl none) = inl (no_file names.fields, no_fields tree query none)
  by_fields tree query (inr h) = by_mapping tree query h.0 h.1 (ok_or_err (mapping_of h.0))

  by_tokens : (tokens : List Token) → HasQueryTokens names.query files tokens
      → QueryOrRefused tokens → AllOrRefused names files
  by_tokens tokens has (inl h) =
      by_fields h.0
      (record { tokens = tokens; spelled = has; read = record { is_query = h.1; shallow = h.2; few_open = h.3 } })
      (none_or_some (file_named names.fields files))
  by_tokens tokens has (inr h) = inl (run.parse h.0, not_read tokens has h.0 (h.2, h.1))

  by_text : (text : List ℕ) → file_named names.query files ≡ Some text
      → TokensOrNot text → AllOrRefused names files
  by_text text there (inl h) = by_tokens h.0 (record { text = text; there = there; has = h.1 }) (laws.read h.0)
  by_text text there (inr h) = inl (run.lex h.0, not_spelled text there h.0 h.1)

  by_query : NoneOrSome (file_named names.query files) → AllOrRefused names files
  by_query (inl none) = inl (no_file names.query, no_query none)
  by_query (inr h) = by_text h.0 h.1 (tokens_or_not laws h.0)

  pub all_or_refused : AllOrRefused names files
  all_or_refused = by_query (none_or_some (file_named names.query files))
