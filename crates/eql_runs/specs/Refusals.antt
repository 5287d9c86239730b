-- Why a run is refused by its words and files, in the order in which the causes count.
use Rattle.std.specs.Prelude.{◌≡◌, ◌++◌, ℕ, List, Some, None, Err, codes, encode_utf8_all}
use Rattle.std.specs.Str.{chars}
use Rattle.eql_values.specs.declared.value.Kind.{Kind}
use Rattle.eql_values.specs.Shown.{shown_text}
use Rattle.eql_outside.specs.Outside.{file_named}
use Rattle.eql_lexer.specs.declared.token.Token.{Token}
use Rattle.eql_lexer.specs.declared.refusal.LexRefused.{LexRefused}
use Rattle.eql_lexer.specs.Messages as lexing
use Rattle.eql_parser.specs.declared.refusal.ParseRefused.{ParseRefused}
use Rattle.eql_query.specs.QueryTree.{QueryTree}
use Rattle.eql_parser.specs.Messages as parsing
use Rattle.eql_check.specs.declared.mapping.MapRefused.{MapRefused}
use Rattle.eql_check.specs.declared.refused.CheckRefused.{CheckRefused}
use Rattle.eql_check.specs.Kinds.{kind_at}
use Rattle.eql_check.specs.Mappings.{mapping_of}
use Rattle.eql_check.specs.Messages.{map_message, check_message}
use Rattle.eql_check.specs.Rules.{first_broken}
use Rattle.eql_runs.specs.CutRefusals.{CutRefusal, cut_text}
use Rattle.eql_runs.specs.Files.{Files, first_missing, HasQueryTokens, HasNoTokens, IsNotRead, HasQuery, HasBoth, HasChecked}

-- the files that a command names: its query, its mapping, and its shards in their order
pub record Names : Type 0 where
  pub query : List ℕ
  pub fields : List ℕ
  pub shards : List (List ℕ)

-- why words, files, and what a checkpoint's disk holds are refused
pub data Refusal : Type 0 where
  no_file : List ℕ → Refusal
  lex : LexRefused → Refusal
  parse : ParseRefused → Refusal
  mapping : MapRefused → Refusal
  broken : CheckRefused → Refusal
  cut : CutRefusal → Refusal

-- the files of these names are refused for this cause: of all causes that there are, the first in
-- the order of the constructors
pub data Refuses (names : Names) (files : Files) : Refusal → Type 0 where
  no_query : file_named names.query files ≡ None → Refuses names files (no_file names.query)
  not_spelled :
      (text : List ℕ) → file_named names.query files ≡ Some text → (r : LexRefused)
      → HasNoTokens text r → Refuses names files (lex r)
  not_read :
      (tokens : List Token) → HasQueryTokens names.query files tokens → (r : ParseRefused)
      → IsNotRead tokens r → Refuses names files (parse r)
  no_fields :
      (q : QueryTree) → HasQuery names.query files q → file_named names.fields files ≡ None
      → Refuses names files (no_file names.fields)
  bad_mapping :
      (q : QueryTree) → HasQuery names.query files q → (text : List ℕ)
      → file_named names.fields files ≡ Some text → (r : MapRefused) → mapping_of text ≡ Err r
      → Refuses names files (mapping r)
  is_broken :
      (q : QueryTree) (kinds : List (List ℕ × Kind)) → HasBoth names.query names.fields files q kinds
      → (r : CheckRefused) → first_broken (kind_at kinds) q ≡ Some r
      → Refuses names files (broken r)
  no_shard :
      (q : QueryTree) (kinds : List (List ℕ × Kind))
      → HasChecked names.query names.fields files q kinds → (name : List ℕ)
      → first_missing files names.shards ≡ Some name → Refuses names files (no_file name)

-- the status of a refusal: 1 where a file isn't there, 7 by a cut, else 3
abbrev pub refusal_status : Refusal → ℕ
refusal_status (no_file name) = 1
refusal_status (cut r) = 7
refusal_status _ = 3

-- a name as it is printed
abbrev pub printed_name : List ℕ → List ℕ
printed_name name = encode_utf8_all (shown_text (chars name))

-- the line that is told of a refusal
abbrev pub refusal_text : Refusal → List ℕ
refusal_text (no_file name) = codes "no file " ++ printed_name name ++ codes "\n"
refusal_text (lex r) = lexing.message r ++ codes "\n"
refusal_text (parse r) = parsing.message r ++ codes "\n"
refusal_text (mapping r) = map_message r ++ codes "\n"
refusal_text (broken r) = check_message r ++ codes "\n"
refusal_text (cut r) = cut_text r
