-- The files that a command names, and what they hold.
use Rattle.std.specs.Prelude.{◌≡◌, ◌≤◌, ◌<◌, ℕ, Bool, List, [], ◌∷◌, length, Option, Some, Ok, is_none}
use Rattle.std.specs.List.{find}
use Rattle.std.specs.Str.{IsUtf8}
use Rattle.eql_values.specs.declared.value.Kind.{Kind}
use Rattle.eql_values.specs.Lines.{lines_of}
use Rattle.eql_outside.specs.Outside.{file_named}
use Rattle.eql_laws.specs.Counting.{greatest_lines, greatest_bytes}
use Rattle.eql_lexer.specs.declared.token.Token.{Token}
use Rattle.eql_lexer.specs.declared.refusal.Rule.{Rule}
use Rattle.eql_lexer.specs.declared.refusal.LexRefused.{LexRefused}
use Rattle.eql_lexer.specs.declared.refusal.LexRefused.TheVariants as lexed
use Rattle.eql_lexer.specs.Spelling.{Spells}
use Rattle.eql_lexer.specs.Refusing.{BreaksAt, refusal_of}
use Rattle.eql_parser.specs.declared.refusal.ParseRefused.{ParseRefused}
use Rattle.eql_query.specs.QueryTree.{QueryTree}
use Rattle.eql_parser.specs.QueryGrammar.{IsQuery}
use Rattle.eql_parser.specs.Limits.{levels, OpensAtMost}
use Rattle.eql_parser.specs.Refusing.{RefusesTokens, IsMemory}
use Rattle.eql_check.specs.Kinds.{kind_at}
use Rattle.eql_check.specs.Mappings.{mapping_of}
use Rattle.eql_check.specs.Typing.{IsChecked}

-- the names and bytes of the files of a shelf
abbrev pub Files : Type 0
Files = List (List ℕ × List ℕ)

-- no file has this name
abbrev pub is_missing : Files → List ℕ → Bool
is_missing files name = is_none (file_named name files)

-- of the names the first that no file has
abbrev pub first_missing : Files → List (List ℕ) → Option (List ℕ)
first_missing files names = find (is_missing files) names

-- a text of at most 65,536 bytes, in UTF-8, spells these tokens
pub record HasTokens (text : List ℕ) (tokens : List Token) : Type 0 where
  pub short : length text ≤ 65536
  pub utf8 : IsUtf8 text
  pub spells : Spells text tokens

-- why a text has no tokens: it is too long, or it isn't UTF-8, or it breaks a rule of tokens at a
-- place
pub data HasNoTokens (text : List ℕ) : LexRefused → Type 0 where
  too_long : 65536 < length text → HasNoTokens text lexed.TooLong
  not_utf8 : length text ≤ 65536 → ¬ (IsUtf8 text) → HasNoTokens text lexed.NotUtf8
  breaks :
      length text ≤ 65536 → IsUtf8 text → (rule : Rule) (at : ℕ) → BreaksAt text rule at
      → HasNoTokens text (refusal_of rule at)

-- the tokens are this query, which has at most 64 levels, and in them at most 128 parentheses stand
-- open
pub record ReadsAs (tokens : List Token) (query : QueryTree) : Type 0 where
  pub is_query : IsQuery tokens query
  pub shallow : levels query ≤ 64
  pub few_open : OpensAtMost 128 tokens

-- why tokens are no query within these limits
abbrev pub IsNotRead : List Token → ParseRefused → Type 0
IsNotRead tokens r = RefusesTokens tokens r × ¬ (IsMemory r)

-- the query file of this name is there, and its text spells these tokens
pub record HasQueryTokens (name : List ℕ) (files : Files) (tokens : List Token) : Type 0 where
  pub text : List ℕ
  pub there : file_named name files ≡ Some text
  pub has : HasTokens text tokens

-- the query file of this name is there and is this query
pub record HasQuery (name : List ℕ) (files : Files) (query : QueryTree) : Type 0 where
  pub tokens : List Token
  pub spelled : HasQueryTokens name files tokens
  pub read : ReadsAs tokens query

-- the fields file of this name is there and is this mapping
pub record HasMapping (name : List ℕ) (files : Files) (mapping : List (List ℕ × Kind)) : Type 0 where
  pub text : List ℕ
  pub there : file_named name files ≡ Some text
  pub is_mapping : mapping_of text ≡ Ok mapping

-- the query and the mapping of these names are there, and these
pub record HasBoth (query_name fields_name : List ℕ) (files : Files) (query : QueryTree)
    (mapping : List (List ℕ × Kind)) : Type 0 where
  pub query_there : HasQuery query_name files query
  pub mapping_there : HasMapping fields_name files mapping

-- and the query is checked against the mapping
pub record HasChecked (query_name fields_name : List ℕ) (files : Files) (query : QueryTree)
    (mapping : List (List ℕ × Kind)) : Type 0 where
  pub both : HasBoth query_name fields_name files query mapping
  pub checked : IsChecked (kind_at mapping) query

-- the files of these names are there with these texts
abbrev pub HasTexts : List (List ℕ) → Files → List (List ℕ) → Type 0
HasTexts [] files [] = Unit {0}
HasTexts [] files (text ∷ texts) = ⊥
HasTexts (name ∷ names) files [] = ⊥
HasTexts (name ∷ names) files (text ∷ texts) =
    (file_named name files ≡ Some text) × HasTexts names files texts

-- a shard that a run can read to its end
pub record IsWithin (text : List ℕ) : Type 0 where
  pub lines : length (lines_of text) ≤ greatest_lines
  pub bytes : length text < greatest_bytes
