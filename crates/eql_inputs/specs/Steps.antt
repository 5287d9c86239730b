-- What the steps of reading a query and a mapping find.
use Rattle.std.specs.Prelude.{◌≡◌, ℕ, List, Option, Some, Err, IfSome}
use Rattle.eql_values.specs.declared.value.Kind.{Kind}
use Rattle.eql_lexer.specs.declared.token.Token.{Token}
use Rattle.eql_lexer.specs.declared.refusal.LexRefused.{LexRefused}
use Rattle.eql_lexer.specs.declared.refusal.LexRefused.TheVariants as lexed
use Rattle.eql_query.specs.QueryTree.{QueryTree}
use Rattle.eql_check.specs.declared.mapping.MapRefused.{MapRefused}
use Rattle.eql_check.specs.declared.mapping.MapRefused.TheVariants as map_refused
use Rattle.eql_check.specs.declared.refused.CheckRefused.{CheckRefused}
use Rattle.eql_check.specs.declared.refused.CheckRefused.TheVariants as check_refused
use Rattle.eql_check.specs.Kinds.{kind_at}
use Rattle.eql_check.specs.Mappings.{mapping_of}
use Rattle.eql_check.specs.Rules.{first_broken}
use Rattle.eql_runs.specs.Files.{Files, HasTokens, HasNoTokens, ReadsAs, IsNotRead, HasQuery, HasMapping, HasChecked}
use Rattle.eql_runs.specs.Refusals.{Names}
use Rattle.eql_inputs.specs.declared.error.Refused.TheVariants as refused
use Rattle.eql_inputs.specs.declared.error.InputError.{InputError}
use Rattle.eql_inputs.specs.declared.error.InputError.TheVariants as error
use Rattle.eql_inputs.specs.Errors.{HasInputCause}

-- a command that names these files
abbrev pub naming : (query fields : List ℕ) → (shards : List (List ℕ)) → Names
naming query fields shards = record { query = query; fields = fields; shards = shards }

-- where the shelf tells its files, these are what they hold
abbrev pub GotQuery : List ℕ → Option Files → QueryTree → Type 0
GotQuery query files tree = IfSome files (λ fs. HasQuery query fs tree)

abbrev pub GotMapping : List ℕ → Option Files → List (List ℕ × Kind) → Type 0
GotMapping fields files mapping = IfSome files (λ fs. HasMapping fields fs mapping)

abbrev pub GotChecked : (query fields : List ℕ) → Option Files → QueryTree → List (List ℕ × Kind) → Type 0
GotChecked query fields files tree mapping = IfSome files (λ fs. HasChecked query fields fs tree mapping)

-- the reading of the query stopped so, whatever else the command names
abbrev pub HasQueryCause : List ℕ → Option Files → InputError → Type 0
HasQueryCause query files h =
    (fields : List ℕ) (shards : List (List ℕ)) → HasInputCause (naming query fields shards) files h

-- the reading of the mapping stopped so, in a run whose query was read
abbrev pub HasMappingCause : List ℕ → Option Files → InputError → Type 0
HasMappingCause fields files h =
    (query : List ℕ) (shards : List (List ℕ)) (tree : QueryTree) → GotQuery query files tree
    → HasInputCause (naming query fields shards) files h

-- the reading of the query and the mapping stopped so, whatever shards the command names
abbrev pub HasCheckCause : (query fields : List ℕ) → Option Files → InputError → Type 0
HasCheckCause query fields files h =
    (shards : List (List ℕ)) → HasInputCause (naming query fields shards) files h

-- the reading of the file of this name stopped so; `missing` holds where the file isn't there
abbrev pub StopsReading : List ℕ → Type 0 → InputError → Type 0
StopsReading name missing (error.Refused (refused.NoFile n)) = (n.now ≡ name) × missing
StopsReading name missing (error.Refused (refused.Lex r)) = ⊥
StopsReading name missing (error.Refused (refused.Parse r)) = ⊥
StopsReading name missing (error.Refused (refused.Mapping r)) = ⊥
StopsReading name missing (error.Refused (refused.Broken r)) = ⊥
StopsReading name missing (error.Read n) = n.now ≡ name
StopsReading name missing error.Memory = Unit {0}

-- the error of a text that has no tokens
abbrev pub error_of_lex : LexRefused → InputError
error_of_lex lexed.Memory = error.Memory
error_of_lex r = error.Refused (refused.Lex r)

-- a text has no tokens, and a run stopped so
abbrev pub StopsSpelling : List ℕ → InputError → Type 0
StopsSpelling text (error.Refused (refused.Lex r)) = HasNoTokens text r
StopsSpelling text error.Memory = Unit {0}
StopsSpelling text _ = ⊥

-- tokens are no query, and a run stopped so
abbrev pub StopsParsing : List Token → InputError → Type 0
StopsParsing tokens (error.Refused (refused.Parse r)) = IsNotRead tokens r
StopsParsing tokens error.Memory = Unit {0}
StopsParsing tokens _ = ⊥

-- a text is this query
pub record IsQueryText (text : List ℕ) (tree : QueryTree) : Type 0 where
  pub tokens : List Token
  pub spelled : HasTokens text tokens
  pub read : ReadsAs tokens tree

-- a text is no query, and a run stopped so
abbrev pub StopsQuery : List ℕ → InputError → Type 0
StopsQuery text (error.Refused (refused.Lex r)) = HasNoTokens text r
StopsQuery text (error.Refused (refused.Parse r)) = (tokens : List Token) × HasTokens text tokens × IsNotRead tokens r
StopsQuery text error.Memory = Unit {0}
StopsQuery text _ = ⊥

-- the error of a text that is no mapping
abbrev pub error_of_map : MapRefused → InputError
error_of_map map_refused.Memory = error.Memory
error_of_map r = error.Refused (refused.Mapping r)

-- a text is no mapping, and a run stopped so
abbrev pub StopsMapping : List ℕ → InputError → Type 0
StopsMapping text (error.Refused (refused.Mapping r)) = mapping_of text ≡ Err r
StopsMapping text error.Memory = Unit {0}
StopsMapping text _ = ⊥

-- the error of a query that breaks a rule
abbrev pub error_of_check : CheckRefused → InputError
error_of_check check_refused.Memory = error.Memory
error_of_check r = error.Refused (refused.Broken r)

-- a query breaks a rule, and a run stopped so
abbrev pub StopsChecking : List (List ℕ × Kind) → QueryTree → InputError → Type 0
StopsChecking mapping tree (error.Refused (refused.Broken r)) = first_broken (kind_at mapping) tree ≡ Some r
StopsChecking mapping tree error.Memory = Unit {0}
StopsChecking mapping tree _ = ⊥
