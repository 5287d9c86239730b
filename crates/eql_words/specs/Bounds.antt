-- The bounds of what commands hold.
use Rattle.std.specs.Prelude.{◌≡◌, ◌≤◌, ℕ, true, List, length, Some, IfSome, is_some}
use Rattle.std.specs.List.{list_all}
use Rattle.std.specs.Str.{chars}
use Rattle.eql_words.specs.declared.commands.Command.{Command}
use Rattle.eql_words.specs.declared.commands.Command.TheVariants as command
use Rattle.eql_words.specs.declared.commands.Find.{Find}
use Rattle.eql_words.specs.declared.commands.Checkpoint.{Checkpoint}
use Rattle.eql_words.specs.Words.{Word, is_name}
use Rattle.eql_words.specs.Commands.{command_of}

-- a word isn't empty and isn't `-`
abbrev pub IsName : Word → Type 0
IsName word = is_name word ≡ true

-- the number lies between these two
abbrev pub LiesBetween : ℕ → ℕ → ℕ → Type 0
LiesBetween least most n = (least ≤ n) × (n ≤ most)

abbrev pub KeptIsBounded : Checkpoint → Type 0
KeptIsBounded kept = IsName kept.name × LiesBetween 1 1000000 kept.every

-- a search names its files and one to 256 shards, and each number lies in its range
pub record FindIsBounded (find : Find) : Type 0 where
  pub query : IsName find.query
  pub fields : IsName find.fields
  pub tie : IfSome find.tie (λ text. (word : Word) × IsName word × (text ≡ chars word))
  pub slack : IfSome find.slack (λ time. time ≤ 3153600000000)
  pub batch : LiesBetween 1 4096 find.batch
  pub hands : find.hands ≤ 16
  pub kept : IfSome find.checkpoint KeptIsBounded
  pub slack_too : is_some find.checkpoint ≡ true → is_some find.slack ≡ true
  pub count : LiesBetween 1 256 (length find.shards)
  pub shards : list_all is_name find.shards ≡ true

abbrev pub IsBounded : Command → Type 0
IsBounded (command.Find find) = FindIsBounded find
IsBounded (command.Check query fields) = IsName query × IsName fields
IsBounded (command.Made hands events) = (hands ≤ 16) × (events ≤ 1000000)

-- what words make lies within its bounds
abbrev pub CommandsAreBounded : Type 0
CommandsAreBounded = (words : List Word) (command : Command) → command_of words ≡ Some command → IsBounded command
