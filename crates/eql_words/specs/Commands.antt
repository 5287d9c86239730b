-- The command that words make.
use Rattle.std.specs.Prelude.{ℕ, Bool, ◌==◌, ◌&&◌, nat_le, if◌then◌else◌, List, [], ◌∷◌, length, Option, Some, None, option_map, codes, is_some}
use Rattle.std.specs.List.{list_all, list_any}
use Rattle.std.specs.Option.{option_and_then}
use Rattle.std.specs.Str.{bytes_eq, chars}
use Rattle.eql_words.specs.declared.options.OptionName.{OptionName}
use Rattle.eql_words.specs.declared.options.OptionName.TheVariants as option
use Rattle.eql_words.specs.declared.commands.Command.{Command}
use Rattle.eql_words.specs.declared.commands.Command.TheVariants as command
use Rattle.eql_words.specs.declared.commands.Find.{Find}
use Rattle.eql_words.specs.declared.commands.Checkpoint.{Checkpoint}
use Rattle.eql_words.specs.Words.{Word, is_name}
use Rattle.eql_words.specs.Numbers.{number_in, time_of}
use Rattle.eql_words.specs.Spelling.{Setting, Parts, line_of, value_of, stand_once, same_option}

-- a word that is a name
abbrev pub name_of : Word → Option Word
name_of word = if is_name word then Some word else None

-- what an option may leave out: a value that isn't given, or one that reads
abbrev pub if_given : {T : Type 0} → (Word → Option T) → Option Word → Option (Option T)
if_given read None = Some None
if_given read (Some word) = option_map (λ value. Some value) (read word)

-- a value that reads, or another where none is given
abbrev pub or_else : {T : Type 0} → T → (Word → Option T) → Option Word → Option T
or_else other read None = Some other
or_else other read (Some word) = read word

-- the values of options
abbrev pub name_in : OptionName → List Setting → Option Word
name_in name given = option_and_then name_of (value_of name given)

abbrev pub tie_in : List Setting → Option (Option (List ℕ))
tie_in given = if_given (λ word. option_map chars (name_of word)) (value_of option.Tiebreaker given)

abbrev pub slack_in : List Setting → Option (Option ℕ)
slack_in given = if_given time_of (value_of option.Slack given)

abbrev pub batch_in : List Setting → Option ℕ
batch_in given = or_else 256 (number_in 1 4096) (value_of option.Batch given)

abbrev pub hands_in : List Setting → Option ℕ
hands_in given = or_else 1 (number_in 0 16) (value_of option.Hands given)

-- a checkpoint's name and `--every` go together and need a slack
abbrev pub checkpoint_with : Option ℕ → Option Word → Option ℕ → Option (Option Checkpoint)
checkpoint_with slack None None = Some None
checkpoint_with (Some time) (Some name) (Some every) = Some (Some (record { name = name; every = every }))
checkpoint_with _ _ _ = None

abbrev pub checkpoint_in : Option ℕ → List Setting → Option (Option Checkpoint)
checkpoint_in slack given =
    option_and_then (λ name.
    option_and_then (λ every. checkpoint_with slack name every)
    (if_given (number_in 1 1000000) (value_of option.Every given)))
    (if_given name_of (value_of option.Checkpoint given))

-- one to 256 shards, each of which is a name
abbrev pub shards_of : List Word → Option (List Word)
shards_of plain = if nat_le 1 (length plain) && nat_le (length plain) 256 && list_all is_name plain then Some plain else None

-- a search by its options and shards
abbrev pub find_of : List Setting → List Word → Option Find
find_of given plain =
    option_and_then (λ query.
    option_and_then (λ fields.
    option_and_then (λ tie.
    option_and_then (λ slack.
    option_and_then (λ batch.
    option_and_then (λ hands.
    option_and_then (λ checkpoint.
    option_map (λ shards. record {
      query = query;
      fields = fields;
      tie = tie;
      slack = slack;
      batch = batch;
      hands = hands;
      checkpoint = checkpoint;
      places = is_some (value_of option.Places given);
      shards = shards;
    })
    (shards_of plain))
    (checkpoint_in slack given))
    (hands_in given))
    (batch_in given))
    (slack_in given))
    (tie_in given))
    (name_in option.Fields given))
    (name_in option.Query given)

-- whether all options that are given are among these
abbrev pub are_among : List OptionName → List Setting → Bool
are_among names given = list_all (λ setting. list_any (same_option setting.0) names) given

-- a check by its options; there are no plain words
abbrev pub check_of : List Setting → List Word → Option Command
check_of given plain =
    if length plain == 0 && are_among (option.Query ∷ option.Fields ∷ []) given
    then option_and_then (λ query. option_map (λ fields. command.Check query fields) (name_in option.Fields given))
    (name_in option.Query given)
    else None

-- the one plain word, where there is just one
abbrev pub only_word : List Word → Option Word
only_word (word ∷ []) = Some word
only_word _ = None

-- a run over made input, by the number of its hands and one plain word
abbrev pub made_of : List Setting → List Word → Option Command
made_of given plain =
    if are_among (option.Hands ∷ []) given
    then option_and_then (λ word.
    option_and_then (λ hands. option_map (λ events. command.Made hands events) (number_in 0 1000000 word))
    (hands_in given))
    (only_word plain)
    else None

-- the command of its first word, by the options and the plain words behind it
abbrev pub command_named : Word → Parts → Option Command
command_named verb parts =
    if bytes_eq verb (codes "find") then option_map (λ find. command.Find find) (find_of parts.given parts.plain) else
    if bytes_eq verb (codes "check") then check_of parts.given parts.plain else
    if bytes_eq verb (codes "made") then made_of parts.given parts.plain else None

-- each option stands at most once
abbrev pub command_from : Word → Parts → Option Command
command_from verb parts = if stand_once parts.given then command_named verb parts else None

-- the command that the words make
abbrev pub command_of : List Word → Option Command
command_of [] = None
command_of (verb ∷ words) = option_and_then (command_from verb) (line_of words)
