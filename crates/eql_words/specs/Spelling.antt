-- Options and plain words in a list of words.
use Rattle.std.specs.Prelude.{ℕ, Bool, ◌==◌, nat_le, if◌then◌else◌, List, [], ◌∷◌, Option, Some, None, option_map, count_by, codes}
use Rattle.std.specs.List.{list_all, find}
use Rattle.std.specs.Str.{bytes_eq}
use Rattle.eql_words.specs.declared.options.OptionName.{OptionName}
use Rattle.eql_words.specs.declared.options.OptionName.TheVariants as option
use Rattle.eql_words.specs.declared.options.Form.{Form}
use Rattle.eql_words.specs.declared.options.Form.TheVariants as form
use Rattle.eql_words.specs.Words.{Word, is_dashed, are_plain, head_of, joined_value}

-- an option that is given, and its value; a flag has the empty value
abbrev pub Setting : Type 0
Setting = OptionName × Word

-- the option of this text
abbrev pub option_named : Word → Option OptionName
option_named text =
    if bytes_eq text (codes "--query") then Some option.Query else
    if bytes_eq text (codes "--fields") then Some option.Fields else
    if bytes_eq text (codes "--tiebreaker") then Some option.Tiebreaker else
    if bytes_eq text (codes "--slack") then Some option.Slack else
    if bytes_eq text (codes "--batch") then Some option.Batch else
    if bytes_eq text (codes "--hands") then Some option.Hands else
    if bytes_eq text (codes "--checkpoint") then Some option.Checkpoint else
    if bytes_eq text (codes "--every") then Some option.Every else
    if bytes_eq text (codes "--places") then Some option.Places else None

-- an option, with the value that is joined to it by `=`: `--places` takes no value, and any other
-- option without one has it in the next word
abbrev pub option_form : Option OptionName → Option Word → Form
option_form None value = form.Faulty
option_form (Some option.Places) None = form.Whole (option.Places, [])
option_form (Some option.Places) (Some value) = form.Faulty
option_form (Some name) None = form.Opens name
option_form (Some name) (Some value) = form.Whole (name, value)

-- what a word is where an option or a plain word may stand
abbrev pub form_of : Word → Form
form_of word =
    if bytes_eq word (codes "--") then form.Ends else
    if is_dashed word then option_form (option_named (head_of word)) (joined_value word) else form.Plain

-- the options that words give, in their order, and the plain words behind them
pub record Parts : Type 0 where
  pub given : List Setting
  pub plain : List Word

-- one more option in front
abbrev pub before : Setting → Option Parts → Option Parts
before setting None = None
before setting (Some line) = Some (record { given = setting ∷ line.given; plain = line.plain })

-- the options and plain words of a list of words, where an option may still wait for its value:
-- a value in a word of its own doesn't begin with `-`, behind `--` every word is plain, and without
-- `--` no word behind the first plain one begins with `-`
unfoldable pub line_from : Option OptionName → List Word → Option Parts
line_from (Some name) [] = None
line_from (Some name) (value ∷ words) =
    if is_dashed value then None else before (name, value) (line_from None words)
line_from None [] = Some (record { given = []; plain = [] })
line_from None (word ∷ words) = elim (form_of word) [
  | form.Ends ↦ Some (record { given = []; plain = words })
  | form.Plain ↦ if are_plain words then Some (record { given = []; plain = word ∷ words }) else None
  | form.Whole setting ↦ before setting (line_from None words)
  | form.Opens name ↦ line_from (Some name) words
  | form.Faulty ↦ None
]

abbrev pub line_of : List Word → Option Parts
line_of words = line_from None words

-- an option's place in the list of options
abbrev pub option_index : OptionName → ℕ
option_index option.Query = 0
option_index option.Fields = 1
option_index option.Tiebreaker = 2
option_index option.Slack = 3
option_index option.Batch = 4
option_index option.Hands = 5
option_index option.Checkpoint = 6
option_index option.Every = 7
option_index option.Places = 8

-- whether two options are the same
abbrev pub same_option : OptionName → OptionName → Bool
same_option a b = option_index a == option_index b

-- whether a setting is of this option
abbrev pub sets : OptionName → Setting → Bool
sets name setting = same_option setting.0 name

-- the value of an option, if it is given
abbrev pub value_of : OptionName → List Setting → Option Word
value_of name given = option_map (λ setting. setting.1) (find (sets name) given)

abbrev pub every_option : List OptionName
every_option =
    option.Query ∷ option.Fields ∷ option.Tiebreaker ∷ option.Slack ∷ option.Batch ∷ option.Hands ∷ option.Checkpoint
    ∷ option.Every ∷ option.Places ∷ []

-- whether each option stands at most once
abbrev pub stand_once : List Setting → Bool
stand_once given = list_all (λ name. nat_le (count_by (sets name) given) 1) every_option
