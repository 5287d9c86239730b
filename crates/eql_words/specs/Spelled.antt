-- How words spell options and plain words, and the laws of it.
use Rattle.std.specs.Prelude.{◌≡◌, Bool, true, false, List, [], ◌∷◌, ◌++◌, Some, codes}
use Rattle.eql_words.specs.declared.options.OptionName.{OptionName}
use Rattle.eql_words.specs.declared.options.OptionName.TheVariants as option
use Rattle.eql_words.specs.Words.{Word, is_dashed, are_plain}
use Rattle.eql_words.specs.Spelling.{Setting, line_of}
use Rattle.eql_words.specs.Commands.{command_of}

-- the text of an option
abbrev pub text_of : OptionName → Word
text_of option.Query = codes "--query"
text_of option.Fields = codes "--fields"
text_of option.Tiebreaker = codes "--tiebreaker"
text_of option.Slack = codes "--slack"
text_of option.Batch = codes "--batch"
text_of option.Hands = codes "--hands"
text_of option.Checkpoint = codes "--checkpoint"
text_of option.Every = codes "--every"
text_of option.Places = codes "--places"

-- every option but `--places` takes a value
abbrev pub takes_value : OptionName → Bool
takes_value option.Places = false
takes_value _ = true

-- words spell these options, in this order, and then these plain words
pub data Spells : List Word → List Setting → List Word → Type 0 where
  -- no option, and no word begins with `-`
  plain_words : (plain : List Word) → are_plain plain ≡ true → Spells plain [] plain
  -- no option, and `--` before words that are plain whatever they are
  behind_dashes : (plain : List Word) → Spells (codes "--" ∷ plain) [] plain
  -- `--places`
  flag :
      (words : List Word) (given : List Setting) (plain : List Word) → Spells words given plain
      → Spells (text_of option.Places ∷ words) ((option.Places, []) ∷ given) plain
  -- `--x v`, where `v` doesn't begin with `-`
  apart :
      (name : OptionName) (value : Word) (words : List Word) (given : List Setting) (plain : List Word)
      → takes_value name ≡ true → is_dashed value ≡ false → Spells words given plain
      → Spells (text_of name ∷ value ∷ words) ((name, value) ∷ given) plain
  -- `--x=v`
  joined :
      (name : OptionName) (value : Word) (words : List Word) (given : List Setting) (plain : List Word)
      → takes_value name ≡ true → Spells words given plain
      → Spells ((text_of name ++ 61 ∷ value) ∷ words) ((name, value) ∷ given) plain

-- words that spell options and plain words are read as these
abbrev pub SpelledIsRead : Type 0
SpelledIsRead =
    (words : List Word) (given : List Setting) (plain : List Word) → Spells words given plain
    → line_of words ≡ Some (record { given = given; plain = plain })

-- two spellings of the same options and plain words make the same command, whether a value stands behind `=` or in a
-- word of its own
abbrev pub SpellingsAreAlike : Type 0
SpellingsAreAlike =
    (verb : Word) (words other : List Word) (given : List Setting) (plain : List Word) → Spells words given plain
    → Spells other given plain → command_of (verb ∷ words) ≡ command_of (verb ∷ other)
