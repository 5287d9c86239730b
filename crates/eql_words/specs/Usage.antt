-- The lines about the words that make a command.
use Rattle.std.specs.Prelude.{ℕ, List, ◌++◌, codes}

-- a line about one command
abbrev pub usage_line : List ℕ → List ℕ
usage_line words = codes "usage: eql " ++ words ++ codes "\n"

abbrev pub usage_text : List ℕ
usage_text =
    usage_line (codes "find --query FILE --fields FILE [--tiebreaker FIELD] [--slack TIME] [--batch N] [--hands N] [--checkpoint NAME --every N] [--places] SHARD..")
    ++ usage_line (codes "check --query FILE --fields FILE")
    ++ usage_line (codes "made [--hands N] N")
