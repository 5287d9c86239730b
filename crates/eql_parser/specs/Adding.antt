-- Writing a text part by part.
use Rattle.std.specs.Prelude.{◌≡◌, ℕ, Bool, true, ◌&&◌, nat_lt, List, [], ◌∷◌, ◌++◌}

-- a part was written behind a text, whatever is written next
abbrev pub Adds : (before after : List ℕ) (part : List ℕ → List ℕ) → Type 0
Adds before after part = (rest : List ℕ) → after ++ rest ≡ before ++ part rest

-- the characters are ASCII, each of which is one byte
abbrev pub all_ascii : List ℕ → Bool
all_ascii [] = true
all_ascii (c ∷ cs) = nat_lt c 128 && all_ascii cs
