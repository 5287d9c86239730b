-- The places of the lines of texts, the cuts of texts, and cuts with the places of texts or with none.
use Rattle.std.specs.Prelude.{◌≡◌, ◌==◌, ◌≤◌, ◌+◌, ℕ, zero, suc, ℤ, if◌then◌else◌, List, [], ◌∷◌, map, length, All, Contains}
use Rattle.eql_values.specs.Accepted.{Reads}
use Rattle.eql_values.specs.Lines.{Line, lines_of, lines_in}
use Rattle.eql_laws.specs.Fitting.{Run, cut_of}
use Rattle.eql_laws.specs.Places.{ReadTo}
use Rattle.eql_cut.specs.declared.cut.Cut.{Cut}
use Rattle.eql_cut.specs.Domain.{kept_by}
use Rattle.eql_cut.specs.Placing.{NamesLine, lifted_cut}

-- the place of the line with this number among these, or 0 where none has it
abbrev pub place_of_line : List Line → (number : ℕ) → ℕ
place_of_line [] number = 0
place_of_line (line ∷ lines) number = if line.number == number then line.at else place_of_line lines number

-- the number of bytes before a line in the text of its shard, or 0 where there is no such line
abbrev pub place_in_texts : List (List ℕ) → (shard line : ℕ) → ℕ
place_in_texts [] shard line = 0
place_in_texts (text ∷ texts) zero line = place_of_line (lines_in text) line
place_in_texts (text ∷ texts) (suc shard) line = place_in_texts texts shard line

-- the cut with each event at the place of its line in these texts
abbrev pub cut_at_places : List (List ℕ) → Cut → Cut
cut_at_places texts = lifted_cut (place_in_texts texts)

-- the cut with no places: what the first format keeps of it
abbrev pub cut_without_places : Cut → Cut
cut_without_places = lifted_cut (λ shard line. 0)

-- what the cut keeps is what a cut at this time keeps of shards that were read up to places
abbrev pub IsCutOf : Run → Reads → ℤ → List ReadTo → Cut → Type 0
IsCutOf run reads t shards cut = kept_by cut ≡ cut_of run reads t shards

-- the text has the line
abbrev pub HasLine : List ℕ → (line : ℕ) → Type 0
HasLine text line = (1 ≤ line) × (line ≤ length (lines_of text))

-- the text of the shard has the line
abbrev pub ShardHasLine : List (List ℕ) → (shard line : ℕ) → Type 0
ShardHasLine [] shard line = ⊥
ShardHasLine (text ∷ texts) zero line = HasLine text line
ShardHasLine (text ∷ texts) (suc shard) line = ShardHasLine texts shard line

-- a line of the text, by number, and its place
abbrev pub IsLineAt : List ℕ → ℕ × ℕ → Type 0
IsLineAt text entry = HasLine text entry.0 × (place_of_line (lines_in text) entry.0 ≡ entry.1)

-- lines, each with its place in the text
abbrev pub with_places : List ℕ → List ℕ → List (ℕ × ℕ)
with_places text lines = map (λ (line : ℕ). (line, place_of_line (lines_in text) line)) lines

-- lines and places that were noted while a shard's text was read: each is a line of it and its place, and each line of the shard that the cut
-- names is among them
pub record WereNoted (cut : Cut) (shard : ℕ) (text : List ℕ) (places : List (ℕ × ℕ)) : Type 0 where
  pub are_lines : All (IsLineAt text) places
  pub has_all : (line : ℕ) → NamesLine cut shard line → Contains (map (λ (entry : ℕ × ℕ). entry.0) places) line

-- such a list for each text, of which the first is this shard's
abbrev pub EachWasNoted : Cut → (shard : ℕ) → List (List ℕ) → List (List (ℕ × ℕ)) → Type 0
EachWasNoted cut shard [] [] = Unit {0}
EachWasNoted cut shard (text ∷ texts) (places ∷ lists) = WereNoted cut shard text places × EachWasNoted cut (shard + 1) texts lists
EachWasNoted cut shard [] (places ∷ lists) = ⊥
EachWasNoted cut shard (text ∷ texts) [] = ⊥
