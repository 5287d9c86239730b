-- Tries of a call that took no turn, and the words that they met.
use Rattle.std.specs.Prelude.{◌≡◌, ◌≢◌, ℕ, ◌≤◌, ◌<◌, ◌^◌, ◌%◌, List, [], ◌∷◌, ◌++◌, All}

-- A try that took no turn: the turn was held at the word that it loaded, or the word moved, and the
-- exchange found another one.
pub data LostTry : Type 0 where
  turn_held : (loaded : ℕ) → LostTry
  word_moved : (loaded found : ℕ) → LostTry

-- The loaded word is below 2^63. It is odd where the turn was held, and else even.
abbrev pub IsLost : LostTry → Type 0
IsLost (turn_held loaded) = (loaded < 2 ^ 63) × (loaded % 2 ≡ 1)
IsLost (word_moved loaded found) = (loaded < 2 ^ 63) × (loaded % 2 ≡ 0) × (found ≢ loaded)

-- the words that the tries met, in order
abbrev pub words_of : List LostTry → List ℕ
words_of [] = []
words_of (turn_held loaded ∷ tries) = loaded ∷ words_of tries
words_of (word_moved loaded found ∷ tries) = loaded ∷ found ∷ words_of tries

-- Words tell which of them were loaded: in one way at most are they those of lost tries, and then a
-- loaded word of at least 2^63.
abbrev pub ReadingIsOne : Type 0
ReadingIsOne =
    (tries others : List LostTry) (word other : ℕ) → All IsLost tries → All IsLost others
    → 2 ^ 63 ≤ word → 2 ^ 63 ≤ other → words_of tries ++ word ∷ [] ≡ words_of others ++ other ∷ []
    → (tries ≡ others) × (word ≡ other)

-- The words of lost tries alone can't be read so, whatever word the last exchange found.
abbrev pub FoundIsNotLoaded : Type 0
FoundIsNotLoaded =
    (tries others : List LostTry) (word : ℕ) → All IsLost tries → All IsLost others → 2 ^ 63 ≤ word
    → words_of tries ≢ words_of others ++ word ∷ []
