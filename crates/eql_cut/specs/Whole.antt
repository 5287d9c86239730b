-- The text of a cut.
use Rattle.std.specs.Prelude.{◌≡◌, ◌⊎◌, ◌++◌, ℕ, List}
use Rattle.eql_cut.specs.declared.cut.Cut.{Cut}
use Rattle.eql_cut.specs.declared.reader.Version.{Version}
use Rattle.eql_cut.specs.CutValues.{cut, cut_text, number_of}
use Rattle.eql_cut.specs.Formats.{IsBytes}

-- the bytes are the text of the cut in the format of this number, 1 to 4. In the first format every place is 0, in the first two no mask has a stage
-- above 128, and in the first three each digest is that of no bytes
pub record IsText (format : ℕ) (c : Cut) (bytes : List ℕ) : Type 0 where
  pub version : Version
  pub number : number_of version ≡ format
  pub fits : (cut version).Fits c
  pub spelt : bytes ≡ cut_text version c

-- the bytes are those of the head, and behind them the text of the cut in format 4
abbrev pub IsTextBehind : List ℕ → Cut → List ℕ → Type 0
IsTextBehind head c bytes = (text : List ℕ) × IsText 4 c text × (bytes ≡ head ++ text)

-- the bytes are the text of this cut in this format, and of no other cut and in no other format
pub record IsTextOf (format : ℕ) (c : Cut) (bytes : List ℕ) : Type 0 where
  pub is : IsText format c bytes
  pub alone : (other : ℕ) (d : Cut) → IsText other d bytes → (other ≡ format) × (d ≡ c)

-- the bytes are the text of no cut, in no format
abbrev pub IsNoText : List ℕ → Type 0
IsNoText bytes = (format : ℕ) (c : Cut) → IsText format c bytes → ⊥

-- bytes are the text of one cut in one format, or of none
abbrev pub TextsAreDecided : Type 0
TextsAreDecided = (bytes : List ℕ) → IsBytes bytes → ((format : ℕ) × (c : Cut) × IsTextOf format c bytes) ⊎ IsNoText bytes
