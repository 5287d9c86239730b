-- What is told of a text of format 4 that was changed.
use Rattle.std.specs.Prelude.{◌≡◌, ℕ, ◌^◌, List, length, bit_xor}
use Rattle.eql_digest.specs.Laws.{bits_of, DifferInBurst}
use Rattle.eql_cut.specs.declared.cut.Cut.{Cut}
use Rattle.eql_cut.specs.Formats.{IsBytes}
use Rattle.eql_cut.specs.Whole.{IsText, IsNoText}

-- where up to 64 bits in a row are changed, it is the text of no cut in format 4
abbrev pub ChangesAreFound : Type 0
ChangesAreFound = (c d : Cut) (bytes others : List ℕ) → IsBytes bytes → IsBytes others → length bytes ≡ length others → DifferInBurst bytes others
    → IsText 4 c bytes → IsText 4 d others → ⊥

-- one bit is turned round
abbrev pub DifferInBit : List ℕ → List ℕ → Type 0
DifferInBit bytes others = (bit : ℕ) × (bit_xor (bits_of bytes) (bits_of others) ≡ 2 ^ bit)

-- where that is so, it is the text of no cut in any format
abbrev pub TurnedBitsAreFound : Type 0
TurnedBitsAreFound = (c : Cut) (bytes others : List ℕ) → IsBytes bytes → IsBytes others → length bytes ≡ length others → DifferInBit bytes others
    → IsText 4 c bytes → IsNoText others
