-- The order of texts, by their characters.
use Rattle.std.specs.Prelude.{◌≡◌, ℕ, List, [], ◌∷◌, codes, refl}
use Rattle.std.specs.Ordering.{nat_cmp}
use Rattle.std.specs.Cmp.Lexicographic.{slice_cmp}
use Rattle.std.specs.declared.cmp.Ordering.TheVariants.{Less}
use Rattle.eql_values.specs.Orders.{text_cmp}

-- the order of two texts is that of their characters: the first that differ decide, by their numbers, and a text
-- comes before one that goes on after it
abbrev pub TextsCompareByCharacters : Type 0
TextsCompareByCharacters = (s t : List ℕ) → text_cmp s t ≡ slice_cmp nat_cmp s t

-- U+FFFD comes before U+10000, which UTF-16 would have the other way round
above_16_bits : text_cmp (65533 ∷ []) (65536 ∷ []) ≡ Less
unfolding lib.Utf8.encode
above_16_bits = refl

goes_on : text_cmp (codes "cmd") (codes "cmd.exe") ≡ Less
unfolding lib.Utf8.encode
goes_on = refl
