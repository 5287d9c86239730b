-- A part of a pattern without a `*`, laid over the beginning of a text.
use Rattle.std.specs.Prelude.{ℕ, Bool, true, false, List, [], ◌∷◌, ◌&&◌}
use Rattle.eql_text.specs.Wildcards.{fits}

-- whether the characters of the part fit the first ones of a text, one by one
abbrev pub begins_fit : Bool → List ℕ → List ℕ → Bool
begins_fit fold t [] = true
begins_fit fold [] (d ∷ p) = false
begins_fit fold (c ∷ t) (d ∷ p) = fits fold d c && begins_fit fold t p
