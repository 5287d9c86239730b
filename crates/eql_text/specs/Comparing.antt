-- Texts compared, as lists of characters. `fold` says whether comparisons fold.
use Rattle.std.specs.Prelude.{ℕ, Bool, true, false, List, [], ◌∷◌, ◌&&◌, ◌||◌}
use Rattle.eql_text.specs.Folding.{same}

-- whether a text is empty
abbrev pub is_empty : List ℕ → Bool
is_empty [] = true
is_empty (c ∷ s) = false

-- whether two texts have equal characters, one by one
abbrev pub equal : Bool → List ℕ → List ℕ → Bool
equal fold [] [] = true
equal fold [] (d ∷ t) = false
equal fold (c ∷ s) [] = false
equal fold (c ∷ s) (d ∷ t) = same fold c d && equal fold s t

-- whether t stands at the beginning of s
abbrev pub starts : Bool → List ℕ → List ℕ → Bool
starts fold s [] = true
starts fold [] (d ∷ t) = false
starts fold (c ∷ s) (d ∷ t) = same fold c d && starts fold s t

-- whether some end of a text passes a test: the whole text is one, and the empty text
abbrev pub any_end : (List ℕ → Bool) → List ℕ → Bool
any_end test [] = test []
any_end test (c ∷ s) = test (c ∷ s) || any_end test s

-- whether t is an end of s
abbrev pub ends : Bool → List ℕ → List ℕ → Bool
ends fold s t = any_end (λ u. equal fold u t) s

-- whether t stands somewhere in s
abbrev pub contains : Bool → List ℕ → List ℕ → Bool
contains fold s t = any_end (λ u. starts fold u t) s
