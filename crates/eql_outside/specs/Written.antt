-- What was written in a call, by the bytes that stood behind the sink before and now, where these are told.
use Rattle.std.specs.Prelude.{◌≡◌, ◌++◌, ℕ, List, [], ◌∷◌, drop, Option, Some, None, IfSome, refl}
use Rattle.eql_outside.specs.Outside.{AppendsSome}

-- it wrote all of this
abbrev pub WroteAll : List ℕ → Option (List ℕ) → Option (List ℕ) → Type 0
WroteAll bytes before now = IfSome before (λ w. now ≡ Some (w ++ bytes))

-- it wrote a front of this, which may be all or none of it
abbrev pub WroteFront : List ℕ → Option (List ℕ) → Option (List ℕ) → Type 0
WroteFront bytes before now = IfSome before (λ w. AppendsSome w bytes now)

-- it wrote the rest of this, of which so many bytes had been written earlier
abbrev pub WroteRest : ℕ → List ℕ → Option (List ℕ) → Option (List ℕ) → Type 0
WroteRest n bytes before now = WroteAll (drop n bytes) before now

-- it wrote all of this but its end, which still waits to be written
abbrev pub WroteBut : List ℕ → List ℕ → Option (List ℕ) → Option (List ℕ) → Type 0
WroteBut waiting bytes before now = IfSome before (λ w. (sent : List ℕ) × (now ≡ Some (w ++ sent)) × (sent ++ waiting ≡ bytes))

-- it wrote all of this, and perhaps more behind it
abbrev pub WroteThrough : List ℕ → Option (List ℕ) → Option (List ℕ) → Type 0
WroteThrough bytes before now = IfSome before (λ w. (more : List ℕ) × (now ≡ Some ((w ++ bytes) ++ more)))

-- of 'abc' behind 'x', and of what stands behind a sink that doesn't tell
pub all_of_it : WroteAll (97 ∷ 98 ∷ 99 ∷ []) (Some (120 ∷ [])) (Some (120 ∷ 97 ∷ 98 ∷ 99 ∷ []))
all_of_it = refl

pub front_of_it : WroteFront (97 ∷ 98 ∷ 99 ∷ []) (Some (120 ∷ [])) (Some (120 ∷ 97 ∷ []))
front_of_it = (1, refl)

pub rest_of_it : WroteRest 2 (97 ∷ 98 ∷ 99 ∷ []) (Some (120 ∷ [])) (Some (120 ∷ 99 ∷ []))
rest_of_it = refl

pub but_its_end : WroteBut (99 ∷ []) (97 ∷ 98 ∷ 99 ∷ []) (Some (120 ∷ [])) (Some (120 ∷ 97 ∷ 98 ∷ []))
but_its_end = (97 ∷ 98 ∷ [], refl, refl)

pub through_it : WroteThrough (97 ∷ 98 ∷ []) (Some (120 ∷ [])) (Some (120 ∷ 97 ∷ 98 ∷ 99 ∷ []))
through_it = (99 ∷ [], refl)

pub untold : WroteAll (97 ∷ []) None None
untold = tt
