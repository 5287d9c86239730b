-- What some images stand for.
use Rattle.std.specs.Prelude.{◌≡◌, ◌^◌, ◌+◌, ℕ, List, [], ◌∷◌, refl}
use Rattle.eql_outside.specs.declared.disk.Area.TheVariants.{A, B}
use Rattle.eql_outside.specs.Areas.{Areas}
use Rattle.eql_ckdisk.specs.Found.{nothing, text, damaged, foreign, found_on, next}

abbrev both : List ℕ → List ℕ → Areas
both a b = record { a = a; b = b }

-- an area with this gate, generation 3, and the text 7 8 of a length of this number
abbrev third : ℕ → ℕ → List ℕ
third gate length = gate ∷ 3 ∷ 0 ∷ 0 ∷ 0 ∷ 0 ∷ 0 ∷ 0 ∷ 0 ∷ length ∷ 0 ∷ 0 ∷ 0 ∷ 0 ∷ 0 ∷ 0 ∷ 0 ∷ 7 ∷ 8 ∷ []

-- an open area with generation 258 and no text
abbrev later : List ℕ
later = 1 ∷ 2 ∷ 1 ∷ 0 ∷ 0 ∷ 0 ∷ 0 ∷ 0 ∷ 0 ∷ 0 ∷ 0 ∷ 0 ∷ 0 ∷ 0 ∷ 0 ∷ 0 ∷ 0 ∷ []

-- an open area with this last byte of its generation, and with 1 as its first
abbrev high : ℕ → List ℕ
high top = 1 ∷ 1 ∷ 0 ∷ 0 ∷ 0 ∷ 0 ∷ 0 ∷ 0 ∷ top ∷ 0 ∷ 0 ∷ 0 ∷ 0 ∷ 0 ∷ 0 ∷ 0 ∷ 0 ∷ []

-- two empty areas
pub empty_areas : found_on (both [] []) ≡ nothing
empty_areas = refl

-- a closed gate
pub closed_gates : found_on (both (third 0 2) (0 ∷ [])) ≡ nothing
closed_gates = refl

-- an area that begins as a line of JSON, in each place and in both, beside an empty one, a closed one and an open one
pub foreign_first : found_on (both (123 ∷ 34 ∷ []) []) ≡ foreign A
foreign_first = refl

pub foreign_second : found_on (both (third 0 2) (123 ∷ 34 ∷ [])) ≡ foreign B
foreign_second = refl

pub foreign_both : found_on (both (123 ∷ []) (123 ∷ [])) ≡ foreign A
foreign_both = refl

pub foreign_beside_text : found_on (both (third 1 2) (123 ∷ 34 ∷ [])) ≡ foreign B
foreign_beside_text = refl

-- the least first byte of another program's, and the greatest
pub foreign_least : found_on (both (third 2 2) later) ≡ foreign A
foreign_least = refl

pub foreign_greatest : found_on (both [] (255 ∷ [])) ≡ foreign B
foreign_greatest = refl

pub open_first : found_on (both (third 1 2) []) ≡ text A 3 (7 ∷ 8 ∷ [])
open_first = refl

-- what stands behind the text means nothing
pub shorter_text : found_on (both [] (third 1 1)) ≡ text B 3 (7 ∷ [])
shorter_text = refl

-- fewer bytes than the length says
pub text_not_there : found_on (both (third 1 3) []) ≡ damaged A 3
text_not_there = refl

-- the greater generation, also where the other area is damaged
pub greater_counts : found_on (both (third 1 3) later) ≡ text B 258 []
greater_counts = refl

-- the first of equal ones
pub first_of_equal : found_on (both (third 1 1) (third 1 2)) ≡ text A 3 (7 ∷ [])
first_of_equal = refl

-- a gate alone has generation 0
pub gate_alone : found_on (both [] (1 ∷ [])) ≡ damaged B 0
gate_alone = refl

-- no generation above 2^63 is given
pub too_great : found_on (both (high 128) later) ≡ damaged A (2 ^ 63 + 1)
too_great = refl

-- the first cut goes to the first area, and each further one to the other
pub first_place : next (record { area = B; generation = 0 }) ≡ record { area = A; generation = 1 }
first_place = refl

pub second_place : next (record { area = A; generation = 1 }) ≡ record { area = B; generation = 2 }
second_place = refl
