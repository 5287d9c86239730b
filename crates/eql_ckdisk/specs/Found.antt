-- What the bytes of the two areas stand for.
-- An area: the gate, which is open where it is 1 and closed where it is 0; the generation, of 8 bytes; the length of the
-- text, of 8 bytes; and the text. With any other first byte it is another program's.
use Rattle.std.specs.Prelude.{◌≡◌, ◌+◌, ◌^◌, ℕ, Bool, false, if◌then◌else◌, not, ◌&&◌, ◌||◌, ◌==◌, nat_le, List, [], ◌∷◌, ◌++◌, length, take, drop}
use Rattle.std.specs.Int.{w64, to_le_bytes, from_le_bytes}
use Rattle.eql_outside.specs.declared.disk.Area.{Area}
use Rattle.eql_outside.specs.declared.disk.Area.TheVariants.{A, B}
use Rattle.eql_outside.specs.Areas.{Areas, Moment, IsImage, other_area}

-- nothing, a text in an area with its generation, an area that is damaged, with its generation, or an area that another
-- program wrote
pub data Found : Type 0 where
  nothing : Found
  text : Area → ℕ → List ℕ → Found
  damaged : Area → ℕ → Found
  foreign : Area → Found

abbrev pub is_open : List ℕ → Bool
is_open [] = false
is_open (gate ∷ rest) = gate == 1

-- another program wrote the area: its first byte is neither 0 nor 1
abbrev pub is_foreign : List ℕ → Bool
is_foreign [] = false
is_foreign (gate ∷ rest) = not (gate == 0 || gate == 1)

-- the generation of an open area, which is 0 where the head isn't whole
abbrev pub generation_in : List ℕ → ℕ
generation_in bytes = if nat_le 17 (length bytes) then from_le_bytes w64 (take 8 (drop 1 bytes)) else 0

abbrev pub length_in : List ℕ → ℕ
length_in bytes = from_le_bytes w64 (take 8 (drop 9 bytes))

-- the generation is one of those that are given, and the text is there
abbrev pub is_whole : List ℕ → Bool
is_whole bytes =
    (nat_le 1 (generation_in bytes) && nat_le (generation_in bytes) (2 ^ 63))
    && nat_le (length_in bytes) (length (drop 17 bytes))

-- what an open area stands for
abbrev pub holds : Area → List ℕ → Found
holds area bytes =
    if is_whole bytes
    then text area (generation_in bytes) (take (length_in bytes) (drop 17 bytes))
    else damaged area (generation_in bytes)

-- of two areas that are open or not, the one that counts: of open ones that with the greatest generation, and the first
-- where they are equal
abbrev pub pick : (open_a open_b newer_a : Bool) → Found → Found → Found
pick open_a open_b newer_a in_a in_b =
    if open_a && (not open_b || newer_a) then in_a else if open_b then in_b else nothing

-- of two areas of which one may be another program's, that one, and the first where both are
abbrev pub pick_own : (foreign_a foreign_b : Bool) → Found → Found
pick_own foreign_a foreign_b own = if foreign_a then foreign A else if foreign_b then foreign B else own

-- what an image stands for
abbrev pub found_on : Areas → Found
found_on image =
    pick_own (is_foreign image.a) (is_foreign image.b)
    (pick (is_open image.a) (is_open image.b) (nat_le (generation_in image.b) (generation_in image.a))
    (holds A image.a) (holds B image.b))

abbrev pub generation_of : Found → ℕ
generation_of nothing = 0
generation_of (text area generation bytes) = generation
generation_of (damaged area generation) = generation
generation_of (foreign area) = 0

-- each image at a moment stands for something of which this holds
abbrev pub EachFinds : (Found → Type 0) → Moment → Type 0
EachFinds P m = (image : Areas) → IsImage m image → P (found_on image)

-- each image at a moment stands for this
abbrev pub Finds : Found → Moment → Type 0
Finds f m = EachFinds (λ x. x ≡ f) m

-- where the last cut stands: its area and its generation, which is 0 where there is none
pub record LastCut : Type 0 where
  pub area : Area
  pub generation : ℕ

-- what was found stands there
abbrev pub IsAt : LastCut → Found → Type 0
IsAt last nothing = last.generation ≡ 0
IsAt last (text area generation bytes) = (area ≡ last.area) × (generation ≡ last.generation)
IsAt last (damaged area generation) = ⊥
IsAt last (foreign area) = ⊥

-- the area to which the next cut goes
abbrev pub next_area : LastCut → Area
next_area last = if last.generation == 0 then A else other_area last.area

-- where the next cut stands
abbrev pub next : LastCut → LastCut
next last = record { area = next_area last; generation = last.generation + 1 }

-- generation, length and text
abbrev pub block : ℕ → List ℕ → List ℕ
block generation bytes = to_le_bytes w64 generation ++ (to_le_bytes w64 (length bytes) ++ bytes)
