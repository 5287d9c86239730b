-- What a disk of two areas holds, and what a crash may leave of it.
use Rattle.std.specs.Prelude.{◌≡◌, ◌≤◌, ◌+◌, ◌⊎◌, ◌++◌, ℕ, min, max, List, [], ◌∷◌, length, take, drop, refl}
use Rattle.std.proofs.Common.{inl}
use Rattle.eql_outside.specs.declared.disk.Area.{Area}
use Rattle.eql_outside.specs.declared.disk.Area.TheVariants.{A, B}

-- the bytes of both areas
pub record Areas : Type 0 where
  pub a : List ℕ
  pub b : List ℕ

-- bytes for a place in an area
pub record Write : Type 0 where
  pub at : ℕ
  pub bytes : List ℕ

-- the area with the bytes at their place
abbrev pub area_with : Write → List ℕ → List ℕ
area_with w old = take w.at old ++ (w.bytes ++ drop (w.at + length w.bytes) old)

-- a write that a crash tears: any bytes in its range and past the old end, and all others as they were
pub record IsTorn (w : Write) (old new : List ℕ) : Type 0 where
  pub before : take (min w.at (length old)) new ≡ take (min w.at (length old)) old
  pub behind : drop (w.at + length w.bytes) new ≡ drop (w.at + length w.bytes) old
  pub no_shorter : length old ≤ length new
  pub no_longer : length new ≤ max (length old) (w.at + length w.bytes)

-- what a crash may leave of a write: one of one byte, at a place that isn't behind a gap, is there whole or not at all
pub record Lands (w : Write) (old new : List ℕ) : Type 0 where
  pub torn : IsTorn w old new
  pub whole : length w.bytes ≡ 1 → w.at ≤ length old → (new ≡ old) ⊎ (new ≡ area_with w old)

-- an area: the bytes that the last good sync kept, the writes since, of which the last stands first, and what a read gives
pub record Store : Type 0 where
  pub kept : List ℕ
  pub writes : List Write
  pub seen : List ℕ

-- what is left of the bytes after writes, each of which lands or is torn
abbrev pub IsLeftAfter : List ℕ → List Write → List ℕ → Type 0
IsLeftAfter kept [] c = c ≡ kept
IsLeftAfter kept (w ∷ writes) c = (d : List ℕ) × IsLeftAfter kept writes d × Lands w d c

-- what a crash may leave of an area
abbrev pub MayLeave : Store → List ℕ → Type 0
MayLeave s c = (c ≡ s.seen) ⊎ IsLeftAfter s.kept s.writes c

-- nothing was written since these bytes were kept
abbrev pub settled_store : List ℕ → Store
settled_store bytes = record { kept = bytes; writes = []; seen = bytes }

-- a further write, after which a read gives these bytes
abbrev pub store_with : Write → List ℕ → Store → Store
store_with w seen s = record { kept = s.kept; writes = w ∷ s.writes; seen = seen }

-- both areas at one moment
pub record Moment : Type 0 where
  pub a : Store
  pub b : Store

abbrev pub store : Area → Moment → Store
store A m = m.a
store B m = m.b

abbrev pub with_store : Area → Store → Moment → Moment
with_store A s m = record { a = s; b = m.b }
with_store B s m = record { a = m.a; b = s }

abbrev pub bytes_of : Area → Areas → List ℕ
bytes_of A areas = areas.a
bytes_of B areas = areas.b

abbrev pub other_area : Area → Area
other_area A = B
other_area B = A

-- an image: what a crash at a moment could leave of both areas
pub record IsImage (m : Moment) (image : Areas) : Type 0 where
  pub a : MayLeave m.a image.a
  pub b : MayLeave m.b image.b

-- what reads give, and what the last good sync of each area kept
abbrev pub seen_areas : Moment → Areas
seen_areas m = record { a = m.a.seen; b = m.b.seen }

abbrev pub kept_areas : Moment → Areas
kept_areas m = record { a = m.a.kept; b = m.b.kept }

-- of the bytes 1 2, over whose second the bytes 7 8 were written, a crash may leave what reads give and what was kept
abbrev pub one_two : Store
one_two = record { kept = 1 ∷ 2 ∷ []; writes = record { at = 1; bytes = 7 ∷ 8 ∷ [] } ∷ []; seen = 1 ∷ 7 ∷ 8 ∷ [] }

pub may_be_there : MayLeave one_two (1 ∷ 7 ∷ 8 ∷ [])
may_be_there = inl refl

pub read_after_write : area_with (record { at = 1; bytes = 7 ∷ 8 ∷ [] }) (1 ∷ 2 ∷ []) ≡ 1 ∷ 7 ∷ 8 ∷ []
read_after_write = refl
