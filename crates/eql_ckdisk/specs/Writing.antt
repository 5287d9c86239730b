-- What a write that is kept at once does to a disk.
use Rattle.std.specs.Prelude.{◌≡◌, ◌≤◌, ◌⊎◌, List, ℕ}
use Rattle.eql_outside.specs.declared.disk.Area.{Area}
use Rattle.eql_outside.specs.declared.disk.Area.TheVariants.{A, B}
use Rattle.eql_outside.specs.Areas.{Areas, Write, Lands, Moment, IsImage, store, with_store, settled_store, area_with, bytes_of}
use Rattle.eql_outside.specs.Moments.{History}
use Rattle.eql_ckdisk.specs.Found.{Found, found_on, generation_of, Finds}
use Rattle.eql_ckdisk.specs.Going.{Goes, Keeps}

-- an image with other bytes in an area
abbrev pub with_bytes : Area → List ℕ → Areas → Areas
with_bytes A bytes image = record { a = bytes; b = image.b }
with_bytes B bytes image = record { a = image.a; b = bytes }

-- whatever a write to an area leaves of an image stands for one of these
abbrev pub LandsAsOne : Area → Write → Found → Found → Moment → Type 0
LandsAsOne area w f g m =
    (image : Areas) → IsImage m image → (c : List ℕ) → Lands w (bytes_of area image) c
    → (found_on (with_bytes area c image) ≡ f) ⊎ (found_on (with_bytes area c image) ≡ g)

-- a write and a sync: at each moment since, what lands counts
abbrev pub WritesAndSyncs : Area → Write → History → History → Type 0
WritesAndSyncs area w h k =
    (f g : Found) → generation_of f ≤ generation_of g → Finds f h.now → LandsAsOne area w f g h.now
    → Goes (Keeps f g) h k

-- and then it is kept
pub record WroteThrough (area : Area) (w : Write) (h k : History) : Type 0 where
  pub going : WritesAndSyncs area w h k
  pub now : k.now ≡ with_store area (settled_store (area_with w (store area h.now).seen)) h.now
