-- What putting a text does to a disk.
use Rattle.std.specs.Prelude.{List, ℕ, Option, IfSome}
use Rattle.eql_outside.specs.Areas.{Moment}
use Rattle.eql_outside.specs.Moments.{History}
use Rattle.eql_ckdisk.specs.declared.state.CkState.{CkState}
use Rattle.eql_ckdisk.specs.Found.{Found, text, Finds, LastCut, IsAt, next}
use Rattle.eql_ckdisk.specs.Going.{Goes, Keeps}

-- what a state says of the last cut
abbrev pub last_cut : CkState → LastCut
last_cut state = record { area = state.area; generation = state.generation }

-- each image at the moment stands for one and the same text, in this area with this generation, or for none where the
-- generation is 0
abbrev pub StandsAt : LastCut → Moment → Type 0
StandsAt last m = (f : Found) × IsAt last f × Finds f m

-- this is so now, of a disk that tells
abbrev pub Stands : LastCut → Option History → Type 0
Stands last disk = IfSome disk (λ h. StandsAt last h.now)

-- a text stands there
abbrev pub text_at : LastCut → List ℕ → Found
text_at last bytes = text last.area last.generation bytes

-- each image at each moment stands for what stood there or for the new text, and none is older than all at the moment
-- before
abbrev pub PutsText : LastCut → List ℕ → History → History → Type 0
PutsText last bytes h k =
    (f : Found) → IsAt last f → Finds f h.now → Goes (Keeps f (text_at (next last) bytes)) h k

-- and then the new one alone stands there
pub record HasPutText (last : LastCut) (bytes : List ℕ) (h k : History) : Type 0 where
  pub going : PutsText last bytes h k
  pub finds : Finds (text_at (next last) bytes) k.now
