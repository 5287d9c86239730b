-- What the two areas stand for, as cuts.
use Rattle.std.specs.Prelude.{◌≡◌, ◌⊎◌, ℕ, List, Option, Some, None}
use Rattle.eql_cut.specs.declared.cut.Cut.{Cut}
use Rattle.eql_cut.specs.Whole.{IsText, IsTextOf}
use Rattle.eql_outside.specs.Areas.{Moment}
use Rattle.eql_outside.specs.Moments.{History}
use Rattle.eql_ckdisk.specs.Found.{Found, nothing, Finds, EachFinds, LastCut, IsAt, next}
use Rattle.eql_ckdisk.specs.Going.{Goes, IsNoOlder}
use Rattle.eql_ckdisk.specs.Putting.{text_at}

-- what was found is the text of this cut in format 4, in this area with this generation
abbrev pub FindsPut : LastCut → Cut → Found → Type 0
FindsPut last cut found = (bytes : List ℕ) × (found ≡ text_at last bytes) × IsText 4 cut bytes

-- what was found is the text of this cut in this format, and of no other cut, in this area with this generation
abbrev pub FindsCut : LastCut → ℕ → Cut → Found → Type 0
FindsCut last format cut found = (bytes : List ℕ) × (found ≡ text_at last bytes) × IsTextOf format cut bytes

-- what was found is nothing and the result is none, with format and generation 0; or it is this cut
abbrev pub IsFound : LastCut → ℕ → Option Cut → Found → Type 0
IsFound last format None found = (found ≡ nothing) × (format ≡ 0) × (last.generation ≡ 0)
IsFound last format (Some cut) found = FindsCut last format cut found

-- each image at the moment stands for the text of this cut, and all for one and the same
abbrev pub Holds : LastCut → Cut → Moment → Type 0
Holds last cut m = (bytes : List ℕ) × IsText 4 cut bytes × Finds (text_at last bytes) m

-- each image at the moment stands for what was there or for the new cut, and none is older than all at the moment
-- before
pub record KeepsOrPuts (f : Found) (last : LastCut) (cut : Cut) (before m : Moment) : Type 0 where
  pub one : EachFinds (λ x. (x ≡ f) ⊎ FindsPut last cut x) m
  pub no_older : IsNoOlder before m

-- a cut is put: so it is at each moment since
abbrev pub Puts : LastCut → Cut → History → History → Type 0
Puts last cut h k = (f : Found) → IsAt last f → Finds f h.now → Goes (KeepsOrPuts f (next last) cut) h k
