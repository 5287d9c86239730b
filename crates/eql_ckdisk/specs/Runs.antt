-- Cuts that are put one after another.
use Rattle.std.specs.Prelude.{◌≡◌, ◌⊎◌, List, [], ◌∷◌}
use Rattle.eql_cut.specs.declared.cut.Cut.{Cut}
use Rattle.eql_outside.specs.Areas.{Areas, Moment, IsImage}
use Rattle.eql_outside.specs.Moments.{History}
use Rattle.eql_ckdisk.specs.Found.{Found, found_on, EachFinds, LastCut, next}
use Rattle.eql_ckdisk.specs.Going.{Goes, IsNoOlder}
use Rattle.eql_ckdisk.specs.Cuts.{FindsPut}

-- where the last cut stands after these were put
abbrev pub last_after : LastCut → List Cut → LastCut
last_after last [] = last
last_after last (cut ∷ cuts) = last_after (next last) cuts

-- an image of the moment stands for this
abbrev pub IsFoundAt : Moment → Found → Type 0
IsFoundAt m x = (image : Areas) × IsImage m image × (x ≡ found_on image)

-- what was found is one of the cuts that are put, each in its area with its generation
abbrev pub FindsOneOf : LastCut → List Cut → Found → Type 0
FindsOneOf last [] x = ⊥
FindsOneOf last (cut ∷ cuts) x = FindsPut (next last) cut x ⊎ FindsOneOf (next last) cuts x

-- each image at the moment stands for what an image at the start stands for, or for one of the cuts that are put
abbrev pub KeepsStartOr : Moment → LastCut → List Cut → Moment → Type 0
KeepsStartOr start last cuts m = EachFinds (λ x. IsFoundAt start x ⊎ FindsOneOf last cuts x) m

-- and none is older than all at the moment before
pub record KeepsOneOf (start : Moment) (last : LastCut) (cuts : List Cut) (before m : Moment) : Type 0 where
  pub one : KeepsStartOr start last cuts m
  pub no_older : IsNoOlder before m

-- the cuts are put one after another: so it is at each moment since
abbrev pub PutsAll : LastCut → List Cut → History → History → Type 0
PutsAll last cuts h k = Goes (KeepsOneOf h.now last cuts) h k
