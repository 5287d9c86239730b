-- What keeping both areas does to a disk.
use Rattle.std.specs.Prelude.{◌≡◌}
use Rattle.eql_outside.specs.Areas.{Areas, Moment, IsImage, settled_store}
use Rattle.eql_outside.specs.Moments.{History}
use Rattle.eql_ckdisk.specs.Going.{Goes}

-- a crash leaves no more than at the moment before
abbrev pub LeavesNoMore : Moment → Moment → Type 0
LeavesNoMore before m = (image : Areas) → IsImage m image → IsImage before image

-- what reads give, all of it kept
abbrev pub all_kept : Moment → Moment
all_kept m = record { a = settled_store m.a.seen; b = settled_store m.b.seen }

-- a crash never left more than before, and now it leaves what reads gave
pub record KeepsAll (h k : History) : Type 0 where
  pub going : Goes LeavesNoMore h k
  pub now : k.now ≡ all_kept h.now
