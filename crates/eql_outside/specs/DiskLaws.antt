-- Laws of what a crash may leave.
use Rattle.std.specs.Prelude.{◌≤◌, ℕ, List, ◌∷◌, length}
use Rattle.eql_outside.specs.Areas.{Write, Lands, Store, IsLeftAfter, Moment, IsImage, settled_store, area_with, seen_areas, kept_areas}

-- a write at a place within the bytes may land whole, or not at all
pub record WholeLands : Type 0 where
  pub there : (w : Write) (old : List ℕ) → w.at ≤ length old → Lands w old (area_with w old)
  pub not_there : (w : Write) (old : List ℕ) → Lands w old old

-- what was kept may be left, and so may what reads give
pub record ImagesAreThere : Type 0 where
  pub kept : (m : Moment) → IsImage m (kept_areas m)
  pub seen : (m : Moment) → IsImage m (seen_areas m)

-- reads give what may be left, also without that case: of an area that is settled, and after a further write that is done
pub record SeenIsLeft : Type 0 where
  pub at_rest : (bytes : List ℕ) → IsLeftAfter (settled_store bytes).kept (settled_store bytes).writes (settled_store bytes).seen
  pub after : (w : Write) (s : Store) → w.at ≤ length s.seen → IsLeftAfter s.kept s.writes s.seen → IsLeftAfter s.kept (w ∷ s.writes) (area_with w s.seen)
