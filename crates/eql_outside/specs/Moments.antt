-- The moments of a disk: its clock, and what each call adds to it.
use Rattle.std.specs.Prelude.{◌≡◌, ◌⊎◌, ℕ, List, ◌∷◌, Option, Some, None}
use Rattle.eql_outside.specs.declared.disk.Area.{Area}
use Rattle.eql_outside.specs.Areas.{Write, Lands, Store, MayLeave, Moment, settled_store, store_with, store, with_store, area_with}

-- the disk now, and at each moment before, of which the last stands first
pub record History : Type 0 where
  pub now : Moment
  pub past : List Moment

abbrev pub later : Moment → History → History
later m h = record { now = m; past = h.now ∷ h.past }

-- the area after a further write, and what a read gives then
abbrev pub after_write : Area → Write → List ℕ → Moment → Moment
after_write area w seen m = with_store area (store_with w seen (store area m)) m

-- a write was done
abbrev pub Wrote : Area → Write → History → History → Type 0
Wrote area w h k = k ≡ later (after_write area w (area_with w (store area h.now).seen) h.now) h

-- what a write that was begun may leave for reads
abbrev pub LandsOn : Write → Store → List ℕ → Type 0
LandsOn w s seen = (d : List ℕ) × MayLeave s d × Lands w d seen

-- a write was refused: nothing was done, or it was begun, and a read gives what it may have left
abbrev pub RefusesWrite : Area → Write → History → History → Type 0
RefusesWrite area w h k = (k ≡ h) ⊎ ((seen : List ℕ) × LandsOn w (store area h.now) seen × (k ≡ later (after_write area w seen h.now) h))

-- a sync was done: a crash leaves of the area what a read gives
abbrev pub Syncs : Area → History → History → Type 0
Syncs area h k = k ≡ later (with_store area (settled_store (store area h.now).seen) h.now) h

-- what a read gives, and nothing else, is now this
abbrev pub reading : List ℕ → Store → Store
reading seen s = record { kept = s.kept; writes = s.writes; seen = seen }

-- a sync was refused: nothing was done, or a read gives something else that a crash could have left
abbrev pub RefusesSync : Area → History → History → Type 0
RefusesSync area h k = (k ≡ h) ⊎ ((seen : List ℕ) × MayLeave (store area h.now) seen × (k ≡ later (with_store area (reading seen (store area h.now)) h.now) h))

-- what is said of a disk before and after a call, where it tells; one that doesn't tell goes on so
abbrev pub DiskTells : (History → History → Type 0) → Option History → Option History → Type 0
DiskTells R None None = Unit {0}
DiskTells R None (Some k) = ⊥
DiskTells R (Some h) None = ⊥
DiskTells R (Some h) (Some k) = R h k
