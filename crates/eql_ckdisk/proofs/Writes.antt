-- A write and a sync.
use Rattle.std.proofs.Common.{◌≡◌, inl, inr, ℕ, ◌≤◌, List, length, Option, Some, None, IfSome, refl, sym, ◌∙◌, ap, subst}
use Rattle.eql_outside.specs.declared.disk.Area.{Area}
use Rattle.eql_outside.specs.declared.disk.Area.TheVariants.{A, B}
use Rattle.eql_outside.specs.Areas.{Write, Store, MayLeave, Moment, IsImage, store, with_store, settled_store, area_with, kept_areas}
use Rattle.eql_outside.specs.DiskLaws.{WholeLands, ImagesAreThere}
use Rattle.eql_outside.specs.Moments.{History, DiskTells, later, LandsOn, after_write, reading, Wrote, RefusesWrite, Syncs, RefusesSync}
use Rattle.eql_ckdisk.specs.Found.{found_on}
use Rattle.eql_ckdisk.specs.Going.{Keeps}
use Rattle.eql_ckdisk.specs.Writing.{WritesAndSyncs, WroteThrough}
use Rattle.eql_ckdisk.proofs.Moving.{stays, goes_on, goes_to, keeps, while_written, fewer, kept_while}

module _ (there : ImagesAreThere) (whole : WholeLands) (area : Area) (w : Write) where
  -- the write was begun
  begins : (h k : History) (seen : List ℕ) → LandsOn w (store area h.now) seen
      → k ≡ later (after_write area w seen h.now) h → WritesAndSyncs area w h k
  begins h k seen on is f g le finds lands =
      goes_on (Keeps f g) h h k (after_write area w seen h.now) (stays (Keeps f g) h h refl) is
      (keeps there f g h.now (after_write area w seen h.now) le (finds (kept_areas h.now) (there.kept h.now)) (while_written area w f g h.now seen lands on))

  -- and then the area may leave no more
  ends : (h j k : History) (seen : List ℕ) (s : Store) → LandsOn w (store area h.now) seen
      → j ≡ later (after_write area w seen h.now) h → k ≡ later (with_store area s j.now) j
      → ((c : List ℕ) → MayLeave s c → MayLeave (store area j.now) c) → WritesAndSyncs area w h k
  ends h j k seen s on is then_ less f g le finds lands =
      let mid = after_write area w seen h.now in
      let now : j.now ≡ mid = ap (λ (x : History). x.now) is in
      let kept : found_on (kept_areas j.now) ≡ f = ap (λ (x : Moment). found_on (kept_areas x)) now ∙ ap found_on (kept_while area w seen h.now) ∙ finds (kept_areas h.now) (there.kept h.now) in
      goes_on (Keeps f g) h j k (with_store area s j.now) (begins h j seen on is f g le finds lands) then_
      (keeps there f g j.now (with_store area s j.now) le kept (λ image i. while_written area w f g h.now seen lands on image (subst (λ x. IsImage x image) now (fewer area j.now s less image i))))

  refused : (h k : History) → RefusesWrite area w h k → WritesAndSyncs area w h k
  refused h k (inl is) f g le finds lands = stays (Keeps f g) h k is
  refused h k (inr (seen, on, is)) f g le finds lands = begins h k seen on is f g le finds lands

  module _ (h j k : History) (within : w.at ≤ length (store area h.now).seen) (wrote : Wrote area w h j) where
    all : List ℕ
    all = area_with w (store area h.now).seen

    on : LandsOn w (store area h.now) (area_with w (store area h.now).seen)
    on = ((store area h.now).seen, inl refl, whole.there w (store area h.now).seen within)

    unkept : RefusesSync area j k → WritesAndSyncs area w h k
    unkept (inl is) f g le finds lands = goes_to (Keeps f g) h j k (begins h j (area_with w (store area h.now).seen) on wrote f g le finds lands) is
    unkept (inr (seen, left, is)) f g le finds lands =
        ends h j k (area_with w (store area h.now).seen) (reading seen (store area j.now)) on wrote is less f g le finds lands
      where
        less : (c : List ℕ) → MayLeave (reading seen (store area j.now)) c → MayLeave (store area j.now) c
        less c (inl same) = subst (MayLeave (store area j.now)) (sym same) left
        less c (inr rest) = inr rest

    done : Syncs area j k → WroteThrough area w h k
    done synced = record {
      going = ends h j k (area_with w (store area h.now).seen) (settled_store (store area j.now).seen) on wrote synced less;
      now = ap (λ (x : History). x.now) synced ∙ ap (λ (x : Moment). with_store area (settled_store (store area x).seen) x) (ap (λ (x : History). x.now) wrote) ∙ both area;
    }
      where
        less : (c : List ℕ) → MayLeave (settled_store (store area j.now).seen) c → MayLeave (store area j.now) c
        less c (inl same) = inl same
        less c (inr same) = inl same

        both : (x : Area)
            → with_store x (settled_store (store x (after_write x w (area_with w (store x h.now).seen) h.now)).seen) (after_write x w (area_with w (store x h.now).seen) h.now) ≡ with_store x (settled_store (area_with w (store x h.now).seen)) h.now
        both A = refl
        both B = refl

  pub told_refused : (a b : Option History) → DiskTells (RefusesWrite area w) a b → DiskTells (WritesAndSyncs area w) a b
  told_refused None None r = tt
  told_refused None (Some k) r = r
  told_refused (Some h) None r = r
  told_refused (Some h) (Some k) r = refused h k r

  pub told_unkept : (a b c : Option History) → IfSome a (λ h. w.at ≤ length (store area h.now).seen)
      → DiskTells (Wrote area w) a b → DiskTells (RefusesSync area) b c → DiskTells (WritesAndSyncs area w) a c
  told_unkept None None None within r s = tt
  told_unkept None None (Some k) within r s = absurd s
  told_unkept None (Some j) c within r s = absurd r
  told_unkept (Some h) None c within r s = absurd r
  told_unkept (Some h) (Some j) None within r s = absurd s
  told_unkept (Some h) (Some j) (Some k) within r s = unkept h j k within r s

  pub told_done : (a b c : Option History) → IfSome a (λ h. w.at ≤ length (store area h.now).seen)
      → DiskTells (Wrote area w) a b → DiskTells (Syncs area) b c → DiskTells (WroteThrough area w) a c
  told_done None None None within r s = tt
  told_done None None (Some k) within r s = absurd s
  told_done None (Some j) c within r s = absurd r
  told_done (Some h) None c within r s = absurd r
  told_done (Some h) (Some j) None within r s = absurd s
  told_done (Some h) (Some j) (Some k) within r s = done h j k within r s
