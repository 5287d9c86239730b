-- Both areas are kept.
use Rattle.std.proofs.Common.{◌≡◌, inl, inr, ⊎_elim, ℕ, List, Option, Some, None, refl, sym, ◌∙◌, ap, subst}
use Rattle.eql_outside.specs.declared.disk.Area.{Area}
use Rattle.eql_outside.specs.declared.disk.Area.TheVariants.{A, B}
use Rattle.eql_outside.specs.Areas.{Areas, MayLeave, Moment, IsImage, store, with_store, settled_store, seen_areas}
use Rattle.eql_outside.specs.Moments.{History, DiskTells, reading, Syncs, RefusesSync}
use Rattle.eql_ckdisk.specs.Going.{Goes}
use Rattle.eql_ckdisk.specs.Keeping.{LeavesNoMore, all_kept, KeepsAll}
use Rattle.eql_ckdisk.proofs.Moving.{stays, goes_on, goes_further, fewer}

synced : (area : Area) (h k : History) → Syncs area h k → Goes LeavesNoMore h k
synced area h k is =
    goes_on LeavesNoMore h h k (with_store area (settled_store (store area h.now).seen) h.now) (stays LeavesNoMore h h refl) is (λ image i. fewer area h.now (settled_store (store area h.now).seen) (λ c left. inl (⊎_elim (λ (e : c ≡ (store area h.now).seen). e) (λ (e : c ≡ (store area h.now).seen). e) left)) image i)

refused : (area : Area) (h k : History) → RefusesSync area h k → Goes LeavesNoMore h k
refused area h k (inl is) = stays LeavesNoMore h k is
refused area h k (inr (seen, left, is)) =
    goes_on LeavesNoMore h h k (with_store area (reading seen (store area h.now)) h.now) (stays LeavesNoMore h h refl) is (λ image i. fewer area h.now (reading seen (store area h.now)) less image i)
  where
    less : (c : List ℕ) → MayLeave (reading seen (store area h.now)) c → MayLeave (store area h.now) c
    less c (inl same) = subst (MayLeave (store area h.now)) (sym same) left
    less c (inr rest) = inr rest

both : (h j k : History) → Syncs A h j → Syncs B j k → KeepsAll h k
both h j k a b = record {
  going = goes_further LeavesNoMore h j k (synced A h j a) (synced B j k b);
  now =
      let kept : k.now ≡ record { a = j.now.a; b = settled_store j.now.b.seen } = ap (λ (x : History). x.now) b in
      let here : j.now.a ≡ settled_store h.now.a.seen = ap (λ (x : History). x.now.a) a in
      let there : j.now.b ≡ h.now.b = ap (λ (x : History). x.now.b) a in
      kept ∙ (λ i. record { a = here i; b = settled_store (there i).seen });
}

pub told_first : (o p : Option History) → DiskTells (RefusesSync A) o p → DiskTells (Goes LeavesNoMore) o p
told_first None None told = tt
told_first None (Some k) told = told
told_first (Some h) None told = told
told_first (Some h) (Some k) told = refused A h k told

pub told_second : (o p q : Option History) → DiskTells (Syncs A) o p → DiskTells (RefusesSync B) p q → DiskTells (Goes LeavesNoMore) o q
told_second None None None one two = tt
told_second None None (Some k) one two = two
told_second None (Some j) q one two = absurd one
told_second (Some h) None q one two = absurd one
told_second (Some h) (Some j) None one two = two
told_second (Some h) (Some j) (Some k) one two = goes_further LeavesNoMore h j k (synced A h j one) (refused B j k two)

pub told_both : (o p q : Option History) → DiskTells (Syncs A) o p → DiskTells (Syncs B) p q → DiskTells KeepsAll o q
told_both None None None one two = tt
told_both None None (Some k) one two = two
told_both None (Some j) q one two = absurd one
told_both (Some h) None q one two = absurd one
told_both (Some h) (Some j) None one two = two
told_both (Some h) (Some j) (Some k) one two = both h j k one two

-- where all is kept, each image is what reads give
pub seen_alone : (m : Moment) (image : Areas) → m ≡ all_kept m → IsImage m image → image ≡ seen_areas m
seen_alone m image kept i =
    let j : IsImage (all_kept m) image = subst (λ x. IsImage x image) kept i in
    let a : image.a ≡ m.a.seen = ⊎_elim (λ (e : image.a ≡ m.a.seen). e) (λ (e : image.a ≡ m.a.seen). e) j.a in
    let b : image.b ≡ m.b.seen = ⊎_elim (λ (e : image.b ≡ m.b.seen). e) (λ (e : image.b ≡ m.b.seen). e) j.b in
    (λ i. record { a = a i; b = b i })

pub told_going : (o p : Option History) → DiskTells KeepsAll o p → DiskTells (Goes LeavesNoMore) o p
told_going None None told = tt
told_going None (Some k) told = told
told_going (Some h) None told = told
told_going (Some h) (Some k) told = told.going
