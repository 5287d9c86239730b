-- The three writes of a put, and what stands there after each.
use Rattle.std.proofs.Common.{◌≡◌, min, inl, inr, ⊎_elim, ℕ, ◌+◌, ◌≤◌, ◌<◌, ◌^◌, true, false, List, [], ◌∷◌, ◌++◌, length, take, drop, refl, sym, ◌∙◌, ap, subst, arith}
use Rattle.eql_outside.specs.declared.disk.Area.{Area}
use Rattle.eql_outside.specs.declared.disk.Area.TheVariants.{A, B}
use Rattle.eql_outside.specs.Areas.{Areas, Write, MayLeave, Moment, IsImage, store, with_store, settled_store, area_with, other_area, bytes_of}
use Rattle.eql_outside.specs.DiskLaws.{ImagesAreThere}
use Rattle.eql_outside.specs.Moments.{History}
use Rattle.eql_ckdisk.specs.Found.{Found, text, found_on, is_open, is_foreign, generation_in, holds, generation_of, Finds, LastCut, IsAt, next_area, block}
use Rattle.eql_ckdisk.specs.Going.{Goes, Keeps}
use Rattle.eql_ckdisk.specs.Writing.{with_bytes, LandsAsOne, WritesAndSyncs, WroteThrough}
use Rattle.eql_ckdisk.proofs.Moving.{goes_further}
use Rattle.eql_ckdisk.proofs.Taken.{IsOwn, alone, alone_own, closed, newer, other_stands, alone_generation}
use Rattle.eql_ckdisk.proofs.Blocks.{block_generation, block_holds}

-- the other area stands for f, whatever a crash leaves of it
abbrev pub OtherFinds : Area → Found → Moment → Type 0
OtherFinds area f m = (c : List ℕ) → MayLeave (store (other_area area) m) c → alone (other_area area) c ≡ f

-- and this area has these bytes
record Ready (area : Area) (f : Found) (bytes : List ℕ) (m : Moment) : Type 0 where
  others : OtherFinds area f m
  mine : (image : Areas) → IsImage m image → bytes_of area image ≡ bytes

ready : (area : Area) (f : Found) (bytes : List ℕ) (before m : Moment) → OtherFinds area f before
    → m ≡ with_store area (settled_store bytes) before → Ready area f bytes m
ready area f bytes before m of is = subst (Ready area f bytes) (sym is) (here area of)
  where
    here : (x : Area) → OtherFinds x f before → Ready x f bytes (with_store x (settled_store bytes) before)
    here A of = record { others = of; mine = λ image i. ⊎_elim (λ (e : image.a ≡ bytes). e) (λ (e : image.a ≡ bytes). e) i.a }
    here B of = record { others = of; mine = λ image i. ⊎_elim (λ (e : image.b ≡ bytes). e) (λ (e : image.b ≡ bytes). e) i.b }

-- at the start
pub others_at_start : ImagesAreThere → (last : LastCut) (f : Found) (m : Moment) → IsAt last f → Finds f m
    → OtherFinds (next_area last) f m
others_at_start there last f m at finds c left = here (next_area last) (λ image i. other_stands last f image at (finds image i)) c left
  where
    here : (x : Area) → ((image : Areas) → IsImage m image → alone (other_area x) (bytes_of (other_area x) image) ≡ f)
        → (c : List ℕ) → MayLeave (store (other_area x) m) c → alone (other_area x) c ≡ f
    here A stands c left = stands (record { a = m.a.kept; b = c }) (record { a = (there.kept m).a; b = left })
    here B stands c left = stands (record { a = c; b = m.b.kept }) (record { a = left; b = (there.kept m).b })

-- the area begins with a closed gate
abbrev IsShut : List ℕ → Type 0
IsShut c = (is_foreign c ≡ false) × (is_open c ≡ false)

closed_with : (area : Area) (f : Found) (m : Moment) (image : Areas) (c : List ℕ) → OtherFinds area f m
    → IsImage m image → IsShut c → found_on (with_bytes area c image) ≡ f
closed_with A f m image c of i shut = closed A (record { a = c; b = image.b }) shut.0 shut.1 ∙ of image.b i.b
closed_with B f m image c of i shut = closed B (record { a = image.a; b = c }) shut.0 shut.1 ∙ of image.a i.a

open_with : (area : Area) (f : Found) (m : Moment) (image : Areas) (c : List ℕ) → IsOwn f → OtherFinds area f m
    → IsImage m image → is_open c ≡ true → generation_of f < generation_in c
    → found_on (with_bytes area c image) ≡ holds area c
open_with A f m image c own of i is lt =
    newer A (record { a = c; b = image.b }) is (alone_own B image.b f own (of image.b i.b)) (λ o. subst (λ n. n < generation_in c) (sym (alone_generation B image.b f (of image.b i.b) o)) lt)
open_with B f m image c own of i is lt =
    newer B (record { a = image.a; b = c }) is (alone_own A image.a f own (of image.a i.a)) (λ o. subst (λ n. n < generation_in c) (sym (alone_generation A image.a f (of image.a i.a) o)) lt)

with_same : (area : Area) (image : Areas) → with_bytes area (bytes_of area image) image ≡ image
with_same A image = refl
with_same B image = refl

same_with : (area : Area) (image : Areas) (c : List ℕ) → c ≡ bytes_of area image → with_bytes area c image ≡ image
same_with area image c is = ap (λ (x : List ℕ). with_bytes area x image) is ∙ with_same area image

shut_zero : (rest : List ℕ) → IsShut (0 ∷ rest)
shut_zero rest = (refl, refl)

shut_front : (c : List ℕ) → take 1 c ≡ 0 ∷ [] → IsShut c
shut_front [] is = (refl, refl)
shut_front (gate ∷ rest) is = let zero_ : gate ≡ 0 = cc in subst (λ (x : ℕ). IsShut (x ∷ rest)) (sym zero_) (shut_zero rest)

shut_as : (c rest : List ℕ) → c ≡ 0 ∷ rest → IsShut c
shut_as c rest is = subst IsShut (sym is) (shut_zero rest)

module _ (area : Area) (f : Found) (g : ℕ) (bytes : List ℕ) (own : IsOwn f) (older : generation_of f < g) (from : 1 ≤ g) (to : g ≤ 2 ^ 63) (short : length bytes < 2 ^ 64) where
  abbrev new : Found
  new = text area g bytes

  abbrev shut : Write
  shut = record { at = 0; bytes = 0 ∷ [] }

  abbrev fill : Write
  fill = record { at = 1; bytes = block g bytes }

  abbrev open_ : Write
  open_ = record { at = 0; bytes = 1 ∷ [] }

  shuts : (m : Moment) → OtherFinds area f m → Finds f m → LandsAsOne area shut f (text area g bytes) m
  shuts m of finds image i c lands = inl (⊎_elim
      (λ (e : c ≡ bytes_of area image). ap found_on (same_with area image c e) ∙ finds image i)
      (λ (e : c ≡ 0 ∷ drop 1 (bytes_of area image)). closed_with area f m image c of i (shut_as c (drop 1 (bytes_of area image)) e))
      (lands.whole refl (omega arith)))

  -- while the gate is closed the other area counts
  shut_finds : (m : Moment) (rest : List ℕ) → Ready area f (0 ∷ rest) m → Finds f m
  shut_finds m rest r image i = ap found_on (sym (with_same area image)) ∙ closed_with area f m image (bytes_of area image) r.others i (shut_as (bytes_of area image) rest (r.mine image i))

  fills : (m : Moment) (rest : List ℕ) → Ready area f (0 ∷ rest) m → LandsAsOne area fill f (text area g bytes) m
  fills m rest r image i c lands =
      let longer : 1 ≤ length (bytes_of area image) = subst (λ (x : List ℕ). 1 ≤ length x) (sym (r.mine image i)) (omega arith) in
      let first : min 1 (length (bytes_of area image)) ≡ 1 = omega arith in
      let before : take 1 c ≡ take 1 (bytes_of area image) =
      subst (λ n. take n c ≡ take n (bytes_of area image)) first lands.torn.before in
      inl (closed_with area f m image c r.others i (shut_front c (before ∙ ap (take 1) (r.mine image i))))

  open_finds : (m : Moment) (rest : List ℕ) (image : Areas) → OtherFinds area f m → IsImage m image
      → found_on (with_bytes area (1 ∷ (block g bytes ++ rest)) image) ≡ text area g bytes
  open_finds m rest image of i =
      open_with area f m image (1 ∷ (block g bytes ++ rest)) own of i refl (subst (λ n. generation_of f < n) (sym (block_generation g bytes rest from to short)) older)
      ∙ block_holds g bytes rest from to short area

  opens : (m : Moment) (rest : List ℕ) → Ready area f (0 ∷ (block g bytes ++ rest)) m
      → LandsAsOne area open_ f (text area g bytes) m
  opens m rest r image i c lands = ⊎_elim
      (λ (e : c ≡ bytes_of area image). inl (closed_with area f m image c r.others i (shut_as c (block g bytes ++ rest) (e ∙ r.mine image i))))
      (λ (e : c ≡ 1 ∷ drop 1 (bytes_of area image)).
      let is : c ≡ 1 ∷ (block g bytes ++ rest) = e ∙ ap (λ (x : List ℕ). 1 ∷ drop 1 x) (r.mine image i) in
      inr (ap (λ (x : List ℕ). found_on (with_bytes area x image)) is ∙ open_finds m rest image r.others i))
      (lands.whole refl (omega arith))

  new_finds : (m : Moment) (rest : List ℕ) → Ready area f (1 ∷ (block g bytes ++ rest)) m
      → Finds (text area g bytes) m
  new_finds m rest r image i =
      ap found_on (sym (same_with area image (1 ∷ (block g bytes ++ rest)) (sym (r.mine image i)))) ∙ open_finds m rest image r.others i

  module _ (a b c d : History) (others : OtherFinds area f a.now) (finds : Finds f a.now) where
    le : generation_of f ≤ g
    le = omega arith

    rest_a : List ℕ
    rest_a = drop 1 (store area a.now).seen

    pub first : WritesAndSyncs area shut a b → Goes (Keeps f (text area g bytes)) a b
    first going = going f (text area g bytes) le finds (shuts a.now others finds)

    is_shut : WroteThrough area shut a b → Ready area f (0 ∷ drop 1 (store area a.now).seen) b.now
    is_shut one = ready area f (0 ∷ drop 1 (store area a.now).seen) a.now b.now others one.now

    pub second : WroteThrough area shut a b → WritesAndSyncs area fill b c → Goes (Keeps f (text area g bytes)) a c
    second one going =
        let r = is_shut one in
        goes_further (Keeps f (text area g bytes)) a b c (first one.going)
        (going f (text area g bytes) le (shut_finds b.now (drop 1 (store area a.now).seen) r) (fills b.now (drop 1 (store area a.now).seen) r))

    -- the bytes behind the block
    abbrev behind : List ℕ
    behind = drop (1 + length (block g bytes)) (0 ∷ drop 1 (store area a.now).seen)

    seen_shut : WroteThrough area shut a b → (store area b.now).seen ≡ 0 ∷ drop 1 (store area a.now).seen
    seen_shut one = ap (λ (m : Moment). (store area m).seen) one.now ∙ here area
      where
        here : (x : Area)
            → (store x (with_store x (settled_store (0 ∷ drop 1 (store area a.now).seen)) a.now)).seen ≡ 0 ∷ drop 1 (store area a.now).seen
        here A = refl
        here B = refl

    seen_filled : WroteThrough area shut a b → WroteThrough area fill b c
        → (store area c.now).seen ≡ 0 ∷ (block g bytes ++ behind)
    seen_filled one two = ap (λ (m : Moment). (store area m).seen) two.now ∙ here area ∙ ap (area_with fill) (seen_shut one)
      where
        here : (x : Area)
            → (store x (with_store x (settled_store (area_with fill (store area b.now).seen)) b.now)).seen ≡ area_with fill (store area b.now).seen
        here A = refl
        here B = refl

    is_filled : WroteThrough area shut a b → WroteThrough area fill b c
        → Ready area f (0 ∷ (block g bytes ++ behind)) c.now
    is_filled one two =
        ready area f (0 ∷ (block g bytes ++ behind)) b.now c.now (is_shut one).others
        (subst (λ (x : List ℕ). c.now ≡ with_store area (settled_store (area_with fill x)) b.now) (seen_shut one) two.now)

    pub third : WroteThrough area shut a b → WroteThrough area fill b c → WritesAndSyncs area open_ c d
        → Goes (Keeps f (text area g bytes)) a d
    third one two going =
        let r = is_filled one two in
        goes_further (Keeps f (text area g bytes)) a c d (second one two.going)
        (going f (text area g bytes) le (shut_finds c.now (block g bytes ++ behind) r) (opens c.now behind r))

    pub done : WroteThrough area shut a b → WroteThrough area fill b c → WroteThrough area open_ c d
        → Finds (text area g bytes) d.now
    done one two three =
        new_finds d.now behind
        (ready area f (1 ∷ (block g bytes ++ behind)) c.now d.now (is_filled one two).others
        (subst (λ (x : List ℕ). d.now ≡ with_store area (settled_store (area_with open_ x)) c.now) (seen_filled one two) three.now))
