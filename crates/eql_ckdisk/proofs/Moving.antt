-- Moments that follow each other.
use Rattle.std.proofs.Common.{◌≡◌, ◌⊎◌, ⊎_elim, ℕ, zero, suc, ◌≤◌, List, Option, Some, None, Result, Ok, Err, OnErr, refl, sym, subst, arith}
use Rattle.eql_outside.specs.declared.disk.Area.{Area}
use Rattle.eql_outside.specs.declared.disk.Area.TheVariants.{A, B}
use Rattle.eql_outside.specs.Areas.{Areas, Write, Store, MayLeave, Moment, IsImage, store, with_store, kept_areas}
use Rattle.eql_outside.specs.DiskLaws.{ImagesAreThere}
use Rattle.eql_outside.specs.Moments.{History, DiskTells, later, LandsOn, after_write}
use Rattle.eql_ckdisk.specs.Found.{Found, found_on, generation_of}
use Rattle.eql_ckdisk.specs.Going.{Steps, Goes, Keeps}
use Rattle.eql_ckdisk.specs.Writing.{LandsAsOne}
use Rattle.eql_ckdisk.proofs.Landing.{landed}

pub stays : (R : Moment → Moment → Type 0) (h k : History) → k ≡ h → Goes R h k
stays R h k is = (zero, is)

pub goes_on : (R : Moment → Moment → Type 0) (h j k : History) (m : Moment) → Goes R h j → k ≡ later m j → R j.now m
    → Goes R h k
goes_on R h j k m so is r = (suc so.0, (j, so.1, m, is, r))

pub goes_to : (R : Moment → Moment → Type 0) (h j k : History) → Goes R h j → k ≡ j → Goes R h k
goes_to R h j k so is = subst (Goes R h) (sym is) so

more_steps : (R : Moment → Moment → Type 0) (n : ℕ) (h j k : History) → Goes R h j → Steps R n j k → Goes R h k
more_steps R zero h j k so is = goes_to R h j k so is
more_steps R (suc n) h j k so (i, steps, m, is, r) = goes_on R h i k m (more_steps R n h j i so steps) is r

pub goes_further : (R : Moment → Moment → Type 0) (h j k : History) → Goes R h j → Goes R j k → Goes R h k
goes_further R h j k so then_ = more_steps R then_.0 h j k so then_.1

pub keeps : ImagesAreThere → (f g : Found) (before m : Moment) → generation_of f ≤ generation_of g
    → found_on (kept_areas before) ≡ f → ((image : Areas) → IsImage m image → (found_on image ≡ f) ⊎ (found_on image ≡ g))
    → Keeps f g before m
keeps there f g before m le is one = record {
  one = one;
  no_older = λ n at_least image i.
      let low : n ≤ generation_of f = subst (λ x. n ≤ generation_of x) is (at_least (kept_areas before) (there.kept before)) in
      let here : n ≤ generation_of (found_on image) = ⊎_elim (λ (e : found_on image ≡ f). subst (λ x. n ≤ generation_of x) (sym e) low) (λ (e : found_on image ≡ g). let high : n ≤ generation_of g = omega arith in subst (λ x. n ≤ generation_of x) (sym e) high) (one image i) in
      here;
}

-- the images while a write isn't kept
pub while_written : (area : Area) (w : Write) (f g : Found) (m : Moment) (seen : List ℕ) → LandsAsOne area w f g m
    → LandsOn w (store area m) seen → (image : Areas) → IsImage (after_write area w seen m) image
    → (found_on image ≡ f) ⊎ (found_on image ≡ g)
while_written A w f g m seen lands on image i =
    let from = landed w m.a seen on image.a i.a in
    lands (record { a = from.0; b = image.b }) (record { a = from.1; b = i.b }) image.a from.2
while_written B w f g m seen lands on image i =
    let from = landed w m.b seen on image.b i.b in
    lands (record { a = image.a; b = from.0 }) (record { a = i.a; b = from.1 }) image.b from.2

-- an area may leave no more than before
pub fewer : (area : Area) (m : Moment) (s : Store) → ((c : List ℕ) → MayLeave s c → MayLeave (store area m) c)
    → (image : Areas) → IsImage (with_store area s m) image → IsImage m image
fewer A m s less image i = record { a = less image.a i.a; b = i.b }
fewer B m s less image i = record { a = i.a; b = less image.b i.b }

pub kept_while : (area : Area) (w : Write) (seen : List ℕ) (m : Moment)
    → kept_areas (after_write area w seen m) ≡ kept_areas m
kept_while A w seen m = refl
kept_while B w seen m = refl

pub told_then : (R S T : History → History → Type 0) → ((h j k : History) → R h j → S j k → T h k)
    → (a b c : Option History) → DiskTells R a b → DiskTells S b c → DiskTells T a c
told_then R S T f None None c r s = told_none c s
  where
    told_none : (x : Option History) → DiskTells S None x → DiskTells T None x
    told_none None t = tt
    told_none (Some k) t = absurd t
told_then R S T f None (Some j) c r s = absurd r
told_then R S T f (Some h) None c r s = absurd r
told_then R S T f (Some h) (Some j) None r s = absurd s
told_then R S T f (Some h) (Some j) (Some k) r s = f h j k r s

pub on_err : {T E P : Type 0} (r : Result T E) → P → OnErr r P
on_err (Ok x) p = tt
on_err (Err e) p = p
