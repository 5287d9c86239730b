-- Runs of puts.
use Rattle.std.proofs.Common.{◌≡◌, ◌⊎◌, inl, inr, ⊎_elim, ℕ, zero, suc, List, [], ◌∷◌, ◌++◌, Option, Some, None, AllPairs, refl, sym, ◌∙◌, ap, subst, arith}
use Rattle.std.specs.Prelude.{All}
use Rattle.std.proofs.lemmas.List.Elements.{All-cons}
use Rattle.std.proofs.lemmas.List.Kept.{AllPairs-cons}
use Rattle.eql_outside.specs.declared.disk.Area.{Area}
use Rattle.eql_outside.specs.declared.disk.Area.TheVariants.{A}
use Rattle.eql_outside.specs.Areas.{Moment, IsImage, kept_areas}
use Rattle.eql_outside.specs.DiskLaws.{ImagesAreThere}
use Rattle.eql_outside.specs.Moments.{History, DiskTells}
use Rattle.eql_cut.specs.declared.cut.Cut.{Cut}
use Rattle.eql_cut.specs.Whole.{IsText}
use Rattle.eql_ckdisk.specs.Found.{Found, nothing, text, damaged, foreign, found_on, generation_of, LastCut, next}
use Rattle.eql_ckdisk.specs.Going.{Steps, Goes, IsAtLeast, IsNoOlder}
use Rattle.eql_ckdisk.specs.Keeping.{LeavesNoMore}
use Rattle.eql_ckdisk.specs.Putting.{StandsAt, Stands, text_at}
use Rattle.eql_ckdisk.specs.Cuts.{FindsPut, IsFound, KeepsOrPuts, Puts}
use Rattle.eql_ckdisk.specs.Refusing.{IsDamaged, IsForeign}
use Rattle.eql_ckdisk.specs.Runs.{last_after, IsFoundAt, FindsOneOf, KeepsStartOr, KeepsOneOf, PutsAll}
use Rattle.eql_ckdisk.specs.Laws.{PutsGoOn, PutsKeepEachMoment, AddsNothing, RecoveryAddsNothing, FoundIsOne, PutsAreNoOlder, PutsAreFound}
use Rattle.eql_ckdisk.proofs.Moving.{goes_further}

steps_as : (R S : Moment → Moment → Type 0) → ((a b : Moment) → R a b → S a b) → (n : ℕ) (h k : History)
    → Steps R n h k → Steps S n h k
steps_as R S as_ zero h k is = is
steps_as R S as_ (suc n) h k (j, steps, m, is, r) = (j, steps_as R S as_ n h j steps, m, is, as_ j.now m r)

pub goes_as : (R S : Moment → Moment → Type 0) → ((a b : Moment) → R a b → S a b) → (h k : History) → Goes R h k
    → Goes S h k
goes_as R S as_ h k goes = (goes.0, steps_as R S as_ goes.0 h k goes.1)

-- an image after a recovery is one of those before it
no_more : (n : ℕ) (h k : History) → Steps LeavesNoMore n h k → LeavesNoMore h.now k.now
no_more zero h k is image i = subst (λ (x : History). IsImage x.now image) is i
no_more (suc n) h k (j, steps, m, is, r) image i = no_more n h j steps image (r image (subst (λ (x : History). IsImage x.now image) is i))

recovery_steps : (last : LastCut) (n : ℕ) (h k : History) → Steps LeavesNoMore n h k
    → Steps (KeepsOneOf h.now last []) n h k
recovery_steps last zero h k is = is
recovery_steps last (suc n) h k (j, steps, m, is, r) = (
  j,
  recovery_steps last n h j steps,
  m,
  is,
  record {
    one = λ image i. inl (image, no_more n h j steps image (r image i), refl);
    no_older = λ g at_least image i. at_least image (r image i);
  },
)

recovery : (last : LastCut) (o p : Option History) → DiskTells (Goes LeavesNoMore) o p → DiskTells (PutsAll last []) o p
recovery last None None told = tt
recovery last None (Some k) told = told
recovery last (Some h) None told = told
recovery last (Some h) (Some k) told = (told.0, recovery_steps last told.0 h k told.1)

put_goes : ImagesAreThere → (last : LastCut) (cut : Cut) (h k : History) → StandsAt last h.now → Puts last cut h k
    → PutsAll last (cut ∷ []) h k
put_goes there last cut h k (f, at, finds) put =
    goes_as (KeepsOrPuts f (next last) cut) (KeepsOneOf h.now last (cut ∷ [])) (λ a b r. record {
      one = λ image i. ⊎_elim
          (λ (e : found_on image ≡ f). inl (kept_areas h.now, there.kept h.now, e ∙ sym (finds (kept_areas h.now) (there.kept h.now))))
          (λ (e : FindsPut (next last) cut (found_on image)). inr (inl e))
          (r.one image i);
      no_older = r.no_older;
    }) h k (put f at finds)

one_put : ImagesAreThere → (last : LastCut) (cut : Cut) (o p : Option History) → Stands last o
    → DiskTells (Puts last cut) o p → DiskTells (PutsAll last (cut ∷ [])) o p
one_put there last cut None None stands told = tt
one_put there last cut None (Some k) stands told = told
one_put there last cut (Some h) None stands told = told
one_put there last cut (Some h) (Some k) stands told = put_goes there last cut h k stands told

still_one : (last : LastCut) (cuts more : List Cut) (x : Found) → FindsOneOf last cuts x
    → FindsOneOf last (cuts ++ more) x
still_one last [] more x one = absurd one
still_one last (cut ∷ cuts) more x (inl is) = inl is
still_one last (cut ∷ cuts) more x (inr one) = inr (still_one (next last) cuts more x one)

later_one : (last : LastCut) (cuts more : List Cut) (x : Found) → FindsOneOf (last_after last cuts) more x
    → FindsOneOf last (cuts ++ more) x
later_one last [] more x one = one
later_one last (cut ∷ cuts) more x one = inr (later_one (next last) cuts more x one)

-- what an image at the end of a run stands for
at_end : (last : LastCut) (cuts : List Cut) (n : ℕ) (h k : History) → Steps (KeepsOneOf h.now last cuts) n h k
    → KeepsStartOr h.now last cuts k.now
at_end last cuts zero h k is image i = inl (image, subst (λ (x : History). IsImage x.now image) is i, refl)
at_end last cuts (suc n) h k (j, steps, m, is, r) image i = r.one image (subst (λ (x : History). IsImage x.now image) is i)

joined_one : (last : LastCut) (cuts more : List Cut) (h j : History) → PutsAll last cuts h j → (x : Found)
    → IsFoundAt j.now x ⊎ FindsOneOf (last_after last cuts) more x
    → IsFoundAt h.now x ⊎ FindsOneOf last (cuts ++ more) x
joined_one last cuts more h j goes x (inl (image, i, is)) =
    subst (λ (y : Found). IsFoundAt h.now y ⊎ FindsOneOf last (cuts ++ more) y) (sym is)
    (⊎_elim (λ (e : IsFoundAt h.now (found_on image)). inl e) (λ (e : FindsOneOf last cuts (found_on image)). inr (still_one last cuts more (found_on image) e)) (at_end last cuts goes.0 h j goes.1 image i))
joined_one last cuts more h j goes x (inr one) = inr (later_one last cuts more x one)

joined_goes : (last : LastCut) (cuts more : List Cut) (h j k : History) → PutsAll last cuts h j
    → PutsAll (last_after last cuts) more j k → PutsAll last (cuts ++ more) h k
joined_goes last cuts more h j k first second =
    goes_further (KeepsOneOf h.now last (cuts ++ more)) h j k
    (goes_as (KeepsOneOf h.now last cuts) (KeepsOneOf h.now last (cuts ++ more)) (λ a b r. record {
      one = λ image i. ⊎_elim (λ (e : IsFoundAt h.now (found_on image)). inl e) (λ (e : FindsOneOf last cuts (found_on image)). inr (still_one last cuts more (found_on image) e)) (r.one image i);
      no_older = r.no_older;
    }) h j first)
    (goes_as (KeepsOneOf j.now (last_after last cuts) more) (KeepsOneOf h.now last (cuts ++ more)) (λ a b r. record {
      one = λ image i. joined_one last cuts more h j first (found_on image) (r.one image i);
      no_older = r.no_older;
    }) j k second)

joined : (last : LastCut) (cuts more : List Cut) (o p q : Option History) → DiskTells (PutsAll last cuts) o p
    → DiskTells (PutsAll (last_after last cuts) more) p q → DiskTells (PutsAll last (cuts ++ more)) o q
joined last cuts more None None None one two = tt
joined last cuts more None None (Some k) one two = two
joined last cuts more None (Some j) q one two = absurd one
joined last cuts more (Some h) None q one two = absurd one
joined last cuts more (Some h) (Some j) None one two = two
joined last cuts more (Some h) (Some j) (Some k) one two = joined_goes last cuts more h j k one two

pub go_on : ImagesAreThere → PutsGoOn
go_on there = record { recovery = recovery; one_put = one_put there; joined = joined }

module _ (last : LastCut) (cuts : List Cut) (h : History) where
  R : Moment → Moment → Type 0
  R = KeepsOneOf h.now last cuts

  -- no moment is older than any before it
  record Since (k : History) : Type 0 where
    moments : List Moment
    are_all : k.now ∷ k.past ≡ moments ++ h.now ∷ h.past
    each : All (KeepsStartOr h.now last cuts) moments
    newest : All (λ m. IsNoOlder m k.now) (moments ++ h.now ∷ [])
    no_older : AllPairs (λ m before. IsNoOlder before m) (moments ++ h.now ∷ [])

  no_older_here : (m : Moment) → IsNoOlder m m
  no_older_here m n at_least = at_least

  since : (n : ℕ) (k : History) → Steps (KeepsOneOf h.now last cuts) n h k → Since k
  since zero k is = record {
    moments = [];
    are_all = (λ i. (is i).now ∷ (is i).past);
    each = λ k d lt. absurd (omega arith);
    newest = All-cons (λ m. IsNoOlder m k.now) h.now [] (subst (λ (x : History). IsNoOlder h.now x.now) (sym is) (no_older_here h.now)) (λ k d lt. absurd (omega arith));
    no_older = AllPairs-cons (λ m before. IsNoOlder before m) h.now [] (λ k d lt. absurd (omega arith)) (λ i j d lt within. absurd (omega arith));
  }
  since (suc n) k (j, steps, m, is, r) =
      let so = since n j steps in
      let older : All (λ before. IsNoOlder before m) (so.moments ++ h.now ∷ []) = λ i d lt g at_least. r.no_older g (so.newest i d lt g at_least) in
      let here : k.now ≡ m = ap (λ (x : History). x.now) is in
      record {
        moments = m ∷ so.moments;
        are_all = (λ i. (is i).now ∷ (is i).past) ∙ ap (λ (l : List Moment). m ∷ l) so.are_all;
        each = All-cons (KeepsStartOr h.now last cuts) m so.moments r.one so.each;
        newest = subst (λ (x : Moment). All (λ before. IsNoOlder before x) (m ∷ (so.moments ++ h.now ∷ []))) (sym here)
            (All-cons (λ before. IsNoOlder before m) m (so.moments ++ h.now ∷ []) (no_older_here m) older);
        no_older = AllPairs-cons (λ x before. IsNoOlder before x) m (so.moments ++ h.now ∷ []) older so.no_older;
      }

  no_older_end : (n : ℕ) (k : History) → Steps (KeepsOneOf h.now last cuts) n h k → IsNoOlder h.now k.now
  no_older_end zero k is g at = subst (λ (x : History). IsAtLeast g x.now) (sym is) at
  no_older_end (suc n) k (j, steps, m, is, r) g at = subst (λ (x : History). IsAtLeast g x.now) (sym is) (r.no_older g (no_older_end n j steps g at))

nothing_more : (n : ℕ) (h k : History) → Steps LeavesNoMore n h k → AddsNothing h k
nothing_more zero h k is = record {
  moments = [];
  are_all = (λ i. (is i).now ∷ (is i).past);
  each = λ k d lt. absurd (omega arith);
}
nothing_more (suc n) h k (j, steps, m, is, r) =
    let so = nothing_more n h j steps in
    record {
      moments = m ∷ so.moments;
      are_all = (λ i. (is i).now ∷ (is i).past) ∙ ap (λ (l : List Moment). m ∷ l) so.are_all;
      each = All-cons (LeavesNoMore h.now) m so.moments (λ image i. no_more n h j steps image (r image i)) so.each;
    }

pub recovery_adds_nothing : RecoveryAddsNothing
recovery_adds_nothing h k goes = nothing_more goes.0 h k goes.1

pub each_moment : PutsKeepEachMoment
each_moment last cuts h k goes =
    let so = since last cuts h goes.0 k goes.1 in
    record { moments = so.moments; are_all = so.are_all; each = so.each; no_older = so.no_older }

pub never_older : PutsAreNoOlder
never_older last cuts h k goes = no_older_end last cuts h goes.0 k goes.1

abbrev area_in : Found → Area
area_in nothing = A
area_in (text area generation bytes) = area
area_in (damaged area generation) = area
area_in (foreign area) = area

abbrev text_in : Found → List ℕ
text_in nothing = []
text_in (text area generation bytes) = bytes
text_in (damaged area generation) = []
text_in (foreign area) = []

same_text : (a b : LastCut) (x y : List ℕ) → text_at a x ≡ text_at b y → (a ≡ b) × (x ≡ y)
same_text a b x y is = ((λ i. record { area = ap area_in is i; generation = ap generation_of is i }), ap text_in is)

pub puts_found : PutsAreFound
puts_found put cut last format None f (bytes, is, t) (none, no_format, no_generation) = absurd (let e : text_at put bytes ≡ nothing = sym is ∙ none in cc)
puts_found put cut last format (Some other) f (bytes, is, t) (seen, there, alone) =
    let same = same_text put last bytes seen (sym is ∙ there) in
    let only = alone.alone 4 cut (subst (IsText 4 cut) same.1 t) in
    (ap Some (sym only.1), sym only.0, sym same.0)

one_answer : (last other : LastCut) (format other_format : ℕ) (answer other_answer : Option Cut) (f : Found)
    → IsFound last format answer f → IsFound other other_format other_answer f
    → (answer ≡ other_answer) × (format ≡ other_format) × (last.generation ≡ other.generation)
one_answer last other format other_format None None f a b = (refl, a.1 ∙ sym b.1, a.2 ∙ sym b.2)
one_answer last other format other_format None (Some d) f a (bytes, is, t) = absurd (let e : text_at other bytes ≡ nothing = sym is ∙ a.0 in cc)
one_answer last other format other_format (Some c) None f (bytes, is, t) b = absurd (let e : text_at last bytes ≡ nothing = sym is ∙ b.0 in cc)
one_answer last other format other_format (Some c) (Some d) f (bytes, is, t) (seen, there, u) =
    let same = same_text last other bytes seen (sym is ∙ there) in
    let only = t.alone other_format d (subst (IsText other_format d) (sym same.1) u.is) in
    (ap Some (sym only.1), sym only.0, ap (λ (x : LastCut). x.generation) same.0)

no_damage : (last : LastCut) (format : ℕ) (answer : Option Cut) (number at : ℕ) (f : Found)
    → IsFound last format answer f → IsDamaged number at f → ⊥
no_damage last format None number at f is damage = subst (IsDamaged number at) is.0 damage
no_damage last format (Some cut) number at f (bytes, is, t) damage =
    let d : IsDamaged number at (text_at last bytes) = subst (IsDamaged number at) is damage in
    d.1 format cut t.is

ours_alone : (last : LastCut) (format : ℕ) (answer : Option Cut) (number : ℕ) (f : Found)
    → IsFound last format answer f → IsForeign number f → ⊥
ours_alone last format None number f is other = subst (IsForeign number) is.0 other
ours_alone last format (Some cut) number f (bytes, is, t) other = subst (IsForeign number) is other

pub found_is_one : FoundIsOne
found_is_one = record { one = one_answer; sound = no_damage; own = ours_alone }
