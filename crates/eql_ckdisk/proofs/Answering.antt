-- What is found, as cuts.
use Rattle.std.proofs.Common.{◌≡◌, inl, inr, ⊎_elim, ℕ, List, Vec, Global, Option, Some, None, Result, Err, IfErr, IfSome, IsSomeAnd, refl, sym, ◌∙◌, ap, subst}
use Rattle.eql_outside.specs.Areas.{Areas, seen_areas}
use Rattle.eql_outside.specs.Moments.{History, DiskTells}
use Rattle.eql_cut.specs.declared.cut.Cut.{Cut}
use Rattle.eql_cut.specs.Whole.{IsText, IsTextOf, IsNoText}
use Rattle.eql_ckdisk.specs.declared.refused.CkRefused.{CkRefused}
use Rattle.eql_ckdisk.specs.declared.find.LastText.{LastText}
use Rattle.eql_ckdisk.specs.declared.recovery.Recovered.{Recovered}
use Rattle.eql_ckdisk.specs.Found.{Found, nothing, text, damaged, foreign, found_on, Finds, EachFinds, LastCut, IsAt, next}
use Rattle.eql_ckdisk.specs.Going.{Keeps}
use Rattle.eql_ckdisk.specs.Keeping.{all_kept, KeepsAll}
use Rattle.eql_ckdisk.specs.Heads.{IsTextFound}
use Rattle.eql_ckdisk.specs.Putting.{last_cut, Stands, text_at, PutsText, HasPutText}
use Rattle.eql_ckdisk.specs.Cuts.{FindsCut, IsFound, Holds, KeepsOrPuts, Puts}
use Rattle.eql_ckdisk.specs.Recovering.{IsAnswer}
use Rattle.eql_ckdisk.specs.Refusing.{number_of, IsDamaged, RefusesFound, TellsFound}
use Rattle.eql_ckdisk.proofs.Settling.{seen_alone}
use Rattle.eql_ckdisk.proofs.RunLemmas.{goes_as}

some_none : {A : Type 0} (a : A) → Some a ≡ None → ⊥
some_none a is = cc

-- no text: nothing was found
pub none_found : (last : LastText) → last.text ≡ None → (f : Found) → IsTextFound last f
    → (f ≡ nothing) × (last.state.generation ≡ 0)
none_found last is nothing there = (refl, there.1)
none_found last is (text area g bytes) there = absurd (subst (λ (o : Option (Vec ℕ Global)). IsSomeAnd o (λ v. v.items ≡ bytes)) is there.0)
none_found last is (damaged area g) there = absurd there
none_found last is (foreign area) there = absurd there

-- a text: it was found
pub text_found : (last : LastText) (v : Vec ℕ Global) → last.text ≡ Some v → (f : Found) → IsTextFound last f
    → f ≡ text last.state.area last.state.generation v.items
text_found last v is nothing there = absurd (some_none v (sym is ∙ there.0))
text_found last v is (text area g bytes) there =
    let same : v.items ≡ bytes = subst (λ (o : Option (Vec ℕ Global)). IsSomeAnd o (λ w. w.items ≡ bytes)) is there.0 in
    (λ i. text (sym there.1 i) (sym there.2 i) (sym same i))
text_found last v is (damaged area g) there = absurd there
text_found last v is (foreign area) there = absurd there

pub cut_found : (last : LastText) (v : Vec ℕ Global) (format : ℕ) (cut : Cut) → last.text ≡ Some v
    → IsTextOf format cut v.items → (f : Found) → IsTextFound last f → FindsCut (last_cut last.state) format cut f
cut_found last v format cut is t f there = (v.items, text_found last v is f there, t)

pub damage_found : (last : LastText) (v : Vec ℕ Global) (number at : ℕ) → last.text ≡ Some v
    → number ≡ number_of last.state.area → IsNoText v.items → (f : Found) → IsTextFound last f → IsDamaged number at f
damage_found last v number at is area no_text f there =
    subst (IsDamaged number at) (sym (text_found last v is f there)) (area, no_text)

-- what was found stands where the answer says
pub is_at : (last : LastCut) (format : ℕ) (answer : Option Cut) (f : Found) → IsFound last format answer f
    → IsAt last f
is_at last format None f is = subst (IsAt last) (sym is.0) is.2
is_at last format (Some cut) f is = subst (IsAt last) (sym is.1) (refl, refl)

-- where both areas are kept, each image is what reads give
pub each_image : (P : Found → Type 0) (o p : Option History) → DiskTells KeepsAll o p
    → IfSome p (λ k. P (found_on (seen_areas k.now))) → IfSome p (λ k. EachFinds P k.now)
each_image P None None told there = tt
each_image P None (Some k) told there = absurd told
each_image P (Some h) None told there = tt
each_image P (Some h) (Some k) told there = λ image i.
    subst (λ (x : Areas). P (found_on x)) (sym (seen_alone k.now image (told.now ∙ ap all_kept (sym told.now)) i)) there

one_stands : (last : LastCut) (format : ℕ) (answer : Option Cut) (o p : Option History) → DiskTells KeepsAll o p
    → IfSome p (λ k. IsFound last format answer (found_on (seen_areas k.now))) → Stands last p
one_stands last format answer None None told there = tt
one_stands last format answer None (Some k) told there = absurd told
one_stands last format answer (Some h) None told there = tt
one_stands last format answer (Some h) (Some k) told there =
    (found_on (seen_areas k.now), is_at last format answer (found_on (seen_areas k.now)) there, λ image i. ap found_on (seen_alone k.now image (told.now ∙ ap all_kept (sym told.now)) i))

if_some : {X : Type 0} (P Q : X → Type 0) (o : Option X) → ((x : X) → P x → Q x) → IfSome o P → IfSome o Q
if_some P Q None f p = tt
if_some P Q (Some x) f p = f x p

-- of a text that was found after both areas were kept
module _ (last : LastText) (r : Recovered) (o p : Option History) (kept : DiskTells KeepsAll o p) (there : IfSome p (λ k. IsTextFound last (found_on (seen_areas k.now)))) (reads : (f : Found) → IsTextFound last f → IsAnswer r f) where
  answers_seen : IfSome p (λ k. IsAnswer r (found_on (seen_areas k.now)))
  answers_seen = if_some (λ (k : History). IsTextFound last (found_on (seen_areas k.now))) (λ (k : History). IsAnswer r (found_on (seen_areas k.now))) p (λ k is. reads (found_on (seen_areas k.now)) is) there

  pub answers_each : IfSome p (λ k. EachFinds (IsAnswer r) k.now)
  answers_each = each_image (IsAnswer r) o p kept answers_seen

  pub answer_stands : Stands (last_cut r.state) p
  answer_stands = one_stands (last_cut r.state) r.format r.cut o p kept answers_seen

-- what is said of a refusal after both areas were kept
abbrev Said : CkRefused → Option History → Type 0
Said e q = IfSome q (λ k. EachFinds (RefusesFound e) k.now)

refused_so : (r : Result Recovered CkRefused) (y e : CkRefused) (p q : Option History) → r ≡ Err y → y ≡ e → q ≡ p
    → Said e p → IfErr r (λ z. Said z q)
refused_so r y e p q is same here said =
    subst (λ (x : Result Recovered CkRefused). IfErr x (λ z. Said z q)) (sym is)
    (subst (λ (z : CkRefused). Said z q) (sym same) (subst (Said e) (sym here) said))

-- by what was found
pub found_refused : (r : Result Recovered CkRefused) (y e : CkRefused) (o p q : Option History) → r ≡ Err y → y ≡ e
    → q ≡ p → DiskTells KeepsAll o p → IfSome p (λ k. RefusesFound e (found_on (seen_areas k.now)))
    → IfErr r (λ z. Said z q)
found_refused r y e o p q is same here kept there = refused_so r y e p q is same here (each_image (RefusesFound e) o p kept there)

-- by a text that was found
pub text_refused : (last : LastText) (r : Result Recovered CkRefused) (y e : CkRefused) (o p q : Option History)
    → r ≡ Err y → y ≡ e → q ≡ p → DiskTells KeepsAll o p
    → IfSome p (λ k. IsTextFound last (found_on (seen_areas k.now))) → ((f : Found) → IsTextFound last f → RefusesFound e f)
    → IfErr r (λ z. Said z q)
text_refused last r y e o p q is same here kept there so =
    found_refused r y e o p q is same here kept
    (if_some (λ (k : History). IsTextFound last (found_on (seen_areas k.now))) (λ (k : History). RefusesFound e (found_on (seen_areas k.now))) p (λ k is_found. so (found_on (seen_areas k.now)) is_found) there)

-- what reads gave is kept
pub kept_refused : (r : Result Recovered CkRefused) (y : CkRefused) (o p q : Option History) → r ≡ Err y → q ≡ p
    → DiskTells KeepsAll o p → IfErr r (λ e. TellsFound e → DiskTells KeepsAll o q)
kept_refused r y o p q is same kept =
    subst (λ (x : Result Recovered CkRefused). IfErr x (λ e. TellsFound e → DiskTells KeepsAll o q)) (sym is)
    (λ tells. subst (λ (x : Option History). DiskTells KeepsAll o x) (sym same) kept)

-- a text of a cut is put
module _ (last : LastCut) (cut : Cut) (bytes : List ℕ) (t : IsText 4 cut bytes) where
  cut_put : (h k : History) → PutsText last bytes h k → Puts last cut h k
  cut_put h k put f at finds =
      goes_as (Keeps f (text_at (next last) bytes)) (KeepsOrPuts f (next last) cut)
      (λ a b r. record {
        one = λ image i. ⊎_elim (λ (e : found_on image ≡ f). inl e) (λ (e : found_on image ≡ text_at (next last) bytes). inr (bytes, e, t)) (r.one image i);
        no_older = r.no_older;
      }) h k (put f at finds)

  pub told_put : (o p : Option History) → DiskTells (PutsText last bytes) o p → DiskTells (Puts last cut) o p
  told_put None None put = tt
  told_put None (Some k) put = put
  told_put (Some h) None put = put
  told_put (Some h) (Some k) put = cut_put h k put

  pub told_holds : (new : LastCut) (o p : Option History) → new ≡ next last → DiskTells (HasPutText last bytes) o p
      → IfSome p (λ k. Holds new cut k.now)
  told_holds new None None is put = tt
  told_holds new None (Some k) is put = absurd put
  told_holds new (Some h) None is put = tt
  told_holds new (Some h) (Some k) is put = (bytes, t, subst (λ (x : LastCut). Finds (text_at x bytes) k.now) (sym is) put.finds)

pub holds_stands : (new : LastCut) (cut : Cut) (o : Option History) → IfSome o (λ k. Holds new cut k.now)
    → Stands new o
holds_stands new cut None there = tt
holds_stands new cut (Some k) (bytes, t, finds) = (text_at new bytes, (refl, refl), finds)
