-- Which area counts.
use Rattle.std.proofs.Common.{◌≡◌, ℕ, ◌≤◌, ◌<◌, Bool, true, false, cond, ◌==◌, leb, List, take, drop, [], ◌∷◌, Option, Some, None, refl, sym, ◌∙◌, ap, subst, arith}
use Rattle.std.proofs.lemmas.Bool.{lt-leb, le-leb, leb-true, eqb-true, and_parts, cond_both, cond-true, cond-false, ne_eqb, eq-eqb}
use Rattle.eql_outside.specs.declared.disk.Area.{Area}
use Rattle.eql_outside.specs.declared.disk.Area.TheVariants.{A, B}
use Rattle.eql_outside.specs.Areas.{Areas, other_area, bytes_of}
use Rattle.eql_ckdisk.specs.Found.{Found, nothing, text, damaged, foreign, is_open, is_foreign, generation_in, is_whole, holds, length_in, pick, pick_own, found_on, generation_of, LastCut, IsAt, next_area}

-- what an area stands for where the other doesn't count
abbrev pub alone : Area → List ℕ → Found
alone area bytes = cond (is_foreign bytes) (foreign area) (cond (is_open bytes) (holds area bytes) nothing)

-- what was found is no other program's
abbrev pub IsOwn : Found → Type 0
IsOwn nothing = Unit {0}
IsOwn (text area generation bytes) = Unit {0}
IsOwn (damaged area generation) = Unit {0}
IsOwn (foreign area) = ⊥

-- then no area is
both_own : (fa fb : Bool) (p f : Found) → IsOwn f → pick_own fa fb p ≡ f
    → (fa ≡ false) × (fb ≡ false) × (p ≡ f)
both_own true fb p f own is = absurd (subst IsOwn (sym is) own)
both_own false true p f own is = absurd (subst IsOwn (sym is) own)
both_own false false p f own is = (refl, refl, is)

neither : (fa fb : Bool) (p : Found) → fa ≡ false → fb ≡ false → pick_own fa fb p ≡ p
neither fa fb p a b = cond-false fa (foreign A) (pick_own false fb p) a ∙ cond-false fb (foreign B) p b

one_own : (fo : Bool) (area : Area) (p f : Found) → IsOwn f → cond fo (foreign area) p ≡ f → fo ≡ false
one_own true area p f own is = absurd (subst IsOwn (sym is) own)
one_own false area p f own is = refl

pub alone_own : (area : Area) (bytes : List ℕ) (f : Found) → IsOwn f → alone area bytes ≡ f → is_foreign bytes ≡ false
alone_own area bytes f own is = one_own (is_foreign bytes) area (cond (is_open bytes) (holds area bytes) nothing) f own is

open_own : (bytes : List ℕ) → is_open bytes ≡ true → is_foreign bytes ≡ false
open_own [] is = refl
open_own (gate ∷ rest) is = subst (λ (x : ℕ). is_foreign (x ∷ rest) ≡ false) (sym (eqb-true gate 1 is)) refl

-- the area of what was found
abbrev place_of : Found → Option Area
place_of nothing = None
place_of (text area generation bytes) = Some area
place_of (damaged area generation) = Some area
place_of (foreign area) = Some area

holds_place : (area : Area) (bytes : List ℕ) → place_of (holds area bytes) ≡ Some area
holds_place area bytes =
    cond_both (is_whole bytes) (text area (generation_in bytes) (take (length_in bytes) (drop 17 bytes))) (damaged area (generation_in bytes)) (λ f. place_of f ≡ Some area) (λ is. refl) (λ is. refl)

pub holds_generation : (area : Area) (bytes : List ℕ) → generation_of (holds area bytes) ≡ generation_in bytes
holds_generation area bytes =
    cond_both (is_whole bytes) (text area (generation_in bytes) (take (length_in bytes) (drop 17 bytes))) (damaged area (generation_in bytes)) (λ f. generation_of f ≡ generation_in bytes) (λ is. refl) (λ is. refl)

-- a text has a generation from 1 on
abbrev Given : Found → Type 0
Given nothing = Unit {0}
Given (text area generation bytes) = 1 ≤ generation
Given (damaged area generation) = Unit {0}
Given (foreign area) = Unit {0}

holds_given : (area : Area) (bytes : List ℕ) → Given (holds area bytes)
holds_given area bytes =
    cond_both (is_whole bytes) (text area (generation_in bytes) (take (length_in bytes) (drop 17 bytes))) (damaged area (generation_in bytes)) Given
    (λ is. leb-true 1 (generation_in bytes) (and_parts _ _ (and_parts _ _ is).0).0) (λ is. tt)

pick_given : (oa ob na : Bool) (fa fb : Found) → Given fa → Given fb → Given (pick oa ob na fa fb)
pick_given true true true fa fb ga gb = ga
pick_given true true false fa fb ga gb = gb
pick_given true false na fa fb ga gb = ga
pick_given false true na fa fb ga gb = gb
pick_given false false na fa fb ga gb = tt

pub found_given : (image : Areas) (area : Area) (g : ℕ) (bytes : List ℕ) → found_on image ≡ text area g bytes → 1 ≤ g
found_given image area g bytes is =
    let o = both_own (is_foreign image.a) (is_foreign image.b) (pick (is_open image.a) (is_open image.b) (leb (generation_in image.b) (generation_in image.a)) (holds A image.a) (holds B image.b)) (text area g bytes) tt is in
    subst Given o.2 (pick_given (is_open image.a) (is_open image.b) (leb (generation_in image.b) (generation_in image.a)) (holds A image.a) (holds B image.b) (holds_given A image.a) (holds_given B image.b))

closed_a : (oa ob na : Bool) (fa fb : Found) → oa ≡ false → pick oa ob na fa fb ≡ cond ob fb nothing
closed_a true ob na fa fb is = absurd (cc)
closed_a false ob na fa fb is = refl

closed_b : (oa ob na : Bool) (fa fb : Found) → ob ≡ false → pick oa ob na fa fb ≡ cond oa fa nothing
closed_b oa true na fa fb is = absurd (cc)
closed_b true false na fa fb is = refl
closed_b false false na fa fb is = refl

-- where an area is closed the other counts
pub closed : (area : Area) (image : Areas) → is_foreign (bytes_of area image) ≡ false
    → is_open (bytes_of area image) ≡ false
    → found_on image ≡ alone (other_area area) (bytes_of (other_area area) image)
closed A image own is =
    cond-false (is_foreign image.a) (foreign A) (pick_own false (is_foreign image.b) (pick (is_open image.a) (is_open image.b) (leb (generation_in image.b) (generation_in image.a)) (holds A image.a) (holds B image.b))) own
    ∙ ap (λ (x : Found). pick_own false (is_foreign image.b) x) (closed_a (is_open image.a) (is_open image.b) (leb (generation_in image.b) (generation_in image.a)) (holds A image.a) (holds B image.b) is)
closed B image own is =
    ap (λ (x : Found). cond (is_foreign image.a) (foreign A) x)
    (cond-false (is_foreign image.b) (foreign B) (pick (is_open image.a) (is_open image.b) (leb (generation_in image.b) (generation_in image.a)) (holds A image.a) (holds B image.b)) own
    ∙ closed_b (is_open image.a) (is_open image.b) (leb (generation_in image.b) (generation_in image.a)) (holds A image.a) (holds B image.b) is)

only_a : (oa ob na : Bool) (fa fb f : Found) → place_of f ≡ Some A → place_of fb ≡ Some B → pick oa ob na fa fb ≡ f
    → cond oa fa nothing ≡ f
only_a true true true fa fb f pf pb is = is
only_a true true false fa fb f pf pb is = let e : place_of fb ≡ place_of f = ap place_of is in let no : Some B ≡ Some A = sym pb ∙ e ∙ pf in absurd (cc)
only_a true false na fa fb f pf pb is = is
only_a false true na fa fb f pf pb is = let e : place_of fb ≡ place_of f = ap place_of is in let no : Some B ≡ Some A = sym pb ∙ e ∙ pf in absurd (cc)
only_a false false na fa fb f pf pb is = is

only_b : (oa ob na : Bool) (fa fb f : Found) → place_of f ≡ Some B → place_of fa ≡ Some A → pick oa ob na fa fb ≡ f
    → cond ob fb nothing ≡ f
only_b true true true fa fb f pf pa is = let e : place_of fa ≡ place_of f = ap place_of is in let no : Some A ≡ Some B = sym pa ∙ e ∙ pf in absurd (cc)
only_b true true false fa fb f pf pa is = is
only_b true false na fa fb f pf pa is = let e : place_of fa ≡ place_of f = ap place_of is in let no : Some A ≡ Some B = sym pa ∙ e ∙ pf in absurd (cc)
only_b false true na fa fb f pf pa is = is
only_b false false na fa fb f pf pa is = is

-- a text that was found is what its area stands for
pub where_found : (area : Area) (image : Areas) (g : ℕ) (bytes : List ℕ) → found_on image ≡ text area g bytes
    → alone area (bytes_of area image) ≡ text area g bytes
where_found A image g bytes is =
    let o = both_own (is_foreign image.a) (is_foreign image.b) (pick (is_open image.a) (is_open image.b) (leb (generation_in image.b) (generation_in image.a)) (holds A image.a) (holds B image.b)) (text A g bytes) tt is in
    cond-false (is_foreign image.a) (foreign A) (cond (is_open image.a) (holds A image.a) nothing) o.0
    ∙ only_a (is_open image.a) (is_open image.b) (leb (generation_in image.b) (generation_in image.a)) (holds A image.a) (holds B image.b) (text A g bytes) refl (holds_place B image.b) o.2
where_found B image g bytes is =
    let o = both_own (is_foreign image.a) (is_foreign image.b) (pick (is_open image.a) (is_open image.b) (leb (generation_in image.b) (generation_in image.a)) (holds A image.a) (holds B image.b)) (text B g bytes) tt is in
    cond-false (is_foreign image.b) (foreign B) (cond (is_open image.b) (holds B image.b) nothing) o.1
    ∙ only_b (is_open image.a) (is_open image.b) (leb (generation_in image.b) (generation_in image.a)) (holds A image.a) (holds B image.b) (text B g bytes) refl (holds_place A image.a) o.2

none_b : (oa ob na : Bool) (fa fb : Found) → place_of fa ≡ Some A → place_of fb ≡ Some B
    → pick oa ob na fa fb ≡ nothing → cond ob fb nothing ≡ nothing
none_b true true true fa fb pa pb is = let e : place_of fa ≡ None = ap place_of is in let no : Some A ≡ None = sym pa ∙ e in absurd (cc)
none_b true true false fa fb pa pb is = is
none_b true false na fa fb pa pb is = refl
none_b false true na fa fb pa pb is = is
none_b false false na fa fb pa pb is = refl

-- where nothing was found the second area stands for nothing
second_none : (image : Areas) → found_on image ≡ nothing → alone B image.b ≡ nothing
second_none image is =
    let o = both_own (is_foreign image.a) (is_foreign image.b) (pick (is_open image.a) (is_open image.b) (leb (generation_in image.b) (generation_in image.a)) (holds A image.a) (holds B image.b)) nothing tt is in
    cond-false (is_foreign image.b) (foreign B) (cond (is_open image.b) (holds B image.b) nothing) o.1
    ∙ none_b (is_open image.a) (is_open image.b) (leb (generation_in image.b) (generation_in image.a)) (holds A image.a) (holds B image.b) (holds_place A image.a) (holds_place B image.b) o.2

-- what the area stands for that isn't written next
pub other_stands : (last : LastCut) (f : Found) (image : Areas) → IsAt last f → found_on image ≡ f
    → alone (other_area (next_area last)) (bytes_of (other_area (next_area last)) image) ≡ f
other_stands last nothing image zero_ is =
    subst (λ (x : Area). alone (other_area x) (bytes_of (other_area x) image) ≡ nothing) (sym (cond-true (last.generation == 0) A (other_area last.area) (eq-eqb last.generation 0 zero_)))
    (second_none image is)
other_stands last (text a g bytes) image (same, same_g) is =
    let given = found_given image a g bytes is in
    let not_zero : last.generation ≡ 0 → ⊥ = λ z. omega arith in
    subst (λ (x : Area). alone (other_area x) (bytes_of (other_area x) image) ≡ text a g bytes) (sym (cond-false (last.generation == 0) A (other_area last.area) (ne_eqb last.generation 0 not_zero)))
    (back last.area same)
  where
    back : (x : Area) → a ≡ x
        → alone (other_area (other_area x)) (bytes_of (other_area (other_area x)) image) ≡ text a g bytes
    back A e = subst (λ (y : Area). alone y (bytes_of y image) ≡ text a g bytes) e (where_found a image g bytes is)
    back B e = subst (λ (y : Area). alone y (bytes_of y image) ≡ text a g bytes) e (where_found a image g bytes is)
other_stands last (damaged a g) image at is = absurd at
other_stands last (foreign a) image at is = absurd at

newer_a : (oa ob na : Bool) (fa fb : Found) → oa ≡ true → (ob ≡ true → na ≡ true) → pick oa ob na fa fb ≡ fa
newer_a true true true fa fb is newer = refl
newer_a true true false fa fb is newer = let e = newer refl in absurd (cc)
newer_a true false na fa fb is newer = refl
newer_a false ob na fa fb is newer = absurd (cc)

newer_b : (oa ob na : Bool) (fa fb : Found) → ob ≡ true → (oa ≡ true → na ≡ false) → pick oa ob na fa fb ≡ fb
newer_b true true true fa fb is newer = let e = newer refl in absurd (cc)
newer_b true true false fa fb is newer = refl
newer_b false true na fa fb is newer = refl
newer_b oa false na fa fb is newer = absurd (cc)

-- an open area with a greater generation than the other, which is no other program's, counts
pub newer : (area : Area) (image : Areas) → is_open (bytes_of area image) ≡ true
    → is_foreign (bytes_of (other_area area) image) ≡ false
    → (is_open (bytes_of (other_area area) image) ≡ true → generation_in (bytes_of (other_area area) image) < generation_in (bytes_of area image))
    → found_on image ≡ holds area (bytes_of area image)
newer A image is own greater =
    neither (is_foreign image.a) (is_foreign image.b) (pick (is_open image.a) (is_open image.b) (leb (generation_in image.b) (generation_in image.a)) (holds A image.a) (holds B image.b)) (open_own image.a is) own
    ∙ newer_a (is_open image.a) (is_open image.b) (leb (generation_in image.b) (generation_in image.a)) (holds A image.a) (holds B image.b) is (λ o. let lt = greater o in le-leb (generation_in image.b) (generation_in image.a) (omega arith))
newer B image is own greater =
    neither (is_foreign image.a) (is_foreign image.b) (pick (is_open image.a) (is_open image.b) (leb (generation_in image.b) (generation_in image.a)) (holds A image.a) (holds B image.b)) own (open_own image.b is)
    ∙ newer_b (is_open image.a) (is_open image.b) (leb (generation_in image.b) (generation_in image.a)) (holds A image.a) (holds B image.b) is (λ o. let lt = greater o in lt-leb (generation_in image.b) (generation_in image.a) (omega arith))

-- where the area alone stands for something, its generation is that
pub alone_generation : (area : Area) (bytes : List ℕ) (f : Found) → alone area bytes ≡ f → is_open bytes ≡ true
    → generation_in bytes ≡ generation_of f
alone_generation area bytes f is open_ =
    let own : alone area bytes ≡ cond (is_open bytes) (holds area bytes) nothing = cond-false (is_foreign bytes) (foreign area) (cond (is_open bytes) (holds area bytes) nothing) (open_own bytes open_) in
    sym (holds_generation area bytes) ∙ ap generation_of (sym (cond-true (is_open bytes) (holds area bytes) nothing open_) ∙ sym own ∙ is)
