-- Places that a search passes over.
use Rattle.std.proofs.Common.{◌≡◌, ℕ, ◌+◌, ◌-◌, ◌<◌, ◌≤◌, Bool, true, false, zero, suc, cond, List, [], ◌∷◌, Option, Some, None, length, take, drop, refl, sym, ap, ◌∙◌, arith, subst}
use Rattle.std.specs.Option.{option_or}
use Rattle.std.specs.List.{drop-map}
use Rattle.std.proofs.lemmas.List.{length-take}
use Rattle.eql_text.specs.Folding.{seen_char}
use Rattle.eql_text.specs.Comparing.{starts}
use Rattle.eql_text.specs.Placing.{place_from, last_place_from}
use Rattle.eql_text.specs.declared.repeats.Run.{Run}
use Rattle.eql_text.specs.Repeats.{seen_text, IsKnown, Meets, Stops, IsNoted, move_by, kept_count}
use Rattle.eql_text.proofs.Finding.{place_later}
use Rattle.eql_text.proofs.Repeating.{passed, stays, noted, IsTold, told_on, move_positive}
use Rattle.eql_text.proofs.Laying.{begins, seen_length, seen_left}

-- t begins at none of the first k places of s
abbrev pub Nowhere : Bool → List ℕ → List ℕ → ℕ → Type 0
Nowhere fold s t k = (e : ℕ) → e < k → starts fold (drop e s) t ≡ false

pub place_jump : (fold : Bool) (n k : ℕ) (s t : List ℕ) → Nowhere fold s t k → k ≤ length s → place_from fold n s t ≡ place_from fold (n + k) (drop k s) t
place_jump fold n zero s t none h = let e : n ≡ n + 0 = omega arith in ap (λ j. place_from fold j s t) e
place_jump fold n (suc k) [] t none h = absurd (omega arith)
place_jump fold n (suc k) (c ∷ s) t none h =
    let next : n + 1 + k ≡ n + suc k = omega arith in
    place_later fold n c (c ∷ s) s t (sym (none 0 (omega arith))) refl
    ∙ place_jump fold (n + 1) k s t (λ e l. none (suc e) (omega arith)) (omega arith)
    ∙ ap (λ j. place_from fold j (drop k s) t) next

pub place_none : (fold : Bool) (n k : ℕ) (s t : List ℕ) → Nowhere fold s t k → length s < k → place_from fold n s t ≡ None
place_none fold n k [] t none h = ap (λ b. cond b (Some n) None) (none 0 (omega arith))
place_none fold n zero (c ∷ s) t none h = absurd (omega arith)
place_none fold n (suc k) (c ∷ s) t none h =
    place_later fold n c (c ∷ s) s t (sym (none 0 (omega arith))) refl
    ∙ place_none fold (n + 1) k s t (λ e l. none (suc e) (omega arith)) (omega arith)

-- ---- the last place

or_none : (a : Option ℕ) → option_or a None ≡ a
or_none None = refl
or_none (Some n) = refl

or_cond : (a f : Option ℕ) (n : ℕ) (b : Bool) → option_or (option_or a (cond b (Some n) None)) f ≡ option_or a (cond b (Some n) f)
or_cond None f n true = refl
or_cond None f n false = refl
or_cond (Some m) f n true = refl
or_cond (Some m) f n false = refl

last_jump : (fold : Bool) (n k : ℕ) (s t : List ℕ) → Nowhere fold s t k → k ≤ length s → last_place_from fold n s t ≡ last_place_from fold (n + k) (drop k s) t
last_jump fold n zero s t none h = let e : n ≡ n + 0 = omega arith in ap (λ j. last_place_from fold j s t) e
last_jump fold n (suc k) [] t none h = absurd (omega arith)
last_jump fold n (suc k) (c ∷ s) t none h =
    let next : n + 1 + k ≡ n + suc k = omega arith in
    ap (λ b. option_or (last_place_from fold (n + 1) s t) (cond b (Some n) None)) (none 0 (omega arith))
    ∙ or_none (last_place_from fold (n + 1) s t)
    ∙ last_jump fold (n + 1) k s t (λ e l. none (suc e) (omega arith)) (omega arith)
    ∙ ap (λ j. last_place_from fold j (drop k s) t) next

last_none : (fold : Bool) (n k : ℕ) (s t : List ℕ) → Nowhere fold s t k → length s < k → last_place_from fold n s t ≡ None
last_none fold n k [] t none h = ap (λ b. cond b (Some n) None) (none 0 (omega arith))
last_none fold n zero (c ∷ s) t none h = absurd (omega arith)
last_none fold n (suc k) (c ∷ s) t none h =
    ap (λ b. option_or (last_place_from fold (n + 1) s t) (cond b (Some n) None)) (none 0 (omega arith))
    ∙ or_none (last_place_from fold (n + 1) s t)
    ∙ last_none fold (n + 1) k s t (λ e l. none (suc e) (omega arith)) (omega arith)

-- t begins at none of the first k places of s but the first
abbrev pub NowhereElse : Bool → List ℕ → List ℕ → ℕ → Type 0
NowhereElse fold s t k = (e : ℕ) → 0 < e → e < k → starts fold (drop e s) t ≡ false

pub last_on : (fold : Bool) (n k : ℕ) (s t : List ℕ) (f : Option ℕ) → NowhereElse fold s t k → 0 < k → k ≤ length s → option_or (last_place_from fold n s t) f ≡ option_or (last_place_from fold (n + k) (drop k s) t) (cond (starts fold s t) (Some n) f)
last_on fold n zero s t f none p h = absurd (omega arith)
last_on fold n (suc k) [] t f none p h = absurd (omega arith)
last_on fold n (suc k) (c ∷ s) t f none p h =
    let next : n + 1 + k ≡ n + suc k = omega arith in
    or_cond (last_place_from fold (n + 1) s t) f n (starts fold (c ∷ s) t)
    ∙ ap (λ o. option_or o (cond (starts fold (c ∷ s) t) (Some n) f))
    (last_jump fold (n + 1) k s t (λ e l. none (suc e) (omega arith) (omega arith)) (omega arith)
    ∙ ap (λ j. last_place_from fold j (drop k s) t) next)

pub last_end : (fold : Bool) (n k : ℕ) (s t : List ℕ) (f : Option ℕ) → NowhereElse fold s t k → 0 < k → length s < k → option_or (last_place_from fold n s t) f ≡ cond (starts fold s t) (Some n) f
last_end fold n zero s t f none p h = absurd (omega arith)
last_end fold n (suc k) [] t f none p h = one (starts fold [] t)
  where
    one : (b : Bool) → option_or (cond b (Some n) None) f ≡ cond b (Some n) f
    one true = refl
    one false = refl
last_end fold n (suc k) (c ∷ s) t f none p h =
    or_cond (last_place_from fold (n + 1) s t) f n (starts fold (c ∷ s) t)
    ∙ ap (λ o. option_or o (cond (starts fold (c ∷ s) t) (Some n) f))
    (last_none fold (n + 1) k s t (λ e l. none (suc e) (omega arith) (omega arith)) (omega arith))

-- ---- what a comparison shows of the places behind it

pub not_true : (b : Bool) → (b ≡ true → ⊥) → b ≡ false
not_true true h = absurd (h refl)
not_true false h = refl

pub none_behind : (fold : Bool) (w t : List ℕ) (rs : List Run) (below m : ℕ) → IsKnown (seen_text fold t) rs below → Meets (seen_text fold w) (seen_text fold t) m → NowhereElse fold w t (move_by rs below m)
none_behind fold w t rs below m k meets e p l =
    not_true (starts fold (drop e w) t) (λ found.
    passed (seen_text fold w) (seen_text fold t) rs below m e k meets p l
    (ap (take (length (seen_text fold t))) (drop-map (seen_char fold) e w) ∙ begins fold (drop e w) t found))

pub none_before : (fold : Bool) (w t : List ℕ) (rs : List Run) (below m : ℕ) → IsKnown (seen_text fold t) rs below → Meets (seen_text fold w) (seen_text fold t) m → (starts fold w t ≡ true → ⊥) → Nowhere fold w t (move_by rs below m)
none_before fold w t rs below m k meets not_here zero l = not_true (starts fold w t) not_here
none_before fold w t rs below m k meets not_here (suc e) l = none_behind fold w t rs below m k meets (suc e) (omega arith) l

-- what meets at the next place
pub met_next : (fold : Bool) (w w' t : List ℕ) (rs : List Run) (below m by n : ℕ) → IsKnown (seen_text fold t) rs below → Meets (seen_text fold w) (seen_text fold t) m → by ≡ move_by rs below m → n ≡ kept_count rs m → w' ≡ drop by w → Meets (seen_text fold w') (seen_text fold t) n
met_next fold w w' t rs below m by n k meets is keeps next =
    let whole : drop (move_by rs below m) (seen_text fold w) ≡ seen_text fold w' =
    ap (λ j. drop j (seen_text fold w)) (sym is) ∙ drop-map (seen_char fold) by w ∙ ap (seen_text fold) (sym next) in
    subst (λ j. Meets (seen_text fold w') (seen_text fold t) j) (sym keeps)
    (subst (λ s. Meets s (seen_text fold t) (kept_count rs m)) whole (stays (seen_text fold w) (seen_text fold t) rs below m k meets))

-- what met is within both
pub met_within : (fold : Bool) (w t : List ℕ) (m : ℕ) → Meets (seen_text fold w) (seen_text fold t) m → m ≤ length w
met_within fold w t m meets =
    omega (arith, ap length meets.0, meets.1, length-take m (seen_text fold w), length-take m (seen_text fold t), seen_length fold w, seen_length fold t)

-- a text that is laid over itself at a place
pub met_itself : (fold : Bool) (w t : List ℕ) (at m : ℕ) → Meets (seen_text fold w) (seen_text fold t) m → w ≡ drop at t → Meets (drop at (seen_text fold t)) (seen_text fold t) m
met_itself fold w t at m meets here = subst (λ s. Meets s (seen_text fold t) m) (sym (seen_left fold at t w here)) meets

pub told_itself : (fold : Bool) (w t : List ℕ) (old new : List Run) (at m : ℕ) → IsKnown (seen_text fold t) old at → Meets (seen_text fold w) (seen_text fold t) m → Stops (seen_text fold w) (seen_text fold t) m → w ≡ drop at t → IsNoted old new at m → IsTold (seen_text fold t) new at m
told_itself fold w t old new at m k meets stops here n =
    noted (seen_text fold t) old new at m k (met_itself fold w t at m meets here)
    (subst (λ s. Stops s (seen_text fold t) m) (sym (seen_left fold at t w here)) stops) n

-- and what is known of it at the next place
pub known_next : (fold : Bool) (w t : List ℕ) (old new : List Run) (at m below by : ℕ) → IsKnown (seen_text fold t) old at → Meets (seen_text fold w) (seen_text fold t) m → Stops (seen_text fold w) (seen_text fold t) m → w ≡ drop at t → IsNoted old new at m → below ≡ at + 1 → by ≡ move_by new below m → IsKnown (seen_text fold t) new below × (1 ≤ by) × IsKnown (seen_text fold t) new (below + (by - 1))
known_next fold w t old new at m below by k meets stops here n next is =
    let told = told_itself fold w t old new at m k meets stops here n in
    let now : IsKnown (seen_text fold t) new below = subst (λ j. IsKnown (seen_text fold t) new j) (sym next) told.0 in
    let positive : 0 < move_by new below m = move_positive (seen_text fold t) new below m now in
    let same : move_by new below m ≡ move_by new (at + 1) m = ap (λ j. move_by new j m) next in
    let there : at + move_by new (at + 1) m ≡ below + (by - 1) = omega arith in (
      now,
      omega arith,
      subst (λ j. IsKnown (seen_text fold t) new j) there (told_on (seen_text fold t) new at m told (met_itself fold w t at m meets here)),
    )
