-- A text laid over another and compared from its beginning.
use Rattle.std.proofs.Common.{◌≡◌, ℕ, ◌+◌, ◌<◌, ◌≤◌, Bool, true, false, ◌&&◌, zero, suc, List, [], ◌∷◌, length, take, drop, eqb, refl, sym, ap, ◌∙◌, arith, subst, add-one, eqb-true, eq-eqb}
use Rattle.std.specs.Str.{chars}
use Rattle.std.proofs.lemmas.List.{length-drop, length-take, take-take, length-map}
use Rattle.std.specs.List.{drop-map}
use Rattle.std.proofs.Math.Seq.{take-length}
use Rattle.eql_text.specs.Folding.{same, seen_char}
use Rattle.eql_text.specs.Comparing.{starts, is_empty}
use Rattle.eql_text.specs.Repeats.{seen_text, Meets, Stops, IsEnding, IsLaid}
use Rattle.eql_text.proofs.Characters.{ending_of}
use Rattle.eql_text.proofs.Dropping.{drop_more}

-- one more element
take_next : (n c d : ℕ) (xs ys xs' ys' : List ℕ) → take n xs ≡ take n ys → drop n xs ≡ c ∷ xs' → drop n ys ≡ d ∷ ys' → c ≡ d → take (suc n) xs ≡ take (suc n) ys
take_next zero c d xs ys xs' ys' e f g h = ap (take 1) f ∙ ap (λ k. k ∷ []) h ∙ sym (ap (take 1) g)
take_next (suc n) c d [] ys xs' ys' e f g h = cc
take_next (suc n) c d (x ∷ xs) [] xs' ys' e f g h = cc
take_next (suc n) c d (x ∷ xs) (y ∷ ys) xs' ys' e f g h =
    let head : x ≡ y = cc in
    let tail : take n xs ≡ take n ys = cc in
    let more : take (suc n) xs ≡ take (suc n) ys = take_next n c d xs ys xs' ys' tail f g h in
    ap (λ k. k ∷ take (suc n) xs) head ∙ ap (λ k. y ∷ k) more

take_heads : (n c d : ℕ) (xs ys xs' ys' : List ℕ) → take (suc n) xs ≡ take (suc n) ys → drop n xs ≡ c ∷ xs' → drop n ys ≡ d ∷ ys' → c ≡ d
take_heads zero c d [] ys xs' ys' e f g = cc
take_heads zero c d (x ∷ xs) [] xs' ys' e f g = cc
take_heads zero c d (x ∷ xs) (y ∷ ys) xs' ys' e f g = cc
take_heads (suc n) c d [] ys xs' ys' e f g = cc
take_heads (suc n) c d (x ∷ xs) [] xs' ys' e f g = cc
take_heads (suc n) c d (x ∷ xs) (y ∷ ys) xs' ys' e f g =
    let tail : take (suc n) xs ≡ take (suc n) ys = cc in
    take_heads n c d xs ys xs' ys' tail f g

-- where nothing is left
none_left : {X : Type 0} (n : ℕ) (xs : List X) → drop n xs ≡ [] → length xs ≤ n
none_left n xs e = omega (arith, ap length e, length-drop n xs)

pub seen_left : (fold : Bool) (n : ℕ) (s r : List ℕ) → r ≡ drop n s → drop n (seen_text fold s) ≡ seen_text fold r
seen_left fold n s r e = drop-map (seen_char fold) n s ∙ ap (seen_text fold) (sym e)

pub seen_length : (fold : Bool) (s : List ℕ) → length (seen_text fold s) ≡ length s
seen_length fold s = length-map s (seen_char fold)

-- ---- steps of the comparison

pub laid_more : (t w a l a' l' : List ℕ) (m c d : ℕ) → IsLaid t w a l m → chars l ≡ d ∷ chars l' → chars a ≡ c ∷ chars a' → IsEnding l l' → IsLaid t w a' l' (m + 1)
laid_more t w a l a' l' m c d i first other ending = record {
  within =
      let some : 1 ≤ length (chars l) = omega (arith, ap length first) in
      omega (arith, ap length i.left, length-drop m (chars t));
  ahead = drop_more m c (chars w) (chars a') (sym other ∙ i.ahead) ∙ ap (λ k. drop k (chars w)) (sym (add-one m));
  left = drop_more m d (chars t) (chars l') (sym first ∙ i.left) ∙ ap (λ k. drop k (chars t)) (sym (add-one m));
  ending = ending_of t l l' i.ending ending;
}

pub meets_more : (fold : Bool) (t w a l a' l' : List ℕ) (m c d : ℕ) → IsLaid t w a l m → Meets (seen_text fold (chars w)) (seen_text fold (chars t)) m → chars l ≡ d ∷ chars l' → chars a ≡ c ∷ chars a' → same fold c d ≡ true → Meets (seen_text fold (chars w)) (seen_text fold (chars t)) (m + 1)
unfolding same
meets_more fold t w a l a' l' m c d i meets first other like =
    let alike : seen_char fold c ≡ seen_char fold d = eqb-true (seen_char fold c) (seen_char fold d) like in
    let more = take_next m (seen_char fold c) (seen_char fold d) (seen_text fold (chars w)) (seen_text fold (chars t)) (seen_text fold (chars a')) (seen_text fold (chars l'))
    meets.0 (seen_left fold m (chars w) (chars a) i.ahead ∙ ap (seen_text fold) other) (seen_left fold m (chars t) (chars l) i.left ∙ ap (seen_text fold) first) alike in (
      rw (add-one m) more,
      (let some : 1 ≤ length (chars l) = omega (arith, ap length first) in
          omega (arith, ap length i.left, length-drop m (chars t), seen_length fold (chars t))),
    )

pub stops_unlike : (fold : Bool) (t w a l a' l' : List ℕ) (m c d : ℕ) → IsLaid t w a l m → chars l ≡ d ∷ chars l' → chars a ≡ c ∷ chars a' → same fold c d ≡ false → Stops (seen_text fold (chars w)) (seen_text fold (chars t)) m
unfolding same
stops_unlike fold t w a l a' l' m c d i first other unlike e _ =
    let alike = take_heads m (seen_char fold c) (seen_char fold d) (seen_text fold (chars w)) (seen_text fold (chars t)) (seen_text fold (chars a')) (seen_text fold (chars l'))
    (rw (← add-one m) e) (seen_left fold m (chars w) (chars a) i.ahead ∙ ap (seen_text fold) other) (seen_left fold m (chars t) (chars l) i.left ∙ ap (seen_text fold) first) in
    let yes : eqb (seen_char fold c) (seen_char fold d) ≡ true = eq-eqb (seen_char fold c) (seen_char fold d) alike in
    cc

pub stops_window : (fold : Bool) (t w a l : List ℕ) (m : ℕ) → IsLaid t w a l m → chars a ≡ [] → Stops (seen_text fold (chars w)) (seen_text fold (chars t)) m
stops_window fold t w a l m i none e inside =
    let short : length (chars w) ≤ m = none_left m (chars w) (sym i.ahead ∙ none) in
    omega (arith, ap length e, length-take (m + 1) (seen_text fold (chars w)), length-take (m + 1) (seen_text fold (chars t)), seen_length fold (chars w))

pub stops_whole : (fold : Bool) (t w a l : List ℕ) (m : ℕ) → IsLaid t w a l m → chars l ≡ [] → Stops (seen_text fold (chars w)) (seen_text fold (chars t)) m
stops_whole fold t w a l m i none e inside =
    let short : length (chars t) ≤ m = none_left m (chars t) (sym i.left ∙ none) in
    omega (arith, seen_length fold (chars t))

-- ---- what it shows of the window

pub begins : (fold : Bool) (s t : List ℕ) → starts fold s t ≡ true → take (length (seen_text fold t)) (seen_text fold s) ≡ seen_text fold t
unfolding same
begins fold s [] h = refl
begins fold [] (d ∷ t) h = cc
begins fold (c ∷ s) (d ∷ t) h = both (eqb (seen_char fold c) (seen_char fold d)) refl (λ k. begins fold s t k)
  where
    both : (b : Bool) → eqb (seen_char fold c) (seen_char fold d) ≡ b → (starts fold s t ≡ true → take (length (seen_text fold t)) (seen_text fold s) ≡ seen_text fold t) → seen_char fold c ∷ take (length (seen_text fold t)) (seen_text fold s) ≡ seen_char fold d ∷ seen_text fold t
    both true e more =
        let head : seen_char fold c ≡ seen_char fold d = eqb-true (seen_char fold c) (seen_char fold d) e in
        let tail : starts fold s t ≡ true = ap (λ b. b && starts fold s t) (sym e) ∙ h in
        ap (λ k. k ∷ take (length (seen_text fold t)) (seen_text fold s)) head ∙ ap (λ k. seen_char fold d ∷ k) (more tail)
    both false e more = let no : false ≡ true = ap (λ b. b && starts fold s t) (sym e) ∙ h in cc

pub begun : (fold : Bool) (s t : List ℕ) → take (length (seen_text fold t)) (seen_text fold s) ≡ seen_text fold t → starts fold s t ≡ true
unfolding same
begun fold s [] h = refl
begun fold [] (d ∷ t) h = cc
begun fold (c ∷ s) (d ∷ t) h =
    let head : seen_char fold c ≡ seen_char fold d = cc in
    let tail : take (length (seen_text fold t)) (seen_text fold s) ≡ seen_text fold t = cc in
    let yes : eqb (seen_char fold c) (seen_char fold d) ≡ true = eq-eqb (seen_char fold c) (seen_char fold d) head in
    ap (λ b. b && starts fold s t) yes ∙ begun fold s t tail

nothing : (s : List ℕ) → is_empty s ≡ true → s ≡ []
nothing [] e = refl
nothing (c ∷ s) e = cc

something : (s : List ℕ) → is_empty s ≡ false → 1 ≤ length s
something [] e = cc
something (c ∷ s) e = omega arith

-- the whole text met
pub met_whole : (fold : Bool) (t w a l : List ℕ) (m : ℕ) → IsLaid t w a l m → Meets (seen_text fold (chars w)) (seen_text fold (chars t)) m → is_empty (chars l) ≡ true → (m ≡ length (chars t)) × (starts fold (chars w) (chars t) ≡ true)
met_whole fold t w a l m i meets none =
    let short : length (chars t) ≤ m = none_left m (chars t) (sym i.left ∙ nothing (chars l) none) in
    let same_length : m ≡ length (chars t) = omega (arith, i.within) in
    let whole : m ≡ length (seen_text fold (chars t)) = omega (arith, seen_length fold (chars t)) in
    let all : take (length (seen_text fold (chars t))) (seen_text fold (chars t)) ≡ seen_text fold (chars t) = take-length (seen_text fold (chars t)) in
    (same_length, begun fold (chars w) (chars t) (subst (λ k. take k (seen_text fold (chars w)) ≡ take k (seen_text fold (chars t))) whole meets.0 ∙ all))

-- more of it is left than met
pub met_part : (fold : Bool) (t w a l : List ℕ) (m : ℕ) → IsLaid t w a l m → Stops (seen_text fold (chars w)) (seen_text fold (chars t)) m → is_empty (chars l) ≡ false → starts fold (chars w) (chars t) ≡ true → ⊥
met_part fold t w a l m i stops left found =
    let some : 1 ≤ length (chars l) = something (chars l) left in
    let inside : m < length (chars t) = omega (arith, ap length i.left, length-drop m (chars t)) in
    let more : m < length (seen_text fold (chars t)) = omega (arith, seen_length fold (chars t)) in
    let all = begins fold (chars w) (chars t) found in
    let upto : take (m + 1) (seen_text fold (chars w)) ≡ take (m + 1) (seen_text fold (chars t)) =
    sym (take-take (m + 1) (length (seen_text fold (chars t))) (seen_text fold (chars w)) (omega arith)) ∙ ap (take (m + 1)) all in
    stops upto more
