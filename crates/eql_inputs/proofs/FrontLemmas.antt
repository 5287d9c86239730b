-- Reading goes on, and what was read at its end.
use Rattle.std.proofs.Common.{◌≡◌, ℕ, ◌+◌, ◌≤◌, List, [], ◌++◌, take, drop, ◌-◌, length, Option, Some, None, Result, Ok, Err, ap, sym, arith, ◌∙◌, subst, append_assoc, length-drop}
use Rattle.std.proofs.lemmas.List.{drop-drop, take_all, length-take-le}
use Rattle.std.proofs.Math.Seq.{take-add}
use Rattle.eql_inputs.specs.Fronts.{HasTaken, HasRead, TakesFront, TookOf, TakesAtMost, IsAtEnd}

-- two steps are one
pub reads_more : (r0 r1 r2 : Option (List ℕ)) (a b c : List ℕ) → HasRead r0 r1 a b → HasRead r1 r2 b c → HasRead r0 r2 a c
reads_more None r1 r2 a b c h g = tt
reads_more (Some r) r1 r2 a b c h g =
    let next : HasTaken (drop h.n r) r2 b c = subst (λ (x : Option (List ℕ)). HasRead x r2 b c) h.left_is g in
    record {
      n = h.n + next.n;
      there = omega (arith, h.there, next.there, length-drop h.n r);
      left_is = next.left_is ∙ ap Some (drop-drop next.n h.n r);
      text = next.text ∙ ap (λ x. x ++ take next.n (drop h.n r)) h.text ∙ append_assoc a (take h.n r) (take next.n (drop h.n r)) ∙ ap (λ x. a ++ x) (sym (take-add h.n next.n r));
    }

-- at the end of a source all of it was read
pub reads_end : (r0 r1 : Option (List ℕ)) (text : List ℕ) (most : ℕ) → HasRead r0 r1 [] text → IsAtEnd r1 → length text ≤ most → TakesFront r0 most text
reads_end None r1 text most h end few = tt
reads_end (Some r) r1 text most h end few =
    let none : drop h.n r ≡ [] = subst (λ (x : Option (List ℕ)). IsAtEnd x) h.left_is end in
    let short : length r ≤ h.n = omega (arith, ap length none, length-drop h.n r) in
    let all : text ≡ r = h.text ∙ take_all h.n r short in
    all ∙ sym (take_all most r (subst (λ (x : List ℕ). length x ≤ most) all few))

-- where more was taken behind a text that was read
pub takes_after : (r0 r1 r2 : Option (List ℕ)) (text : List ℕ) (most n : ℕ) → HasRead r0 r1 [] text → n ≡ length text
    → n ≤ most → TakesAtMost (most - n) r1 r2 → TakesAtMost most r0 r2
takes_after None r1 r2 text most n h is few g = tt
takes_after (Some r) r1 r2 text most n h is few g =
    let next : TookOf (drop h.n r) (most - n) r2 =
    subst (λ (x : Option (List ℕ)). TakesAtMost (most - n) x r2) h.left_is g in
    record {
      n = h.n + next.n;
      few = omega (arith, next.few, is, few, length-take-le h.n r h.there, ap length h.text);
      left_is = next.left_is ∙ ap Some (drop-drop next.n h.n r);
    }

-- what is returned is no error
pub ok_not_err : {A B : Type 0} (a : A) (e : B) → (let r : Result A B = Ok a in r) ≡ Err e → ⊥
ok_not_err a e is = cc
