-- Lists that are moved from the end of one to the end of another.
use Rattle.std.proofs.Common.{◌≡◌, ◌+◌, List, [], ◌∷◌, ◌++◌, length, reverse, refl, sym, ap, ◌∙◌, arith, append_assoc, length-append}
use Rattle.std.proofs.lemmas.List.{append-nil, reverse-append}

-- what is left, and what was moved from its end
pub record Moved {X : Type 0} (all left moved : List X) : Type 0 where
  pub parts : all ≡ left ++ reverse moved
  pub count : length left + length moved ≡ length all

module _ {X : Type 0} where
  pub none_moved : (all moved : List X) → moved ≡ [] → Moved all all moved
  none_moved all moved none = record {
    parts = sym (ap (λ (l : List X). all ++ reverse l) none ∙ append-nil all);
    count = let e = ap length none in omega (arith, e);
  }

  pub one_moved : (all left less moved : List X) (x : X) → Moved all left moved → left ≡ less ++ x ∷ [] → Moved all less (moved ++ x ∷ [])
  one_moved all left less moved x m popped = record {
    parts = m.parts
        ∙ (ap (λ (l : List X). l ++ reverse moved) popped
        ∙ (append_assoc less (x ∷ []) (reverse moved) ∙ ap (λ (l : List X). less ++ l) (sym (reverse-append moved (x ∷ [])))));
    count =
        let a = m.count in let b = ap length popped in let c = length-append less (x ∷ []) in let d = length-append moved (x ∷ []) in
        omega (arith, a, b, c, d);
  }

  pub all_moved : (all left moved : List X) → Moved all left moved → left ≡ [] → reverse moved ≡ all
  all_moved all left moved m none = sym (m.parts ∙ ap (λ (l : List X). l ++ reverse moved) none)

  pub none_left : (xs : List X) → length xs ≡ 0 → xs ≡ []
  none_left [] e = refl
  none_left (x ∷ xs) e = absurd (omega (arith, e))
