-- One more character dropped.
use Rattle.std.proofs.Common.{◌≡◌, ℕ, zero, suc, ◌+◌, List, [], ◌∷◌, drop, sym, ◌∙◌, ap, add-one}

pub drop_more : (n c : ℕ) (t s : List ℕ) → c ∷ s ≡ drop n t → s ≡ drop (suc n) t
drop_more zero c [] s e = cc
drop_more zero c (a ∷ t) s e = cc
drop_more (suc n) c [] s e = cc
drop_more (suc n) c (a ∷ t) s e = drop_more n c t s e

pub drop_next : (n m c : ℕ) (t r s : List ℕ) → r ≡ c ∷ s → r ≡ drop n t → m ≡ n + 1 → s ≡ drop m t
drop_next n m c t r s first rest next = drop_more n c t s (sym first ∙ rest) ∙ ap (λ k. drop k t) (sym (next ∙ add-one n))
