-- Reading so many values, one by one.
use Rattle.std.proofs.Common.{◌≡◌, ℕ, suc, List, [], ◌∷◌, ◌++◌, Option, Some, None, refl, sym, ◌∙◌, ap, append_assoc, append-nil}
use Rattle.eql_cut.specs.Formats.{◌>>=◌, times}

-- values that were read before
abbrev pub with_front : {A : Type 0} → List A → Option (List A × List ℕ) → Option (List A × List ℕ)
with_front front read = read >>= λ x. Some (front ++ x.0, x.1)

pub no_front : {A : Type 0} (r : Option (List A × List ℕ)) → with_front [] r ≡ r
no_front None = refl
no_front (Some x) = refl

pub front_none : {A : Type 0} (front : List A) (r whole : Option (List A × List ℕ)) → with_front front r ≡ whole → r ≡ None → whole ≡ None
front_none front r whole is none = sym is ∙ ap (with_front front) none

then_front : {A : Type 0} (front : List A) (a : A) (r : Option (List A × List ℕ)) → with_front front (r >>= λ y. Some (a ∷ y.0, y.1)) ≡ with_front (front ++ a ∷ []) r
then_front front a None = refl
then_front front a (Some x) = ap (λ l. Some (l, x.1)) (sym (append_assoc front (a ∷ []) x.0))

-- one value more was read
pub front_more : {A : Type 0} (read : List ℕ → Option (A × List ℕ)) (front : List A) (n : ℕ) (a : A) (bytes rest : List ℕ) (whole : Option (List A × List ℕ)) → with_front front (times read (suc n) bytes) ≡ whole → read bytes ≡ Some (a, rest)
    → with_front (front ++ a ∷ []) (times read n rest) ≡ whole
front_more {A = A} read front n a bytes rest whole is now =
    sym (then_front front a (times read n rest)) ∙ ap (λ (o : Option (A × List ℕ)). with_front front (o >>= λ x. times read n x.1 >>= λ y. Some (x.0 ∷ y.0, y.1))) (sym now) ∙ is

-- one value can't be read
pub front_stops : {A : Type 0} (read : List ℕ → Option (A × List ℕ)) (front : List A) (n : ℕ) (bytes : List ℕ) (whole : Option (List A × List ℕ)) → with_front front (times read (suc n) bytes) ≡ whole → read bytes ≡ None → whole ≡ None
front_stops {A = A} read front n bytes whole is now =
    sym is ∙ ap (λ (o : Option (A × List ℕ)). with_front front (o >>= λ x. times read n x.1 >>= λ y. Some (x.0 ∷ y.0, y.1))) now

pub front_all : {A : Type 0} (read : List ℕ → Option (A × List ℕ)) (front : List A) (bytes : List ℕ) (whole : Option (List A × List ℕ)) → with_front front (times read 0 bytes) ≡ whole → whole ≡ Some (front, bytes)
front_all read front bytes whole is = sym is ∙ ap (λ l. Some (l, bytes)) (append-nil front)
