-- What a shape and its texts say of the scalars that they were gathered from.
use Rattle.std.proofs.Common.{◌≡◌, ℕ, List, [], ◌∷◌, ◌++◌, refl, sym, ap, ◌∙◌}
use Rattle.eql_lines.specs.Reach.{Scalar, text, whole, fractional, truth}
use Rattle.eql_lines.specs.Found.{Found, Shape, no_scalar, several, nothing, found_more, found_all, shape_of, shape_more, texts_of}
use Rattle.eql_lines.proofs.Adding.{append_none, append_more}

-- the texts among them, in order
abbrev pub all_texts : List Scalar → List (List ℕ)
all_texts [] = []
all_texts (s ∷ ss) = texts_of s ++ all_texts ss

texts_on : (f : Found) (ss : List Scalar) → (found_all f ss).texts ≡ f.texts ++ all_texts ss
texts_on f [] = sym (append_none f.texts)
texts_on f (s ∷ ss) = texts_on (found_more f s) ss ∙ append_more f.texts (texts_of s) (all_texts ss)

-- the texts that are kept are those that are reached
pub texts_are : (ss : List Scalar) → (found_all nothing ss).texts ≡ all_texts ss
texts_are ss = texts_on nothing ss

abbrev pub shape_in : List Scalar → Shape
shape_in [] = no_scalar
shape_in (s ∷ []) = shape_of s
shape_in (s ∷ t ∷ ss) = several

stays_several : (f : Found) (ss : List Scalar) → f.shape ≡ several → (found_all f ss).shape ≡ several
stays_several f [] e = e
stays_several f (s ∷ ss) e = stays_several (found_more f s) ss (ap (λ x. shape_more x (shape_of s)) e)

two : (s t : Scalar) → shape_more (shape_of s) (shape_of t) ≡ several
two (text x) t = refl
two (whole z) t = refl
two fractional t = refl
two (truth b) t = refl

-- the shape is that of the one scalar, or says that there is none, or several
pub shape_is : (ss : List Scalar) → (found_all nothing ss).shape ≡ shape_in ss
shape_is [] = refl
shape_is (s ∷ []) = refl
shape_is (s ∷ t ∷ ss) = stays_several (found_more (found_more nothing s) t) ss (two s t)
