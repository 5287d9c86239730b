-- The texts of values, joined one after another.
use Rattle.std.proofs.Common.{◌≡◌, ℕ, suc, ◌+◌, ◌<◌, List, [], ◌++◌, length, drop, drop-cons, get_or, append_assoc, add-one, Option, Some, None, refl, sym, ap, ◌∙◌}
use Rattle.std.specs.Str.{chars}
use Rattle.std.proofs.lemmas.Str.{chars-nil}
use Rattle.eql_values.specs.declared.value.Value.{Value}
use Rattle.eql_check.specs.Functions.{joined_texts, text_of, texts_of}

pub joined_empty : (bs : List ℕ) (o : Option (List ℕ)) → bs ≡ [] → joined_texts (Some (chars bs)) o ≡ o
joined_empty bs None e = refl
joined_empty bs (Some t) e = ap (λ x. Some (x ++ t)) (ap chars e ∙ chars-nil)

joined_assoc : (a b c : Option (List ℕ)) → joined_texts a (joined_texts b c) ≡ joined_texts (joined_texts a b) c
joined_assoc None b c = refl
joined_assoc (Some a) None c = refl
joined_assoc (Some a) (Some b) None = refl
joined_assoc (Some a) (Some b) (Some c) = ap Some (sym (append_assoc a b c))

texts_more : (vs : List Value) (place : ℕ) (v : Value) → place < length vs → v ≡ get_or vs place v →
    texts_of (drop place vs) ≡ joined_texts (text_of v) (texts_of (drop (place + 1) vs))
texts_more vs place v h e =
    ap texts_of (drop-cons vs place v h) ∙ ap (λ x. joined_texts (text_of x) (texts_of (drop (suc place) vs))) (sym e)
    ∙ ap (λ n. joined_texts (text_of v) (texts_of (drop n vs))) (sym (add-one place))

-- one more text
pub goes_on : (old new : List ℕ) (vs : List Value) (place : ℕ) (v : Value) (all : Option (List ℕ)) → place < length vs → v ≡ get_or vs place v →
    joined_texts (Some old) (text_of v) ≡ Some new → joined_texts (Some old) (texts_of (drop place vs)) ≡ all →
    joined_texts (Some new) (texts_of (drop (place + 1) vs)) ≡ all
goes_on old new vs place v all h e has is =
    ap (λ x. joined_texts x (texts_of (drop (place + 1) vs))) (sym has) ∙ sym (joined_assoc (Some old) (text_of v) (texts_of (drop (place + 1) vs)))
    ∙ ap (joined_texts (Some old)) (sym (texts_more vs place v h e)) ∙ is
